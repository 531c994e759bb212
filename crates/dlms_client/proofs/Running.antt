-- A run of a client is a run of its carrier and a run of its association.
use Rattle.std.proofs.Common.{◌≡◌, ◌∙◌, refl, sym, ap, subst, ℕ, List, [], ◌∷◌, ◌++◌, append-nil, take, Option, Some, None, Result, Ok, Err, Bool, true, false}
use Rattle.std.specs.List.{filter_map}
use Rattle.std.proofs.lemmas.List.Elements.{filter_map-append}
use Rattle.std.proofs.lemmas.List.Concat.{flat_map-append}
use Rattle.dlms_apdu.specs.Forms.{RequestForm}
use Rattle.dlms_association.specs.AssociationValue.{AssociationValue}
use Rattle.dlms_association.specs.Calls.{Takes}
use Rattle.dlms_association.specs.Run.{AnswersAreSaid as AnswersOf, BlocksAreOfTheRequest as BlocksOf, Call as InnerCall, Open, Take, Ask as AskOf, Release as ReleaseOf, Close, Break, IsCall as IsInnerCall, Runs as InnerRuns, Since, nothing_yet, since_after}
use Rattle.dlms_association.specs.declared.answer.Answer.{Answer}
use Rattle.dlms_association.specs.declared.ask_fault.AskFault.{AskFault}
use Rattle.dlms_association.specs.declared.fault.Fault.{Fault}
use Rattle.dlms_association.specs.declared.fault.Fault.TheVariants.{Down as WentDown, Form, Insecure, Line}
use Rattle.dlms_association.specs.declared.step.Step.{Step}
use Rattle.dlms_association.specs.declared.step.Step.TheVariants as step
use Rattle.dlms_carrier.specs.Carrying.{Input, Begin as BeginOf, Give, Feed as FeedOf, Wait as WaitOf, End, Call as CarrierCall, Runs as CarrierRuns, given, handed_at, read, read_by, given_by, Meaning}
use Rattle.dlms_carrier.specs.declared.event.Event.{Event}
use Rattle.dlms_carrier.specs.declared.event.Event.TheVariants as event
use Rattle.dlms_client.specs.Calls.{BeginsBy, BreaksOver, Carries, ClosesOver, ComesBy, ComesUp, Follows, GoesDown, HearsUnless, Leaves, LeavesBy, OpensOver, Sends, TimesOutBy, Waits, fresh}
use Rattle.dlms_client.specs.Calls.ComesUp.{IsOpened, IsNotClosed}
use Rattle.dlms_client.specs.Calls.Waits.{HasFailed, NoneIsOut, IsAwaited}
use Rattle.dlms_client.specs.ClientValue.{ClientValue}
use Rattle.dlms_client.specs.Run.{AnswersAreSaid, Beside, BlocksAreOfTheRequest, Call, Begin, Feed, Wait, Ask, Release, Disconnect, IsCall, Runs, SameApdus, Share, asked, asked_by, carried_in, heard, heard_by, last_of, made_in, octets_of, passed, request_of, requests, sent, sent_after, sent_by, taken, taken_by}
use Rattle.dlms_client.specs.declared.outcome.Outcome.{Outcome}
use Rattle.dlms_client.specs.declared.outcome.Outcome.TheVariants as outcome

-- ---- runs that follow one another

carrier_append : {C : Type 0} (m : Meaning C) (xs ys : List CarrierCall) (a b c : C) → CarrierRuns m.steps m.out_of m.apdu_of a xs b → CarrierRuns m.steps m.out_of m.apdu_of b ys c
    → CarrierRuns m.steps m.out_of m.apdu_of a (xs ++ ys) c
carrier_append {C} m [] ys a b c h k = subst (λ (x : C). CarrierRuns m.steps m.out_of m.apdu_of x ys c) h k
carrier_append m (x ∷ xs) ys a b c h k = (h.0, h.1, carrier_append m xs ys h.0 b c h.2 k)

inner_append : (xs ys : List InnerCall) (a b c : AssociationValue) (r s t : Since) → InnerRuns a r xs b s → InnerRuns b s ys c t → InnerRuns a r (xs ++ ys) c t
inner_append [] ys a b c r s t h k = subst (λ (x : Since). InnerRuns a x ys c t) h.1 (subst (λ (x : AssociationValue). InnerRuns x s ys c t) h.0 k)
inner_append (x ∷ xs) ys a b c r s t h k = (h.0, h.1, inner_append xs ys h.0 b c (since_after a x r) s t h.2 k)

same_append : (xs ys : List CarrierCall) (vs ws : List InnerCall) → SameApdus xs vs → SameApdus ys ws → SameApdus (xs ++ ys) (vs ++ ws)
same_append xs ys vs ws h k = record {
  up = filter_map-append (λ call. heard_by call.input (handed_at call.event call.apdu)) xs ys ∙ ap (λ (l : List (List ℕ)). l ++ heard ys) h.up ∙ ap (λ (l : List (List ℕ)). taken vs ++ l) k.up ∙ sym (filter_map-append taken_by vs ws);
  down = filter_map-append (λ call. given_by call.input) xs ys ∙ ap (λ (l : List (List ℕ)). l ++ given ys) h.down ∙ ap (λ (l : List (List ℕ)). sent vs ++ l) k.down ∙ sym (filter_map-append sent_by vs ws);
}

-- ---- pieces of a share

-- some calls of both lead from here to there, with these requests and these octets
record Piece {C : Type 0} (m : Meaning C) (old : ClientValue C) (bytes : List ℕ) (forms : List RequestForm) (new : ClientValue C) : Type 0 where
  share : Share
  carrier : CarrierRuns m.steps m.out_of m.apdu_of old.carrier share.carried new.carrier
  association : (since : Since) → (now : Since) × InnerRuns old.association since share.made new.association now
  apdus : SameApdus share.carried share.made
  octets : read share.carried ≡ bytes
  request : asked share.made ≡ forms

then_piece : {C : Type 0} (m : Meaning C) (a b c : ClientValue C) (o : List ℕ) (f : List RequestForm) → Piece m a o f b → Piece m b [] [] c → Piece m a o f c
then_piece m a b c o f h k = record {
  share = record { carried = h.share.carried ++ k.share.carried; made = h.share.made ++ k.share.made };
  carrier = carrier_append m h.share.carried k.share.carried a.carrier b.carrier c.carrier h.carrier k.carrier;
  association = λ since.
      let first = h.association since in
      let second = k.association first.0 in
      (second.0, inner_append h.share.made k.share.made a.association b.association c.association since first.0 second.0 first.1 second.1);
  apdus = same_append h.share.carried k.share.carried h.share.made k.share.made h.apdus k.apdus;
  octets = flat_map-append (λ (call : CarrierCall). read_by call.input) h.share.carried k.share.carried ∙ ap (λ (l : List ℕ). read h.share.carried ++ l) k.octets ∙ append-nil (read h.share.carried) ∙ h.octets;
  request = filter_map-append asked_by h.share.made k.share.made ∙ ap (λ (l : List RequestForm). asked h.share.made ++ l) k.request ∙ append-nil (asked h.share.made) ∙ h.request;
}

at_end : {C : Type 0} (m : Meaning C) (old at new : ClientValue C) (o : List ℕ) (f : List RequestForm) → new ≡ at → Piece m old o f at → Piece m old o f new
at_end {C} m old at new o f e h = subst (λ (v : ClientValue C). Piece m old o f v) (sym e) h

nothing : {C : Type 0} (m : Meaning C) (at new : ClientValue C) → new ≡ at → Piece m at [] [] new
nothing m at new e = at_end m at at new [] [] e (record {
  share = record { carried = []; made = [] };
  carrier = refl;
  association = λ since. (since, (refl, refl));
  apdus = record { up = refl; down = refl };
  octets = refl;
  request = refl;
})

-- a call of the carrier
abbrev carrier_call : {C : Type 0} → Meaning C → Input → Event → C → CarrierCall
carrier_call m input event new = record { input = input; event = event; out = m.out_of new; apdu = m.apdu_of new }

calls : {C : Type 0} (m : Meaning C) (old : C) (input : Input) (event : Event) (new : C) → m.steps old input event new → CarrierRuns m.steps m.out_of m.apdu_of old (carrier_call m input event new ∷ []) new
calls m old input event new h = (new, record { step = h; out = refl; apdu = refl }, refl)

-- a call of the association
makes : (old : AssociationValue) (call : InnerCall) (new : AssociationValue) → IsInnerCall old call new → (since : Since) → (now : Since) × InnerRuns old since (call ∷ []) new now
makes old call new h since = (since_after old call since, (new, h, (refl, refl)))

-- nothing is added to a list by none
adds_none : {X : Type 0} (o : Option X) → o ≡ None → filter_map (λ (o : Option X). o) (o ∷ []) ≡ []
adds_none {X} o e = ap (λ (o : Option X). filter_map (λ (o : Option X). o) (o ∷ [])) e

adds : {X : Type 0} (x : X) (o : Option X) → o ≡ Some x → filter_map (λ (o : Option X). o) (o ∷ []) ≡ x ∷ []
adds {X} x o e = ap (λ (o : Option X). filter_map (λ (o : Option X). o) (o ∷ [])) e

-- the carrier alone: no APDU either way
carries_only : {C : Type 0} (m : Meaning C) (old : ClientValue C) (input : Input) (event : Event) (carrier : C) (leaving : Bool) → heard_by input (handed_at event (m.apdu_of carrier)) ≡ None → given_by input ≡ None → m.steps old.carrier input event carrier
    → Piece m old (read_by input) [] (record old { carrier = carrier; leaving = leaving })
carries_only m old input event carrier leaving unheard none h = record {
  share = record { carried = carrier_call m input event carrier ∷ []; made = [] };
  carrier = calls m old.carrier input event carrier h;
  association = λ since. (since, (refl, refl));
  apdus = record { up = adds_none (heard_by input (handed_at event (m.apdu_of carrier))) unheard; down = adds_none (given_by input) none };
  octets = append-nil (read_by input);
  request = refl;
}

-- the association alone: no APDU either way, and no request
makes_only : {C : Type 0} (m : Meaning C) (old : ClientValue C) (call : InnerCall) (association : AssociationValue) (leaving : Bool) → taken_by call ≡ None → sent_by call ≡ None → asked_by call ≡ None → IsInnerCall old.association call association
    → Piece m old [] [] (record old { association = association; leaving = leaving })
makes_only m old call association leaving none unsent unasked h = record {
  share = record { carried = []; made = call ∷ [] };
  carrier = refl;
  association = makes old.association call association h;
  apdus = record { up = sym (adds_none (taken_by call) none); down = sym (adds_none (sent_by call) unsent) };
  octets = refl;
  request = adds_none (asked_by call) unasked;
}

-- the association's APDU is given to the carrier
gives : {C : Type 0} (m : Meaning C) (old : ClientValue C) (call : InnerCall) (association : AssociationValue) (apdu : List ℕ) (new : ClientValue C) → taken_by call ≡ None → sent_by call ≡ Some apdu → IsInnerCall old.association call association
    → Sends m.steps (record old { association = association }) apdu new → Piece m old [] (asked (call ∷ [])) new
gives m old call association apdu new none goes h s =
    at_end m old (record old { association = association; carrier = s.carrier }) new [] (asked (call ∷ [])) s.after (record {
      share = record { carried = carrier_call m (Give apdu) s.event s.carrier ∷ []; made = call ∷ [] };
      carrier = calls m old.carrier (Give apdu) s.event s.carrier s.gives;
      association = makes old.association call association h;
      apdus = record { up = sym (adds_none (taken_by call) none); down = sym (adds apdu (sent_by call) goes) };
      octets = refl;
      request = refl;
    })

breaks : {C : Type 0} (m : Meaning C) (at new : ClientValue C) (fault : Fault) (result : Result Outcome Fault) → BreaksOver at fault result new → Piece m at [] [] new
breaks m at new fault result h = at_end m at _ new [] [] h.after (makes_only m at (Break fault) h.association at.leaving refl refl refl h.breaks)

closes : {C : Type 0} (m : Meaning C) (at new : ClientValue C) (result : Result Outcome Fault) → ClosesOver at result new → Piece m at [] [] new
closes m at new result h = at_end m at _ new [] [] h.after (makes_only m at Close h.association false refl refl refl h.closes)

opens : {C : Type 0} (m : Meaning C) (at new : ClientValue C) → OpensOver m.steps at new → Piece m at [] [] new
opens m at new h = gives m at (Open h.apdu) h.association h.apdu new refl refl (h.closed, h.opens) h.sends

goes_down : {C : Type 0} (m : Meaning C) (leaving : Bool) (at new : ClientValue C) (result : Result Outcome Fault) → GoesDown leaving at result new → Piece m at [] [] new
goes_down m true at new result h = closes m at new result h
goes_down m false at new result h = breaks m at new WentDown result h

comes_up : {C : Type 0} (m : Meaning C) (at new : ClientValue C) (result : Result Outcome Fault) → ComesUp m.steps at result new → Piece m at [] [] new
comes_up m at new result (IsOpened h e) = opens m at new h
comes_up m at new result (IsNotClosed open_ h) = breaks m at new Form result h

leaves_by : {C : Type 0} (m : Meaning C) (event : Event) (at new : ClientValue C) (result : Result Outcome Fault) → LeavesBy event at result new → Piece m at [] [] new
leaves_by m event.Down at new result h = closes m at new result h
leaves_by m event.Nothing at new result h = nothing m at new h.after
leaves_by m event.Up at new result h = nothing m at new h.after
leaves_by m event.Apdu at new result h = nothing m at new h.after
leaves_by m event.TimedOut at new result h = nothing m at new h.after
leaves_by m (event.Refused why) at new result h = nothing m at new h.after
leaves_by m event.Insecure at new result h = nothing m at new h.after

leaves : {C : Type 0} (m : Meaning C) (at new : ClientValue C) (result : Result Outcome Fault) → Leaves m.steps at result new → Piece m at [] [] new
leaves m at new result h =
    then_piece m at (record at { carrier = h.carrier; leaving = true }) new [] [] (carries_only m at End h.event h.carrier true refl refl h.ends) (leaves_by m h.event _ new result h.leaves)

-- ---- octets that arrived

-- the association takes the APDU that the carrier handed up, and sends none
takes_only : {C : Type 0} (m : Meaning C) (old : ClientValue C) (octets : List ℕ) (count : ℕ) (carrier : C) (made : Result Step Fault) (association : AssociationValue) → m.steps old.carrier (FeedOf octets count) event.Apdu carrier
    → sent_after made ≡ None → Takes old.association (m.apdu_of carrier) made association → Piece m old (take count octets) [] (record old { carrier = carrier; association = association })
takes_only m old octets count carrier made association feeds unsent takes = record {
  share = record { carried = carrier_call m (FeedOf octets count) event.Apdu carrier ∷ []; made = Take (m.apdu_of carrier) made ∷ [] };
  carrier = calls m old.carrier (FeedOf octets count) event.Apdu carrier feeds;
  association = makes old.association (Take (m.apdu_of carrier) made) association takes;
  apdus = record { up = refl; down = sym (adds_none (sent_after made) unsent) };
  octets = append-nil (take count octets);
  request = refl;
}

-- and sends one
takes_and_sends : {C : Type 0} (m : Meaning C) (old : ClientValue C) (octets : List ℕ) (count : ℕ) (carrier : C) (apdu : List ℕ) (association : AssociationValue) (new : ClientValue C) → m.steps old.carrier (FeedOf octets count) event.Apdu carrier
    → Takes old.association (m.apdu_of carrier) (Ok (step.Send apdu)) association → Sends m.steps (record old { carrier = carrier; association = association }) apdu new → Piece m old (take count octets) [] new
takes_and_sends m old octets count carrier apdu association new feeds takes s =
    at_end m old (record old { carrier = s.carrier; association = association }) new (take count octets) [] s.after (record {
      share = record { carried = carrier_call m (FeedOf octets count) event.Apdu carrier ∷ carrier_call m (Give apdu) s.event s.carrier ∷ []; made = Take (m.apdu_of carrier) (Ok (step.Send apdu)) ∷ [] };
      carrier = (carrier, record { step = feeds; out = refl; apdu = refl }, calls m carrier (Give apdu) s.event s.carrier s.gives);
      association = makes old.association (Take (m.apdu_of carrier) (Ok (step.Send apdu))) association takes;
      apdus = record { up = refl; down = refl };
      octets = append-nil (take count octets);
      request = refl;
    })

follows : {C : Type 0} (m : Meaning C) (old : ClientValue C) (octets : List ℕ) (count : ℕ) (carrier : C) (made : Result Step Fault) (association : AssociationValue) (result : Result Outcome Fault) (new : ClientValue C) → m.steps old.carrier (FeedOf octets count) event.Apdu carrier
    → Takes old.association (m.apdu_of carrier) made association → Follows m.steps made (record old { carrier = carrier; association = association }) result new → Piece m old (take count octets) [] new
follows m old octets count carrier (Ok step.Nothing) association result new feeds takes h = at_end m old _ new _ [] h.after (takes_only m old octets count carrier (Ok step.Nothing) association feeds refl takes)
follows m old octets count carrier (Ok (step.Send apdu)) association result new feeds takes h = takes_and_sends m old octets count carrier apdu association new feeds takes h.1
follows m old octets count carrier (Ok step.Associated) association result new feeds takes h = at_end m old _ new _ [] h.after (takes_only m old octets count carrier (Ok step.Associated) association feeds refl takes)
follows m old octets count carrier (Ok (step.Answered answer)) association result new feeds takes h = at_end m old _ new _ [] h.after (takes_only m old octets count carrier (Ok (step.Answered answer)) association feeds refl takes)
follows m old octets count carrier (Ok step.Released) association result new feeds takes h = then_piece m old (record old { carrier = carrier; association = association }) new _ [] (takes_only m old octets count carrier (Ok step.Released) association feeds refl takes) (leaves m _ new result h)
follows m old octets count carrier (Err fault) association result new feeds takes h = at_end m old _ new _ [] h.1 (takes_only m old octets count carrier (Err fault) association feeds refl takes)

-- the carrier reads, hands no APDU up, and then this happens
reads : {C : Type 0} (m : Meaning C) (old new : ClientValue C) (octets : List ℕ) (count : ℕ) (event : Event) (carrier : C) → handed_at event (m.apdu_of carrier) ≡ None → m.steps old.carrier (FeedOf octets count) event carrier → Piece m (record old { carrier = carrier }) [] [] new
    → Piece m old (take count octets) [] new
reads m old new octets count event carrier unheard feeds then =
    then_piece m old (record old { carrier = carrier }) new (take count octets) [] (carries_only m old (FeedOf octets count) event carrier old.leaving unheard refl feeds) then

comes : {C : Type 0} (m : Meaning C) (event : Event) (old new : ClientValue C) (octets : List ℕ) (count : ℕ) (carrier : C) (result : Result Outcome Fault) → m.steps old.carrier (FeedOf octets count) event carrier
    → ComesBy m.steps event (m.apdu_of carrier) (record old { carrier = carrier }) result new → Piece m old (take count octets) [] new
comes m event.Nothing old new octets count carrier result feeds h = reads m old new octets count event.Nothing carrier refl feeds (nothing m _ new h.after)
comes m event.Up old new octets count carrier result feeds h = reads m old new octets count event.Up carrier refl feeds (comes_up m _ new result h)
comes m event.Apdu old new octets count carrier result feeds h = follows m old octets count carrier h.made h.association result new feeds h.takes h.follows
comes m event.Down old new octets count carrier result feeds h = reads m old new octets count event.Down carrier refl feeds (goes_down m old.leaving _ new result h)
comes m event.TimedOut old new octets count carrier result feeds h = reads m old new octets count event.TimedOut carrier refl feeds (breaks m _ new Line result h)
comes m (event.Refused why) old new octets count carrier result feeds h = reads m old new octets count (event.Refused why) carrier refl feeds (breaks m _ new Form result h)
comes m event.Insecure old new octets count carrier result feeds h = reads m old new octets count event.Insecure carrier refl feeds (breaks m _ new Insecure result h)

feeds_unless : {C : Type 0} (m : Meaning C) (failed : Option Fault) (old new : ClientValue C) (octets : List ℕ) (count : ℕ) (result : Result Outcome Fault) → HearsUnless m.steps m.apdu_of failed old octets count result new
    → Piece m old (passed failed (Feed octets count result)) [] new
feeds_unless m None old new octets count result h = comes m h.event old new octets count h.carrier result h.feeds h.comes
feeds_unless m (Some fault) old new octets count result h = nothing m old new h.2

-- ---- the other calls

begins_by : {C : Type 0} (m : Meaning C) (event : Event) (at new : ClientValue C) → BeginsBy m.steps event at new → Piece m at [] [] new
begins_by m event.Up at new h = opens m at new h
begins_by m event.Nothing at new h = nothing m at new h
begins_by m event.Apdu at new h = nothing m at new h
begins_by m event.Down at new h = nothing m at new h
begins_by m event.TimedOut at new h = nothing m at new h
begins_by m (event.Refused why) at new h = nothing m at new h
begins_by m event.Insecure at new h = nothing m at new h

times_out : {C : Type 0} (m : Meaning C) (event : Event) (at new : ClientValue C) (result : Result Outcome Fault) → TimesOutBy event at result new → Piece m at [] [] new
times_out m event.TimedOut at new result h = breaks m at new Line result h
times_out m event.Nothing at new result h = nothing m at new h.after
times_out m event.Up at new result h = nothing m at new h.after
times_out m event.Apdu at new result h = nothing m at new h.after
times_out m event.Down at new result h = nothing m at new h.after
times_out m (event.Refused why) at new result h = nothing m at new h.after
times_out m event.Insecure at new result h = nothing m at new h.after

waits : {C : Type 0} (m : Meaning C) (old new : ClientValue C) (result : Result Outcome Fault) → Waits m.steps m.is_waiting old result new → Piece m old [] [] new
waits m old new result (HasFailed fault failed e same) = nothing m old new same
waits m old new result (NoneIsOut whole idle e same) = nothing m old new same
waits m old new result (IsAwaited whole waiting h) =
    then_piece m old (record old { carrier = h.carrier }) new [] [] (carries_only m old WaitOf h.event h.carrier old.leaving refl refl h.waits) (times_out m h.event _ new result h.follows)

asks : {C : Type 0} (m : Meaning C) (old new : ClientValue C) (form : RequestForm) (apdu : Result (List ℕ) AskFault) (association : AssociationValue) (result : Result (Unit {0}) AskFault) → IsInnerCall old.association (AskOf form apdu) association
    → Carries m.steps apdu (record old { association = association }) result new → Piece m old [] (requests (Ask form result ∷ [])) new
asks m old new form (Ok apdu) association (Ok u) h c = gives m old (AskOf form (Ok apdu)) association apdu new refl refl h c.1
asks m old new form (Ok apdu) association (Err fault) h c = let clash = c.0 in cc
asks m old new form (Err fault) association (Ok u) h c = let clash = c.0 in cc
asks m old new form (Err fault) association (Err other) h c = at_end m old _ new [] [] c.1 (makes_only m old (AskOf form (Err fault)) association old.leaving refl refl refl h)

-- a call without octets
passed_none : (failed : Option Fault) (call : Call) → octets_of call ≡ [] → passed failed call ≡ []
passed_none None call e = e
passed_none (Some fault) call e = refl

without : {C : Type 0} (m : Meaning C) (old new : ClientValue C) (call : Call) → octets_of call ≡ [] → Piece m old [] (requests (call ∷ [])) new → Piece m old (passed old.association.failed call) (requests (call ∷ [])) new
without {C} m old new call e h = subst (λ (octets : List ℕ). Piece m old octets (requests (call ∷ [])) new) (sym (passed_none old.association.failed call e)) h

piece_of : {C : Type 0} (m : Meaning C) (call : Call) (old new : ClientValue C) → IsCall m old call new → Piece m old (passed old.association.failed call) (requests (call ∷ [])) new
piece_of m Begin old new h =
    without m old new Begin refl (then_piece m old (record old { carrier = h.1.carrier }) new [] [] (carries_only m old BeginOf h.1.event h.1.carrier old.leaving refl refl h.1.begins) (begins_by m h.1.event _ new h.1.follows))
piece_of m (Feed octets count result) old new h = feeds_unless m old.association.failed old new octets count result h
piece_of m (Wait result) old new h = without m old new (Wait result) refl (waits m old new result h)
piece_of m (Ask form result) old new h = without m old new (Ask form result) refl (asks m old new form h.1.given h.1.association result (h.0, h.1.asks) h.1.carries)
piece_of m Release old new h = without m old new Release refl (gives m old (ReleaseOf h.1.apdu) h.1.association h.1.apdu new refl refl (h.0, h.1.releases) h.1.sends)
piece_of m (Disconnect outcome) old new h = without m old new (Disconnect outcome) refl (leaves m old new (Ok outcome) h.1)

-- ---- a run

inner_last : (made : List InnerCall) (old new : AssociationValue) (since now : Since) → InnerRuns old since made new now → now.request ≡ last_of since.request (asked made)
inner_last [] old new since now h = ap (λ (s : Since). s.request) h.1
inner_last (Open apdu ∷ made) old new since now h = inner_last made h.0 new since now h.2
inner_last (Take apdu result ∷ made) old new since now h = inner_last made h.0 new (since_after old (Take apdu result) since) now h.2
inner_last (AskOf form (Ok apdu) ∷ made) old new since now h = inner_last made h.0 new (record { request = Some form; taken = [] }) now h.2
inner_last (AskOf form (Err fault) ∷ made) old new since now h = inner_last made h.0 new since now h.2
inner_last (ReleaseOf apdu ∷ made) old new since now h = inner_last made h.0 new since now h.2
inner_last (Close ∷ made) old new since now h = inner_last made h.0 new since now h.2
inner_last (Break fault ∷ made) old new since now h = inner_last made h.0 new since now h.2

pub runs_lead : {C : Type 0} (m : Meaning C) (old new : ClientValue C) (since : Since) (calls : List Call) → Runs m old calls new → Beside m old since calls new
runs_lead {C} m old new since [] h = record {
  shares = [];
  each = h;
  carrier = ap (λ (v : ClientValue C). v.carrier) h;
  now = since;
  association = (ap (λ (v : ClientValue C). v.association) h, refl);
  apdus = record { up = refl; down = refl };
  forms = refl;
  last = refl;
}
runs_lead {C} m old new since (call ∷ calls) h =
    let mid : ClientValue C = h.0 in
    let first : Piece m old (passed old.association.failed call) (requests (call ∷ [])) mid = piece_of m call old mid h.1 in
    let then : (now : Since) × InnerRuns old.association since first.share.made mid.association now = first.association since in
    let rest : Beside m mid then.0 calls new = runs_lead m mid new then.0 calls h.2 in
    let made : List InnerCall = first.share.made ++ made_in rest.shares in
    let inner : InnerRuns old.association since made new.association rest.now = inner_append first.share.made (made_in rest.shares) old.association mid.association new.association since then.0 rest.now then.1 rest.association in
    let forms : asked made ≡ requests (call ∷ calls) =
    filter_map-append asked_by first.share.made (made_in rest.shares) ∙ ap (λ (l : List RequestForm). l ++ asked (made_in rest.shares)) first.request ∙ ap (λ (l : List RequestForm). requests (call ∷ []) ++ l) rest.forms
    ∙ sym (filter_map-append request_of (call ∷ []) calls) in
    record {
      shares = first.share ∷ rest.shares;
      each = (mid, record { is_call = h.1; carrier = first.carrier; association = first.association; apdus = first.apdus; octets = first.octets; request = first.request }, rest.each);
      carrier = carrier_append m first.share.carried (carried_in rest.shares) old.carrier mid.carrier new.carrier first.carrier rest.carrier;
      now = rest.now;
      association = inner;
      apdus = same_append first.share.carried (carried_in rest.shares) first.share.made (made_in rest.shares) first.apdus rest.apdus;
      forms = forms;
      last = inner_last made old.association new.association since rest.now inner ∙ ap (λ (l : List RequestForm). last_of since.request l) forms;
    }

-- ---- an answer

-- the association's answer, at the APDU that the carrier hands up
record Brings {C : Type 0} (m : Meaning C) (at : ClientValue C) (octets : List ℕ) (count : ℕ) (answer : Answer) (new : ClientValue C) : Type 0 where
  handed : m.steps at.carrier (FeedOf octets count) event.Apdu new.carrier
  takes : Takes at.association (m.apdu_of new.carrier) (Ok (step.Answered answer)) new.association

left_none : {C : Type 0} (event : Event) (at new : ClientValue C) (answer : Answer) → LeavesBy event at (Ok (outcome.Answered answer)) new → ⊥
left_none event.Down at new answer h = let clash = h.answer in cc
left_none event.Nothing at new answer h = let clash = h.answer in cc
left_none event.Up at new answer h = let clash = h.answer in cc
left_none event.Apdu at new answer h = let clash = h.answer in cc
left_none event.TimedOut at new answer h = let clash = h.answer in cc
left_none (event.Refused why) at new answer h = let clash = h.answer in cc
left_none event.Insecure at new answer h = let clash = h.answer in cc

followed : {C : Type 0} (m : Meaning C) (at : ClientValue C) (octets : List ℕ) (count : ℕ) (carrier : C) (made : Result Step Fault) (association : AssociationValue) (answer : Answer) (new : ClientValue C) → m.steps at.carrier (FeedOf octets count) event.Apdu carrier
    → Takes at.association (m.apdu_of carrier) made association → Follows m.steps made (record at { carrier = carrier; association = association }) (Ok (outcome.Answered answer)) new → Brings m at octets count answer new
followed m at octets count carrier (Ok step.Nothing) association answer new feeds takes h = let clash = h.answer in cc
followed m at octets count carrier (Ok (step.Send apdu)) association answer new feeds takes h = let clash = h.0 in cc
followed m at octets count carrier (Ok step.Associated) association answer new feeds takes h = let clash = h.answer in cc
followed {C} m at octets count carrier (Ok (step.Answered other)) association answer new feeds takes h =
    let one = h.answer in
    let same : other ≡ answer = cc in
    subst (λ (v : ClientValue C). Brings m at octets count answer v) (sym h.after)
    (record { handed = feeds; takes = subst (λ (a : Answer). Takes at.association (m.apdu_of carrier) (Ok (step.Answered a)) association) same takes })
followed m at octets count carrier (Ok step.Released) association answer new feeds takes h = absurd (left_none h.event _ new answer h.leaves)
followed m at octets count carrier (Err fault) association answer new feeds takes h = let clash = h.0 in cc

up_none : {C : Type 0} (m : Meaning C) (at new : ClientValue C) (answer : Answer) → ComesUp m.steps at (Ok (outcome.Answered answer)) new → ⊥
up_none m at new answer (IsOpened h e) = cc
up_none m at new answer (IsNotClosed open_ h) = let clash = h.answer in cc

down_none : {C : Type 0} (leaving : Bool) (at new : ClientValue C) (answer : Answer) → GoesDown leaving at (Ok (outcome.Answered answer)) new → ⊥
down_none true at new answer h = let clash = h.answer in cc
down_none false at new answer h = let clash = h.answer in cc

brought : {C : Type 0} (m : Meaning C) (event : Event) (at : ClientValue C) (octets : List ℕ) (count : ℕ) (carrier : C) (answer : Answer) (new : ClientValue C) → m.steps at.carrier (FeedOf octets count) event carrier
    → ComesBy m.steps event (m.apdu_of carrier) (record at { carrier = carrier }) (Ok (outcome.Answered answer)) new → Brings m at octets count answer new
brought m event.Nothing at octets count carrier answer new feeds h = let clash = h.answer in cc
brought m event.Up at octets count carrier answer new feeds h = absurd (up_none m _ new answer h)
brought m event.Apdu at octets count carrier answer new feeds h = followed m at octets count carrier h.made h.association answer new feeds h.takes h.follows
brought m event.Down at octets count carrier answer new feeds h = absurd (down_none at.leaving _ new answer h)
brought m event.TimedOut at octets count carrier answer new feeds h = let clash = h.answer in cc
brought m (event.Refused why) at octets count carrier answer new feeds h = let clash = h.answer in cc
brought m event.Insecure at octets count carrier answer new feeds h = let clash = h.answer in cc

brought_unless : {C : Type 0} (m : Meaning C) (failed : Option Fault) (at : ClientValue C) (octets : List ℕ) (count : ℕ) (answer : Answer) (new : ClientValue C) → HearsUnless m.steps m.apdu_of failed at octets count (Ok (outcome.Answered answer)) new
    → Brings m at octets count answer new
brought_unless m None at octets count answer new h = brought m h.event at octets count h.carrier answer new h.feeds h.comes
brought_unless m (Some fault) at octets count answer new h = let clash = h.1 in cc

pub answers_are_said : AnswersOf → {C : Type 0} (m : Meaning C) → AnswersAreSaid m
answers_are_said law m carrier terms calls at new octets count answer runs h =
    let beside : Beside m (fresh carrier terms) nothing_yet calls at = runs_lead m (fresh carrier terms) at nothing_yet calls runs in
    let brings : Brings m at octets count answer new = brought_unless m at.association.failed at octets count answer new h in
    record {
      beside = beside;
      handed = brings.handed;
      said = law terms (made_in beside.shares) at.association new.association beside.now (m.apdu_of new.carrier) answer beside.association brings.takes;
    }

pub blocks_are_of_the_request : BlocksOf → {C : Type 0} (m : Meaning C) → BlocksAreOfTheRequest m
blocks_are_of_the_request law m carrier terms calls at asked runs whole awaited =
    let beside : Beside m (fresh carrier terms) nothing_yet calls at = runs_lead m (fresh carrier terms) at nothing_yet calls runs in
    (beside, law terms (made_in beside.shares) at.association beside.now asked beside.association whole awaited)
