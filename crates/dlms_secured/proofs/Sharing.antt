-- A run of a secured carrier is a run of its carrier and a run of its security layer.
use Rattle.std.proofs.Common.{◌≡◌, ◌∙◌, refl, sym, ap, subst, arith, ℕ, ◌+◌, ◌≤◌, Bool, true, false, cond, List, [], ◌∷◌, ◌++◌, Option, Some, None}
use Rattle.std.proofs.Common.{Result, Ok, Err}
use Rattle.std.specs.Prelude.{All, IfSome}
use Rattle.std.specs.List.{cons_option}
use Rattle.std.proofs.lemmas.List.Elements.{All-nil, All-cons, All-head, All-tail, All-append, Contains-append_left, filter_map-append}
use Rattle.dlms_carrier.specs.Carrying.{Input, Begin, Give, Feed, Wait, End, Call as CarrierCall, Does, Runs as CarrierRuns, given, given_by, handed_at}
use Rattle.dlms_carrier.specs.Carrying.{Meaning, handed_up as arrived}
use Rattle.dlms_carrier.specs.declared.event.Event.{Event}
use Rattle.dlms_carrier.specs.declared.event.Event.TheVariants as event
use Rattle.dlms_security.specs.Run.{Event as SecurityCall, Reserves as ReservesOf}
use Rattle.dlms_security.specs.declared.policy.Policy.{Policy}
use Rattle.dlms_security.specs.Security.{SecurityState, after_reserved}
use Rattle.dlms_secured.specs.Guard.{GuardValue, Taken, Hands, Sends, Turn, after_begin, after_event, fault_of, gives, hidden, layer_of}
use Rattle.dlms_secured.specs.Run.{Call, IsNoStop, IsLayer, IsQuiet, IsTitled, challenge_after, Carries, Renews, Reserves, IsCall, Runs, GoesOut}
use Rattle.dlms_secured.specs.Run.{HandsUp, handed_by, Learned, AsBefore, ByResponse, requests, unused, awaited, answered_in, set_by}
use Rattle.dlms_secured.specs.Run.{Share, calls_of, carried_in, made_in, session_in, renewals, Beside, GuardedRuns, PassedOn, PassesOn}
use Rattle.dlms_secured.specs.Steps.{Guarded, at, quiet, Passes, Begins, Gives, Follows, Returns, Comes, Feeds, GuardedSteps}
use Rattle.dlms_secured.specs.Steps.{SecuredValue, StepsWith, out_of, out_by, apdu_of, apdu_with, fault_with}
use Rattle.dlms_secured.specs.declared.fault.SecuredFault.{SecuredFault}
use Rattle.dlms_secured.specs.declared.fault.SecuredFault.TheVariants as fault
use Rattle.dlms_secured.specs.declared.stage.Stage.{Stage}
use Rattle.dlms_secured.specs.declared.stage.Stage.TheVariants.{Closed, Failed}
use Rattle.dlms_secured.proofs.MadeLemmas.{Led, led_none, steps_append}
use Rattle.dlms_secured.proofs.LayerLemmas.{idle_layer, layer_then, same_titled}
use Rattle.dlms_secured.proofs.TitleLemmas.{reserved_peer}
use Rattle.dlms_secured.proofs.GuardLemmas.{Giving, gives_giving, Taking, takes_taking, Session, idle_session, none_quiet, sent, least, same_sum, no_request}

-- ---- runs of the carrier

carrier_append : {C : Type 0} (m : Meaning C) (xs ys : List CarrierCall) (a b c : C) → CarrierRuns m.steps m.out_of m.apdu_of a xs b
    → CarrierRuns m.steps m.out_of m.apdu_of b ys c
    → CarrierRuns m.steps m.out_of m.apdu_of a (xs ++ ys) c
carrier_append {C} m [] ys a b c h k = subst (λ (x : C). CarrierRuns m.steps m.out_of m.apdu_of x ys c) h k
carrier_append m (x ∷ xs) ys a b c h k = (h.0, h.1, carrier_append m xs ys h.0 b c h.2 k)

abbrev carrier_call : {C : Type 0} → Meaning C → Input → Event → C → CarrierCall
carrier_call m input event new = record { input = input; event = event; out = m.out_of new; apdu = m.apdu_of new }

one_call : {C : Type 0} (m : Meaning C) (old : C) (input : Input) (event : Event) (new : C) → m.steps old input event new
    → CarrierRuns m.steps m.out_of m.apdu_of old (carrier_call m input event new ∷ []) new
one_call m old input event new h = (new, record { step = h; out = refl; apdu = refl }, refl)

-- ---- the share of one call

record Piece {C : Type 0} (m : Meaning C) (old : Guarded C) (call : Call) (new : Guarded C) : Type 0 where
  share : Share
  before : share.stage ≡ old.guard.stage
  carrier : CarrierRuns m.steps m.out_of m.apdu_of old.carrier share.carried new.carrier
  security : Led old.guard.security share.made new.guard.security
  layer : set_by call ≡ 0 → IsLayer old.guard.dedicated share.session new.guard.dedicated
  session : All IsNoStop share.session
  quiet : IsQuiet share.stage share.session
  titled : IsTitled old.guard.dedicated old.guard.security.peer → IsTitled new.guard.dedicated new.guard.security.peer
  challenge : new.guard.challenge ≡ challenge_after call old.guard.challenge
  title : Learned old.guard.security.own old.guard.security.peer (old.guard.challenge ∷ []) (arrived share.carried) new.guard.security.peer
  down : All (GoesOut old.guard call (calls_of share)) (given share.carried)
  up : IfSome (handed_by call) (λ apdu. HandsUp old.guard.stage old.guard (calls_of share) apdu new.guard)
  asked : requests (given share.carried) + unused new.guard ≤ unused old.guard + set_by call
  answered : answered_in share.stage (handed_by call) + awaited new.guard.stage ≤ awaited old.guard.stage + requests (given share.carried)

-- ---- the use of the challenge

more_than : (a b : ℕ) → a ≤ b → a ≤ b + 0
more_than a b h = omega arith

summed : (a b c : ℕ) → a ≡ 0 → b ≤ c → a + b ≤ c
summed a b c none h = omega arith

-- no APDU is handed up
unanswered : (stage next : Stage) (handed : Option (List ℕ)) (n : ℕ) → handed ≡ None → awaited next ≤ n → answered_in stage handed + awaited next ≤ n
unanswered stage next handed n none h = summed (answered_in stage handed) (awaited next) n (ap (answered_in stage) none) h

-- this APDU is handed up
answered_by : (stage next : Stage) (result : Event) (apdu : List ℕ) → result ≡ event.Apdu
    → ((apdu : List ℕ) → answered_in stage (Some apdu) + awaited next ≤ awaited stage)
    → answered_in stage (handed_at result apdu) + awaited next ≤ awaited stage + 0
answered_by stage next result apdu e waits =
    subst (λ (r : Event). answered_in stage (handed_at r apdu) + awaited next ≤ awaited stage + 0) (sym e)
    (more_than (answered_in stage (Some apdu) + awaited next) (awaited stage) (waits apdu))

-- an event of the connection ends the wait, or changes nothing
event_waits : (g : GuardValue) (e : Event) → awaited (after_event g e).stage ≤ awaited g.stage
event_waits g event.Nothing = same (awaited g.stage)
  where
    same : (n : ℕ) → n ≤ n
    same n = omega arith
event_waits g event.Apdu = same (awaited g.stage)
  where
    same : (n : ℕ) → n ≤ n
    same n = omega arith
event_waits g event.Up = least (awaited g.stage)
event_waits g event.Down = least (awaited g.stage)
event_waits g event.TimedOut = least (awaited g.stage)
event_waits g (event.Refused why) = least (awaited g.stage)
event_waits g event.Insecure = least (awaited g.stage)

event_unused : (g : GuardValue) (e : Event) → 0 + unused (after_event g e) ≤ unused g
event_unused g event.Nothing = same_sum (unused g)
event_unused g event.Apdu = same_sum (unused g)
event_unused g event.Up = same_sum (unused g)
event_unused g event.Down = same_sum (unused g)
event_unused g event.TimedOut = same_sum (unused g)
event_unused g (event.Refused why) = same_sum (unused g)
event_unused g event.Insecure = same_sum (unused g)

begin_waits : (g : GuardValue) → awaited (after_begin g).stage ≤ awaited g.stage + 0
begin_waits g = by_test g.unused
  where
    by_test : (b : Bool) → awaited (cond b Closed (Failed fault.Challenge)) ≤ awaited g.stage + 0
    by_test true = least (awaited g.stage + 0)
    by_test false = least (awaited g.stage + 0)

abbrev OfSome : (List ℕ → Type 0) → Option (List ℕ) → Type 0
OfSome P o = IfSome o P

none_up : (P : List ℕ → Type 0) (o : Option (List ℕ)) → o ≡ None → IfSome o P
none_up P o e = subst (OfSome P) (sym e) tt

quiet_none : (inner : Event) (apdu : List ℕ) → handed_at (quiet inner) apdu ≡ None
quiet_none event.Apdu apdu = refl
quiet_none event.Nothing apdu = refl
quiet_none event.Up apdu = refl
quiet_none event.Down apdu = refl
quiet_none event.TimedOut apdu = refl
quiet_none (event.Refused why) apdu = refl
quiet_none event.Insecure apdu = refl

unheard : (result is : Event) (apdu : List ℕ) → result ≡ is → handed_at is apdu ≡ None → handed_at result apdu ≡ None
unheard result is apdu e none = ap (λ (e : Event). handed_at e apdu) e ∙ none

-- the challenge is used if it was
kept : (old new : GuardValue) → new.unused ≡ old.unused → 0 + unused new ≤ unused old + 0
kept old new e = subst (λ (b : Bool). 0 + cond b 1 0 ≤ unused old + 0) (sym e) (more_than (0 + unused old) (unused old) (same_sum (unused old)))

-- the carrier is called, and its event is returned
passes : {C : Type 0} (m : Meaning C) (old new : Guarded C) (call : CarrierCall) (input : Input) (guard : Event → GuardValue)
    (made session : List SecurityCall)
    → Passes m.steps input guard old call.event new
    → ((e : Event) → (guard e).challenge ≡ old.guard.challenge) → ((e : Event) → Led old.guard.security made (guard e).security)
    → ((e : Event) → Session old.guard.stage old.guard session (guard e)) → ((e : Event) → (guard e).security.peer ≡ old.guard.security.peer)
    → ((e : Event) → All (GoesOut old.guard (Carries call) (made ++ session)) (given (carrier_call m input e new.carrier ∷ [])))
    → ((e : Event) → requests (given (carrier_call m input e new.carrier ∷ [])) + unused (guard e) ≤ unused old.guard)
    → ((e : Event) → awaited (guard e).stage ≤ awaited old.guard.stage + requests (given (carrier_call m input e new.carrier ∷ [])))
    → Piece m old (Carries call) new
passes m old new call input guard made session h keeps steps layers peers down uses waits =
    let none : handed_at call.event call.apdu ≡ None = unheard call.event (quiet h.inner) call.apdu h.returned (quiet_none h.inner call.apdu) in
    record {
      share = record { stage = old.guard.stage; carried = carrier_call m input h.inner new.carrier ∷ []; made = made; session = session };
      before = refl;
      carrier = one_call m old.carrier input h.inner new.carrier h.step;
      security = subst (λ (g : GuardValue). Led old.guard.security made g.security) (sym h.after) (steps h.inner);
      layer = λ none. (subst (λ (g : GuardValue). Session old.guard.stage old.guard session g) (sym h.after) (layers h.inner)).layer;
      session = (layers h.inner).still;
      quiet = (layers h.inner).quiet;
      titled = (subst (λ (g : GuardValue). Session old.guard.stage old.guard session g) (sym h.after) (layers h.inner)).titled;
      challenge = ap (λ (g : GuardValue). g.challenge) h.after ∙ keeps h.inner;
      title = AsBefore (ap (λ (g : GuardValue). g.security.peer) h.after ∙ peers h.inner);
      down = down h.inner;
      up = none_up _ (handed_at call.event call.apdu) none;
      asked = subst (λ (g : GuardValue). requests (given (carrier_call m input h.inner new.carrier ∷ [])) + unused g ≤ unused old.guard + 0) (sym h.after)
          (more_than (requests (given (carrier_call m input h.inner new.carrier ∷ [])) + unused (guard h.inner)) (unused old.guard) (uses h.inner));
      answered = unanswered old.guard.stage new.guard.stage (handed_at call.event call.apdu)
          (awaited old.guard.stage + requests (given (carrier_call m input h.inner new.carrier ∷ []))) none
          (subst (λ (g : GuardValue). awaited g.stage ≤ awaited old.guard.stage + requests (given (carrier_call m input h.inner new.carrier ∷ [])))
          (sym h.after) (waits h.inner));
    }

-- the carrier is not called
refuses : {C : Type 0} (m : Meaning C) (old new : Guarded C) (call : CarrierCall) (guard : GuardValue) (made session : List SecurityCall)
    → call.event ≡ event.Insecure → new ≡ at old.carrier guard
    → guard.challenge ≡ old.guard.challenge → Led old.guard.security made guard.security → Session old.guard.stage old.guard session guard → guard.security.peer ≡ old.guard.security.peer
    → 0 + unused guard ≤ unused old.guard → awaited guard.stage ≤ awaited old.guard.stage + 0 → Piece m old (Carries call) new
refuses {C} m old new call guard made session e is keeps steps layers peers uses waits =
    let none : handed_at call.event call.apdu ≡ None = unheard call.event event.Insecure call.apdu e refl in
    record {
      share = record { stage = old.guard.stage; carried = []; made = made; session = session };
      before = refl;
      carrier = ap (λ (v : Guarded C). v.carrier) is;
      security = subst (λ (v : Guarded C). Led old.guard.security made v.guard.security) (sym is) steps;
      layer = λ none. (subst (λ (v : Guarded C). Session old.guard.stage old.guard session v.guard) (sym is) layers).layer;
      session = layers.still;
      quiet = layers.quiet;
      titled = (subst (λ (v : Guarded C). Session old.guard.stage old.guard session v.guard) (sym is) layers).titled;
      challenge = ap (λ (v : Guarded C). v.guard.challenge) is ∙ keeps;
      title = AsBefore (ap (λ (v : Guarded C). v.guard.security.peer) is ∙ peers);
      down = All-nil (GoesOut old.guard (Carries call) (made ++ session));
      up = none_up _ (handed_at call.event call.apdu) none;
      asked = subst (λ (v : Guarded C). 0 + unused v.guard ≤ unused old.guard + 0) (sym is) (more_than (0 + unused guard) (unused old.guard) uses);
      answered = unanswered old.guard.stage new.guard.stage (handed_at call.event call.apdu) (awaited old.guard.stage + 0) none
          (subst (λ (v : Guarded C). awaited v.guard.stage ≤ awaited old.guard.stage + 0) (sym is) waits);
    }

-- no APDU goes out
silent : (g : GuardValue) (call : Call) (made : List SecurityCall) → All (GoesOut g call made) []
silent g call made = All-nil (GoesOut g call made)

begins : {C : Type 0} (m : Meaning C) (unused : Bool) (old new : Guarded C) (call : CarrierCall) → Begins m.steps unused old call.event new
    → Piece m old (Carries call) new
begins m true old new call h = passes m old new call Begin (λ e. after_begin old.guard) [] [] h (λ e. refl) (λ e. led_none old.guard.security)
    (λ e. idle_session old.guard.stage old.guard (after_begin old.guard) refl refl) (λ e. refl)
    (λ e. silent old.guard (Carries call) []) (λ e. same_sum (unused old.guard)) (λ e. begin_waits old.guard)
begins m false old new call h = refuses m old new call (after_begin old.guard) [] [] h.0 h.1 refl (led_none old.guard.security)
    (idle_session old.guard.stage old.guard (after_begin old.guard) refl refl) refl
    (same_sum (unused old.guard)) (begin_waits old.guard)

-- the guard's turn
gives_by : {C : Type 0} (m : Meaning C) (old new : Guarded C) (call : CarrierCall) (t : Turn (List ℕ)) (r : Result (List ℕ) SecuredFault) → t.result ≡ r
    → Giving (Carries call) old.guard.stage old.guard t → Gives m.steps t.guard r old call.event new → Piece m old (Carries call) new
gives_by m old new call t (Ok message) is k h =
    passes m old new call (Give message) (λ e. t.guard) t.calls t.session h (λ e. k.same) (λ e. k.steps) (λ e. k.session) (λ e. k.title)
    (λ e. All-cons (GoesOut old.guard (Carries call) (t.calls ++ t.session)) message [] (k.out message is)
    (silent old.guard (Carries call) (t.calls ++ t.session)))
    (λ e. subst (λ (r : Result (List ℕ) SecuredFault). requests (sent r) + unused t.guard ≤ unused old.guard) is k.asked)
    (λ e. subst (λ (r : Result (List ℕ) SecuredFault). awaited t.guard.stage ≤ awaited old.guard.stage + requests (sent r)) is k.waits)
gives_by m old new call t (Err why) is k h = refuses m old new call t.guard t.calls t.session h.0 h.1 k.same k.steps k.session k.title
    (subst (λ (r : Result (List ℕ) SecuredFault). requests (sent r) + unused t.guard ≤ unused old.guard) is k.asked)
    (subst (λ (r : Result (List ℕ) SecuredFault). awaited t.guard.stage ≤ awaited old.guard.stage + requests (sent r)) is k.waits)

-- an event of the connection keeps the security layer
same_security : (g : GuardValue) (e : Event) → (after_event g e).security ≡ g.security
same_security g event.Nothing = refl
same_security g event.Apdu = refl
same_security g event.Up = refl
same_security g event.Down = refl
same_security g event.TimedOut = refl
same_security g (event.Refused why) = refl
same_security g event.Insecure = refl

led_event : (g : GuardValue) (e : Event) → Led g.security [] (after_event g e).security
led_event g e = subst (λ (s : SecurityState). Led g.security [] s) (sym (same_security g e)) (led_none g.security)

same_peer : (g : GuardValue) (e : Event) → (after_event g e).security.peer ≡ g.security.peer
same_peer g e = ap (λ (s : SecurityState). s.peer) (same_security g e)

same_dedicated : (g : GuardValue) (e : Event) → (after_event g e).dedicated ≡ g.dedicated
same_dedicated g event.Nothing = refl
same_dedicated g event.Apdu = refl
same_dedicated g event.Up = refl
same_dedicated g event.Down = refl
same_dedicated g event.TimedOut = refl
same_dedicated g (event.Refused why) = refl
same_dedicated g event.Insecure = refl

event_session : (g : GuardValue) (e : Event) → Session g.stage g [] (after_event g e)
event_session g e = idle_session g.stage g (after_event g e) (same_dedicated g e) (same_peer g e)

same_challenge : (g : GuardValue) (e : Event) → (after_event g e).challenge ≡ g.challenge
same_challenge g event.Nothing = refl
same_challenge g event.Apdu = refl
same_challenge g event.Up = refl
same_challenge g event.Down = refl
same_challenge g event.TimedOut = refl
same_challenge g (event.Refused why) = refl
same_challenge g event.Insecure = refl

-- ---- octets arrived

-- the APDU that is handed up is the guard's
handed_up : (result : Event) (apdu handed : List ℕ) (P : List ℕ → Type 0) → result ≡ event.Apdu → apdu ≡ handed → P handed → IfSome (handed_at result apdu) P
handed_up result apdu handed P e is h = subst (λ (e : Event). IfSome (handed_at e apdu) P) (sym e) (subst P (sym is) h)

-- more APDUs may arrive
learned_more : (client : List ℕ) (known : Option (List ℕ)) (own came more : List (List ℕ)) (peer : Option (List ℕ)) → Learned client known own came peer
    → Learned client known own (came ++ more) peer
learned_more client known own came more peer (AsBefore e) = AsBefore e
learned_more client known own came more peer (ByResponse title challenge apdu none is among arrived names) =
    ByResponse title challenge apdu none is among (Contains-append_left came more apdu arrived) names

follows : {C : Type 0} (m : Meaning C) (old new : Guarded C) (call : CarrierCall) (octets : List ℕ) (count : ℕ) (carrier : C)
    (taken : Result Taken SecuredFault) (guard : GuardValue)
    → m.steps old.carrier (Feed octets count) event.Apdu carrier → Taking old.guard.stage old.guard (m.apdu_of carrier) taken guard
    → call.apdu ≡ new.guard.handed
    → Follows m.steps taken (at carrier guard) call.event new → Piece m old (Carries call) new
follows {C} m old new call octets count carrier (Ok Hands) guard feeds k same h = record {
  share = record { stage = old.guard.stage; carried = carrier_call m (Feed octets count) event.Apdu carrier ∷ []; made = k.made; session = k.calls };
  before = refl;
  carrier = subst (λ (v : Guarded C). CarrierRuns m.steps m.out_of m.apdu_of old.carrier (carrier_call m (Feed octets count) event.Apdu carrier ∷ [])
      v.carrier) (sym h.1) (one_call m old.carrier (Feed octets count) event.Apdu carrier feeds);
  security = subst (λ (v : Guarded C). Led old.guard.security k.made v.guard.security) (sym h.1) k.steps;
  layer = λ none. (subst (λ (v : Guarded C). Session old.guard.stage old.guard k.calls v.guard) (sym h.1) k.session).layer;
  session = k.session.still;
  quiet = k.session.quiet;
  titled = (subst (λ (v : Guarded C). Session old.guard.stage old.guard k.calls v.guard) (sym h.1) k.session).titled;
  challenge = ap (λ (v : Guarded C). v.guard.challenge) h.1 ∙ k.same;
  title = subst (λ (v : Guarded C). Learned old.guard.security.own old.guard.security.peer (old.guard.challenge ∷ []) (m.apdu_of carrier ∷ [])
      v.guard.security.peer) (sym h.1) k.title;
  down = silent old.guard (Carries call) (k.made ++ k.calls);
  up = handed_up call.event call.apdu new.guard.handed (λ apdu. HandsUp old.guard.stage old.guard (k.made ++ k.calls) apdu new.guard) h.0 same
      (subst (λ (v : Guarded C). HandsUp old.guard.stage old.guard (k.made ++ k.calls) v.guard.handed v.guard) (sym h.1) (k.up refl));
  asked = kept old.guard new.guard (ap (λ (v : Guarded C). v.guard.unused) h.1 ∙ k.used);
  answered = subst (λ (v : Guarded C). answered_in old.guard.stage (handed_at call.event call.apdu) + awaited v.guard.stage ≤ awaited old.guard.stage + 0)
      (sym h.1) (answered_by old.guard.stage guard.stage call.event call.apdu h.0 k.waits);
}
follows m old new call octets count carrier (Ok (Sends message)) guard feeds k same h =
    let out : List CarrierCall = carrier_call m (Feed octets count) event.Apdu carrier ∷ carrier_call m (Give message) h.0 new.carrier ∷ [] in
    let none : handed_at call.event call.apdu ≡ None = unheard call.event event.Nothing call.apdu h.2 refl in
    let other : requests (message ∷ []) ≡ 0 = no_request message k.waits.0 in
    record {
      share = record { stage = old.guard.stage; carried = out; made = k.made; session = k.calls };
      before = refl;
      carrier = (carrier, record { step = feeds; out = refl; apdu = refl }, one_call m carrier (Give message) h.0 new.carrier h.1);
      security = subst (λ (g : GuardValue). Led old.guard.security k.made g.security) (sym h.3) k.steps;
      layer = λ none. (subst (λ (g : GuardValue). Session old.guard.stage old.guard k.calls g) (sym h.3) k.session).layer;
      session = k.session.still;
      quiet = k.session.quiet;
      titled = (subst (λ (g : GuardValue). Session old.guard.stage old.guard k.calls g) (sym h.3) k.session).titled;
      challenge = ap (λ (g : GuardValue). g.challenge) h.3 ∙ k.same;
      title = learned_more old.guard.security.own old.guard.security.peer (old.guard.challenge ∷ []) (m.apdu_of carrier ∷ [])
          (arrived (carrier_call m (Give message) h.0 new.carrier ∷ [])) new.guard.security.peer
          (subst (λ (g : GuardValue). Learned old.guard.security.own old.guard.security.peer (old.guard.challenge ∷ []) (m.apdu_of carrier ∷ [])
          g.security.peer) (sym h.3) k.title);
      down = All-cons (GoesOut old.guard (Carries call) (k.made ++ k.calls)) message [] (k.down (Carries call) message refl)
          (silent old.guard (Carries call) (k.made ++ k.calls));
      up = none_up _ (handed_at call.event call.apdu) none;
      asked = subst (λ (n : ℕ). n + unused new.guard ≤ unused old.guard + 0) (sym other)
          (kept old.guard new.guard (ap (λ (g : GuardValue). g.unused) h.3 ∙ k.used));
      answered = unanswered old.guard.stage new.guard.stage (handed_at call.event call.apdu) (awaited old.guard.stage + requests (message ∷ [])) none
          (subst (λ (n : ℕ). awaited new.guard.stage ≤ awaited old.guard.stage + n) (sym other)
          (more_than (awaited new.guard.stage) (awaited old.guard.stage)
          (subst (λ (g : GuardValue). awaited g.stage ≤ awaited old.guard.stage) (sym h.3) k.waits.1)));
    }
follows {C} m old new call octets count carrier (Err why) guard feeds k same h =
    let none : handed_at call.event call.apdu ≡ None = unheard call.event event.Insecure call.apdu h.0 refl in
    record {
      share = record { stage = old.guard.stage; carried = carrier_call m (Feed octets count) event.Apdu carrier ∷ []; made = k.made; session = k.calls };
      before = refl;
      carrier = subst (λ (v : Guarded C). CarrierRuns m.steps m.out_of m.apdu_of old.carrier (carrier_call m (Feed octets count) event.Apdu carrier ∷ [])
          v.carrier) (sym h.1) (one_call m old.carrier (Feed octets count) event.Apdu carrier feeds);
      security = subst (λ (v : Guarded C). Led old.guard.security k.made v.guard.security) (sym h.1) k.steps;
      layer = λ none. (subst (λ (v : Guarded C). Session old.guard.stage old.guard k.calls v.guard) (sym h.1) k.session).layer;
      session = k.session.still;
      quiet = k.session.quiet;
      titled = (subst (λ (v : Guarded C). Session old.guard.stage old.guard k.calls v.guard) (sym h.1) k.session).titled;
      challenge = ap (λ (v : Guarded C). v.guard.challenge) h.1 ∙ k.same;
      title = subst (λ (v : Guarded C). Learned old.guard.security.own old.guard.security.peer (old.guard.challenge ∷ []) (m.apdu_of carrier ∷ [])
          v.guard.security.peer) (sym h.1) k.title;
      down = silent old.guard (Carries call) (k.made ++ k.calls);
      up = none_up _ (handed_at call.event call.apdu) none;
      asked = kept old.guard new.guard (ap (λ (v : Guarded C). v.guard.unused) h.1 ∙ k.used);
      answered = unanswered old.guard.stage new.guard.stage (handed_at call.event call.apdu) (awaited old.guard.stage + 0) none
          (subst (λ (v : Guarded C). awaited v.guard.stage ≤ awaited old.guard.stage + 0) (sym h.1)
          (more_than (awaited guard.stage) (awaited old.guard.stage) k.waits));
    }

-- another event is returned
returns : {C : Type 0} (m : Meaning C) (old new : Guarded C) (call : CarrierCall) (octets : List ℕ) (count : ℕ) (carrier : C) (inner : Event)
    → ((apdu : List ℕ) → handed_at inner apdu ≡ None)
    → m.steps old.carrier (Feed octets count) inner carrier → Returns inner (at carrier old.guard) call.event new → Piece m old (Carries call) new
returns {C} m old new call octets count carrier inner none feeds h =
    let unhanded : handed_at call.event call.apdu ≡ None = unheard call.event inner call.apdu h.0 (none call.apdu) in
    record {
      share = record { stage = old.guard.stage; carried = carrier_call m (Feed octets count) inner carrier ∷ []; made = []; session = [] };
      before = refl;
      carrier = subst (λ (v : Guarded C). CarrierRuns m.steps m.out_of m.apdu_of old.carrier (carrier_call m (Feed octets count) inner carrier ∷ [])
          v.carrier) (sym h.1) (one_call m old.carrier (Feed octets count) inner carrier feeds);
      security = subst (λ (v : Guarded C). Led old.guard.security [] v.guard.security) (sym h.1) (led_event old.guard inner);
      layer = λ idle. (subst (λ (v : Guarded C). Session old.guard.stage old.guard [] v.guard) (sym h.1) (event_session old.guard inner)).layer;
      session = All-nil IsNoStop;
      quiet = none_quiet old.guard.stage;
      titled = (subst (λ (v : Guarded C). Session old.guard.stage old.guard [] v.guard) (sym h.1) (event_session old.guard inner)).titled;
      challenge = ap (λ (v : Guarded C). v.guard.challenge) h.1 ∙ same_challenge old.guard inner;
      title = AsBefore (ap (λ (v : Guarded C). v.guard.security.peer) h.1 ∙ same_peer old.guard inner);
      down = silent old.guard (Carries call) [];
      up = none_up _ (handed_at call.event call.apdu) unhanded;
      asked = subst (λ (v : Guarded C). 0 + unused v.guard ≤ unused old.guard + 0) (sym h.1)
          (more_than (0 + unused (after_event old.guard inner)) (unused old.guard) (event_unused old.guard inner));
      answered = unanswered old.guard.stage new.guard.stage (handed_at call.event call.apdu) (awaited old.guard.stage + 0) unhanded
          (subst (λ (v : Guarded C). awaited v.guard.stage ≤ awaited old.guard.stage + 0) (sym h.1)
          (more_than (awaited (after_event old.guard inner).stage) (awaited old.guard.stage) (event_waits old.guard inner)));
    }

comes : {C : Type 0} (m : Meaning C) (inner : Event) (old new : Guarded C) (call : CarrierCall) (octets : List ℕ) (count : ℕ) (carrier : C)
    → m.steps old.carrier (Feed octets count) inner carrier
    → call.apdu ≡ new.guard.handed → Comes m.steps inner (m.apdu_of carrier) (at carrier old.guard) call.event new → Piece m old (Carries call) new
comes m event.Apdu old new call octets count carrier feeds same h =
    follows m old new call octets count carrier h.taken h.guard feeds (takes_taking old.guard (m.apdu_of carrier) h.taken h.guard h.takes) same h.follows
comes m event.Nothing old new call octets count carrier feeds same h = returns m old new call octets count carrier event.Nothing (λ apdu. refl) feeds h
comes m event.Up old new call octets count carrier feeds same h = returns m old new call octets count carrier event.Up (λ apdu. refl) feeds h
comes m event.Down old new call octets count carrier feeds same h = returns m old new call octets count carrier event.Down (λ apdu. refl) feeds h
comes m event.TimedOut old new call octets count carrier feeds same h = returns m old new call octets count carrier event.TimedOut (λ apdu. refl) feeds h
comes m (event.Refused why) old new call octets count carrier feeds same h =
    returns m old new call octets count carrier (event.Refused why) (λ apdu. refl) feeds h
comes m event.Insecure old new call octets count carrier feeds same h = returns m old new call octets count carrier event.Insecure (λ apdu. refl) feeds h

feeds_by : {C : Type 0} (m : Meaning C) (failed : Option SecuredFault) (old new : Guarded C) (call : CarrierCall) (octets : List ℕ) (count : ℕ)
    → call.apdu ≡ new.guard.handed → Feeds m.steps m.apdu_of failed octets count old call.event new → Piece m old (Carries call) new
feeds_by m None old new call octets count same h = comes m h.inner old new call octets count h.carrier h.feeds same h.comes
feeds_by m (Some why) old new call octets count same h = refuses m old new call old.guard [] [] h.1 h.2 refl (led_none old.guard.security)
    (idle_session old.guard.stage old.guard old.guard refl refl) refl
    (same_sum (unused old.guard)) (more_than (awaited old.guard.stage) (awaited old.guard.stage) (event_waits old.guard event.Nothing))

-- ---- any call

-- the carrier's event may end the association
of_event : {C : Type 0} (m : Meaning C) (old new : Guarded C) (call : CarrierCall) (input : Input) → given_by input ≡ None
    → Passes m.steps input (after_event old.guard) old call.event new → Piece m old (Carries call) new
of_event m old new call input none h = passes m old new call input (after_event old.guard) [] [] h (same_challenge old.guard) (led_event old.guard)
    (event_session old.guard) (same_peer old.guard) (λ e. subst (λ (o : Option (List ℕ)). All (GoesOut old.guard (Carries call) []) (cons_option o [])) (sym none)
    (silent old.guard (Carries call) []))
    (λ e. subst (λ (o : Option (List ℕ)). requests (cons_option o []) + unused (after_event old.guard e) ≤ unused old.guard) (sym none)
    (event_unused old.guard e))
    (λ e. subst (λ (o : Option (List ℕ)). awaited (after_event old.guard e).stage ≤ awaited old.guard.stage + requests (cons_option o [])) (sym none)
    (more_than (awaited (after_event old.guard e).stage) (awaited old.guard.stage) (event_waits old.guard e)))

by_input : {C : Type 0} (m : Meaning C) (input : Input) (old new : Guarded C) (call : CarrierCall) → call.input ≡ input → call.apdu ≡ new.guard.handed
    → GuardedSteps m.steps m.apdu_of old input call.event new → Piece m old (Carries call) new
by_input m Begin old new call is same h = begins m old.guard.unused old new call h
by_input m (Give apdu) old new call is same h =
    gives_by m old new call (gives old.guard apdu) (gives old.guard apdu).result refl
    (gives_giving (Carries call) old.guard apdu (ap (λ (i : Input). given_by i) is)) h
by_input m (Feed octets count) old new call is same h = feeds_by m (fault_of old.guard.stage) old new call octets count same h
by_input m Wait old new call is same h = of_event m old new call Wait refl h
by_input m End old new call is same h = of_event m old new call End refl h

-- a new layer knows no title
pub fresh_titled : (own authentication : List ℕ) (policy : Policy) (key peer : Option (List ℕ)) → IsTitled (layer_of own authentication policy key) peer
fresh_titled own authentication policy None peer = tt
fresh_titled own authentication policy (Some key) peer = λ title e. absurd (let clash = e in cc)

piece_of : {C : Type 0} (m : Meaning C) (call : Call) (old new : Guarded C) → IsCall m old call new → Piece m old call new
piece_of m (Carries call) old new h = by_input m call.input old new call refl h.1 h.0
piece_of {C} m (Renews challenge key) old new h = record {
  share = record { stage = old.guard.stage; carried = []; made = []; session = [] };
  before = refl;
  carrier = ap (λ (v : Guarded C). v.carrier) h;
  security = record { steps = ap (λ (v : Guarded C). v.guard.security) h; unstopped = All-nil IsNoStop };
  layer = λ none. absurd (let clash = none in cc);
  session = All-nil IsNoStop;
  quiet = none_quiet old.guard.stage;
  titled = λ before. subst (λ (v : Guarded C). IsTitled v.guard.dedicated v.guard.security.peer) (sym h)
      (fresh_titled old.guard.security.own old.guard.authentication old.guard.security.policy (hidden old.guard.security.policy key)
      old.guard.security.peer);
  challenge = ap (λ (v : Guarded C). v.guard.challenge) h;
  title = AsBefore (ap (λ (v : Guarded C). v.guard.security.peer) h);
  down = silent old.guard (Renews challenge key) [];
  up = tt;
  asked = subst (λ (v : Guarded C). 0 + unused v.guard ≤ unused old.guard + 1) (sym h) (one_more (unused old.guard));
  answered = subst (λ (v : Guarded C). 0 + awaited v.guard.stage ≤ awaited old.guard.stage + 0) (sym h) (least (awaited old.guard.stage + 0));
}
  where
    one_more : (n : ℕ) → 0 + 1 ≤ n + 1
    one_more n = omega arith
piece_of {C} m (Reserves upto) old new h = record {
  share = record { stage = old.guard.stage; carried = []; made = ReservesOf upto ∷ []; session = [] };
  before = refl;
  carrier = ap (λ (v : Guarded C). v.carrier) h.1;
  security = record {
    steps = (after_reserved old.guard.security upto, (h.0, refl), ap (λ (v : Guarded C). v.guard.security) h.1);
    unstopped = All-cons IsNoStop (ReservesOf upto) [] tt (All-nil IsNoStop);
  };
  layer = λ none. subst (λ (v : Guarded C). IsLayer old.guard.dedicated [] v.guard.dedicated) (sym h.1) (idle_layer old.guard.dedicated);
  session = All-nil IsNoStop;
  quiet = none_quiet old.guard.stage;
  titled = λ before. subst (λ (v : Guarded C). IsTitled v.guard.dedicated v.guard.security.peer) (sym h.1)
      (same_titled old.guard.dedicated old.guard.security.peer (after_reserved old.guard.security upto).peer (reserved_peer old.guard.security upto) before);
  challenge = ap (λ (v : Guarded C). v.guard.challenge) h.1;
  title = AsBefore (ap (λ (v : Guarded C). v.guard.security.peer) h.1 ∙ reserved_peer old.guard.security upto);
  down = silent old.guard (Reserves upto) (ReservesOf upto ∷ []);
  up = tt;
  asked = subst (λ (v : Guarded C). 0 + unused v.guard ≤ unused old.guard + 0) (sym h.1)
      (more_than (0 + unused old.guard) (unused old.guard) (same_sum (unused old.guard)));
  answered = subst (λ (v : Guarded C). 0 + awaited v.guard.stage ≤ awaited old.guard.stage + 0) (sym h.1)
      (more_than (0 + awaited old.guard.stage) (awaited old.guard.stage) (same_sum (awaited old.guard.stage)));
}

-- ---- a run

pub left_none : (a b : ℕ) → a + b ≡ 0 → a ≡ 0
left_none a b e = omega arith

pub right_none : (a b : ℕ) → a + b ≡ 0 → b ≡ 0
right_none a b e = omega arith

pub runs_lead : {C : Type 0} (m : Meaning C) (old new : Guarded C) (calls : List Call) → Runs m old calls new → Beside m old calls new
runs_lead {C} m old new [] h = record {
  shares = [];
  each = h;
  carrier = ap (λ (v : Guarded C). v.carrier) h;
  security = ap (λ (v : Guarded C). v.guard.security) h;
  unstopped = All-nil IsNoStop;
  layer = λ none. subst (λ (v : Guarded C). IsLayer old.guard.dedicated [] v.guard.dedicated) (sym h) (idle_layer old.guard.dedicated);
  session = All-nil IsNoStop;
  titled = λ before. subst (λ (v : Guarded C). IsTitled v.guard.dedicated v.guard.security.peer) (sym h) before;
}
runs_lead {C} m old new (call ∷ calls) h =
    let mid : Guarded C = h.0 in
    let first : Piece m old call mid = piece_of m call old mid h.1 in
    let rest : Beside m mid calls new = runs_lead m mid new calls h.2 in
    record {
      shares = first.share ∷ rest.shares;
      each = (
        mid,
        record {
          is_call = h.1;
          before = first.before;
          carrier = first.carrier;
          security = first.security.steps;
          unstopped = first.security.unstopped;
          layer = first.layer;
          session = first.session;
          quiet = first.quiet;
          titled = first.titled;
          challenge = first.challenge;
          title = first.title;
          down = first.down;
          up = first.up;
          asked = first.asked;
          answered = first.answered;
        },
        rest.each,
      );
      carrier = carrier_append m first.share.carried (carried_in rest.shares) old.carrier mid.carrier new.carrier first.carrier rest.carrier;
      security = steps_append first.share.made (made_in rest.shares) old.guard.security mid.guard.security new.guard.security first.security.steps
          rest.security;
      unstopped = All-append IsNoStop first.share.made (made_in rest.shares) first.security.unstopped rest.unstopped;
      layer = λ none. layer_then first.share.session (session_in rest.shares) old.guard.dedicated mid.guard.dedicated new.guard.dedicated
          (first.layer (left_none (set_by call) (renewals calls) none)) (rest.layer (right_none (set_by call) (renewals calls) none));
      session = All-append IsNoStop first.share.session (session_in rest.shares) first.session rest.session;
      titled = λ before. rest.titled (first.titled before);
    }

-- ---- parts of lists

pub all_split : {X : Type 0} (P : X → Type 0) (xs ys : List X) → All P (xs ++ ys) → All P xs × All P ys
all_split P [] ys h = (All-nil P, h)
all_split P (x ∷ xs) ys h =
    let rest = all_split P xs ys (All-tail P x (xs ++ ys) h) in
    (All-cons P x xs (All-head P x (xs ++ ys) h) rest.0, rest.1)

pub given_append : (xs ys : List CarrierCall) → given (xs ++ ys) ≡ given xs ++ given ys
given_append xs ys = filter_map-append (λ (call : CarrierCall). given_by call.input) xs ys

-- ---- the carrier's runs

with_guard : {C : Type 0} (m : Meaning C) (old new : SecuredValue C) (guard : Option GuardValue) (g : GuardValue) (call : CarrierCall) → guard ≡ Some g
    → StepsWith m.steps m.apdu_of guard old call.input call.event new → call.apdu ≡ apdu_of m.apdu_of new
    → (h : GuardValue) × (new.guard ≡ Some h) × IsCall m (at old.carrier g) (Carries call) (at new.carrier h)
with_guard m old new None g call e h same = absurd cc
with_guard {C} m old new (Some k) g call e h same =
    let is : k ≡ g = cc in
    let handed : call.apdu ≡ h.0.handed = same ∙ ap (λ (o : Option GuardValue). apdu_with o (m.apdu_of new.carrier)) h.1 in
    (h.0, h.1, (subst (λ (v : GuardValue). GuardedSteps m.steps m.apdu_of (at old.carrier v) call.input call.event (at new.carrier h.0)) is h.2, handed))

pub guarded_runs : {C : Type 0} (m : Meaning C) → GuardedRuns m
guarded_runs {C} m old new g [] e h =
    (g, ap (λ (v : SecuredValue C). v.guard) h ∙ e, ap (λ (v : SecuredValue C). at v.carrier g) h)
guarded_runs {C} m old new g (call ∷ calls) e h =
    let first = with_guard m old h.0 old.guard g call e h.1.step h.1.apdu in
    let rest = guarded_runs m h.0 new first.0 calls first.1 h.2 in
    (rest.0, rest.1, (at h.0.carrier first.0, first.2, rest.2))

without_guard : {C : Type 0} (m : Meaning C) (old new : SecuredValue C) (guard : Option GuardValue) (call : CarrierCall) → guard ≡ None
    → StepsWith m.steps m.apdu_of guard old call.input call.event new → call.out ≡ out_of m.out_of new → call.apdu ≡ apdu_of m.apdu_of new
    → Does m.steps m.out_of m.apdu_of old.carrier call new.carrier × (new.guard ≡ None)
without_guard m old new (Some g) call e h out apdu = absurd cc
without_guard m old new None call e h out apdu = (
  record {
    step = h.0;
    out = out ∙ ap (λ (o : Option GuardValue). out_by (fault_with o) (m.out_of new.carrier)) h.1;
    apdu = apdu ∙ ap (λ (o : Option GuardValue). apdu_with o (m.apdu_of new.carrier)) h.1;
  },
  h.1,
)

pub passed_on : {C : Type 0} (m : Meaning C) → PassedOn m
passed_on {C} m old new [] e h = (ap (λ (v : SecuredValue C). v.carrier) h, ap (λ (v : SecuredValue C). v.guard) h ∙ e)
passed_on {C} m old new (call ∷ calls) e h =
    let first = without_guard m old h.0 old.guard call e h.1.step h.1.out h.1.apdu in
    let rest = passed_on m h.0 new calls first.1 h.2 in
    ((h.0.carrier, first.0, rest.0), rest.1)

abbrev bare : {C : Type 0} → C → SecuredValue C
bare carrier = record { carrier = carrier; guard = None }

pub passes_on : {C : Type 0} (m : Meaning C) → PassesOn m
passes_on {C} m old new [] h = ap (λ (c : C). bare c) h
passes_on {C} m old new (call ∷ calls) h = (bare h.0, record { step = (h.1.step, refl); out = h.1.out; apdu = h.1.apdu }, passes_on m h.0 new calls h.2)
