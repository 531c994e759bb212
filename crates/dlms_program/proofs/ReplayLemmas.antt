-- How a replay goes on: a call, an order, a line.
use Rattle.std.proofs.Common.{arith, refl, sym, ap, subst, inl, inr, append-nil, append_assoc, ◌∙◌, ◌≡◌, ◌⊎◌, ◌≤◌, ◌+◌, ℕ, Bool, true, false, List, [], ◌∷◌, ◌++◌, ◌-◌, ◌^◌, length, length-append, IsErr, MatchResult}
use Rattle.std.proofs.lemmas.List.{length-replicate}
use Rattle.std.specs.Prelude.{◌↔◌, ◌≢◌, ◌<◌, replicate, Option, Some, None, ⊤, Result, Ok, Err, OnOk}
use Rattle.std.specs.Io.KnownBytes.{Appends, IsAtEnd}
use Rattle.dlms_frame.specs.Stream.{Fits}
use Rattle.dlms_frame.proofs.LawLemmas.{next_stays}
use Rattle.dlms_state.specs.declared.event.Event.TheVariants.{Pulses as PulseEvent, Moment as MomentEvent}
use Rattle.dlms_store.specs.Later.{GoesOn}
use Rattle.dlms_store.specs.declared.fault.AddFault.{AddFault}
use Rattle.dlms_store.specs.declared.fault.OpenFault.{OpenFault}
use Rattle.dlms_store.specs.declared.fault.OpenFault.TheVariants as opening
use Rattle.dlms_store.specs.Cause.{IsCause}
use Rattle.dlms_pages.specs.Device.{Rose, View}
use Rattle.dlms_store.specs.Fitting.{DeviceFits, GivesBack, GivesUp, IsRefusal, StoreFits}
use Rattle.dlms_store.specs.Store.{CommitIsExhausted, IsStopped, IsTooSmall, Remembers, view_of}
use Rattle.dlms_store.specs.World.{StoreWorld, StoreStep, Next}
use Rattle.dlms_store.specs.World.StoreWorld.{Runs, InDoubt, Rests}
use Rattle.dlms_store.specs.World.StoreStep.{Closes, ClosesInDoubt, Opens}
use Rattle.dlms_state.specs.declared.event.Event.{Event}
use Rattle.dlms_program.specs.Calls.{Calls, Passes, Told}
use Rattle.dlms_program.specs.declared.fault.ReplayFault.{ReplayFault}
use Rattle.dlms_program.specs.declared.fault.ReplayFault.TheVariants.{Line, Io, Memory, Recovery}
use Rattle.dlms_program.specs.declared.orders.Order.{Order}
use Rattle.dlms_program.specs.declared.orders.Order.TheVariants.{Feed, Open, Pulses, Moment, Show, Silence, Skip}
use Rattle.dlms_program.specs.Health.{ClosesIll, IsClosed, IsFedBy, IsGone, IsRecovered, IsRefused, MeetsFault, Reaches, ServesIll, StaysClosed}
use Rattle.dlms_program.specs.Health.IsFedBy.{NoCall, NoFrame, OneFrame}
use Rattle.dlms_program.specs.Health.MeetsFault.{InClose, InOpen}
use Rattle.dlms_program.specs.Health.Reaches.{Here}
use Rattle.dlms_program.specs.Lines.{lines_of, HasLongLine, LosesLine, LosesPart}
use Rattle.dlms_pages.specs.declared.device.Pages.{Ghosts}
use Rattle.dlms_meter.specs.declared.meter.Meter.{Meter}
use Rattle.dlms_meter.specs.Healthy.{AreServed, IsDecided, IsServed}
use Rattle.dlms_meter.specs.Steps.{IsCall, Fed as FedCall, Idled, Told as ToldCall}
use Rattle.dlms_program.specs.Orders.{Spells}
use Rattle.dlms_program.specs.Printed.{reply_lines, reply_line, open_line, open_fault_line, state_line}
use Rattle.dlms_program.specs.Replay.{AreBoth, Did, DidPart, Does, DoesPart, End, Ended, Finds, FindsAll, Followed, Gone, GoesWell, IfKnown, IsAt, IsBad, IsLeft, LacksMemory, LineCalls, LineGoesWell, LinesUsedUp, MayStayClosed, PartCalls, PartGoesWell, ReadNoMore, ReplayCalls, Replays, ReplaysOn, WroteNoMore, WroteReplay, outcome_line}
use Rattle.dlms_program.specs.Replay.End.{Whole, Bad, Closed}
use Rattle.dlms_program.specs.Written.{AppendsPart}
use Rattle.dlms_state.specs.StateValue.{StateValue, IsStateOf, state_of}
use Rattle.dlms_meter.specs.Run.{MeterWorld, Answers, Comes, Fed, IsRunningIn, IsTurn, Stands, Turn, MayChoose, after_turn, events_of, grown, listed, recovered, silent}
use Rattle.dlms_meter.proofs.RunLemmas.{none_ended}
use Rattle.dlms_program.proofs.CallLemmas.{told_behind}
use Rattle.dlms_program.proofs.HealthLemmas.{at_once, closes_or_not, decided, fault_first, fault_in_call, fault_last, found_all, gone_behind, gone_reaches, honest_of, joined, lacks_memory, lines_run, no_fault_told, not_stopped, one_more, runs_or_not, served, turn_runs, well_or}
use Rattle.dlms_program.proofs.PutLemmas.{appends_none, appends_more, nothing_missing}

-- ---- outcomes

pub on_ok : {T E : Type 0} (P Q : Type 0) (r : Result T E) → (P → Q) → OnOk r P → OnOk r Q
on_ok P Q (Ok x) f h = f h
on_ok P Q (Err e) f h = h

pub was_err : {T E Q : Type 0} (P : Type 0) (r : Result T E) → IsErr r → Q → MatchResult r (λ _. P) (λ _. Q)
was_err P (Ok x) is q = absurd cc
was_err P (Err e) is q = q

-- ---- the calls of a piece

lines-append : (a b : List (List ℕ)) → reply_lines (a ++ b) ≡ reply_lines a ++ reply_lines b
lines-append [] b = refl
lines-append (x ∷ a) b = ap (λ (t : List ℕ). reply_line x ++ t) (lines-append a b) ∙ sym (append_assoc (reply_line x) (reply_lines a) (reply_lines b))

-- how a call keeps the world that a meter stands for
pub at_of : {P A : Type 0} {ghosts : Ghosts P} (honest : Bool) (meter meter' : Meter P A ghosts) (w w' : MeterWorld)
    → IsAt honest meter w → Stands meter' w' → (StoreFits meter.store w.store → StoreFits meter'.store w'.store) → IsAt honest meter' w'
at_of true meter meter' w w' at stands fits = (stands, fits at.1)
at_of false meter meter' w w' at stands fits = stands

pub stands_at : {P A : Type 0} {ghosts : Ghosts P} (honest : Bool) (meter : Meter P A ghosts) (w : MeterWorld) → IsAt honest meter w → Stands meter w
stands_at true meter w at = at.0
stands_at false meter w at = at

-- From a world the calls have come to another by these turns, with a rest of the bytes still to come and these replies so far:
-- however the rest is answered, the whole is answered so.
pub record GoesBy (w : MeterWorld) (bytes : List ℕ) (m : MeterWorld) (rest : List ℕ) (replies : List (List ℕ)) (turns : List Turn) : Type 0 where
  pub goes : (later : List Turn) (more : List (List ℕ)) (w' : MeterWorld) → Answers (grown m rest) later more w' → Answers (grown w bytes) (turns ++ later) (replies ++ more) w'

parted : (w : MeterWorld) (taken rest : List ℕ) → grown (grown w taken) rest ≡ grown w (taken ++ rest)
parted w taken rest = ap (λ (s : List ℕ). record w { stretch = s }) (append_assoc w.stretch taken rest)

turn_stays : (w : MeterWorld) (rest : List ℕ) (turn : Turn) → turn.to + 1 ≡ length w.stretch → IsTurn w turn → IsTurn (grown w rest) turn
turn_stays w rest turn ends is = record { next = next_stays w.stretch rest w.place turn.from turn.to turn.frame ends is.next; takes = is.takes; stored = is.stored; run = is.run; short = is.short }

-- a call that ended no frame
goes_on : (w : MeterWorld) (bytes : List ℕ) (m : MeterWorld) (taken rest : List ℕ) (replies : List (List ℕ)) (turns : List Turn)
    → GoesBy w bytes m (taken ++ rest) replies turns → GoesBy w bytes (grown m taken) rest (replies ++ []) turns
goes_on w bytes m taken rest replies turns on = record {
  goes = λ later more w' h.
      subst (λ (rs : List (List ℕ)). Answers (grown w bytes) (turns ++ later) (rs ++ more) w') (sym (append-nil replies))
      (on.goes later more w' (subst (λ (v : MeterWorld). Answers v later more w') (parted m taken rest) h));
}

-- a call that ended one
goes_turn : (w : MeterWorld) (bytes : List ℕ) (m : MeterWorld) (taken rest : List ℕ) (replies : List (List ℕ)) (turns : List Turn) (turn : Turn) → turn.to + 1 ≡ length (m.stretch ++ taken) → IsTurn (grown m taken) turn
    → GoesBy w bytes m (taken ++ rest) replies turns → GoesBy w bytes (after_turn (grown m taken) turn) rest (replies ++ listed turn.reply) (turns ++ turn ∷ [])
goes_turn w bytes m taken rest replies turns turn ends is on = record {
  goes = λ later more w' h.
      let first : IsTurn (grown m (taken ++ rest)) turn = subst (λ (v : MeterWorld). IsTurn v turn) (parted m taken rest) (turn_stays (grown m taken) rest turn ends is) in
      let others : Answers (after_turn (grown m (taken ++ rest)) turn) later more w' = subst (λ (v : MeterWorld). Answers (after_turn v turn) later more w') (parted m taken rest) h in
      let all = on.goes (turn ∷ later) (listed turn.reply ++ more) w' (first, more, refl, others) in
      subst (λ (ts : List Turn). Answers (grown w bytes) ts ((replies ++ listed turn.reply) ++ more) w') (sym (append_assoc turns (turn ∷ []) later))
      (subst (λ (rs : List (List ℕ)). Answers (grown w bytes) (turns ++ turn ∷ later) rs w') (sym (append_assoc replies (listed turn.reply) more)) all);
}

-- The turns of calls. From a running store each is as the service has it, and the store runs on; or this is so.
abbrev pub GoesOr : {P A : Type 0} → {ghosts : Ghosts P} → Type 0 → (start meter : Meter P A ghosts) → MeterWorld → List ℕ → MeterWorld → List (List ℕ) → Type 0
GoesOr Fault start meter w front m replies =
    (turns : List Turn) × ((more : List ℕ) → GoesBy w (front ++ more) m more replies turns) × (IsRunningIn w.store → (AreServed turns × IsRunningIn m.store) ⊎ Fault) × IsFedBy start front turns meter

-- one turn more
turn_or : {P A : Type 0} {ghosts : Ghosts P} (Before After : Type 0) (meter meter' : Meter P A ghosts) (m : MeterWorld) (taken : List ℕ) (turns : List Turn) (turn : Turn) → Stands meter m → (Before → After) → (ServesIll meter.store meter'.store → After)
    → IsTurn (grown m taken) turn → MayChoose meter.store meter'.store turn.choice → (AreServed turns × IsRunningIn m.store) ⊎ Before → (AreServed (turns ++ turn ∷ []) × IsRunningIn turn.store) ⊎ After
turn_or Before After meter meter' m taken turns turn stands further ill is may (inl (are, runs)) =
    well_or (λ (s : IsServed turn.choice). (one_more turns turn are s, turn_runs (grown m taken) turn is s runs)) ill (served meter.store meter'.store turn.choice (not_stopped meter.store m.store stands.store runs) may)
turn_or Before After meter meter' m taken turns turn stands further ill is may (inr fault) = inr (further fault)

-- one more call takes these bytes after those before
goes_further : {P A : Type 0} {ghosts : Ghosts P} (Before After : Type 0) (start meter meter' : Meter P A ghosts) (w m m' : MeterWorld) (front taken : List ℕ) (replies : List (List ℕ)) (reply : Option (List ℕ)) (steps : List StoreStep) → Stands meter m
    → IsCall meter (FedCall taken reply) meter' → (Before → After) → (ServesIll meter.store meter'.store → After) → GoesOr Before start meter w front m replies → Fed (MayChoose meter.store meter'.store) m taken reply steps m'
    → GoesOr After start meter' w (front ++ taken) m' (replies ++ listed reply)
goes_further Before After start meter meter' w m m' front taken replies reply steps stands call further ill (turns, on, well, fed) (inl (free, none, no_steps, is)) =
    let silent_call : IsCall meter (FedCall taken None) meter' = subst (λ (o : Option (List ℕ)). IsCall meter (FedCall taken o) meter') none call in
    let on' : GoesOr After start meter' w (front ++ taken) (grown m taken) (replies ++ listed None) = (
      turns,
      λ more. goes_on w ((front ++ taken) ++ more) m taken more replies turns (subst (λ (xs : List ℕ). GoesBy w xs m (taken ++ more) replies turns) (sym (append_assoc front taken more)) (on (taken ++ more))),
      λ running. well_or (λ (h : AreServed turns × IsRunningIn m.store). h) further (well running),
      NoFrame front taken turns meter meter' fed silent_call,
    ) in
    subst (λ (o : Option (List ℕ)). GoesOr After start meter' w (front ++ taken) m' (replies ++ listed o)) (sym none)
    (subst (λ (u : MeterWorld). GoesOr After start meter' w (front ++ taken) u (replies ++ listed None)) (sym is) on')
goes_further Before After start meter meter' w m m' front taken replies reply steps stands call further ill (turns, on, well, fed) (inr (turn, is_turn, may, promise, ends, told, took, is)) =
    let turn_call : IsCall meter (FedCall taken turn.reply) meter' = subst (λ (o : Option (List ℕ)). IsCall meter (FedCall taken o) meter') told call in
    let on' : GoesOr After start meter' w (front ++ taken) (after_turn (grown m taken) turn) (replies ++ listed turn.reply) = (
      turns ++ turn ∷ [],
      λ more.
          goes_turn w ((front ++ taken) ++ more) m taken more replies turns turn ends is_turn
          (subst (λ (xs : List ℕ). GoesBy w xs m (taken ++ more) replies turns) (sym (append_assoc front taken more)) (on (taken ++ more))),
      λ running. turn_or Before After meter meter' m taken turns turn stands further ill is_turn may (well running),
      OneFrame front taken turns turn meter meter' fed turn_call may,
    ) in
    subst (λ (o : Option (List ℕ)). GoesOr After start meter' w (front ++ taken) m' (replies ++ listed o)) (sym told)
    (subst (λ (u : MeterWorld). GoesOr After start meter' w (front ++ taken) u (replies ++ listed turn.reply)) (sym is) on')

-- a piece of bytes that came in so
abbrev pub ComesOr : {P A : Type 0} → {ghosts : Ghosts P} → Type 0 → (start meter : Meter P A ghosts) → MeterWorld → List ℕ → List (List ℕ) → MeterWorld → Type 0
ComesOr Fault start meter w bytes replies w' = (comes : Comes w bytes replies w') × (IsRunningIn w.store → AreServed comes.turns ⊎ Fault) × IsFedBy start bytes comes.turns meter

-- no byte is left
comes_all : {P A : Type 0} {ghosts : Ghosts P} (Fault : Type 0) (start meter : Meter P A ghosts) (w : MeterWorld) (front : List ℕ) (m : MeterWorld) (replies : List (List ℕ)) (kept : List ℕ)
    → GoesOr Fault start meter w front m replies → Fits kept m.stretch m.place → ComesOr Fault start meter w front replies m
comes_all Fault start meter w front m replies kept (turns, on, well, fed) fits =
    let whole : m ≡ grown m [] = ap (λ (s : List ℕ). record m { stretch = s }) (sym (append-nil m.stretch)) in
    let free : Answers m [] [] m = (none_ended kept m.stretch m.place fits, refl, refl) in
    let by : GoesBy w front m [] replies turns = subst (λ (xs : List ℕ). GoesBy w xs m [] replies turns) (append-nil front) (on []) in
    let all = by.goes [] [] m (subst (λ (v : MeterWorld). Answers v [] [] m) whole free) in (
      record {
        turns = turns;
        answers = subst (λ (ts : List Turn). Answers (grown w front) ts replies m) (append-nil turns) (subst (λ (rs : List (List ℕ)). Answers (grown w front) (turns ++ []) rs m) (append-nil replies) all);
      },
      λ running. well_or (λ (h : AreServed turns × IsRunningIn m.store). h.0) (λ (f : Fault). f) (well running),
      fed,
    )

-- the bytes fed so far, for every world that the meter stood for when it began
abbrev pub FedSoFar : {P A : Type 0} → {ghosts : Ghosts P} → Option (List ℕ) → Option (List ℕ) → Meter P A ghosts → Meter P A ghosts → List ℕ → List ℕ → Type 0
FedSoFar old now start meter bytes rest = Reaches (Some start) (Some meter) × ((honest : Bool) (w : MeterWorld) → IsAt honest start w → (m : MeterWorld) × (replies : List (List ℕ)) × IsAt honest meter m
    × Appends old now (reply_lines replies) × (front : List ℕ) × (front ++ rest ≡ bytes) × GoesOr (MeetsFault (Some start) (Some meter)) start meter w front m replies)

pub fed_start : {P A : Type 0} {ghosts : Ghosts P} (contents : Option (List ℕ)) (meter : Meter P A ghosts) (bytes : List ℕ) → FedSoFar contents contents meter meter bytes bytes
fed_start contents meter bytes = (Here, λ honest w at. (w, [], at, appends_none contents, [], refl, ([], (λ more. record { goes = λ later more w' h. h }), (λ running. inl (tt, running)), NoCall)))

taken_further : (front taken left rest bytes : List ℕ) → taken ++ left ≡ rest → front ++ rest ≡ bytes → (front ++ taken) ++ left ≡ bytes
taken_further front taken left rest bytes cut whole = append_assoc front taken left ∙ ap (λ (t : List ℕ). front ++ t) cut ∙ whole

pub fed_call : {P A : Type 0} {ghosts : Ghosts P} (old now new : Option (List ℕ)) (start meter meter' : Meter P A ghosts) (bytes rest taken left : List ℕ) (reply : Option (List ℕ))
    → taken ++ left ≡ rest → FedSoFar old now start meter bytes rest → IsCall meter (FedCall taken reply) meter' → Appends now new (reply_lines (listed reply))
    → FedSoFar old new start meter' bytes left
fed_call old now new start meter meter' bytes rest taken left reply cut (before, so_far) feeds appends =
    let last = at_once (Some meter) (Some meter') (inl (FedCall taken reply, feeds)) in (
      joined (Some start) (Some meter) (Some meter') before last,
      λ honest w at.
          let here = so_far honest w at in
          let call = feeds.0 here.0 (stands_at honest meter here.0 here.2) in (
            call.0,
            here.1 ++ listed reply,
            at_of honest meter meter' here.0 call.0 here.2 call.3 call.4.fits,
            subst (λ (t : List ℕ). Appends old new t) (sym (lines-append here.1 (listed reply))) (appends_more old now new (reply_lines here.1) (reply_lines (listed reply)) here.3 appends),
            here.4 ++ taken,
            taken_further here.4 taken left rest bytes cut here.5,
            goes_further (MeetsFault (Some start) (Some meter)) (MeetsFault (Some start) (Some meter')) start meter meter' w here.0 call.0 here.4 taken here.1 reply call.1 (stands_at honest meter here.0 here.2) feeds
                (fault_first (Some start) (Some meter) (Some meter') last)
                (λ ill. fault_last (Some start) (Some meter) (Some meter') before (fault_in_call meter meter' (FedCall taken reply) feeds ill)) here.6 call.2,
          ),
    )

nothing_left : (xs : List ℕ) → length xs ≡ 0 → xs ≡ []
nothing_left [] h = refl
nothing_left (x ∷ xs) h = absurd (omega (arith, h))

pub fed_all : {P A : Type 0} {ghosts : Ghosts P} (old now : Option (List ℕ)) (start meter : Meter P A ghosts) (bytes rest : List ℕ) → length rest ≡ 0 → FedSoFar old now start meter bytes rest
    → (honest : Bool) (w : MeterWorld) → IsAt honest start w → Did honest old now w bytes Feed (Some start) (Some meter)
fed_all old now start meter bytes rest none (reaches, so_far) honest w at =
    let here = so_far honest w at in
    let Fault : Type 0 = MeetsFault (Some start) (Some meter) in
    let front : here.4 ≡ bytes = sym (append-nil here.4) ∙ ap (λ (t : List ℕ). here.4 ++ t) (sym (nothing_left rest none)) ∙ here.5 in
    let stands = stands_at honest meter here.0 here.2 in
    let comes = subst (λ (xs : List ℕ). ComesOr Fault start meter w xs here.1 here.0) front (comes_all Fault start meter w here.4 here.0 here.1 meter.deframer.bytes here.6 stands.line) in
    record {
      world = here.0;
      written = reply_lines here.1;
      does = (here.1, comes.0, refl);
      calls = comes.2;
      reaches = reaches;
      well = comes.1;
      left = here.2;
      appends = here.3;
    }

-- a reply that was written in part
part_of_reply : (now new : Option (List ℕ)) (reply : Option (List ℕ)) → AppendsPart now new (reply_lines (listed reply)) → (bytes : List ℕ) × (reply ≡ Some bytes) × AppendsPart now new (reply_line bytes)
part_of_reply now new None part = absurd (nothing_missing part.part part.missing part.joined part.some)
part_of_reply now new (Some bytes) part = (bytes, refl, subst (λ (t : List ℕ). AppendsPart now new t) (append-nil (reply_line bytes)) part)

pub fed_part : {P A : Type 0} {ghosts : Ghosts P} (old now new : Option (List ℕ)) (start meter meter' : Meter P A ghosts) (bytes rest taken left : List ℕ) (reply : Option (List ℕ))
    → taken ++ left ≡ rest → FedSoFar old now start meter bytes rest → IsCall meter (FedCall taken reply) meter' → AppendsPart now new (reply_lines (listed reply))
    → (honest : Bool) (w : MeterWorld) → IsAt honest start w → DidPart honest old new w bytes Feed (Some start) (Some meter')
fed_part old now new start meter meter' bytes rest taken left reply cut (before, so_far) feeds part honest w at =
    let here = so_far honest w at in
    let call = feeds.0 here.0 (stands_at honest meter here.0 here.2) in
    let Fault : Type 0 = MeetsFault (Some start) (Some meter') in
    let last = at_once (Some meter) (Some meter') (inl (FedCall taken reply, feeds)) in
    let front = here.4 ++ taken in
    let told = part_of_reply now new reply part in
    let replies : here.1 ++ listed reply ≡ here.1 ++ told.0 ∷ [] = ap (λ (r : Option (List ℕ)). here.1 ++ listed r) told.1 in
    let on = goes_further (MeetsFault (Some start) (Some meter)) Fault start meter meter' w here.0 call.0 here.4 taken here.1 reply call.1 (stands_at honest meter here.0 here.2) feeds
    (fault_first (Some start) (Some meter) (Some meter') last)
    (λ ill. fault_last (Some start) (Some meter) (Some meter') before (fault_in_call meter meter' (FedCall taken reply) feeds ill)) here.6 call.2 in
    let comes = subst (λ (rs : List (List ℕ)). ComesOr Fault start meter' w front rs call.0) replies (comes_all Fault start meter' w front call.0 (here.1 ++ listed reply) meter'.deframer.bytes on call.3.line) in
    record {
      world = call.0;
      before = reply_lines here.1;
      told = reply_line told.0;
      does = (front, left, taken_further here.4 taken left rest bytes cut here.5, here.1, told.0, comes.0, refl, refl);
      calls = comes.2;
      reaches = joined (Some start) (Some meter) (Some meter') before last;
      well = comes.1;
      left = at_of honest meter meter' here.0 call.0 here.2 call.3 call.4.fits;
      mid = now;
      appends = here.3;
      breaks = told.2;
    }

-- ---- pulses and moments

-- one call that judged an event
pub told_once : {P A : Type 0} {ghosts : Ghosts P} (meter meter' : Meter P A ghosts) (event : Event) (outcome : Result (Unit {0}) AddFault) → IsCall meter (ToldCall event outcome) meter' → Reaches (Some meter) (Some meter')
told_once meter meter' event outcome judges = at_once (Some meter) (Some meter') (inl (ToldCall event outcome, judges))

-- what an order did on a meter, whatever the writer holds
abbrev pub DidOn : {P A : Type 0} → {ghosts : Ghosts P} → Bool → MeterWorld → List ℕ → Order → (start meter : Meter P A ghosts) → Type 0
DidOn honest w bytes order start meter = Did honest None None w bytes order (Some start) (Some meter)

-- its text was written
pub told_all : {P A : Type 0} {ghosts : Ghosts P} (old new : Option (List ℕ)) (honest : Bool) (w : MeterWorld) (bytes : List ℕ) (order : Order) (start meter : Meter P A ghosts)
    → (did : DidOn honest w bytes order start meter) → Appends old new did.written → Did honest old new w bytes order (Some start) (Some meter)
told_all old new honest w bytes order start meter did appends =
    record { world = did.world; written = did.written; does = did.does; calls = did.calls; reaches = did.reaches; well = did.well; left = did.left; appends = appends }

-- such an order is done in part as it is done
abbrev pub IsOnePart : {P A : Type 0} → {ghosts : Ghosts P} → Bool → MeterWorld → List ℕ → Order → (start meter : Meter P A ghosts) → Type 0
IsOnePart honest w bytes order start meter = (w' : MeterWorld) (told : List ℕ) (does : Does honest w bytes order w' told)
    → (part : DoesPart honest w bytes order w' [] told) × (LineGoesWell honest w bytes order w' told does → PartGoesWell honest w bytes order w' [] told part)
    × (LineCalls honest w bytes order w' told does start meter → PartCalls honest w bytes order w' [] told part start meter)

-- a part of it was written
pub told_part : {P A : Type 0} {ghosts : Ghosts P} (old new : Option (List ℕ)) (honest : Bool) (w : MeterWorld) (bytes : List ℕ) (order : Order) (start meter : Meter P A ghosts)
    → IsOnePart honest w bytes order start meter → (did : DidOn honest w bytes order start meter) → AppendsPart old new did.written → DidPart honest old new w bytes order (Some start) (Some meter)
told_part old new honest w bytes order start meter one did part =
    let does = one did.world did.written did.does in
    record {
      world = did.world;
      before = [];
      told = did.written;
      does = does.0;
      calls = does.2 did.calls;
      reaches = did.reaches;
      well = λ running. well_or does.1 (λ (f : MeetsFault (Some start) (Some meter)). f) (did.well running);
      left = did.left;
      mid = old;
      appends = appends_none old;
      breaks = part;
    }

abbrev pub pulses_did : {P A : Type 0} → {ghosts : Ghosts P} → (meter meter' : Meter P A ghosts) (bytes : List ℕ) (channel count : ℕ) (outcome : Result (Unit {0}) AddFault)
    → IsCall meter (ToldCall (PulseEvent channel count) outcome) meter' → (honest : Bool) (w : MeterWorld) → IsAt honest meter w → DidOn honest w bytes (Pulses channel count) meter meter'
pulses_did meter meter' bytes channel count outcome judges honest w at =
    let stands = stands_at honest meter w at in
    let call = judges.0 w stands in
    record {
      world = call.0;
      written = outcome_line outcome;
      does = (outcome, call.1, call.2, refl);
      calls = record { call = judges; cause = call.3 };
      reaches = told_once meter meter' (PulseEvent channel count) outcome judges;
      well = λ running. well_or (λ (h : IsDecided outcome). h) (fault_in_call meter meter' (ToldCall (PulseEvent channel count) outcome) judges) (decided meter meter' (PulseEvent channel count) outcome call.1 w call.0 running call.2 call.3);
      left = at_of honest meter meter' w call.0 at call.4 call.5.fits;
      appends = tt;
    }

abbrev pub moment_did : {P A : Type 0} → {ghosts : Ghosts P} → (meter meter' : Meter P A ghosts) (bytes : List ℕ) (second : ℕ) (outcome : Result (Unit {0}) AddFault)
    → IsCall meter (ToldCall (MomentEvent second) outcome) meter' → (honest : Bool) (w : MeterWorld) → IsAt honest meter w → DidOn honest w bytes (Moment second) meter meter'
moment_did meter meter' bytes second outcome judges honest w at =
    let stands = stands_at honest meter w at in
    let call = judges.0 w stands in
    record {
      world = call.0;
      written = outcome_line outcome;
      does = (outcome, call.1, call.2, refl);
      calls = record { call = judges; cause = call.3 };
      reaches = told_once meter meter' (MomentEvent second) outcome judges;
      well = λ running. well_or (λ (h : IsDecided outcome). h) (fault_in_call meter meter' (ToldCall (MomentEvent second) outcome) judges) (decided meter meter' (MomentEvent second) outcome call.1 w call.0 running call.2 call.3);
      left = at_of honest meter meter' w call.0 at call.4 call.5.fits;
      appends = tt;
    }

-- ---- silence, and lines that leave the meter as it is

-- the printed state is that of the meter's events
pub told_state : {P A : Type 0} {ghosts : Ghosts P} (honest : Bool) (meter : Meter P A ghosts) (w : MeterWorld) (s : StateValue) → ((w : MeterWorld) → Stands meter w → IsStateOf (events_of w) s) → IsAt honest meter w → state_line s ≡ state_line (state_of (events_of w))
told_state honest meter w s is at = ap (λ (t : StateValue). state_line t) (is w (stands_at honest meter w at)).value

abbrev pub show_did : {P A : Type 0} → {ghosts : Ghosts P} → (meter : Meter P A ghosts) (bytes : List ℕ) (s : StateValue) → ((w : MeterWorld) → Stands meter w → IsStateOf (events_of w) s)
    → (honest : Bool) (w : MeterWorld) → IsAt honest meter w → DidOn honest w bytes Show meter meter
show_did meter bytes s is honest w at = record { world = w; written = state_line s; does = (refl, told_state honest meter w s is at); calls = refl; reaches = Here; well = λ running. inl tt; left = at; appends = tt }

pub skip_told : {P A : Type 0} {ghosts : Ghosts P} (contents : Option (List ℕ)) (meter : Meter P A ghosts) (bytes : List ℕ) (honest : Bool) (w : MeterWorld) → IsAt honest meter w → Did honest contents contents w bytes Skip (Some meter) (Some meter)
skip_told contents meter bytes honest w at = record { world = w; written = []; does = (refl, refl); calls = refl; reaches = Here; well = λ running. inl tt; left = at; appends = appends_none contents }

pub silence_told : {P A : Type 0} {ghosts : Ghosts P} (contents : Option (List ℕ)) (meter meter' : Meter P A ghosts) (bytes : List ℕ) → ((w : MeterWorld) → Stands meter w → Stands meter' (silent w)) → meter'.store ≡ meter.store
    → (honest : Bool) (w : MeterWorld) → IsAt honest meter w → Did honest contents contents w bytes Silence (Some meter) (Some meter')
silence_told contents meter meter' bytes quiet same honest w at =
    record {
      world = silent w;
      written = [];
      does = (refl, refl);
      calls = (quiet, same);
      reaches = at_once (Some meter) (Some meter') (inl (Idled, (quiet, same)));
      well = λ running. inl tt;
      left = at_of honest meter meter' w (silent w) at (quiet w (stands_at honest meter w at)) (λ fits. subst (λ (store : _). StoreFits store w.store) (sym same) fits);
      appends = appends_none contents;
    }

-- ---- closed and recovered

pub refused_for : (old new : View) (fault : OpenFault) → (old.honest ≡ true → IsCause fault old.seen) → (fault ≡ opening.Device → Rose old.faults new.faults) → (fault ≡ opening.Size) ↔ IsTooSmall old → GoesOn old new → IsRefused old new fault
refused_for old new fault exact device size later = record { exact = exact; device = device; size = size.0; later = later }

pub opened_runs : (before now : StoreWorld) (found : List Event) → Next before (Opens found) now → now ≡ Runs found []
opened_runs (Runs s p) now found h = absurd h
opened_runs (InDoubt s p) now found h = h.1
opened_runs (Rests events) now found h = h.1

-- The world of a meter that was closed and recovered: on a device that keeps the rules, its store's world. From a running store it
-- has all events, or this is true.
abbrev pub IsFound : {P A : Type 0} → {ghosts : Ghosts P} → Type 0 → Bool → MeterWorld → Meter P A ghosts → Type 0
IsFound Fault honest w meter = (found : List Event) × Finds honest w.store found × (IsRunningIn w.store → FindsAll honest w found ⊎ Fault) × IsAt honest meter (recovered found)

module _ {P A : Type 0} {ghosts : Ghosts P} (start : Meter P A ghosts) (device : P) where
  -- if the device returns no fault, the pending events are settled
  abbrev pub IsSettled : Type 0
  IsSettled = (IsStopped start.store → ⊥) → (Rose (view_of start.store).faults (ghosts.view device).faults → ⊥) → (CommitIsExhausted start.store → ⊥)
      → (before : StoreWorld) → StoreFits start.store before → GivesUp Closes before (view_of start.store) (ghosts.view device)

  found_in : (Fault : Type 0) (meter : Meter P A ghosts) (w : MeterWorld) (closed : StoreWorld) → Next w.store Closes closed ⊎ Next w.store ClosesInDoubt closed → DeviceFits (ghosts.view device) closed
      → IsRecovered device (Some meter) → ((events : List Event) → Remembers events [] meter.store → Stands meter (recovered events))
      → ((now : StoreWorld) (found : List Event) → Next closed (Opens found) now → IsRunningIn w.store → (found ≡ events_of w) ⊎ Fault) → IsFound Fault true w meter
  found_in Fault meter w closed next fits opens stands all =
      let given = opens.opens closed fits in
      let runs : given.now ≡ Runs given.found [] = opened_runs closed given.now given.found given.next in
      let there : StoreFits meter.store (Runs given.found []) = subst (λ (x : StoreWorld). StoreFits meter.store x) runs given.fits in (
        given.found,
        (closed, next, subst (λ (x : StoreWorld). Next closed (Opens given.found) x) runs given.next),
        all given.now given.found given.next,
        (stands given.found there.1, there),
      )

  pub reopened : (honest : Bool) (meter : Meter P A ghosts) (w : MeterWorld) → IsClosed start device → IsSettled → IsRecovered device (Some meter) → (events : List Event) × Remembers events [] meter.store
      → ((events : List Event) → Remembers events [] meter.store → Stands meter (recovered events)) → IsAt honest start w → IsFound (ClosesIll start.store (ghosts.view device)) honest w meter
  reopened false meter w closed settled opens opened stands at = (opened.0, tt, (λ running. inl tt), stands opened.0 opened.1)
  reopened true meter w closed settled opens opened stands at =
      let Fault : Type 0 = ClosesIll start.store (ghosts.view device) in
      let in_doubt : ((found : List Event) → IsRunningIn w.store → (found ≡ events_of w) ⊎ Fault) → IsFound Fault true w meter = λ all.
      elim (closed.run w.store at.1) [
        | inl gives ↦ found_in Fault meter w gives.now (inl gives.next) gives.fits opens stands (λ now found next. all found)
        | inr gives ↦ found_in Fault meter w gives.now (inr gives.next) gives.fits opens stands (λ now found next. all found)
      ] in
      elim (runs_or_not w.store) [
        | inr stops ↦ in_doubt (λ found running. absurd (stops running))
        | inl runs ↦
            elim (closes_or_not start.store (ghosts.view device)) [
              | inl well ↦
                  let gives = settled (not_stopped start.store w.store at.0.store runs) well.0 well.1 w.store at.1 in
                  found_in Fault meter w gives.now (inl gives.next) gives.fits opens stands (λ now found next running. inl (found_all w.store gives.now now found gives.next next))
              | inr ill ↦ in_doubt (λ found running. inr ill)
            ]
      ]

  abbrev pub open_did : (before : Option (Meter P A ghosts)) (meter : Meter P A ghosts) → before ≡ Some start → IsClosed start device → IsSettled → IsRecovered device (Some meter)
      → (events : List Event) × Remembers events [] meter.store → ((events : List Event) → Remembers events [] meter.store → Stands meter (recovered events))
      → (honest : Bool) (w : MeterWorld) (bytes : List ℕ) → IsLeft honest before (Some w) → DidOn honest w bytes Open start meter
  open_did before meter is closed settled opens opened stands honest w bytes left =
      let at : IsAt honest start w = subst (λ (m : Option (Meter P A ghosts)). IsLeft honest m (Some w)) is left in
      let found = reopened honest meter w closed settled opens opened stands at in
      record {
        world = recovered found.0;
        written = open_line;
        does = (found.0, found.1, refl, refl);
        calls = (device, closed, opens, found.2);
        reaches = at_once (Some start) (Some meter) (inr (device, closed, opens));
        well = λ running. well_or (λ (h : FindsAll honest w found.0). h) (λ ill. InClose start device (Some meter) Here closed opens Here ill) (found.2 running);
        left = found.3;
        appends = tt;
      }

  pub open_told : (old new : Option (List ℕ)) (before : Option (Meter P A ghosts)) (meter : Meter P A ghosts) → before ≡ Some start → IsClosed start device → IsSettled → IsRecovered device (Some meter)
      → (events : List Event) × Remembers events [] meter.store → ((events : List Event) → Remembers events [] meter.store → Stands meter (recovered events))
      → Appends old new open_line → (honest : Bool) (w : MeterWorld) (bytes : List ℕ) → IsLeft honest before (Some w) → Did honest old new w bytes Open before (Some meter)
  open_told old new before meter is closed settled opens opened stands appends honest w bytes left =
      subst (λ (m : Option (Meter P A ghosts)). Did honest old new w bytes Open m (Some meter)) (sym is)
      (told_all old new honest w bytes Open start meter (open_did before meter is closed settled opens opened stands honest w bytes left) appends)

  pub open_part : (old new : Option (List ℕ)) (before : Option (Meter P A ghosts)) (meter : Meter P A ghosts) → before ≡ Some start → IsClosed start device → IsSettled → IsRecovered device (Some meter)
      → (events : List Event) × Remembers events [] meter.store → ((events : List Event) → Remembers events [] meter.store → Stands meter (recovered events))
      → AppendsPart old new open_line → (honest : Bool) (w : MeterWorld) (bytes : List ℕ) → IsLeft honest before (Some w) → DidPart honest old new w bytes Open before (Some meter)
  open_part old new before meter is closed settled opens opened stands part honest w bytes left =
      subst (λ (m : Option (Meter P A ghosts)). DidPart honest old new w bytes Open m (Some meter)) (sym is)
      (told_part old new honest w bytes Open start meter (λ w' told does. ((refl, does), (λ h. h), λ h. h)) (open_did before meter is closed settled opens opened stands honest w bytes left) part)

  may_stay : (honest : Bool) (w : MeterWorld) (fault : OpenFault) → IsClosed start device → ((before : StoreWorld) → DeviceFits (ghosts.view device) before → IsRefusal fault) → IsAt honest start w → MayStayClosed honest fault
  may_stay false w fault closed refuses at = tt
  may_stay true w fault closed refuses at =
      elim (closed.run w.store at.1) [
        | inl gives ↦ refuses gives.now gives.fits
        | inr gives ↦ refuses gives.now gives.fits
      ]

  keeps_rules : (w : MeterWorld) → IsClosed start device → IsAt true start w → (ghosts.view device).honest ≡ true
  keeps_rules w closed at =
      elim (closed.run w.store at.1) [
        | inl gives ↦ honest_of (ghosts.view device) gives.now gives.fits
        | inr gives ↦ honest_of (ghosts.view device) gives.now gives.fits
      ]

  abbrev pub not_recovered : (fault : OpenFault) (back : P) → IsClosed start device → IsRefused (ghosts.view device) (ghosts.view back) fault → IsGone (Some start) fault
  not_recovered fault back closed refused = record { old = start; reaches = Here; device = device; closed = closed; back = back; refused = refused }

  may_lack : (honest : Bool) (w : MeterWorld) (fault : OpenFault) (back : P) → (closed : IsClosed start device) (refused : IsRefused (ghosts.view device) (ghosts.view back) fault) → MayStayClosed honest fault → IsAt honest start w
      → LacksMemory honest fault ⊎ MeetsFault (Some start) None
  may_lack true w fault back closed refused may at =
      well_or (λ (h : fault ≡ opening.Memory). h) (λ ill. InOpen fault (not_recovered fault back closed refused) Here ill) (lacks_memory (ghosts.view device) (ghosts.view back) fault refused may (keeps_rules w closed at))
  may_lack false w fault back closed refused may at =
      well_or (λ (h : fault ≢ opening.Device). h) (λ ill. InOpen fault (not_recovered fault back closed refused) Here ill) (no_fault_told (ghosts.view device) (ghosts.view back) fault refused)

  abbrev stays_closed : (fault : OpenFault) (back : P) → IsClosed start device → IsRefused (ghosts.view device) (ghosts.view back) fault → StaysClosed start fault
  stays_closed fault back closed refused = record { device = device; closed = closed; back = back; refused = refused }

  pub gone_told : (Told : List ℕ → Type 0) (before after : Option (Meter P A ghosts)) (fault : OpenFault) (back : P) → before ≡ Some start → after ≡ None → IsClosed start device
      → ((world : StoreWorld) → DeviceFits (ghosts.view device) world → GivesBack world (ghosts.view device) (ghosts.view back) fault) → IsRefused (ghosts.view device) (ghosts.view back) fault → Told (open_fault_line fault)
      → (honest : Bool) (w : MeterWorld) → IsLeft honest before (Some w) → Gone honest Told Open before after
  gone_told Told before after fault back is none closed gives refused told honest w left =
      let at : IsAt honest start w = subst (λ (m : Option (Meter P A ghosts)). IsLeft honest m (Some w)) is left in
      let may : MayStayClosed honest fault = may_stay honest w fault closed (λ world fits. (gives world fits).cause) at in
      subst (λ (m : Option (Meter P A ghosts)). Gone honest Told Open m after) (sym is)
      (subst (λ (m : Option (Meter P A ghosts)). Gone honest Told Open (Some start) m) (sym none)
      (record { opens = refl; fault = fault; may = may; old = start; is = refl; stays = stays_closed fault back closed refused; gone = not_recovered fault back closed refused; lacks = may_lack honest w fault back closed refused may at; none = tt; told = told }))

-- ---- the lines of a text

-- known bytes are those of the lines that are done, and of the rest
abbrev pub CutAt : Option (List ℕ) → Option (List ℕ) → List (List ℕ) → Type 0
CutAt None rest done = ⊤
CutAt (Some text) None done = ⊥
CutAt (Some text) (Some rest) done = lines_of text ≡ done ++ lines_of rest

cut_start : (text : Option (List ℕ)) → CutAt text text []
cut_start None = tt
cut_start (Some text) = refl

cut_line : (a b c : Option (List ℕ)) (done : List (List ℕ)) (line : List ℕ) → CutAt a b done → LosesLine b c line → CutAt a c (done ++ line ∷ [])
cut_line None b c done line cut loses = tt
cut_line (Some text) None c done line cut loses = absurd cut
cut_line (Some text) (Some rest) None done line cut loses = absurd loses
cut_line (Some text) (Some rest) (Some left) done line cut loses = cut ∙ ap (λ (ls : List (List ℕ)). done ++ ls) loses ∙ sym (append_assoc done (line ∷ []) (lines_of left))

-- if there is a meter, it is this one
there : {P A : Type 0} {ghosts : Ghosts P} (honest : Bool) (meter : Option (Meter P A ghosts)) (w : MeterWorld) → IsLeft honest meter (Some w) → (is : Meter P A ghosts) × (meter ≡ Some is)
there honest None w left = absurd left
there honest (Some meter) w left = (meter, refl)

both_there : {P A : Type 0} {ghosts : Ghosts P} (Is : Meter P A ghosts → Meter P A ghosts → Type 0) (a b : Option (Meter P A ghosts)) → AreBoth Is a b
    → (x : Meter P A ghosts) × (y : Meter P A ghosts) × (a ≡ Some x) × (b ≡ Some y) × Is x y
both_there Is None b h = absurd h
both_there Is (Some x) None h = absurd h
both_there Is (Some x) (Some y) h = (x, y, refl, refl, h)

same_meter : {M : Type 0} {x y : M} → Some x ≡ Some y → x ≡ y
same_meter e = cc

-- such a replay, which goes well if this is true
abbrev ReplaysFor : {P A : Type 0} → {ghosts : Ghosts P} → Type 0 → Bool → MeterWorld → ℕ → List (List ℕ) → List ℕ → End → Option MeterWorld → (start : Meter P A ghosts) (finish : Option (Meter P A ghosts)) → Type 0
ReplaysFor H honest w number lines written end last start finish =
    (replays : Replays honest w number lines written end last) × (H → GoesWell honest w number lines written end last replays) × ReplayCalls honest w number lines written end last replays start finish

-- a line that was done, before other lines
line_first : {P A : Type 0} {ghosts : Ghosts P} (H : Type 0) (honest : Bool) (w w' : MeterWorld) (number : ℕ) (line bytes first : List ℕ) (order : Order) (lines : List (List ℕ)) (rest : List ℕ) (end : End) (last : Option MeterWorld)
    (start mid : Meter P A ghosts) (finish : Option (Meter P A ghosts)) → length line ≤ 8192 → Spells line bytes order → (does : Does honest w bytes order w' first) → (H → LineGoesWell honest w bytes order w' first does)
    → LineCalls honest w bytes order w' first does start mid → IsAt honest mid w'
    → ReplaysFor H honest w' (number + 1) lines rest end last mid finish → ReplaysFor H honest w number (line ∷ lines) (first ++ rest) end last start finish
line_first H honest w w' number line bytes first order lines rest end last start mid finish short spells does well calls at more =
    (inr (inr (short, bytes, order, w', first, rest, spells, does, more.0, refl)), (λ h. (well h, more.1 h)), (mid, calls, at, more.2))

numbered : (number : ℕ) (line : List ℕ) (lines : List (List ℕ)) → number + length (line ∷ lines) ≡ number + 1 + length lines
numbered number line lines = omega arith

-- lines that were done, and those after them
run_on : {P A : Type 0} {ghosts : Ghosts P} (H : Type 0) (honest : Bool) (done lines : List (List ℕ)) (w m : MeterWorld) (number : ℕ) (written more : List ℕ) (end : End) (last : Option MeterWorld) (a b : Meter P A ghosts) (finish : Option (Meter P A ghosts))
    → ReplaysFor H honest w number done written Whole (Some m) a (Some b) → ReplaysFor H honest m (number + length done) lines more end last b finish
    → ReplaysFor H honest w number (done ++ lines) (written ++ more) end last a finish
run_on H honest [] lines w m number written more end last a b finish ((nothing, whole, same), well, is) rest =
    let here : m ≡ w = cc in
    let first : number + 0 ≡ number = omega arith in
    subst (λ (t : List ℕ). ReplaysFor H honest w number lines (t ++ more) end last a finish) (sym nothing)
    (subst (λ (x : _). ReplaysFor H honest w number lines more end last x finish) (same_meter is)
    (subst (λ (v : MeterWorld). ReplaysFor H honest v number lines more end last b finish) here
    (subst (λ (n : ℕ). ReplaysFor H honest m n lines more end last b finish) first rest)))
run_on H honest (line ∷ done) lines w m number written more end last a b finish (inl bad, well, calls) rest = absurd (cc bad.2)
run_on H honest (line ∷ done) lines w m number written more end last a b finish (inr (inl gone), well, calls) rest = absurd (cc gone.5)
run_on H honest (line ∷ done) lines w m number written more end last a b finish (inr (inr (short, bytes, order, w', first, others, spells, does, replays, joins)), well, (mid, calls, at, others_calls)) rest =
    let behind = run_on H honest done lines w' m (number + 1) others more end last mid b finish (replays, (λ h. (well h).1), others_calls)
    (subst (λ (n : ℕ). ReplaysFor H honest m n lines more end last b finish) (numbered number line done) rest) in
    let text : first ++ (others ++ more) ≡ written ++ more = sym (append_assoc first others more) ∙ ap (λ (t : List ℕ). t ++ more) (sym joins) in
    subst (λ (t : List ℕ). ReplaysFor H honest w number (line ∷ (done ++ lines)) t end last a finish) text
    (line_first H honest w w' number line bytes first order (done ++ lines) (others ++ more) end last a mid finish short spells does (λ h. (well h).0) calls at behind)

-- what has been replayed so far
abbrev pub ReplayedSoFar : {P A : Type 0} → {ghosts : Ghosts P} → Option (List ℕ) → Option (List ℕ) → Option (Meter P A ghosts) → Option (Meter P A ghosts) → Option (List ℕ) → Option (List ℕ) → ℕ → Type 0
ReplayedSoFar old now start meter text rest number = (honest : Bool) (w : MeterWorld) → IsLeft honest start (Some w) → (m : MeterWorld) × (written : List ℕ) × (done : List (List ℕ)) × IsLeft honest meter (Some m)
    × Appends old now written × ReplaysOn honest w 1 done written Whole (Some m) start meter × Reaches start meter × CutAt text rest done × (length done + 1 ≡ number)

-- no line, on a meter that is there
no_line : {P A : Type 0} {ghosts : Ghosts P} (honest : Bool) (w : MeterWorld) (number : ℕ) (meter : Option (Meter P A ghosts)) → IsLeft honest meter (Some w) → ReplaysOn honest w number [] [] Whole (Some w) meter meter
no_line honest w number meter at =
    let is = there honest meter w at in
    record { run = ((refl, refl, refl), λ running. inl tt); first = is.0; is = is.1; calls = is.1 }

pub replay_start : {P A : Type 0} {ghosts : Ghosts P} (contents : Option (List ℕ)) (meter : Option (Meter P A ghosts)) (text : Option (List ℕ)) → ReplayedSoFar contents contents meter meter text text 1
replay_start contents meter text = λ honest w at. (w, [], [], at, appends_none contents, no_line honest w 1 meter at, Here, cut_start text, refl)

-- both go well, or one of them met a fault
both_or : (H X Y A B C : Type 0) → (X → Y → H) → (A → C) → (B → C) → X ⊎ A → (X → Y ⊎ B) → H ⊎ C
both_or H X Y A B C both first last (inl x) second = well_or (both x) last (second x)
both_or H X Y A B C both first last (inr a) second = inr (first a)

-- lines that were done, and those after them, on one meter
done_then : {P A : Type 0} {ghosts : Ghosts P} (start meter meter' : Option (Meter P A ghosts)) (honest : Bool) (done lines : List (List ℕ)) (w m : MeterWorld) (number : ℕ) (written more : List ℕ) (end : End) (last : Option MeterWorld)
    → Reaches start meter → Reaches meter meter' → length done + 1 ≡ number
    → ReplaysOn honest w 1 done written Whole (Some m) start meter → ReplaysOn honest m number lines more end last meter meter'
    → ReplaysOn honest w 1 (done ++ lines) (written ++ more) end last start meter'
done_then start meter meter' honest done lines w m number written more end last before behind count first rest =
    let same : number ≡ 1 + length done = omega (arith, count) in
    let second = subst (λ (n : ℕ). ReplaysOn honest m n lines more end last meter meter') same rest in
    let X : Type 0 = GoesWell honest w 1 done written Whole (Some m) first.run.0 in
    let Y : Type 0 = GoesWell honest m (1 + length done) lines more end last second.run.0 in
    let H : Type 0 = X × Y in
    let calls = subst (λ (f : Option _). ReplayCalls honest w 1 done written Whole (Some m) first.run.0 first.first f) second.is first.calls in
    let all = run_on H honest done lines w m 1 written more end last first.first second.first meter' (first.run.0, (λ (h : H). h.0), calls) (second.run.0, (λ (h : H). h.1), second.calls) in
    record {
      run = (
        all.0,
        λ running.
            both_or (GoesWell honest w 1 (done ++ lines) (written ++ more) end last all.0) X Y (MeetsFault start meter) (MeetsFault meter meter') (MeetsFault start meter') (λ x y. all.1 (x, y))
            (fault_first start meter meter' behind) (fault_last start meter meter' before) (first.run.1 running) (λ x. second.run.1 (lines_run honest done w m 1 written first.run.0 x running)),
      );
      first = first.first;
      is = first.is;
      calls = all.2;
    }

pub replay_line : {P A : Type 0} {ghosts : Ghosts P} (old now new : Option (List ℕ)) (start meter meter' : Option (Meter P A ghosts)) (text rest left : Option (List ℕ)) (line bytes : List ℕ) (order : Order) (number : ℕ)
    → ReplayedSoFar old now start meter text rest number → LosesLine rest left line → length line ≤ 8192 → Spells line bytes order
    → ((honest : Bool) (w : MeterWorld) → IsLeft honest meter (Some w) → Did honest now new w bytes order meter meter') → ReplayedSoFar old new start meter' text left (number + 1)
replay_line old now new start meter meter' text rest left line bytes order number so_far loses short spells does = λ honest w at.
    let here = so_far honest w at in
    let did = does honest here.0 here.3 in
    let H : Type 0 = LineGoesWell honest here.0 bytes order did.world did.written did.does in
    let by = both_there (LineCalls honest here.0 bytes order did.world did.written did.does) meter meter' did.calls in
    let at_new : IsAt honest by.1 did.world = subst (λ (x : Option _). IsLeft honest x (Some did.world)) by.3 did.left in
    let one = subst (λ (t : List ℕ). ReplaysFor H honest here.0 number (line ∷ []) t Whole (Some did.world) by.0 meter') (append-nil did.written)
    (line_first H honest here.0 did.world number line bytes did.written order [] [] Whole (Some did.world) by.0 by.1 meter' short spells did.does (λ (h : H). h) by.4 at_new ((refl, refl, refl), (λ (h : H). tt), by.3)) in
    let alone : ReplaysOn honest here.0 number (line ∷ []) did.written Whole (Some did.world) meter meter' =
    record { run = (one.0, λ running. well_or {Y = GoesWell honest here.0 number (line ∷ []) did.written Whole (Some did.world) one.0} one.1 (λ (f : MeetsFault meter meter'). f) (did.well running)); first = by.0; is = by.2; calls = one.2 } in (
      did.world,
      here.1 ++ did.written,
      here.2 ++ line ∷ [],
      did.left,
      appends_more old now new here.1 did.written here.4 did.appends,
      done_then start meter meter' honest here.2 (line ∷ []) w here.0 number here.1 did.written Whole (Some did.world) here.6 did.reaches here.8 here.5 alone,
      joined start meter meter' here.6 did.reaches,
      cut_line text rest left here.2 line here.7 loses,
      omega (arith, here.8, length-append here.2 (line ∷ [])),
    )

-- The end of the whole: from here the rest of the text writes this and comes to this end.
wrote : {P A : Type 0} {ghosts : Ghosts P} (honest : Bool) (text rest : Option (List ℕ)) (w m : MeterWorld) (written more : List ℕ) (done : List (List ℕ)) (number : ℕ) (end : End) (last : Option MeterWorld) (old now new : Option (List ℕ)) (start meter meter' : Option (Meter P A ghosts))
    → Reaches start meter → Reaches meter meter' → length done + 1 ≡ number → CutAt text rest done → ReplaysOn honest w 1 done written Whole (Some m) start meter
    → Appends old now written → Appends now new more → IsLeft honest meter' last
    → (lines : List (List ℕ)) × ReplaysOn honest m number lines more end last meter meter'
    → ((known : List ℕ) → rest ≡ Some known → ReplaysOn honest m number (lines_of known) more end last meter meter') → Ended honest old new w text end start meter'
wrote honest None rest w m written more done number end last old now new start meter meter' before behind count cut are appends appends' left some ends = (
  done ++ some.0,
  (written ++ more, last, appends_more old now new written more appends appends', done_then start meter meter' honest done some.0 w m number written more end last before behind count are some.1, left),
)
wrote honest (Some text) None w m written more done number end last old now new start meter meter' before behind count cut are appends appends' left some ends = absurd cut
wrote honest (Some text) (Some rest) w m written more done number end last old now new start meter meter' before behind count cut are appends appends' left some ends = (
  written ++ more,
  last,
  appends_more old now new written more appends appends',
  subst (λ (ls : List (List ℕ)). ReplaysOn honest w 1 ls (written ++ more) end last start meter') (sym cut)
      (done_then start meter meter' honest done (lines_of rest) w m number written more end last before behind count are (ends rest refl)),
  left,
)

known_end : (rest : Option (List ℕ)) (known : List ℕ) → IsAtEnd rest → rest ≡ Some known → known ≡ []
known_end None known at_end e = cc
known_end (Some xs) known at_end e = let same : xs ≡ known = cc in sym same ∙ at_end

pub replay_end : {P A : Type 0} {ghosts : Ghosts P} (old now : Option (List ℕ)) (start meter : Option (Meter P A ghosts)) (text rest : Option (List ℕ)) (number : ℕ)
    → ReplayedSoFar old now start meter text rest number → IsAtEnd rest → (honest : Bool) (w : MeterWorld) → IsLeft honest start (Some w) → Ended honest old now w text Whole start meter
replay_end old now start meter text rest number so_far at_end honest w at =
    let here = so_far honest w at in
    wrote honest text rest w here.0 here.1 [] here.2 number Whole (Some here.0) old now now start meter meter here.6 Here here.8 here.7 here.5 here.4 (appends_none now) here.3
    ([], no_line honest here.0 number meter here.3)
    (λ known is. subst (λ (r : List ℕ). ReplaysOn honest here.0 number (lines_of r) [] Whole (Some here.0) meter meter) (sym (known_end rest known at_end is)) (no_line honest here.0 number meter here.3))

-- the first line of a reader's known bytes is bad, or there is a bad line if they are not known
abbrev pub BeginsBad : Option (List ℕ) → Type 0
BeginsBad None = (line : List ℕ) × IsBad line
BeginsBad (Some rest) = (line : List ℕ) × (more : List (List ℕ)) × (lines_of rest ≡ line ∷ more) × IsBad line

pub unknown_first : (rest left : Option (List ℕ)) (line : List ℕ) → LosesLine rest left line → ((bytes : List ℕ) (order : Order) → Spells line bytes order → ⊥) → BeginsBad rest
unknown_first None left line loses none = (line, inr none)
unknown_first (Some rest) None line loses none = absurd loses
unknown_first (Some rest) (Some left) line loses none = (line, lines_of left, loses, inr none)

longer : (most : ℕ) → (line : List ℕ) × (most < length line)
longer most = (replicate (most + 1) 0, omega (arith, length-replicate {A = ℕ} (most + 1) 0))

pub long_first : (rest : Option (List ℕ)) → HasLongLine rest 8192 → BeginsBad rest
long_first None long = (let some = longer 8192 in (some.0, inl some.1))
long_first (Some rest) long = (long.0, long.1, long.2, inl long.3)

-- a bad line on a meter that is there
bad_line : {P A : Type 0} {ghosts : Ghosts P} (honest : Bool) (m : MeterWorld) (number : ℕ) (line : List ℕ) (lines : List (List ℕ)) (meter : Option (Meter P A ghosts)) → IsBad line → IsLeft honest meter (Some m)
    → ReplaysOn honest m number (line ∷ lines) [] (Bad number) (Some m) meter meter
bad_line honest m number line lines meter bad at =
    let is = there honest meter m at in
    record { run = (inl (bad, refl, refl, refl), λ running. inl tt); first = is.0; is = is.1; calls = is.1 }

bad_known : {P A : Type 0} {ghosts : Ghosts P} (honest : Bool) (m : MeterWorld) (number : ℕ) (meter : Option (Meter P A ghosts)) (rest : Option (List ℕ)) → IsLeft honest meter (Some m) → BeginsBad rest → (known : List ℕ) → rest ≡ Some known
    → ReplaysOn honest m number (lines_of known) [] (Bad number) (Some m) meter meter
bad_known honest m number meter None at bad known is = absurd (cc is)
bad_known honest m number meter (Some rest) at bad known is =
    let same : rest ≡ known = cc in
    subst (λ (t : List ℕ). ReplaysOn honest m number (lines_of t) [] (Bad number) (Some m) meter meter) same
    (subst (λ (ls : List (List ℕ)). ReplaysOn honest m number ls [] (Bad number) (Some m) meter meter) (sym bad.2) (bad_line honest m number bad.0 bad.1 meter bad.3 at))

bad_some : {P A : Type 0} {ghosts : Ghosts P} (honest : Bool) (m : MeterWorld) (number : ℕ) (meter : Option (Meter P A ghosts)) (rest : Option (List ℕ)) → IsLeft honest meter (Some m) → BeginsBad rest
    → (lines : List (List ℕ)) × ReplaysOn honest m number lines [] (Bad number) (Some m) meter meter
bad_some honest m number meter None at bad = (bad.0 ∷ [], bad_line honest m number bad.0 [] meter bad.1 at)
bad_some honest m number meter (Some rest) at bad = (bad.0 ∷ bad.1, bad_line honest m number bad.0 bad.1 meter bad.3 at)

pub replay_bad : {P A : Type 0} {ghosts : Ghosts P} (old now : Option (List ℕ)) (start meter : Option (Meter P A ghosts)) (text rest : Option (List ℕ)) (number : ℕ)
    → ReplayedSoFar old now start meter text rest number → BeginsBad rest → (honest : Bool) (w : MeterWorld) → IsLeft honest start (Some w) → Ended honest old now w text (Bad number) start meter
replay_bad old now start meter text rest number so_far bad honest w at =
    let here = so_far honest w at in
    wrote honest text rest w here.0 here.1 [] here.2 number (Bad number) (Some here.0) old now now start meter meter here.6 Here here.8 here.7 here.5 here.4 (appends_none now) here.3
    (bad_some honest here.0 number meter rest here.3 bad) (bad_known honest here.0 number meter rest here.3 bad)

-- a line that closed the meter
gone_known : {P A : Type 0} {ghosts : Ghosts P} (honest : Bool) (m : MeterWorld) (number : ℕ) (meter meter' : Option (Meter P A ghosts)) (rest left : Option (List ℕ)) (line written : List ℕ) (end : End) → LosesLine rest left line
    → ((lines : List (List ℕ)) → ReplaysOn honest m number (line ∷ lines) written end None meter meter') → (known : List ℕ) → rest ≡ Some known → ReplaysOn honest m number (lines_of known) written end None meter meter'
gone_known honest m number meter meter' None left line written end loses here known is = absurd (cc is)
gone_known honest m number meter meter' (Some rest) None line written end loses here known is = absurd loses
gone_known honest m number meter meter' (Some rest) (Some left) line written end loses here known is =
    let same : rest ≡ known = cc in
    subst (λ (t : List ℕ). ReplaysOn honest m number (lines_of t) written end None meter meter') same
    (subst (λ (ls : List (List ℕ)). ReplaysOn honest m number ls written end None meter meter') (sym loses) (here (lines_of left)))

no_meter : {P A : Type 0} {ghosts : Ghosts P} (honest : Bool) (meter : Option (Meter P A ghosts)) → IsLeft honest meter None → meter ≡ None
no_meter honest None left = refl
no_meter honest (Some meter) left = absurd left

pub replay_gone : {P A : Type 0} {ghosts : Ghosts P} (old now new : Option (List ℕ)) (start meter meter' : Option (Meter P A ghosts)) (text rest left : Option (List ℕ)) (line bytes : List ℕ) (order : Order) (number : ℕ)
    → ReplayedSoFar old now start meter text rest number → LosesLine rest left line → Spells line bytes order
    → ((honest : Bool) (w : MeterWorld) → IsLeft honest meter (Some w) → Gone honest (Appends now new) order meter meter')
    → (honest : Bool) (w : MeterWorld) → IsLeft honest start (Some w) → (fault : OpenFault) × IsGone start fault × Ended honest old new w text (Closed fault) start meter'
replay_gone old now new start meter meter' text rest left line bytes order number so_far loses spells gone honest w at =
    let here = so_far honest w at in
    let went = gone honest here.0 here.3 in
    let opens : Spells line bytes Open = subst (λ (o : Order). Spells line bytes o) went.opens spells in
    let none = no_meter honest meter' went.none in
    let way : Reaches meter meter' = subst (λ (m : Option _). Reaches meter m) (sym none) (gone_reaches meter went.fault went.gone) in
    let ends : (lines : List (List ℕ)) → ReplaysOn honest here.0 number (line ∷ lines) (open_fault_line went.fault) (Closed went.fault) None meter meter' = λ lines.
    record {
      run = (inr (inl (bytes, opens, went.fault, went.may, refl, refl, refl)), λ running. well_or (λ (h : LacksMemory honest went.fault). h) (λ (f : MeetsFault meter meter'). f) went.lacks);
      first = went.old;
      is = went.is;
      calls = (went.stays, none);
    } in (
      went.fault,
      gone_behind start meter went.fault here.6 went.gone,
      wrote honest text rest w here.0 here.1 (open_fault_line went.fault) here.2 number (Closed went.fault) None old now new start meter meter' here.6 way here.8 here.7 here.5 here.4 went.told went.none
          (line ∷ [], ends []) (gone_known honest here.0 number meter meter' rest left line (open_fault_line went.fault) (Closed went.fault) loses ends),
    )

-- ---- a replay that is broken off

read_part : {P A : Type 0} {ghosts : Ghosts P} (honest : Bool) (old now : Option (List ℕ)) (start meter : Option (Meter P A ghosts)) (w m : MeterWorld) (text rest left : Option (List ℕ)) (written part : List ℕ) (done : List (List ℕ))
    → IsLeft honest meter (Some m) → Appends old now written → ReplaysOn honest w 1 done written Whole (Some m) start meter → CutAt text rest done → LosesPart rest left part
    → IfKnown text left (λ text left. ReadNoMore honest old now w text left start meter)
read_part honest old now start meter w m None rest left written part done at appends are cut loses = tt
read_part honest old now start meter w m (Some text) None left written part done at appends are cut loses = absurd cut
read_part honest old now start meter w m (Some text) (Some rest) None written part done at appends are cut loses = absurd loses.0
read_part honest old now start meter w m (Some text) (Some rest) (Some left) written part done at appends are cut loses = record {
  done = done;
  part = part;
  cut = cut ∙ ap (λ (t : List ℕ). done ++ lines_of t) loses.0;
  no_feed = loses.1;
  world = m;
  written = written;
  are = are;
  left_is = at;
  appends = appends;
}

-- the reader gave no more
pub replay_cut : {P A : Type 0} {ghosts : Ghosts P} (old now : Option (List ℕ)) (start meter : Option (Meter P A ghosts)) (text rest left : Option (List ℕ)) (part : List ℕ) (number : ℕ)
    → ReplayedSoFar old now start meter text rest number → LosesPart rest left part
    → (honest : Bool) (w : MeterWorld) → IsLeft honest start (Some w) → IfKnown text left (λ text left. ReadNoMore honest old now w text left start meter)
replay_cut old now start meter text rest left part number so_far loses honest w at =
    let here = so_far honest w at in
    read_part honest old now start meter w here.0 text rest left here.1 part here.2 here.3 here.4 here.5 here.7 loses

used_part : {P A : Type 0} {ghosts : Ghosts P} (honest : Bool) (old now : Option (List ℕ)) (start meter : Option (Meter P A ghosts)) (w m : MeterWorld) (text rest : Option (List ℕ)) (written : List ℕ) (done : List (List ℕ))
    → IsLeft honest meter (Some m) → Appends old now written → ReplaysOn honest w 1 done written Whole (Some m) start meter → CutAt text rest done → length done ≡ 2 ^ 32 - 1
    → IfKnown text rest (λ text left. LinesUsedUp honest old now w text left start meter)
used_part honest old now start meter w m None rest written done at appends are cut many = tt
used_part honest old now start meter w m (Some text) None written done at appends are cut many = absurd cut
used_part honest old now start meter w m (Some text) (Some rest) written done at appends are cut many = record {
  read = record { done = done; part = []; cut = cut; no_feed = tt; world = m; written = written; are = are; left_is = at; appends = appends };
  none = refl;
  many = many;
}

-- the lines were used up
pub replay_used : {P A : Type 0} {ghosts : Ghosts P} (old now : Option (List ℕ)) (start meter : Option (Meter P A ghosts)) (text rest : Option (List ℕ)) (number : ℕ)
    → ReplayedSoFar old now start meter text rest number → number ≡ 2 ^ 32
    → (honest : Bool) (w : MeterWorld) → IsLeft honest start (Some w) → IfKnown text rest (λ text left. LinesUsedUp honest old now w text left start meter)
replay_used old now start meter text rest number so_far last honest w at =
    let here = so_far honest w at in
    used_part honest old now start meter w here.0 text rest here.1 here.2 here.3 here.4 here.5 here.7 (omega (arith, here.8, last))

written_part : {P A : Type 0} {ghosts : Ghosts P} (honest : Bool) (old now new : Option (List ℕ)) (start behind meter : Option (Meter P A ghosts)) (w m : MeterWorld) (text rest left : Option (List ℕ)) (written line bytes : List ℕ) (order : Order) (done : List (List ℕ))
    → Reaches start behind → Appends old now written → ReplaysOn honest w 1 done written Whole (Some m) start behind → CutAt text rest done → LosesLine rest left line → length line ≤ 8192 → Spells line bytes order
    → Followed honest now new m bytes order (Err Io) behind meter → IfKnown text left (λ text left. WroteNoMore honest old new w text left start meter)
written_part honest old now new start behind meter w m None rest left written line bytes order done reaches appends are cut loses short spells breaks = tt
written_part honest old now new start behind meter w m (Some text) None left written line bytes order done reaches appends are cut loses short spells breaks = absurd cut
written_part honest old now new start behind meter w m (Some text) (Some rest) None written line bytes order done reaches appends are cut loses short spells breaks = absurd loses
written_part honest old now new start behind meter w m (Some text) (Some rest) (Some left) written line bytes order done reaches appends are cut loses short spells breaks = record {
  done = done;
  line = line;
  cut = cut ∙ ap (λ (ls : List (List ℕ)). done ++ ls) loses;
  world = m;
  written = written;
  behind = behind;
  reaches = reaches;
  are = are;
  mid = now;
  appends = appends;
  bytes = bytes;
  order = order;
  spells = spells;
  short = short;
  breaks = breaks;
}

-- an order that ended the replay
pub replay_fault : {P A : Type 0} {ghosts : Ghosts P} (reads reads' writes mid writes' : Option Calls) (old now new : Option (List ℕ)) (start meter meter' : Option (Meter P A ghosts)) (text rest left : Option (List ℕ)) (line bytes : List ℕ) (order : Order) (number : ℕ) (fault : ReplayFault)
    → Passes 0 reads reads' → Passes 0 writes mid → Told {T = Unit {0}} mid writes' (Err fault)
    → ReplayedSoFar old now start meter text rest number → LosesLine rest left line → length line ≤ 8192 → Spells line bytes order
    → ((honest : Bool) (w : MeterWorld) → IsLeft honest meter (Some w) → Followed honest now new w bytes order (Err fault) meter meter')
    → (honest : Bool) (w : MeterWorld) → IsLeft honest start (Some w) → WroteReplay honest reads reads' writes writes' old new w text left (Err fault) start meter'
replay_fault reads reads' writes mid writes' old now new start meter meter' text rest left line bytes order number (Line n) read wrote told so_far loses short spells followed honest w at =
    let here = so_far honest w at in absurd (followed honest here.0 here.3)
replay_fault reads reads' writes mid writes' old now new start meter meter' text rest left line bytes order number Io read wrote told so_far loses short spells followed honest w at =
    let here = so_far honest w at in
    let breaks = written_part honest old now new start meter meter' w here.0 text rest left here.1 line bytes order here.2 here.6 here.4 here.5 here.7 loses short spells (followed honest here.0 here.3) in
    inr (inl (read, told_behind writes mid writes' Io wrote told, breaks))
replay_fault reads reads' writes mid writes' old now new start meter meter' text rest left line bytes order number Memory read wrote told so_far loses short spells followed honest w at =
    let here = so_far honest w at in absurd (followed honest here.0 here.3)
replay_fault reads reads' writes mid writes' old now new start meter meter' text rest left line bytes order number Recovery read wrote told so_far loses short spells followed honest w at =
    let gone = replay_gone old now new start meter meter' text rest left line bytes order number so_far loses spells followed honest w at in
    (read, told_behind writes mid writes' Recovery wrote told, gone.0, gone.1, gone.2)
