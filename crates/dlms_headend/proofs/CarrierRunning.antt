-- A run of a poll over a carrier is a run of its carrier.
use Rattle.std.proofs.Common.{◌≡◌, ◌∙◌, refl, sym, ap, subst, inl, inr, ℕ, Bool, true, false, List, [], ◌∷◌, ◌++◌, append-nil, append_assoc, take, Option, Some, None, option_map, Result, Ok, Err}
use Rattle.std.proofs.lemmas.List.Elements.{filter_map-append}
use Rattle.std.proofs.lemmas.List.Concat.{flat_map-append}
use Rattle.dlms_carrier.specs.Carrying.{Input, Begin as BeginOf, Give, Feed as FeedOf, Wait as WaitOf, End, Call as CarrierCall, Runs as CarrierRuns, handed_at, read, read_by, Meaning}
use Rattle.dlms_carrier.specs.declared.event.Event.{Event}
use Rattle.dlms_carrier.specs.declared.event.Event.TheVariants as event
use Rattle.dlms_headend.specs.CarrierPollValue.{CarrierPollValue, TermsValue, requests_of}
use Rattle.dlms_headend.specs.CarrierPolling.{AsksNext, BeginsBy, ComesBy, ComesUp, Drops, Fails, FailsAtAnswer, FeedsIn, Fits, FitsIn, GoesOn, HasAll, Hears, IsAsking, IsDone, IsUnderWay, IsUnderWayIn, Leaves, LeavesBy, Opens, Stays, Stops, TakesOver, TimesOutBy, Waits, fresh_over}
use Rattle.dlms_headend.specs.CarrierPolling.ComesUp.{IsOpened, IsUpAlready}
use Rattle.dlms_headend.specs.CarrierPolling.TakesOver.{IsTaken, IsNoRelease, EndsIt, IsUnasked}
use Rattle.dlms_headend.specs.CarrierPolling.Stops.{IsEnough, IsTooFew}
use Rattle.dlms_headend.specs.CarrierPolling.Waits.{HasFailed, NoneIsOut, IsAwaited}
use Rattle.dlms_headend.specs.CarrierRun.{AreDone, AreShares, ReturnsDone, Beside, Call, Begin, Feed, Wait, InTurn, IsCall, IsShare, Passage, Request, Answer, PollsLead, Runs, answer_in, answers, carried_in, octets_of, passage_by, passages, passed}
use Rattle.dlms_headend.specs.Due.{AsksFor, Requests}
use Rattle.dlms_headend.specs.Due.AsksFor.{Associates}
use Rattle.dlms_headend.specs.Poll.{HasPolled, HasReleased}
use Rattle.dlms_headend.specs.Talk.{CanTake, FitsTalk, IsLate, fresh_talk}
use Rattle.dlms_headend.specs.TalkValue.{TalkValue}
use Rattle.dlms_headend.specs.declared.poll_fault.PollFault.{PollFault}
use Rattle.dlms_headend.specs.declared.poll_fault.PollFault.TheVariants.{Line, Protocol}
use Rattle.dlms_headend.specs.declared.row.Row.{Row}
use Rattle.dlms_headend.specs.declared.stage.PollCourse.{PollCourse}
use Rattle.dlms_headend.specs.declared.stage.PollCourse.TheVariants.{Ready, Connecting, Running, Done, Failed}
use Rattle.dlms_headend.specs.declared.stage.Stage.{Stage}
use Rattle.dlms_headend.specs.declared.stage.Stage.TheVariants.{Associating, Naming, Getting, Checking, Releasing, Leaving}
use Rattle.dlms_headend.specs.declared.step.PollOutcome.{PollOutcome}
use Rattle.dlms_headend.specs.declared.step.PollOutcome.TheVariants as outcome
use Rattle.dlms_headend.proofs.CarrierLemmas.{all_polled, fits_in, more_polled, released_polled}
use Rattle.dlms_headend.proofs.Told.{stage_told}

-- ---- whose turn it is

abbrev asking_at : Stage → Bool
asking_at Associating = true
asking_at Naming = true
asking_at (Getting taken) = true
asking_at Checking = true
asking_at Releasing = true
asking_at Leaving = false

abbrev asking_in : PollCourse → Stage → Bool
asking_in Ready stage = false
asking_in Connecting stage = false
asking_in Running stage = asking_at stage
asking_in Done stage = false
asking_in (Failed fault) stage = false

abbrev asking : {C : Type 0} → CarrierPollValue C → Bool
asking p = asking_in p.course p.talk.stage

can_take_asks : (stage : Stage) → CanTake stage → asking_at stage ≡ true
can_take_asks Associating h = refl
can_take_asks Naming h = refl
can_take_asks (Getting taken) h = refl
can_take_asks Checking h = refl
can_take_asks Releasing h = refl
can_take_asks Leaving h = absurd h

is_asking : {C : Type 0} (p : CarrierPollValue C) → IsAsking p → asking p ≡ true
is_asking p h = ap (λ (course : PollCourse). asking_in course p.talk.stage) h.running ∙ can_take_asks p.talk.stage h.awaits

not_asking_in : (course : PollCourse) (stage : Stage) → (course ≡ Running → CanTake stage → ⊥) → asking_in course stage ≡ false
not_asking_in Ready stage never = refl
not_asking_in Connecting stage never = refl
not_asking_in Running Associating never = absurd (never refl tt)
not_asking_in Running Naming never = absurd (never refl tt)
not_asking_in Running (Getting taken) never = absurd (never refl tt)
not_asking_in Running Checking never = absurd (never refl tt)
not_asking_in Running Releasing never = absurd (never refl tt)
not_asking_in Running Leaving never = refl
not_asking_in Done stage never = refl
not_asking_in (Failed fault) stage never = refl

not_asking : {C : Type 0} (p : CarrierPollValue C) → (IsAsking p → ⊥) → asking p ≡ false
not_asking p never = not_asking_in p.course p.talk.stage (λ running awaits. never (record { running = running; awaits = awaits }))

-- a poll whose release was answered asks no more
released_not_asking : {C : Type 0} (p : CarrierPollValue C) (apdus : List (List ℕ)) (rows : List Row) → Fits p apdus → HasReleased p.terms.columns apdus rows → IsAsking p → ⊥
released_not_asking p apdus rows fits released h =
    let there : FitsTalk p.terms.columns p.talk apdus = subst (λ (course : PollCourse). FitsIn course p apdus) h.running fits in
    subst CanTake (stage_told p.terms.columns p.talk.stage p.talk.blocks p.talk.rows rows apdus there released).0 h.awaits

-- ---- after a fault, and once the poll is done, nothing passes

abbrev IsLast : PollCourse → List Passage → Type 0
IsLast Ready rest = Unit {0}
IsLast Connecting rest = Unit {0}
IsLast Running rest = Unit {0}
IsLast Done rest = rest ≡ []
IsLast (Failed fault) rest = rest ≡ []

none_last : (course : PollCourse) → IsLast course []
none_last Ready = tt
none_last Connecting = tt
none_last Running = tt
none_last Done = refl
none_last (Failed fault) = refl

under_way_last : (course : PollCourse) → IsUnderWayIn course → (rest : List Passage) → IsLast course rest
under_way_last Ready h rest = absurd h
under_way_last Connecting h rest = tt
under_way_last Running h rest = tt
under_way_last Done h rest = absurd h
under_way_last (Failed fault) h rest = absurd h

-- ---- the calls of the carrier

carrier_append : {C : Type 0} (m : Meaning C) (xs ys : List CarrierCall) (a b c : C) → CarrierRuns m.steps m.out_of m.apdu_of a xs b → CarrierRuns m.steps m.out_of m.apdu_of b ys c
    → CarrierRuns m.steps m.out_of m.apdu_of a (xs ++ ys) c
carrier_append {C} m [] ys a b c h k = subst (λ (x : C). CarrierRuns m.steps m.out_of m.apdu_of x ys c) h k
carrier_append m (x ∷ xs) ys a b c h k = (h.0, h.1, carrier_append m xs ys h.0 b c h.2 k)

abbrev carrier_call : {C : Type 0} → Meaning C → Input → Event → C → CarrierCall
carrier_call m input event new = record { input = input; event = event; out = m.out_of new; apdu = m.apdu_of new }

one_call : {C : Type 0} (m : Meaning C) (old : C) (input : Input) (event : Event) (new : C) → m.steps old input event new → CarrierRuns m.steps m.out_of m.apdu_of old (carrier_call m input event new ∷ []) new
one_call m old input event new h = (new, record { step = h; out = refl; apdu = refl }, refl)

two_calls : {C : Type 0} (m : Meaning C) (old : C) (input : Input) (event : Event) (mid : C) (then : Input) (next : Event) (new : C) → m.steps old input event mid → m.steps mid then next new
    → CarrierRuns m.steps m.out_of m.apdu_of old (carrier_call m input event mid ∷ carrier_call m then next new ∷ []) new
two_calls m old input event mid then next new h k = (mid, record { step = h; out = refl; apdu = refl }, one_call m mid then next new k)

passages_append : (xs ys : List CarrierCall) → passages (xs ++ ys) ≡ passages xs ++ passages ys
passages_append xs ys = filter_map-append (λ (call : CarrierCall). passage_by call.input (handed_at call.event call.apdu)) xs ys

answers_append : (xs ys : List Passage) → answers (xs ++ ys) ≡ answers xs ++ answers ys
answers_append xs ys = filter_map-append answer_in xs ys

read_append : (xs ys : List CarrierCall) → read (xs ++ ys) ≡ read xs ++ read ys
read_append xs ys = flat_map-append (λ (call : CarrierCall). read_by call.input) xs ys

-- ---- one call of the poll

-- Calls of the carrier that lead from here to there, after these APDUs: the poll takes the answers in them, and what passes goes on in
-- turn after them.
record Piece {C : Type 0} (m : Meaning C) (taken : List (List ℕ)) (old : CarrierPollValue C) (bytes : List ℕ) (new : CarrierPollValue C) : Type 0 where
  carried : List CarrierCall
  passing : List Passage
  are : passages carried ≡ passing
  carrier : CarrierRuns m.steps m.out_of m.apdu_of old.carrier carried new.carrier
  octets : read carried ≡ bytes
  terms : new.terms ≡ old.terms
  takes : Fits new (taken ++ answers passing)
  turns : (rest : List Passage) → IsLast new.course rest → InTurn (requests_of old.terms) (taken ++ answers passing) (asking new) rest → InTurn (requests_of old.terms) taken (asking old) (passing ++ rest)
  quiet : (rest : List Passage) → IsLast new.course rest → IsLast old.course (passing ++ rest)

at_end : {C : Type 0} (m : Meaning C) (taken : List (List ℕ)) (old at new : CarrierPollValue C) (bytes : List ℕ) → new ≡ at → Piece m taken old bytes at → Piece m taken old bytes new
at_end {C} m taken old at new bytes e h = subst (λ (v : CarrierPollValue C). Piece m taken old bytes v) (sym e) h

-- a turn without an answer
same_turn : (r : Requests) (taken : List (List ℕ)) (old new : Bool) (rest : List Passage) → old ≡ new → InTurn r (taken ++ []) new rest → InTurn r taken old rest
same_turn r taken old new rest e h =
    subst (λ (awaits : Bool). InTurn r taken awaits rest) (sym e) (subst (λ (apdus : List (List ℕ)). InTurn r apdus new rest) (append-nil taken) h)

still_fits : {C : Type 0} (p : CarrierPollValue C) (taken : List (List ℕ)) → Fits p taken → Fits p (taken ++ [])
still_fits p taken fits = subst (λ (apdus : List (List ℕ)). Fits p apdus) (sym (append-nil taken)) fits

last_turn : (r : Requests) (taken : List (List ℕ)) (awaits : Bool) (rest : List Passage) → rest ≡ [] → InTurn r taken awaits rest
last_turn r taken awaits rest e = subst (λ (l : List Passage). InTurn r taken awaits l) (sym e) tt

nothing : {C : Type 0} (m : Meaning C) (taken : List (List ℕ)) (old new : CarrierPollValue C) → Fits old taken → new ≡ old → Piece m taken old [] new
nothing m taken old new fits e = at_end m taken old old new [] e (record {
  carried = [];
  passing = [];
  are = refl;
  carrier = refl;
  octets = refl;
  terms = refl;
  takes = still_fits old taken fits;
  turns = λ rest last h. same_turn (requests_of old.terms) taken (asking old) (asking old) rest refl h;
  quiet = λ rest last. last;
})

-- one call of the carrier at which no APDU passes, of a poll that is under way
module _ {C : Type 0} (m : Meaning C) (taken : List (List ℕ)) (old : CarrierPollValue C) (input : Input) (event : Event) (carrier : C) (bytes : List ℕ) (fits : Fits old taken) (under : IsUnderWay old)
    (none : passages (carrier_call m input event carrier ∷ []) ≡ []) (reads : read (carrier_call m input event carrier ∷ []) ≡ bytes) (step : m.steps old.carrier input event carrier) where
  stays : (result : Result PollOutcome PollFault) (new : CarrierPollValue C) → Stays (record old { carrier = carrier }) result new → Piece m taken old bytes new
  stays result new h = at_end m taken old (record old { carrier = carrier }) new bytes h.after (record {
    carried = carrier_call m input event carrier ∷ [];
    passing = [];
    are = none;
    carrier = one_call m old.carrier input event carrier step;
    octets = reads;
    terms = refl;
    takes = still_fits (record old { carrier = carrier }) taken (fits_in old.course old carrier taken fits);
    turns = λ rest last h. same_turn (requests_of old.terms) taken (asking old) (asking old) rest refl h;
    quiet = λ rest last. last;
  })

  fails : (fault : PollFault) (result : Result PollOutcome PollFault) (new : CarrierPollValue C) → Fails (record old { carrier = carrier }) fault result new → Piece m taken old bytes new
  fails fault result new h = at_end m taken old (record old { carrier = carrier; course = Failed fault }) new bytes h.after (record {
    carried = carrier_call m input event carrier ∷ [];
    passing = [];
    are = none;
    carrier = one_call m old.carrier input event carrier step;
    octets = reads;
    terms = refl;
    takes = tt;
    turns = λ rest last h. last_turn (requests_of old.terms) taken (asking old) rest last;
    quiet = λ rest last. under_way_last old.course under rest;
  })

  finishes : (result : Result PollOutcome PollFault) (new : CarrierPollValue C) → HasPolled old.terms.columns taken old.talk.rows → IsDone (record old { carrier = carrier }) result new → Piece m taken old bytes new
  finishes result new polled h = at_end m taken old (record old { carrier = carrier; course = Done }) new bytes h.after (record {
    carried = carrier_call m input event carrier ∷ [];
    passing = [];
    are = none;
    carrier = one_call m old.carrier input event carrier step;
    octets = reads;
    terms = refl;
    takes = subst (λ (apdus : List (List ℕ)). HasPolled old.terms.columns apdus old.talk.rows) (sym (append-nil taken)) polled;
    turns = λ rest last h. last_turn (requests_of old.terms) taken (asking old) rest last;
    quiet = λ rest last. under_way_last old.course under rest;
  })

  stops : (fault : PollFault) (result : Result PollOutcome PollFault) (new : CarrierPollValue C) → Stops (record old { carrier = carrier }) fault result new → Piece m taken old bytes new
  stops fault result new (IsEnough all h) = finishes result new (all_polled old taken (record { running = all.running; late = all.late }) fits) h
  stops fault result new (IsTooFew never h) = fails fault result new h

-- the connection comes up, and the association request goes out
connecting_turn : {C : Type 0} (p : CarrierPollValue C) (taken : List (List ℕ)) (rest : List Passage) → p.talk ≡ fresh_talk → taken ≡ [] → InTurn (requests_of p.terms) (taken ++ []) (asking_at p.talk.stage) rest
    → InTurn (requests_of p.terms) taken false (Request (requests_of p.terms).association ∷ rest)
connecting_turn p taken rest fresh none h =
    (Associates none refl, same_turn (requests_of p.terms) taken true (asking_at p.talk.stage) rest (sym (ap (λ (t : TalkValue). asking_at t.stage) fresh)) h)

opened_fits : {C : Type 0} (p : CarrierPollValue C) (taken : List (List ℕ)) → p.talk ≡ fresh_talk → taken ≡ [] → FitsTalk p.terms.columns p.talk (taken ++ [])
opened_fits p taken fresh none =
    subst (λ (t : TalkValue). FitsTalk p.terms.columns t (taken ++ [])) (sym fresh) (append-nil taken ∙ none, refl, refl)

opens : {C : Type 0} (m : Meaning C) (taken : List (List ℕ)) (old : CarrierPollValue C) (input : Input) (event : Event) (carrier : C) (bytes : List ℕ) (new : CarrierPollValue C) → old.talk ≡ fresh_talk → taken ≡ []
    → ((rest : List Passage) → IsLast old.course rest) → asking old ≡ false → passages (carrier_call m input event carrier ∷ []) ≡ [] → read (carrier_call m input event carrier ∷ []) ≡ bytes → m.steps old.carrier input event carrier
    → (course : PollCourse) → Opens m.steps (record old { carrier = carrier; course = course }) new → Piece m taken old bytes new
opens m taken old input event carrier bytes new fresh no_apdus last_any unasked none reads step course h = at_end m taken old (record old { carrier = h.carrier; course = Running }) new bytes h.after (record {
  carried = carrier_call m input event carrier ∷ carrier_call m (Give (requests_of old.terms).association) h.event h.carrier ∷ [];
  passing = Request (requests_of old.terms).association ∷ [];
  are = passages_append (carrier_call m input event carrier ∷ []) (carrier_call m (Give (requests_of old.terms).association) h.event h.carrier ∷ []) ∙ ap (λ (l : List Passage). l ++ Request (requests_of old.terms).association ∷ []) none;
  carrier = two_calls m old.carrier input event carrier (Give (requests_of old.terms).association) h.event h.carrier step h.gives;
  octets = read_append (carrier_call m input event carrier ∷ []) (carrier_call m (Give (requests_of old.terms).association) h.event h.carrier ∷ []) ∙ append-nil (read (carrier_call m input event carrier ∷ [])) ∙ reads;
  terms = refl;
  takes = opened_fits old taken fresh no_apdus;
  turns = λ rest last k. subst (λ (awaits : Bool). InTurn (requests_of old.terms) taken awaits (Request (requests_of old.terms).association ∷ rest)) (sym unasked) (connecting_turn old taken rest fresh no_apdus k);
  quiet = λ rest last. last_any (Request (requests_of old.terms).association ∷ rest);
})

-- ---- octets arrive

-- the carrier's call that reads octets and hands an APDU up
abbrev hands_up : {C : Type 0} → Meaning C → List ℕ → ℕ → C → CarrierCall
hands_up m octets count carrier = carrier_call m (FeedOf octets count) event.Apdu carrier

module _ {C : Type 0} (m : Meaning C) (taken : List (List ℕ)) (old : CarrierPollValue C) (octets : List ℕ) (count : ℕ) (carrier : C) (fits : Fits old taken) (under : IsUnderWay old)
    (step : m.steps old.carrier (FeedOf octets count) event.Apdu carrier) where
  -- after the answer that was awaited
  answered : (rest : List Passage) → IsAsking old → InTurn (requests_of old.terms) (taken ++ m.apdu_of carrier ∷ []) false rest → InTurn (requests_of old.terms) taken (asking old) (Answer (m.apdu_of carrier) ∷ rest)
  answered rest asks h = subst (λ (awaits : Bool). InTurn (requests_of old.terms) taken awaits (Answer (m.apdu_of carrier) ∷ rest)) (sym (is_asking old asks)) h

  asks_next : (talk : TalkValue) (result : Result PollOutcome PollFault) (new : CarrierPollValue C) → IsAsking old → FitsTalk old.terms.columns talk (taken ++ m.apdu_of carrier ∷ [])
      → AsksNext m.steps (record old { carrier = carrier; talk = talk }) (taken ++ m.apdu_of carrier ∷ []) result new → Piece m taken old (take count octets) new
  asks_next talk result new asks fits_now h = at_end m taken old (record old { carrier = h.carrier; talk = talk }) new (take count octets) h.after (record {
    carried = hands_up m octets count carrier ∷ carrier_call m (Give h.request) h.event h.carrier ∷ [];
    passing = Answer (m.apdu_of carrier) ∷ Request h.request ∷ [];
    are = refl;
    carrier = two_calls m old.carrier (FeedOf octets count) event.Apdu carrier (Give h.request) h.event h.carrier step h.gives;
    octets = append-nil (take count octets);
    terms = refl;
    takes = subst (λ (course : PollCourse). FitsIn course (record old { carrier = h.carrier; talk = talk }) (taken ++ m.apdu_of carrier ∷ [])) (sym asks.running) fits_now;
    turns = λ rest last k. answered (Request h.request ∷ rest) asks (
      h.asks,
      subst (λ (awaits : Bool). InTurn (requests_of old.terms) (taken ++ m.apdu_of carrier ∷ []) awaits rest)
          (is_asking (record old { carrier = h.carrier; talk = talk }) (record { running = asks.running; awaits = h.awaits })) k,
    );
    quiet = λ rest last. under_way_last old.course under (Answer (m.apdu_of carrier) ∷ Request h.request ∷ rest);
  })

  -- the release was answered
  module _ (talk : TalkValue) (asks : IsAsking old) (fits_now : FitsTalk old.terms.columns talk (taken ++ m.apdu_of carrier ∷ [])) (released : HasReleased old.terms.columns (taken ++ m.apdu_of carrier ∷ []) talk.rows)
      (next : Event) (ended : C) (ends : m.steps carrier End next ended) where
    abbrev left : CarrierPollValue C
    left = record old { carrier = ended; talk = talk }

    left_fits : Fits left (taken ++ m.apdu_of carrier ∷ [])
    left_fits = subst (λ (course : PollCourse). FitsIn course left (taken ++ m.apdu_of carrier ∷ [])) (sym asks.running) fits_now

    left_stays : (result : Result PollOutcome PollFault) (new : CarrierPollValue C) → Stays left result new → Piece m taken old (take count octets) new
    left_stays result new h = at_end m taken old left new (take count octets) h.after (record {
      carried = hands_up m octets count carrier ∷ carrier_call m End next ended ∷ [];
      passing = Answer (m.apdu_of carrier) ∷ [];
      are = refl;
      carrier = two_calls m old.carrier (FeedOf octets count) event.Apdu carrier End next ended step ends;
      octets = append-nil (take count octets);
      terms = refl;
      takes = left_fits;
      turns = λ rest last k. answered rest asks
          (subst (λ (awaits : Bool). InTurn (requests_of old.terms) (taken ++ m.apdu_of carrier ∷ []) awaits rest) (not_asking left (released_not_asking left (taken ++ m.apdu_of carrier ∷ []) talk.rows left_fits released)) k);
      quiet = λ rest last. under_way_last old.course under (Answer (m.apdu_of carrier) ∷ rest);
    })

    left_done : (result : Result PollOutcome PollFault) (new : CarrierPollValue C) → IsDone left result new → Piece m taken old (take count octets) new
    left_done result new h = at_end m taken old (record left { course = Done }) new (take count octets) h.after (record {
      carried = hands_up m octets count carrier ∷ carrier_call m End next ended ∷ [];
      passing = Answer (m.apdu_of carrier) ∷ [];
      are = refl;
      carrier = two_calls m old.carrier (FeedOf octets count) event.Apdu carrier End next ended step ends;
      octets = append-nil (take count octets);
      terms = refl;
      takes = released_polled old.terms.columns (taken ++ m.apdu_of carrier ∷ []) talk.rows released;
      turns = λ rest last k. answered rest asks k;
      quiet = λ rest last. under_way_last old.course under (Answer (m.apdu_of carrier) ∷ rest);
    })

    leaves_by : (event : Event) (result : Result PollOutcome PollFault) (new : CarrierPollValue C) → LeavesBy event left result new → Piece m taken old (take count octets) new
    leaves_by event.Down result new h = left_done result new h
    leaves_by event.Nothing result new h = left_stays result new h
    leaves_by event.Up result new h = left_stays result new h
    leaves_by event.Apdu result new h = left_stays result new h
    leaves_by event.TimedOut result new h = left_stays result new h
    leaves_by (event.Refused why) result new h = left_stays result new h
    leaves_by event.Insecure result new h = left_stays result new h

  goes_on : (talk : TalkValue) (result : Result PollOutcome PollFault) (new : CarrierPollValue C) → IsAsking old → FitsTalk old.terms.columns talk (taken ++ m.apdu_of carrier ∷ [])
      → GoesOn m.steps (record old { carrier = carrier; talk = talk }) (taken ++ m.apdu_of carrier ∷ []) result new → Piece m taken old (take count octets) new
  goes_on talk result new asks fits_now (inl h) = asks_next talk result new asks fits_now h
  goes_on talk result new asks fits_now (inr h) = leaves_by talk asks fits_now h.released h.event h.carrier h.ends h.event result new h.leaves

  -- it ends the poll
  ends_at : (fault : PollFault) (result : Result PollOutcome PollFault) (new : CarrierPollValue C) → new.course ≡ Failed fault → new.terms ≡ old.terms → new.carrier ≡ carrier
      → ((rest : List Passage) → rest ≡ [] → InTurn (requests_of old.terms) taken (asking old) (Answer (m.apdu_of carrier) ∷ rest)) → Piece m taken old (take count octets) new
  ends_at fault result new course terms same turns = record {
    carried = hands_up m octets count carrier ∷ [];
    passing = Answer (m.apdu_of carrier) ∷ [];
    are = refl;
    carrier = subst (λ (c : C). CarrierRuns m.steps m.out_of m.apdu_of old.carrier (hands_up m octets count carrier ∷ []) c) (sym same) (one_call m old.carrier (FeedOf octets count) event.Apdu carrier step);
    octets = append-nil (take count octets);
    terms = terms;
    takes = subst (λ (c : PollCourse). FitsIn c new (taken ++ m.apdu_of carrier ∷ [])) (sym course) tt;
    turns = λ rest last k. turns rest (subst (λ (c : PollCourse). IsLast c rest) course last);
    quiet = λ rest last. under_way_last old.course under (Answer (m.apdu_of carrier) ∷ rest);
  }

  -- the poll is done
  done_at : (result : Result PollOutcome PollFault) (new : CarrierPollValue C) → HasPolled old.terms.columns (taken ++ m.apdu_of carrier ∷ []) old.talk.rows → IsDone (record old { carrier = carrier }) result new
      → ((rest : List Passage) → rest ≡ [] → InTurn (requests_of old.terms) taken (asking old) (Answer (m.apdu_of carrier) ∷ rest)) → Piece m taken old (take count octets) new
  done_at result new polled h turns = at_end m taken old (record old { carrier = carrier; course = Done }) new (take count octets) h.after (record {
    carried = hands_up m octets count carrier ∷ [];
    passing = Answer (m.apdu_of carrier) ∷ [];
    are = refl;
    carrier = one_call m old.carrier (FeedOf octets count) event.Apdu carrier step;
    octets = append-nil (take count octets);
    terms = refl;
    takes = polled;
    turns = λ rest last k. turns rest last;
    quiet = λ rest last. under_way_last old.course under (Answer (m.apdu_of carrier) ∷ rest);
  })

  then_polled : HasAll old → HasPolled old.terms.columns (taken ++ m.apdu_of carrier ∷ []) old.talk.rows
  then_polled all = more_polled old.terms.columns taken (m.apdu_of carrier) old.talk.rows (all_polled old taken all fits)

  last_answer : (rest : List Passage) → IsAsking old → rest ≡ [] → InTurn (requests_of old.terms) taken (asking old) (Answer (m.apdu_of carrier) ∷ rest)
  last_answer rest asks e = answered rest asks (last_turn (requests_of old.terms) (taken ++ m.apdu_of carrier ∷ []) false rest e)

  unasked : (rest : List Passage) → (IsAsking old → ⊥) → rest ≡ [] → InTurn (requests_of old.terms) taken (asking old) (Answer (m.apdu_of carrier) ∷ rest)
  unasked rest never e = subst (λ (awaits : Bool). InTurn (requests_of old.terms) taken awaits (Answer (m.apdu_of carrier) ∷ rest)) (sym (not_asking old never)) e

  takes_over : (result : Result PollOutcome PollFault) (new : CarrierPollValue C) → TakesOver m.steps (m.apdu_of carrier) taken (record old { carrier = carrier }) result new → Piece m taken old (take count octets) new
  takes_over result new (IsTaken talk asks even fits_now h) = goes_on talk result new (record { running = asks.running; awaits = asks.awaits }) fits_now h
  takes_over result new (IsNoRelease asks odd h) =
      done_at result new (then_polled (record { running = asks.running; late = subst IsLate (sym odd.releasing) tt })) h (λ rest e. last_answer rest (record { running = asks.running; awaits = asks.awaits }) e)
  takes_over result new (EndsIt fault asks even why h) = ends_at fault result new h.course h.terms h.carrier (λ rest e. last_answer rest (record { running = asks.running; awaits = asks.awaits }) e)
  takes_over result new (IsUnasked never (IsEnough all h)) =
      done_at result new (then_polled (record { running = all.running; late = all.late })) h (λ rest e. unasked rest (λ (asks : IsAsking old). never (record { running = asks.running; awaits = asks.awaits })) e)
  takes_over result new (IsUnasked never (IsTooFew few h)) =
      ends_at Protocol result new (ap (λ (v : CarrierPollValue C). v.course) h.after) (ap (λ (v : CarrierPollValue C). v.terms) h.after) (ap (λ (v : CarrierPollValue C). v.carrier) h.after)
      (λ rest e. unasked rest (λ (asks : IsAsking old). never (record { running = asks.running; awaits = asks.awaits })) e)

comes_up : {C : Type 0} (m : Meaning C) (taken : List (List ℕ)) (old : CarrierPollValue C) (octets : List ℕ) (count : ℕ) (carrier : C) (result : Result PollOutcome PollFault) (new : CarrierPollValue C) → Fits old taken → IsUnderWay old
    → m.steps old.carrier (FeedOf octets count) event.Up carrier → ComesUp m.steps (record old { carrier = carrier }) result new → Piece m taken old (take count octets) new
comes_up m taken old octets count carrier result new fits under step (IsOpened connecting h e) =
    let there : FitsIn Connecting old taken = subst (λ (course : PollCourse). FitsIn course old taken) connecting fits in
    opens m taken old (FeedOf octets count) event.Up carrier (take count octets) new there.0 there.1 (under_way_last old.course under) (ap (λ (course : PollCourse). asking_in course old.talk.stage) connecting) refl (append-nil (take count octets)) step old.course h
comes_up m taken old octets count carrier result new fits under step (IsUpAlready running h) =
    fails m taken old (FeedOf octets count) event.Up carrier (take count octets) fits under refl (append-nil (take count octets)) step Protocol result new h

comes : {C : Type 0} (m : Meaning C) (event : Event) (taken : List (List ℕ)) (old : CarrierPollValue C) (octets : List ℕ) (count : ℕ) (carrier : C) (result : Result PollOutcome PollFault) (new : CarrierPollValue C) → Fits old taken
    → IsUnderWay old → m.steps old.carrier (FeedOf octets count) event carrier → ComesBy m.steps event (m.apdu_of carrier) taken (record old { carrier = carrier }) result new → Piece m taken old (take count octets) new
comes m event.Nothing taken old octets count carrier result new fits under step h =
    stays m taken old (FeedOf octets count) event.Nothing carrier (take count octets) fits under refl (append-nil (take count octets)) step result new h
comes m event.Up taken old octets count carrier result new fits under step h = comes_up m taken old octets count carrier result new fits under step h
comes m event.Apdu taken old octets count carrier result new fits under step h = takes_over m taken old octets count carrier fits under step result new h
comes m event.Down taken old octets count carrier result new fits under step h =
    stops m taken old (FeedOf octets count) event.Down carrier (take count octets) fits under refl (append-nil (take count octets)) step Protocol result new h
comes m event.TimedOut taken old octets count carrier result new fits under step h =
    stops m taken old (FeedOf octets count) event.TimedOut carrier (take count octets) fits under refl (append-nil (take count octets)) step Line result new h
comes m (event.Refused why) taken old octets count carrier result new fits under step h =
    stops m taken old (FeedOf octets count) (event.Refused why) carrier (take count octets) fits under refl (append-nil (take count octets)) step Protocol result new h
comes m event.Insecure taken old octets count carrier result new fits under step h =
    stops m taken old (FeedOf octets count) event.Insecure carrier (take count octets) fits under refl (append-nil (take count octets)) step Protocol result new h

feeds_in : {C : Type 0} (m : Meaning C) (course : PollCourse) (taken : List (List ℕ)) (old : CarrierPollValue C) (octets : List ℕ) (count : ℕ) (result : Result PollOutcome PollFault) (new : CarrierPollValue C) → Fits old taken
    → old.course ≡ course → FeedsIn course m.steps m.apdu_of taken old octets count result new → Piece m taken old (passed course (Feed octets count result)) new
feeds_in m Ready taken old octets count result new fits at h = nothing m taken old new fits h.same
feeds_in m Connecting taken old octets count result new fits at h =
    comes m h.event taken old octets count h.carrier result new fits (subst IsUnderWayIn (sym at) tt) h.feeds h.comes
feeds_in m Running taken old octets count result new fits at h =
    comes m h.event taken old octets count h.carrier result new fits (subst IsUnderWayIn (sym at) tt) h.feeds h.comes
feeds_in m Done taken old octets count result new fits at h = nothing m taken old new fits h.same
feeds_in m (Failed fault) taken old octets count result new fits at h = nothing m taken old new fits h.same

-- ---- the other calls

-- the connection is requested, and does not come up at once
requested : {C : Type 0} (m : Meaning C) (event : Event) (taken : List (List ℕ)) (old : CarrierPollValue C) (carrier : C) (new : CarrierPollValue C) → Fits old taken → old.course ≡ Ready → m.steps old.carrier BeginOf event carrier
    → new ≡ record old { carrier = carrier; course = Connecting } → Piece m taken old [] new
requested m event taken old carrier new fits ready step e = at_end m taken old (record old { carrier = carrier; course = Connecting }) new [] e (record {
  carried = carrier_call m BeginOf event carrier ∷ [];
  passing = [];
  are = refl;
  carrier = one_call m old.carrier BeginOf event carrier step;
  octets = refl;
  terms = refl;
  takes =
      let there : FitsIn Ready old taken = subst (λ (course : PollCourse). FitsIn course old taken) ready fits in
      (there.0, append-nil taken ∙ there.1);
  turns = λ rest last h. same_turn (requests_of old.terms) taken (asking old) false rest (ap (λ (course : PollCourse). asking_in course old.talk.stage) ready) h;
  quiet = λ rest last. subst (λ (course : PollCourse). IsLast course rest) (sym ready) tt;
})

begins_by : {C : Type 0} (m : Meaning C) (event : Event) (taken : List (List ℕ)) (old : CarrierPollValue C) (carrier : C) (new : CarrierPollValue C) → Fits old taken → old.course ≡ Ready → m.steps old.carrier BeginOf event carrier
    → BeginsBy m.steps event (record old { carrier = carrier; course = Connecting }) new → Piece m taken old [] new
begins_by m event.Up taken old carrier new fits ready step h =
    let there : FitsIn Ready old taken = subst (λ (course : PollCourse). FitsIn course old taken) ready fits in
    opens m taken old BeginOf event.Up carrier [] new there.0 there.1 (λ rest. subst (λ (course : PollCourse). IsLast course rest) (sym ready) tt) (ap (λ (course : PollCourse). asking_in course old.talk.stage) ready) refl refl step Connecting h
begins_by m event.Nothing taken old carrier new fits ready step h = requested m event.Nothing taken old carrier new fits ready step h
begins_by m event.Apdu taken old carrier new fits ready step h = requested m event.Apdu taken old carrier new fits ready step h
begins_by m event.Down taken old carrier new fits ready step h = requested m event.Down taken old carrier new fits ready step h
begins_by m event.TimedOut taken old carrier new fits ready step h = requested m event.TimedOut taken old carrier new fits ready step h
begins_by m (event.Refused why) taken old carrier new fits ready step h = requested m (event.Refused why) taken old carrier new fits ready step h
begins_by m event.Insecure taken old carrier new fits ready step h = requested m event.Insecure taken old carrier new fits ready step h

times_out : {C : Type 0} (m : Meaning C) (event : Event) (taken : List (List ℕ)) (old : CarrierPollValue C) (carrier : C) (result : Result PollOutcome PollFault) (new : CarrierPollValue C) → Fits old taken → IsUnderWay old
    → m.steps old.carrier WaitOf event carrier → TimesOutBy event (record old { carrier = carrier }) result new → Piece m taken old [] new
times_out m event.TimedOut taken old carrier result new fits under step h = stops m taken old WaitOf event.TimedOut carrier [] fits under refl refl step Line result new h
times_out m event.Nothing taken old carrier result new fits under step h = stays m taken old WaitOf event.Nothing carrier [] fits under refl refl step result new h
times_out m event.Up taken old carrier result new fits under step h = stays m taken old WaitOf event.Up carrier [] fits under refl refl step result new h
times_out m event.Apdu taken old carrier result new fits under step h = stays m taken old WaitOf event.Apdu carrier [] fits under refl refl step result new h
times_out m event.Down taken old carrier result new fits under step h = stays m taken old WaitOf event.Down carrier [] fits under refl refl step result new h
times_out m (event.Refused why) taken old carrier result new fits under step h = stays m taken old WaitOf (event.Refused why) carrier [] fits under refl refl step result new h
times_out m event.Insecure taken old carrier result new fits under step h = stays m taken old WaitOf event.Insecure carrier [] fits under refl refl step result new h

waits : {C : Type 0} (m : Meaning C) (taken : List (List ℕ)) (old : CarrierPollValue C) (result : Result PollOutcome PollFault) (new : CarrierPollValue C) → Fits old taken → Waits m.steps m.is_waiting old result new → Piece m taken old [] new
waits m taken old result new fits (HasFailed fault failed e same) = nothing m taken old new fits same
waits m taken old result new fits (NoneIsOut whole idle e same) = nothing m taken old new fits same
waits m taken old result new fits (IsAwaited under waiting h) = times_out m h.event taken old h.carrier result new fits under h.waits h.follows

-- a call without octets
passed_none : (course : PollCourse) (call : Call) → octets_of call ≡ [] → passed course call ≡ []
passed_none Ready call e = refl
passed_none Connecting call e = e
passed_none Running call e = e
passed_none Done call e = refl
passed_none (Failed fault) call e = refl

without : {C : Type 0} (m : Meaning C) (taken : List (List ℕ)) (old new : CarrierPollValue C) (call : Call) → octets_of call ≡ [] → Piece m taken old [] new → Piece m taken old (passed old.course call) new
without {C} m taken old new call e h = subst (λ (octets : List ℕ). Piece m taken old octets new) (sym (passed_none old.course call e)) h

piece_of : {C : Type 0} (m : Meaning C) (call : Call) (taken : List (List ℕ)) (old new : CarrierPollValue C) → Fits old taken → IsCall m old call new → Piece m taken old (passed old.course call) new
piece_of m Begin taken old new fits h = without m taken old new Begin refl (begins_by m h.1.event taken old h.1.carrier new fits h.0 h.1.begins h.1.follows)
piece_of m (Feed octets count result) taken old new fits h = feeds_in m old.course taken old octets count result new fits refl (h taken fits)
piece_of m (Wait result) taken old new fits h = without m taken old new (Wait result) refl (waits m taken old result new fits h)

-- ---- a call that returns that the poll is done

left_is_done : {C : Type 0} (event : Event) (at new : CarrierPollValue C) → LeavesBy event at (Ok outcome.Done) new → new.course ≡ Done
left_is_done event.Down at new h = ap (λ (v : CarrierPollValue _). v.course) h.after
left_is_done event.Nothing at new h = let clash = h.answer in cc
left_is_done event.Up at new h = let clash = h.answer in cc
left_is_done event.Apdu at new h = let clash = h.answer in cc
left_is_done event.TimedOut at new h = let clash = h.answer in cc
left_is_done (event.Refused why) at new h = let clash = h.answer in cc
left_is_done event.Insecure at new h = let clash = h.answer in cc

goes_on_done : {C : Type 0} (m : Meaning C) (at new : CarrierPollValue C) (apdus : List (List ℕ)) → GoesOn m.steps at apdus (Ok outcome.Done) new → new.course ≡ Done
goes_on_done m at new apdus (inl h) = let clash = h.answer in cc
goes_on_done m at new apdus (inr h) = left_is_done h.event _ new h.leaves

stops_done : {C : Type 0} (at new : CarrierPollValue C) (fault : PollFault) → Stops at fault (Ok outcome.Done) new → new.course ≡ Done
stops_done {C} at new fault (IsEnough all h) = ap (λ (v : CarrierPollValue C). v.course) h.after
stops_done at new fault (IsTooFew never h) = let clash = h.answer in cc

taken_done : {C : Type 0} (m : Meaning C) (apdu : List ℕ) (apdus : List (List ℕ)) (at new : CarrierPollValue C) → TakesOver m.steps apdu apdus at (Ok outcome.Done) new → new.course ≡ Done
taken_done m apdu apdus at new (IsTaken talk asking even fits goes) = goes_on_done m _ new _ goes
taken_done {C} m apdu apdus at new (IsNoRelease asking odd h) = ap (λ (v : CarrierPollValue C). v.course) h.after
taken_done m apdu apdus at new (EndsIt fault asking even ends h) = let clash = h.answer in cc
taken_done m apdu apdus at new (IsUnasked never h) = stops_done at new Protocol h

up_done : {C : Type 0} (m : Meaning C) (at new : CarrierPollValue C) → ComesUp m.steps at (Ok outcome.Done) new → new.course ≡ Done
up_done m at new (IsOpened connecting h told) = cc
up_done m at new (IsUpAlready running h) = let clash = h.answer in cc

comes_done : {C : Type 0} (m : Meaning C) (event : Event) (apdu : List ℕ) (apdus : List (List ℕ)) (at new : CarrierPollValue C) → ComesBy m.steps event apdu apdus at (Ok outcome.Done) new → new.course ≡ Done
comes_done m event.Nothing apdu apdus at new h = let clash = h.answer in cc
comes_done m event.Up apdu apdus at new h = up_done m at new h
comes_done m event.Apdu apdu apdus at new h = taken_done m apdu apdus at new h
comes_done m event.Down apdu apdus at new h = stops_done at new Protocol h
comes_done m event.TimedOut apdu apdus at new h = stops_done at new Line h
comes_done m (event.Refused why) apdu apdus at new h = stops_done at new Protocol h
comes_done m event.Insecure apdu apdus at new h = stops_done at new Protocol h

fed_done : {C : Type 0} (m : Meaning C) (course : PollCourse) (apdus : List (List ℕ)) (old new : CarrierPollValue C) (octets : List ℕ) (count : ℕ) → FeedsIn course m.steps m.apdu_of apdus old octets count (Ok outcome.Done) new → new.course ≡ Done
fed_done m Ready apdus old new octets count h = let clash = h.answered in cc
fed_done m Connecting apdus old new octets count h = comes_done m h.event _ apdus _ new h.comes
fed_done m Running apdus old new octets count h = comes_done m h.event _ apdus _ new h.comes
fed_done m Done apdus old new octets count h = let clash = h.answered in cc
fed_done m (Failed fault) apdus old new octets count h = let clash = h.answered in cc

late_done : {C : Type 0} (event : Event) (at new : CarrierPollValue C) → TimesOutBy event at (Ok outcome.Done) new → new.course ≡ Done
late_done event.TimedOut at new h = stops_done at new Line h
late_done event.Nothing at new h = let clash = h.answer in cc
late_done event.Up at new h = let clash = h.answer in cc
late_done event.Apdu at new h = let clash = h.answer in cc
late_done event.Down at new h = let clash = h.answer in cc
late_done (event.Refused why) at new h = let clash = h.answer in cc
late_done event.Insecure at new h = let clash = h.answer in cc

waited_done : {C : Type 0} (m : Meaning C) (old new : CarrierPollValue C) → Waits m.steps m.is_waiting old (Ok outcome.Done) new → new.course ≡ Done
waited_done m old new (HasFailed fault failed told same) = cc
waited_done m old new (NoneIsOut whole idle told same) = cc
waited_done m old new (IsAwaited under waiting h) = late_done h.event _ new h.follows

call_done : {C : Type 0} (m : Meaning C) (call : Call) (taken : List (List ℕ)) (old new : CarrierPollValue C) → Fits old taken → IsCall m old call new → ReturnsDone call → new.course ≡ Done
call_done m Begin taken old new fits h told = absurd told
call_done m (Feed octets count (Ok outcome.Nothing)) taken old new fits h told = absurd told
call_done m (Feed octets count (Ok outcome.Done)) taken old new fits h told = fed_done m old.course taken old new octets count (h taken fits)
call_done m (Feed octets count (Err fault)) taken old new fits h told = absurd told
call_done m (Wait (Ok outcome.Nothing)) taken old new fits h told = absurd told
call_done m (Wait (Ok outcome.Done)) taken old new fits h told = waited_done m old new h
call_done m (Wait (Err fault)) taken old new fits h told = absurd told

-- and it stays done
fed_stays : {C : Type 0} (m : Meaning C) (course : PollCourse) (apdus : List (List ℕ)) (old new : CarrierPollValue C) (octets : List ℕ) (count : ℕ) (result : Result PollOutcome PollFault) → course ≡ Done → FeedsIn course m.steps m.apdu_of apdus old octets count result new
    → new ≡ old
fed_stays m Ready apdus old new octets count result e h = absurd (cc)
fed_stays m Connecting apdus old new octets count result e h = absurd (cc)
fed_stays m Running apdus old new octets count result e h = absurd (cc)
fed_stays m Done apdus old new octets count result e h = h.same
fed_stays m (Failed fault) apdus old new octets count result e h = absurd (cc)

waited_stays : {C : Type 0} (m : Meaning C) (old new : CarrierPollValue C) (result : Result PollOutcome PollFault) → old.course ≡ Done → Waits m.steps m.is_waiting old result new → new ≡ old
waited_stays m old new result e (HasFailed fault failed told same) = same
waited_stays m old new result e (NoneIsOut whole idle told same) = same
waited_stays m old new result e (IsAwaited under waiting h) = absurd (subst IsUnderWayIn e under)

stays_done : {C : Type 0} (m : Meaning C) (call : Call) (taken : List (List ℕ)) (old new : CarrierPollValue C) → Fits old taken → IsCall m old call new → old.course ≡ Done → new.course ≡ Done
stays_done m Begin taken old new fits h done = let ready = h.0 in absurd (cc)
stays_done {C} m (Feed octets count result) taken old new fits h done = ap (λ (v : CarrierPollValue C). v.course) (fed_stays m old.course taken old new octets count result done (h taken fits)) ∙ done
stays_done {C} m (Wait result) taken old new fits h done = ap (λ (v : CarrierPollValue C). v.course) (waited_stays m old new result done h) ∙ done

-- ---- a run

record Led {C : Type 0} (m : Meaning C) (taken : List (List ℕ)) (old : CarrierPollValue C) (calls : List Call) (new : CarrierPollValue C) : Type 0 where
  shares : List (List CarrierCall)
  each : AreShares m taken old calls shares new
  run : CarrierRuns m.steps m.out_of m.apdu_of old.carrier (carried_in shares) new.carrier
  terms : new.terms ≡ old.terms
  turns : InTurn (requests_of old.terms) taken (asking old) (passages (carried_in shares))
  takes : Fits new (taken ++ answers (passages (carried_in shares)))
  last : IsLast old.course (passages (carried_in shares))
  told : AreDone calls → new.course ≡ Done
  stays : old.course ≡ Done → new.course ≡ Done

told_after : {C : Type 0} (m : Meaning C) (call : Call) (calls : List Call) (taken : List (List ℕ)) (old mid new : CarrierPollValue C) → Fits old taken → IsCall m old call mid → (AreDone calls → new.course ≡ Done) → (mid.course ≡ Done → new.course ≡ Done)
    → AreDone (call ∷ calls) → new.course ≡ Done
told_after m call calls taken old mid new fits h later stays (inl told) = stays (call_done m call taken old mid fits h told)
told_after m call calls taken old mid new fits h later stays (inr told) = later told

led : {C : Type 0} (m : Meaning C) (calls : List Call) (taken : List (List ℕ)) (old new : CarrierPollValue C) → Fits old taken → Runs m old calls new → Led m taken old calls new
led {C} m [] taken old new fits h = record {
  shares = [];
  each = h;
  run = ap (λ (v : CarrierPollValue C). v.carrier) h;
  terms = ap (λ (v : CarrierPollValue C). v.terms) h;
  turns = tt;
  takes = still_fits new taken (subst (λ (v : CarrierPollValue C). Fits v taken) (sym h) fits);
  last = none_last old.course;
  told = λ told. absurd told;
  stays = λ done. ap (λ (v : CarrierPollValue C). v.course) h ∙ done;
}
led {C} m (call ∷ calls) taken old new fits h =
    let mid : CarrierPollValue C = h.0 in
    let piece : Piece m taken old (passed old.course call) mid = piece_of m call taken old mid fits h.1 in
    let more : Led m (taken ++ answers piece.passing) mid calls new = led m calls (taken ++ answers piece.passing) mid new piece.takes h.2 in
    let rest : List Passage = passages (carried_in more.shares) in
    let whole : passages (piece.carried ++ carried_in more.shares) ≡ piece.passing ++ rest = passages_append piece.carried (carried_in more.shares) ∙ ap (λ (l : List Passage). l ++ rest) piece.are in
    let turns : InTurn (requests_of old.terms) taken (asking old) (piece.passing ++ rest) =
    piece.turns rest more.last (subst (λ (t : TermsValue). InTurn (requests_of t) (taken ++ answers piece.passing) (asking mid) rest) piece.terms more.turns) in
    record {
      shares = piece.carried ∷ more.shares;
      each = (
        mid,
        record {
          is_call = h.1;
          carrier = piece.carrier;
          octets = piece.octets;
          takes = subst (λ (l : List Passage). Fits mid (taken ++ answers l)) (sym piece.are) piece.takes;
          told = call_done m call taken old mid fits h.1;
        },
        subst (λ (l : List Passage). AreShares m (taken ++ answers l) mid calls more.shares new) (sym piece.are) more.each,
      );
      run = carrier_append m piece.carried (carried_in more.shares) old.carrier mid.carrier new.carrier piece.carrier more.run;
      terms = more.terms ∙ piece.terms;
      turns = subst (λ (l : List Passage). InTurn (requests_of old.terms) taken (asking old) l) (sym whole) turns;
      takes = subst (λ (apdus : List (List ℕ)). Fits new apdus)
          (append_assoc taken (answers piece.passing) (answers rest) ∙ ap (λ (l : List (List ℕ)). taken ++ l) (sym (answers_append piece.passing rest)) ∙ ap (λ (l : List Passage). taken ++ answers l) (sym whole)) more.takes;
      last = subst (λ (l : List Passage). IsLast old.course l) (sym whole) (piece.quiet rest more.last);
      told = λ told. told_after m call calls taken old mid new fits h.1 more.told more.stays told;
      stays = λ done. more.stays (stays_done m call taken old mid fits h.1 done);
    }

done_of : {C : Type 0} (p : CarrierPollValue C) (terms : TermsValue) (apdus : List (List ℕ)) → p.terms ≡ terms → Fits p apdus → p.course ≡ Done → HasPolled terms.columns apdus p.talk.rows
done_of p terms apdus same fits done =
    subst (λ (t : TermsValue). HasPolled t.columns apdus p.talk.rows) same (subst (λ (course : PollCourse). FitsIn course p apdus) done fits)

pub polls_lead : {C : Type 0} (m : Meaning C) → PollsLead m
polls_lead {C} m carrier terms calls new h =
    let led_there : Led m [] (fresh_over carrier terms) calls new = led m calls [] (fresh_over carrier terms) new (refl, refl) h in
    record {
      shares = led_there.shares;
      each = led_there.each;
      run = led_there.run;
      turns = led_there.turns;
      takes = led_there.takes;
      told = led_there.told;
      done = λ done. done_of new terms (answers (passages (carried_in led_there.shares))) led_there.terms led_there.takes done;
    }
