-- A poll over a carrier: what was taken, and the APDU that is handed up.
use Rattle.std.proofs.Common.{◌≡◌, ◌∙◌, refl, ap, sym, subst, inl, inr, ℕ, List, [], ◌∷◌, ◌++◌, append-nil, append_assoc, Result, Ok, Err}
use Rattle.dlms_blocks.specs.Joining.{Joining, empty}
use Rattle.dlms_carrier.specs.Carrying.{Give, StepsOf}
use Rattle.dlms_carrier.specs.declared.event.Event.{Event}
use Rattle.dlms_carrier.specs.declared.event.Event.TheVariants as event
use Rattle.dlms_headend.specs.CarrierPollValue.{CarrierPollValue, requests_of}
use Rattle.dlms_headend.specs.CarrierPolling.{AsksNext, ComesBy, ComesUp, Fails, Feeds, FeedsIn, Fits, FitsIn, GoesOn, HasAll, Hears, IsAsking, IsOdd, IsUnderWayIn, Leaves, LeavesBy, Stops, TakesOver}
use Rattle.dlms_headend.specs.CarrierPolling.Stops.{IsEnough, IsTooFew}
use Rattle.dlms_headend.specs.CarrierPolling.TakesOver.{IsTaken, IsNoRelease, EndsIt, IsUnasked}
use Rattle.dlms_headend.specs.CarrierPolling.ComesUp.{IsOpened, IsUpAlready}
use Rattle.dlms_headend.specs.Due.{IsDueAt}
use Rattle.dlms_headend.specs.Poll.{HasPolled, HasReleased, Needs}
use Rattle.dlms_headend.specs.Talk.{Ends, CanTake, FitsAt, FitsTalk, IsLate, Takes}
use Rattle.dlms_headend.specs.TalkValue.{TalkValue}
use Rattle.dlms_headend.specs.declared.plan.Columns.{Columns}
use Rattle.dlms_headend.specs.declared.poll_fault.PollFault.{PollFault}
use Rattle.dlms_headend.specs.declared.poll_fault.PollFault.TheVariants.{Line, Memory, Protocol}
use Rattle.dlms_headend.specs.declared.row.Row.{Row}
use Rattle.dlms_headend.specs.declared.stage.PollCourse.{PollCourse}
use Rattle.dlms_headend.specs.declared.stage.PollCourse.TheVariants.{Ready, Connecting, Running, Done, Failed}
use Rattle.dlms_headend.specs.declared.stage.Stage.{Stage}
use Rattle.dlms_headend.specs.declared.stage.Stage.TheVariants.{Associating, Naming, Getting, Checking, Releasing, Leaving}
use Rattle.dlms_headend.specs.declared.step.PollOutcome.{PollOutcome}
use Rattle.dlms_headend.specs.declared.step.PollOutcome.TheVariants as outcome
use Rattle.dlms_headend.proofs.DueLemmas.{due_asks, due_awaits}

-- ---- all was taken

pub late_polled : (columns : Columns) (stage : Stage) (blocks : Joining) (rows : List Row) (apdus : List (List ℕ)) → FitsAt columns stage blocks rows apdus → IsLate stage → HasPolled columns apdus rows
late_polled columns Associating blocks rows apdus h late = absurd late
late_polled columns Naming blocks rows apdus h late = absurd late
late_polled columns (Getting taken) blocks rows apdus h late = absurd late
late_polled columns Checking blocks rows apdus h late = absurd late
late_polled columns Releasing blocks rows apdus h late = record { before = apdus; more = []; are = sym (append-nil apdus); polled = h }
late_polled columns Leaving blocks rows apdus h late = record { before = h.before; more = h.answer ∷ []; are = h.are; polled = h.polled }

pub released_polled : (columns : Columns) (apdus : List (List ℕ)) (rows : List Row) → HasReleased columns apdus rows → HasPolled columns apdus rows
released_polled columns apdus rows h = record { before = h.before; more = h.answer ∷ []; are = h.are; polled = h.polled }

pub more_polled : (columns : Columns) (apdus : List (List ℕ)) (apdu : List ℕ) (rows : List Row) → HasPolled columns apdus rows → HasPolled columns (apdus ++ apdu ∷ []) rows
more_polled columns apdus apdu rows h =
    record { before = h.before; more = h.more ++ apdu ∷ []; are = ap (λ (l : List (List ℕ)). l ++ apdu ∷ []) h.are ∙ append_assoc h.before h.more (apdu ∷ []); polled = h.polled }

pub all_polled : {C : Type 0} (p : CarrierPollValue C) (apdus : List (List ℕ)) → HasAll p → Fits p apdus → HasPolled p.terms.columns apdus p.talk.rows
all_polled p apdus all fits = late_polled p.terms.columns p.talk.stage p.talk.blocks p.talk.rows apdus (subst (λ (course : PollCourse). FitsIn course p apdus) all.running fits) all.late

-- ---- an APDU is handed up

module _ {C : Type 0} (steps : StepsOf C) (p new : CarrierPollValue C) (talk : TalkValue) (apdu : List ℕ) (apdus : List (List ℕ)) (result : Result PollOutcome PollFault) (asking : IsAsking p) (even : IsOdd apdu p → ⊥) (fits : Fits p apdus) where
  asking_fits : FitsTalk p.terms.columns p.talk apdus
  asking_fits = subst (λ (course : PollCourse). FitsIn course p apdus) asking.running fits

  pub taken_over : (FitsTalk p.terms.columns p.talk apdus → CanTake p.talk.stage → Takes p.terms.columns p.talk apdus apdu (Ok tt) talk)
      → (FitsTalk p.terms.columns talk (apdus ++ apdu ∷ []) → GoesOn steps (record p { talk = talk }) (apdus ++ apdu ∷ []) result new) → TakesOver steps apdu apdus p result new
  taken_over takes goes = let fits_now = (takes asking_fits asking.awaits).0 in IsTaken talk asking even fits_now (goes fits_now)

  pub ended_over : (fault : PollFault) → (FitsTalk p.terms.columns p.talk apdus → CanTake p.talk.stage → Takes p.terms.columns p.talk apdus apdu (Err fault) talk) → Fails (record p { talk = talk }) fault result new
      → TakesOver steps apdu apdus p result new
  ended_over fault takes fails = let ends = takes asking_fits asking.awaits in EndsIt fault asking even ends.0 (record {
    answer = fails.answer;
    course = ap (λ (v : CarrierPollValue C). v.course) fails.after;
    terms = ap (λ (v : CarrierPollValue C). v.terms) fails.after;
    carrier = ap (λ (v : CarrierPollValue C). v.carrier) fails.after;
    rows = ap (λ (v : CarrierPollValue C). v.talk.rows) fails.after ∙ ends.1;
  })

-- ---- what goes out

pub asked_next : {C : Type 0} (steps : StepsOf C) (p new : CarrierPollValue C) (request : List ℕ) (event : Event) (carrier : C) (result : Result PollOutcome PollFault) (apdus : List (List ℕ)) → FitsTalk p.terms.columns p.talk apdus
    → IsDueAt (requests_of p.terms).association p.terms.after p.terms.until p.talk.stage request → steps p.carrier (Give request) event carrier → result ≡ Ok outcome.Nothing → new ≡ record p { carrier = carrier } → GoesOn steps p apdus result new
asked_next steps p new request event carrier result apdus fits due gives e after = inl (record {
  request = request;
  event = event;
  carrier = carrier;
  awaits = due_awaits (requests_of p.terms).association p.terms.after p.terms.until p.talk.stage request due;
  asks = due_asks (requests_of p.terms) apdus p.talk.stage p.talk.blocks p.talk.rows request fits due;
  gives = gives;
  answer = e;
  after = after;
})

-- ---- octets arrive

-- another carrier changes nothing of where the poll stands
pub fits_in : {C : Type 0} (course : PollCourse) (p : CarrierPollValue C) (carrier : C) (apdus : List (List ℕ)) → FitsIn course p apdus → FitsIn course (record p { carrier = carrier }) apdus
fits_in Ready p carrier apdus h = h
fits_in Connecting p carrier apdus h = h
fits_in Running p carrier apdus h = h
fits_in Done p carrier apdus h = h
fits_in (Failed fault) p carrier apdus h = h

fed_in : {C : Type 0} (course : PollCourse) (steps : StepsOf C) (apdu_of : C → List ℕ) (apdus : List (List ℕ)) (old : CarrierPollValue C) (octets : List ℕ) (count : ℕ) (result : Result PollOutcome PollFault) (new : CarrierPollValue C)
    → IsUnderWayIn course → Hears steps apdu_of apdus old octets count result new → FeedsIn course steps apdu_of apdus old octets count result new
fed_in Ready steps apdu_of apdus old octets count result new under h = absurd under
fed_in Connecting steps apdu_of apdus old octets count result new under h = h
fed_in Running steps apdu_of apdus old octets count result new under h = h
fed_in Done steps apdu_of apdus old octets count result new under h = absurd under
fed_in (Failed fault) steps apdu_of apdus old octets count result new under h = absurd under

pub fed_under_way : {C : Type 0} (steps : StepsOf C) (apdu_of : C → List ℕ) (apdus : List (List ℕ)) (u old : CarrierPollValue C) (course : PollCourse) (octets : List ℕ) (count : ℕ) (result : Result PollOutcome PollFault) (new : CarrierPollValue C)
    → u ≡ old → u.course ≡ course → IsUnderWayIn course → Hears steps apdu_of apdus old octets count result new → Feeds steps apdu_of apdus old octets count result new
fed_under_way {C} steps apdu_of apdus u old course octets count result new same at under h =
    let there : IsUnderWayIn u.course = subst IsUnderWayIn (sym at) under in
    fed_in old.course steps apdu_of apdus old octets count result new (subst (λ (v : CarrierPollValue C). IsUnderWayIn v.course) same there) h

-- ---- where memory was wanting

needs_never : {C : Type 0} (at new : CarrierPollValue C) (result : Result PollOutcome PollFault) (fault : PollFault) → (fault ≡ Memory → ⊥) → Fails at fault result new → result ≡ Err Memory → ⊥
needs_never at new result fault other h e = let told = h.answer in let same : fault ≡ Memory = cc in other same

stops_ok : {C : Type 0} (at new : CarrierPollValue C) (result : Result PollOutcome PollFault) (fault : PollFault) → (fault ≡ Memory → ⊥) → Stops at fault result new → result ≡ Err Memory → ⊥
stops_ok at new result fault other (IsEnough all h) e = let told = h.answer in cc
stops_ok at new result fault other (IsTooFew never h) e = needs_never at new result fault other h e

leaves_ok : {C : Type 0} (event : Event) (at new : CarrierPollValue C) (result : Result PollOutcome PollFault) → LeavesBy event at result new → result ≡ Err Memory → ⊥
leaves_ok event.Down at new result h e = let told = h.answer in cc
leaves_ok event.Nothing at new result h e = let told = h.answer in cc
leaves_ok event.Up at new result h e = let told = h.answer in cc
leaves_ok event.Apdu at new result h e = let told = h.answer in cc
leaves_ok event.TimedOut at new result h e = let told = h.answer in cc
leaves_ok (event.Refused why) at new result h e = let told = h.answer in cc
leaves_ok event.Insecure at new result h e = let told = h.answer in cc

goes_on_ok : {C : Type 0} (steps : StepsOf C) (at new : CarrierPollValue C) (apdus : List (List ℕ)) (result : Result PollOutcome PollFault) → GoesOn steps at apdus result new → result ≡ Err Memory → ⊥
goes_on_ok steps at new apdus result (inl h) e = let told = h.answer in cc
goes_on_ok steps at new apdus result (inr h) e = leaves_ok h.event _ new result h.leaves e

taken_needs : {C : Type 0} (steps : StepsOf C) (apdu_of : C → List ℕ) (apdus : List (List ℕ)) (at new : CarrierPollValue C) (result : Result PollOutcome PollFault) → TakesOver steps (apdu_of at.carrier) apdus at result new → result ≡ Err Memory
    → Needs at.terms.columns apdus (apdu_of new.carrier)
taken_needs steps apdu_of apdus at new result (IsTaken talk asking even fits goes) e = absurd (goes_on_ok steps _ new _ result goes e)
taken_needs steps apdu_of apdus at new result (IsNoRelease asking odd h) e = let told = h.answer in cc
taken_needs {C} steps apdu_of apdus at new result (EndsIt fault asking even ends h) e =
    let told = h.answer in
    let same : fault ≡ Memory = cc in
    let needs : Needs at.terms.columns apdus (apdu_of at.carrier) = subst (λ (f : PollFault). Ends at.terms.columns apdus (apdu_of at.carrier) f) same ends in
    subst (λ (c : C). Needs at.terms.columns apdus (apdu_of c)) (sym h.carrier) needs
taken_needs steps apdu_of apdus at new result (IsUnasked never h) e = absurd (stops_ok at new result Protocol (λ same. cc) h e)

up_ok : {C : Type 0} (steps : StepsOf C) (at new : CarrierPollValue C) (result : Result PollOutcome PollFault) → ComesUp steps at result new → result ≡ Err Memory → ⊥
up_ok steps at new result (IsOpened connecting h told) e = cc
up_ok steps at new result (IsUpAlready running h) e = needs_never at new result Protocol (λ same. cc) h e

pub needs_by : {C : Type 0} (steps : StepsOf C) (apdu_of : C → List ℕ) (event : Event) (apdus : List (List ℕ)) (at new : CarrierPollValue C) (result : Result PollOutcome PollFault) → ComesBy steps event (apdu_of at.carrier) apdus at result new → result ≡ Err Memory
    → Needs at.terms.columns apdus (apdu_of new.carrier)
needs_by steps apdu_of event.Nothing apdus at new result h e = let told = h.answer in cc
needs_by steps apdu_of event.Up apdus at new result h e = absurd (up_ok steps at new result h e)
needs_by steps apdu_of event.Apdu apdus at new result h e = taken_needs steps apdu_of apdus at new result h e
needs_by steps apdu_of event.Down apdus at new result h e = absurd (stops_ok at new result Protocol (λ same. cc) h e)
needs_by steps apdu_of event.TimedOut apdus at new result h e = absurd (stops_ok at new result Line (λ same. cc) h e)
needs_by steps apdu_of (event.Refused why) apdus at new result h e = absurd (stops_ok at new result Protocol (λ same. cc) h e)
needs_by steps apdu_of event.Insecure apdus at new result h e = absurd (stops_ok at new result Protocol (λ same. cc) h e)
