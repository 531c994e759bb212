-- A poll over any carrier, call by call, and whatever APDUs it took so far. `steps`, `apdu_of`, `is_down` and `is_waiting` are the
-- carrier's own meaning.
use Rattle.std.specs.Prelude.{◌≡◌, ◌⊎◌, ℕ, List, [], ◌∷◌, ◌++◌, length, false, Result, Ok, Err}
use Rattle.dlms_carrier.specs.Carrying.{Input, Begin, Give, Feed, Wait, End, StepsOf}
use Rattle.dlms_carrier.specs.declared.event.Event.{Event}
use Rattle.dlms_carrier.specs.declared.event.Event.TheVariants as event
use Rattle.dlms_headend.specs.CarrierPollValue.{CarrierPollValue, TermsValue, requests_of}
use Rattle.dlms_headend.specs.Due.{AsksFor}
use Rattle.dlms_headend.specs.Poll.{HasPolled, HasReleased, is_release}
use Rattle.dlms_headend.specs.Talk.{CanTake, Ends, FitsTalk, IsLate, fresh_talk}
use Rattle.dlms_headend.specs.TalkValue.{TalkValue}
use Rattle.dlms_headend.specs.declared.poll_fault.PollFault.{PollFault}
use Rattle.dlms_headend.specs.declared.poll_fault.PollFault.TheVariants.{Line, Protocol}
use Rattle.dlms_headend.specs.declared.row.Row.{Row}
use Rattle.dlms_headend.specs.declared.stage.Stage.TheVariants.{Releasing}
use Rattle.dlms_headend.specs.declared.stage.PollCourse.{PollCourse}
use Rattle.dlms_headend.specs.declared.stage.PollCourse.TheVariants.{Ready, Connecting, Running, Done, Failed}
use Rattle.dlms_headend.specs.declared.step.PollOutcome.{PollOutcome}
use Rattle.dlms_headend.specs.declared.step.PollOutcome.TheVariants as outcome

-- a poll over this carrier that has not begun
abbrev pub fresh_over : {C : Type 0} → C → TermsValue → CarrierPollValue C
fresh_over carrier terms = record {
  terms = terms;
  carrier = carrier;
  course = Ready;
  talk = fresh_talk;
}

-- ---- where a poll stands

-- a poll that took these APDUs since its beginning
abbrev pub FitsIn : {C : Type 0} → PollCourse → CarrierPollValue C → List (List ℕ) → Type 0
FitsIn Ready p apdus = (p.talk ≡ fresh_talk) × (apdus ≡ [])
FitsIn Connecting p apdus = (p.talk ≡ fresh_talk) × (apdus ≡ [])
FitsIn Running p apdus = FitsTalk p.terms.columns p.talk apdus
FitsIn Done p apdus = HasPolled p.terms.columns apdus p.talk.rows
FitsIn (Failed fault) p apdus = Unit {0}

abbrev pub Fits : {C : Type 0} → CarrierPollValue C → List (List ℕ) → Type 0
Fits p apdus = FitsIn p.course p apdus

-- the meter's answer to a request is awaited: the connection is up, and the release was not answered yet
pub record IsAsking {C : Type 0} (p : CarrierPollValue C) : Type 0 where
  pub running : p.course ≡ Running
  pub awaits : CanTake p.talk.stage

-- all that the poll asks for was taken: the answer to the release is awaited, or the connection's end
pub record HasAll {C : Type 0} (p : CarrierPollValue C) : Type 0 where
  pub running : p.course ≡ Running
  pub late : IsLate p.talk.stage

-- the answer to the release is awaited, and this APDU is another one
pub record IsOdd {C : Type 0} (apdu : List ℕ) (p : CarrierPollValue C) : Type 0 where
  pub releasing : p.talk.stage ≡ Releasing
  pub other : is_release apdu ≡ false

-- the poll has begun, and is neither done nor failed
abbrev pub IsUnderWayIn : PollCourse → Type 0
IsUnderWayIn Ready = ⊥
IsUnderWayIn Connecting = Unit {0}
IsUnderWayIn Running = Unit {0}
IsUnderWayIn Done = ⊥
IsUnderWayIn (Failed fault) = ⊥

abbrev pub IsUnderWay : {C : Type 0} → CarrierPollValue C → Type 0
IsUnderWay p = IsUnderWayIn p.course

-- ---- what the poll does after an event of its carrier

-- nothing else happens
pub record Stays {C : Type 0} (at : CarrierPollValue C) (result : Result PollOutcome PollFault)
    (new : CarrierPollValue C) : Type 0 where
  pub answer : result ≡ Ok outcome.Nothing
  pub after : new ≡ at

-- it fails for good: nothing else of it changes
pub record Fails {C : Type 0} (at : CarrierPollValue C) (fault : PollFault)
    (result : Result PollOutcome PollFault) (new : CarrierPollValue C) : Type 0 where
  pub answer : result ≡ Err fault
  pub after : new ≡ record at { course = Failed fault }

-- it fails for good at an answer: its terms, its carrier and its rows stay
pub record FailsAtAnswer {C : Type 0} (at : CarrierPollValue C) (fault : PollFault)
    (result : Result PollOutcome PollFault) (new : CarrierPollValue C) : Type 0 where
  pub answer : result ≡ Err fault
  pub course : new.course ≡ Failed fault
  pub terms : new.terms ≡ at.terms
  pub carrier : new.carrier ≡ at.carrier
  pub rows : new.talk.rows ≡ at.talk.rows

-- it is done
pub record IsDone {C : Type 0} (at : CarrierPollValue C) (result : Result PollOutcome PollFault)
    (new : CarrierPollValue C) : Type 0 where
  pub answer : result ≡ Ok outcome.Done
  pub after : new ≡ record at { course = Done }

-- nothing more is to come: the poll is done if all that it asks for was taken, and fails otherwise
pub data Stops {C : Type 0} (at : CarrierPollValue C) (fault : PollFault)
    (result : Result PollOutcome PollFault) (new : CarrierPollValue C) : Type 0 where
  IsEnough : HasAll at → IsDone at result new → Stops at fault result new
  IsTooFew : (HasAll at → ⊥) → Fails at fault result new → Stops at fault result new

-- the connection is up: the association is requested
pub record Opens {C : Type 0} (steps : StepsOf C) (at new : CarrierPollValue C) : Type 0 where
  pub event : Event
  pub carrier : C
  pub gives : steps at.carrier (Give (requests_of at.terms).association) event carrier
  pub after : new ≡ record at { carrier = carrier; course = Running }

-- a connection that is up comes up no second time
pub data ComesUp {C : Type 0} (steps : StepsOf C) (at : CarrierPollValue C)
    (result : Result PollOutcome PollFault) (new : CarrierPollValue C) : Type 0 where
  IsOpened : at.course ≡ Connecting → Opens steps at new → result ≡ Ok outcome.Nothing
      → ComesUp steps at result new
  IsUpAlready : at.course ≡ Running → Fails at Protocol result new → ComesUp steps at result new

-- once it took these APDUs, it sends its next request
pub record AsksNext {C : Type 0} (steps : StepsOf C) (at : CarrierPollValue C)
    (apdus : List (List ℕ)) (result : Result PollOutcome PollFault) (new : CarrierPollValue C) :
    Type 0 where
  pub request : List ℕ
  pub event : Event
  pub carrier : C
  pub awaits : CanTake at.talk.stage
  pub asks : AsksFor (requests_of at.terms) apdus request
  pub gives : steps at.carrier (Give request) event carrier
  pub answer : result ≡ Ok outcome.Nothing
  pub after : new ≡ record at { carrier = carrier }

-- once the release was answered, the end of the connection is requested, and may come at once
abbrev pub LeavesBy : {C : Type 0} → Event → CarrierPollValue C → Result PollOutcome PollFault
    → CarrierPollValue C → Type 0
LeavesBy event.Down at result new = IsDone at result new
LeavesBy event.Nothing at result new = Stays at result new
LeavesBy event.Up at result new = Stays at result new
LeavesBy event.Apdu at result new = Stays at result new
LeavesBy event.TimedOut at result new = Stays at result new
LeavesBy (event.Refused why) at result new = Stays at result new
LeavesBy event.Insecure at result new = Stays at result new

pub record Leaves {C : Type 0} (steps : StepsOf C) (at : CarrierPollValue C) (apdus : List (List ℕ))
    (result : Result PollOutcome PollFault) (new : CarrierPollValue C) : Type 0 where
  pub event : Event
  pub carrier : C
  pub released : HasReleased at.terms.columns apdus at.talk.rows
  pub ends : steps at.carrier End event carrier
  pub leaves : LeavesBy event (record at { carrier = carrier }) result new

abbrev pub GoesOn : {C : Type 0} → StepsOf C → CarrierPollValue C → List (List ℕ)
    → Result PollOutcome PollFault → CarrierPollValue C → Type 0
GoesOn steps at apdus result new = AsksNext steps at apdus result new
    ⊎ Leaves steps at apdus result new

-- The carrier hands an APDU up. If an answer is awaited it is the next APDU, and the poll goes on; or it is another one than the
-- answer to the release, and the poll is done; or that APDU ends it. If none is awaited the poll ends.
pub data TakesOver {C : Type 0} (steps : StepsOf C) (apdu : List ℕ) (apdus : List (List ℕ))
    (at : CarrierPollValue C) (result : Result PollOutcome PollFault) (new : CarrierPollValue C) :
    Type 0 where
  IsTaken : (talk : TalkValue) → IsAsking at → (IsOdd apdu at → ⊥)
      → FitsTalk at.terms.columns talk (apdus ++ apdu ∷ [])
      → GoesOn steps (record at { talk = talk }) (apdus ++ apdu ∷ []) result new
      → TakesOver steps apdu apdus at result new
  IsNoRelease : IsAsking at → IsOdd apdu at → IsDone at result new
      → TakesOver steps apdu apdus at result new
  EndsIt : (fault : PollFault) → IsAsking at → (IsOdd apdu at → ⊥)
      → Ends at.terms.columns apdus apdu fault → FailsAtAnswer at fault result new
      → TakesOver steps apdu apdus at result new
  IsUnasked : (IsAsking at → ⊥) → Stops at Protocol result new
      → TakesOver steps apdu apdus at result new

-- by the carrier's event
abbrev pub ComesBy : {C : Type 0} → StepsOf C → Event → List ℕ → List (List ℕ) → CarrierPollValue C
    → Result PollOutcome PollFault → CarrierPollValue C → Type 0
ComesBy steps event.Nothing apdu apdus at result new = Stays at result new
ComesBy steps event.Up apdu apdus at result new = ComesUp steps at result new
ComesBy steps event.Apdu apdu apdus at result new = TakesOver steps apdu apdus at result new
ComesBy steps event.Down apdu apdus at result new = Stops at Protocol result new
ComesBy steps event.TimedOut apdu apdus at result new = Stops at Line result new
ComesBy steps (event.Refused why) apdu apdus at result new = Stops at Protocol result new
ComesBy steps event.Insecure apdu apdus at result new = Stops at Protocol result new

-- ---- the calls

-- nothing was sent yet, and there is no connection
pub record CanBegin {C : Type 0} (is_down : C → Type 0) (p : CarrierPollValue C) : Type 0 where
  pub ready : p.course ≡ Ready
  pub down : is_down p.carrier

-- the connection may come up at once
abbrev pub BeginsBy : {C : Type 0} → StepsOf C → Event → CarrierPollValue C → CarrierPollValue C
    → Type 0
BeginsBy steps event.Up at new = Opens steps at new
BeginsBy steps event.Nothing at new = new ≡ at
BeginsBy steps event.Apdu at new = new ≡ at
BeginsBy steps event.Down at new = new ≡ at
BeginsBy steps event.TimedOut at new = new ≡ at
BeginsBy steps (event.Refused why) at new = new ≡ at
BeginsBy steps event.Insecure at new = new ≡ at

pub record Begins {C : Type 0} (steps : StepsOf C) (old new : CarrierPollValue C) : Type 0 where
  pub event : Event
  pub carrier : C
  pub begins : steps old.carrier Begin event carrier
  pub follows : BeginsBy steps event (record old { carrier = carrier; course = Connecting }) new

-- octets are read, up to the carrier's first event, and the poll handles it
pub record Hears {C : Type 0} (steps : StepsOf C) (apdu_of : C → List ℕ) (apdus : List (List ℕ))
    (old : CarrierPollValue C) (octets : List ℕ) (count : ℕ) (result : Result PollOutcome PollFault)
    (new : CarrierPollValue C) : Type 0 where
  pub event : Event
  pub carrier : C
  pub feeds : steps old.carrier (Feed octets count) event carrier
  pub comes : ComesBy steps event (apdu_of carrier) apdus
      (record old { carrier = carrier }) result new

-- the octets are dropped, and nothing changes
pub record Drops {C : Type 0} (old : CarrierPollValue C) (octets : List ℕ) (count : ℕ)
    (answer result : Result PollOutcome PollFault) (new : CarrierPollValue C) : Type 0 where
  pub all : count ≡ length octets
  pub answered : result ≡ answer
  pub same : new ≡ old

-- before its beginning, after its end and after a fault it drops them; after a fault it returns the same fault again
abbrev pub FeedsIn : {C : Type 0} → PollCourse → StepsOf C → (C → List ℕ) → List (List ℕ)
    → CarrierPollValue C → List ℕ → ℕ → Result PollOutcome PollFault → CarrierPollValue C → Type 0
FeedsIn Ready steps apdu_of apdus old octets count result new =
    Drops old octets count (Ok outcome.Nothing) result new
FeedsIn Connecting steps apdu_of apdus old octets count result new =
    Hears steps apdu_of apdus old octets count result new
FeedsIn Running steps apdu_of apdus old octets count result new =
    Hears steps apdu_of apdus old octets count result new
FeedsIn Done steps apdu_of apdus old octets count result new =
    Drops old octets count (Ok outcome.Nothing) result new
FeedsIn (Failed fault) steps apdu_of apdus old octets count result new =
    Drops old octets count (Err fault) result new

abbrev pub Feeds : {C : Type 0} → StepsOf C → (C → List ℕ) → List (List ℕ) → CarrierPollValue C
    → List ℕ → ℕ → Result PollOutcome PollFault → CarrierPollValue C → Type 0
Feeds steps apdu_of apdus old octets count result new =
    FeedsIn old.course steps apdu_of apdus old octets count result new

-- a timeout: the carrier repeats its frame, or nobody answers, and the poll ends
abbrev pub TimesOutBy : {C : Type 0} → Event → CarrierPollValue C → Result PollOutcome PollFault
    → CarrierPollValue C → Type 0
TimesOutBy event.TimedOut at result new = Stops at Line result new
TimesOutBy event.Nothing at result new = Stays at result new
TimesOutBy event.Up at result new = Stays at result new
TimesOutBy event.Apdu at result new = Stays at result new
TimesOutBy event.Down at result new = Stays at result new
TimesOutBy (event.Refused why) at result new = Stays at result new
TimesOutBy event.Insecure at result new = Stays at result new

pub record TimesOut {C : Type 0} (steps : StepsOf C) (old : CarrierPollValue C)
    (result : Result PollOutcome PollFault) (new : CarrierPollValue C) : Type 0 where
  pub event : Event
  pub carrier : C
  pub waits : steps old.carrier Wait event carrier
  pub follows : TimesOutBy event (record old { carrier = carrier }) result new

-- After a fault it is the same fault again. While the poll is under way and the meter's answer is awaited, a timeout may come;
-- otherwise it is a fault of the line that changes nothing.
pub data Waits {C : Type 0} (steps : StepsOf C) (is_waiting : C → Type 0) (old : CarrierPollValue C)
    (result : Result PollOutcome PollFault) (new : CarrierPollValue C) : Type 0 where
  HasFailed : (fault : PollFault) → old.course ≡ Failed fault → result ≡ Err fault → new ≡ old
      → Waits steps is_waiting old result new
  NoneIsOut : ((fault : PollFault) → old.course ≡ Failed fault → ⊥)
      → (IsUnderWay old → is_waiting old.carrier → ⊥) → result ≡ Err Line → new ≡ old
      → Waits steps is_waiting old result new
  IsAwaited : IsUnderWay old → is_waiting old.carrier → TimesOut steps old result new
      → Waits steps is_waiting old result new
