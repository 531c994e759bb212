-- A poll over a carrier, call by call: a run of it is a run of its carrier, in which requests and answers alternate, each request is
-- what the poll asks once it took the answers before it, and a poll that is done has the rows of its answers.
use Rattle.std.specs.Prelude.{◌≡◌, ◌⊎◌, ℕ, Bool, true, false, List, [], ◌∷◌, ◌++◌, take, Option, Some, None, option_map, Result, Ok, Err}
use Rattle.std.specs.List.{filter_map, flat_map}
use Rattle.dlms_carrier.specs.Carrying.{Input, Begin as BeginOf, Give, Feed as FeedOf, Wait as WaitOf, End, Call as CarrierCall, Runs as CarrierRuns, handed_at, read, StepsOf, Meaning}
use Rattle.dlms_headend.specs.CarrierPollValue.{CarrierPollValue, TermsValue, requests_of}
use Rattle.dlms_headend.specs.CarrierPolling.{Begins, Feeds, Fits, Waits, fresh_over}
use Rattle.dlms_headend.specs.Due.{AsksFor, Requests}
use Rattle.dlms_headend.specs.Poll.{HasPolled}
use Rattle.dlms_headend.specs.declared.poll_fault.PollFault.{PollFault}
use Rattle.dlms_headend.specs.declared.stage.PollCourse.{PollCourse}
use Rattle.dlms_headend.specs.declared.stage.PollCourse.TheVariants.{Ready, Connecting, Running, Done, Failed}
use Rattle.dlms_headend.specs.declared.step.PollOutcome.{PollOutcome}
use Rattle.dlms_headend.specs.declared.step.PollOutcome.TheVariants as outcome

-- ---- the calls of a poll

-- a call, its arguments and its result; of the octets that arrived the first `count` are read
pub data Call : Type 0 where
  Begin : Call
  Feed : (octets : List ℕ) (count : ℕ) → (result : Result PollOutcome PollFault) → Call
  Wait : (result : Result PollOutcome PollFault) → Call

-- what a call's contract says of the poll before and after it
abbrev pub IsCall : {C : Type 0} → Meaning C → CarrierPollValue C → Call → CarrierPollValue C
    → Type 0
IsCall m old Begin new = (old.course ≡ Ready) × Begins m.steps old new
IsCall m old (Feed octets count result) new =
    (apdus : List (List ℕ)) → Fits old apdus
    → Feeds m.steps m.apdu_of apdus old octets count result new
IsCall m old (Wait result) new = Waits m.steps m.is_waiting old result new

-- the call returned that the poll is done
abbrev pub ReturnsDone : Call → Type 0
ReturnsDone Begin = ⊥
ReturnsDone (Feed octets count (Ok outcome.Nothing)) = ⊥
ReturnsDone (Feed octets count (Ok outcome.Done)) = Unit {0}
ReturnsDone (Feed octets count (Err fault)) = ⊥
ReturnsDone (Wait (Ok outcome.Nothing)) = ⊥
ReturnsDone (Wait (Ok outcome.Done)) = Unit {0}
ReturnsDone (Wait (Err fault)) = ⊥

-- the calls, one after another
abbrev pub Runs : {C : Type 0} → Meaning C → CarrierPollValue C → List Call → CarrierPollValue C
    → Type 0
Runs m old [] new = new ≡ old
Runs {C} m old (call ∷ calls) new = (mid : CarrierPollValue C) × IsCall m old call mid
    × Runs m mid calls new

abbrev pub octets_of : Call → List ℕ
octets_of Begin = []
octets_of (Feed octets count result) = take count octets
octets_of (Wait result) = []

-- the octets that the poll passes to its carrier; before its beginning, after its end and after a fault it drops them
abbrev pub passed : PollCourse → Call → List ℕ
passed Ready call = []
passed Connecting call = octets_of call
passed Running call = octets_of call
passed Done call = []
passed (Failed fault) call = []

-- ---- the APDUs between the poll and the meter

-- an APDU on its way: given to the carrier for the meter, or handed up by the carrier as it reads octets
pub data Passage : Type 0 where
  Request : (apdu : List ℕ) → Passage
  Answer : (apdu : List ℕ) → Passage

abbrev pub passage_by : Input → Option (List ℕ) → Option Passage
passage_by BeginOf handed = None
passage_by (Give apdu) handed = Some (Request apdu)
passage_by (FeedOf octets count) handed = option_map Answer handed
passage_by WaitOf handed = None
passage_by End handed = None

-- all of them, in their order
abbrev pub passages : List CarrierCall → List Passage
passages carried = filter_map
    (λ call. passage_by call.input (handed_at call.event call.apdu)) carried

abbrev pub request_in : Passage → Option (List ℕ)
request_in (Request apdu) = Some apdu
request_in (Answer apdu) = None

abbrev pub answer_in : Passage → Option (List ℕ)
answer_in (Request apdu) = None
answer_in (Answer apdu) = Some apdu

abbrev pub requests : List Passage → List (List ℕ)
requests passed = filter_map request_in passed

abbrev pub answers : List Passage → List (List ℕ)
answers passed = filter_map answer_in passed

-- What passes after these answers, while another is awaited or not: requests and answers in turn, each request what the poll asks once
-- it took the answers before it. An answer that nothing asked for is the last passage.
abbrev pub InTurn : Requests → List (List ℕ) → Bool → List Passage → Type 0
InTurn r taken awaits [] = Unit {0}
InTurn r taken false (Request apdu ∷ rest) = AsksFor r taken apdu × InTurn r taken true rest
InTurn r taken false (Answer apdu ∷ rest) = rest ≡ []
InTurn r taken true (Request apdu ∷ rest) = ⊥
InTurn r taken true (Answer apdu ∷ rest) = InTurn r (taken ++ apdu ∷ []) false rest

-- one of these calls returned that the poll is done
abbrev pub AreDone : List Call → Type 0
AreDone [] = ⊥
AreDone (call ∷ calls) = ReturnsDone call ⊎ AreDone calls

-- ---- the run of its carrier

-- The calls of its carrier that one call of a poll makes: they lead from the carrier before it to the carrier after it, with the octets
-- of that call, and the poll takes the answers in them.
pub record IsShare {C : Type 0} (m : Meaning C) (taken : List (List ℕ)) (old : CarrierPollValue C)
    (call : Call)
    (carried : List CarrierCall) (new : CarrierPollValue C) : Type 0 where
  pub is_call : IsCall m old call new
  pub carrier : CarrierRuns m.steps m.out_of m.apdu_of old.carrier carried new.carrier
  pub octets : read carried ≡ passed old.course call
  pub takes : Fits new (taken ++ answers (passages carried))
  pub told : ReturnsDone call → new.course ≡ Done

-- the share of each call
abbrev pub AreShares : {C : Type 0} → Meaning C → List (List ℕ) → CarrierPollValue C → List Call
    → List (List CarrierCall) → CarrierPollValue C → Type 0
AreShares m taken old [] [] new = new ≡ old
AreShares m taken old [] (share ∷ shares) new = ⊥
AreShares m taken old (call ∷ calls) [] new = ⊥
AreShares {C} m taken old (call ∷ calls) (share ∷ shares) new =
    (mid : CarrierPollValue C) × IsShare m taken old call share mid
    × AreShares m (taken ++ answers (passages share)) mid calls shares new

-- all calls of the carrier
abbrev pub carried_in : List (List CarrierCall) → List CarrierCall
carried_in shares = flat_map (λ share. share) shares

-- Beside a run of a new poll: the run of its carrier, which its calls make up. In it requests and answers pass in turn, the poll took
-- these answers, it is done if a call returned that, and if it is done, they begin with an acceptance and answers that spell its rows;
-- if the columns are asked for, an answer with them came before the rows, and another one after them.
pub record Beside {C : Type 0} (m : Meaning C) (carrier : C) (terms : TermsValue)
    (calls : List Call) (new : CarrierPollValue C) : Type 0 where
  pub shares : List (List CarrierCall)
  pub each : AreShares m [] (fresh_over carrier terms) calls shares new
  pub run : CarrierRuns m.steps m.out_of m.apdu_of carrier (carried_in shares) new.carrier
  pub turns : InTurn (requests_of terms) [] false (passages (carried_in shares))
  pub takes : Fits new (answers (passages (carried_in shares)))
  pub told : AreDone calls → new.course ≡ Done
  pub done : new.course ≡ Done
      → HasPolled terms.columns (answers (passages (carried_in shares))) new.talk.rows

-- ---- the law, over a carrier with this meaning

abbrev pub PollsLead : {C : Type 0} → Meaning C → Type 0
PollsLead {C} m = (carrier : C) (terms : TermsValue) (calls : List Call) (new : CarrierPollValue C)
    → Runs m (fresh_over carrier terms) calls new → Beside m carrier terms calls new
