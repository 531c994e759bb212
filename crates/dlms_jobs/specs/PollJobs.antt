-- A poll over a carrier as a job: its calls at each input, and the octets that it then sends.
use Rattle.std.specs.Prelude.{◌≡◌, ◌-◌, ◌<◌, ◌≤◌, ℕ, List, [], ◌++◌, length, Some, None, Result, Ok, Err, Vec}
use Rattle.std.specs.List.{flat_map}
use Rattle.std.specs.declared.alloc.Global.{Global}
use Rattle.dlms_headend.specs.CarrierPolling.{Begins, CanBegin}
use Rattle.dlms_headend.specs.declared.poll_fault.PollFault.{PollFault}
use Rattle.dlms_headend.specs.declared.poll_fault.PollFault.TheVariants as failing
use Rattle.dlms_headend.specs.declared.step.PollOutcome.{PollOutcome}
use Rattle.dlms_headend.specs.declared.step.PollOutcome.TheVariants.{Nothing, Done}
use Rattle.dlms_secured.specs.declared.fault.SecuredFault.{SecuredFault}
use Rattle.dlms_ends.specs.Carried.{Steps, fault_of, is_down, out_of}
use Rattle.dlms_ends.specs.PollEnds.{AllRead, FailsToRead, FeedsAt, PollAt, PollEndValue, Reading, WaitsAt, cause}
use Rattle.dlms_ends.specs.declared.fault.RunFault.{RunFault}
use Rattle.dlms_ends.specs.declared.fault.RunFault.TheVariants.{Insecure, Memory, Poll}
use Rattle.dlms_fleet.specs.Inputs.{Input}
use Rattle.dlms_fleet.specs.Inputs.Input.{Begins as BeginsOf, Reads as ReadsOf, TimesOut}
use Rattle.dlms_fleet.specs.declared.job.JobStep.{JobStep}
use Rattle.dlms_fleet.specs.declared.job.JobStep.TheVariants as taken

-- ---- the octets to send

-- why the octets of a poll are not sent: the security layer ended the association, or there are some, and memory was refused
pub data Withholds (p : PollAt) (why : RunFault) : Type 0 where
  IsInsecure : (fault : SecuredFault) → fault_of p.carrier ≡ Some fault → why ≡ Insecure fault
      → Withholds p why
  HasNoMemory : fault_of p.carrier ≡ None → 0 < length (out_of p.carrier) → why ≡ Memory
      → Withholds p why

-- the octets of the poll's last call are added to those to send, or withheld
abbrev pub Collects : List ℕ → List ℕ → PollAt → Result PollOutcome RunFault → Type 0
Collects old new p (Ok Nothing) = (fault_of p.carrier ≡ None) × (new ≡ old ++ out_of p.carrier)
Collects old new p (Ok Done) = ⊥
Collects old new p (Err why) = Withholds p why

-- the octets of these calls, in their order
abbrev pub octets_of : List Reading → List ℕ
octets_of calls = flat_map (λ call. call.out) calls

-- ---- the calls at each input

-- The poll requests its connection; or it has begun already, and does not change.
pub data BeginsPoll (old new : List ℕ) (t : PollEndValue) (result : Result PollOutcome RunFault)
    (t' : PollEndValue) : Type 0 where
  HasBegun : CanBegin is_down t.poll → Begins Steps t.poll t'.poll → t'.left ≡ t.left
      → Collects old new t'.poll result → BeginsPoll old new t result t'
  IsTooLate : (CanBegin is_down t.poll → ⊥) → result ≡ Err (Poll failing.Line) → t' ≡ t
      → BeginsPoll old new t result t'

-- The poll reads a piece to its end; or it is done at a call, or fails at it; or the octets of a call are withheld.
pub data ReadsPiece (old new : List ℕ) (p : PollAt) (bytes : List ℕ)
    (result : Result PollOutcome RunFault) (p' : PollAt) : Type 0 where
  IsRead : (calls : List Reading) → AllRead p bytes calls p' [] → new ≡ old ++ octets_of calls
      → result ≡ Ok Nothing → ReadsPiece old new p bytes result p'
  IsDone : (calls : List Reading) (mid : PollAt) (rest : List ℕ) (count : ℕ)
      → AllRead p bytes calls mid rest → FeedsAt mid rest count (Ok Done) p' → result ≡ Ok Done
      → ReadsPiece old new p bytes result p'
  Fails : (calls : List Reading) (mid : PollAt) (rest : List ℕ) (count : ℕ) (why : RunFault)
      → AllRead p bytes calls mid rest → FailsToRead mid rest count why p' → result ≡ Err why
      → ReadsPiece old new p bytes result p'
  IsWithheld : (calls : List Reading) (mid : PollAt) (rest : List ℕ) (count : ℕ) (why : RunFault)
      → AllRead p bytes calls mid rest → FeedsAt mid rest count (Ok Nothing) p'
      → Withholds p' why → result ≡ Err why → ReadsPiece old new p bytes result p'

-- A piece is counted and read, or is longer than may still come.
pub data ReadsBytes (old new : List ℕ) (t : PollEndValue) (bytes : List ℕ)
    (result : Result PollOutcome RunFault) (t' : PollEndValue) : Type 0 where
  HasCome : length bytes ≤ t.left → t'.left ≡ t.left - length bytes
      → ReadsPiece old new t.poll bytes result t'.poll → ReadsBytes old new t bytes result t'
  Floods : t.left < length bytes → result ≡ Err (Poll failing.Protocol) → t' ≡ t
      → ReadsBytes old new t bytes result t'

-- The poll handles the timeout, and its octets are sent or withheld; or it is done, or fails.
pub data TakesTimeout (old new : List ℕ) (p : PollAt) (result : Result PollOutcome RunFault)
    (p' : PollAt) : Type 0 where
  IsRepeated : WaitsAt p (Ok Nothing) p' → Collects old new p' result
      → TakesTimeout old new p result p'
  IsEnough : WaitsAt p (Ok Done) p' → result ≡ Ok Done → TakesTimeout old new p result p'
  HasFault : (why : PollFault) → WaitsAt p (Err why) p'
      → result ≡ Err (cause (fault_of p'.carrier) why p') → TakesTimeout old new p result p'

-- ---- the step

abbrev pub Sent : Type 0
Sent = Vec ℕ Global

-- The step for an outcome: these octets are sent, if there are any. After the end of a poll none are.
abbrev pub IsSending : List ℕ → JobStep Sent RunFault → Type 0
IsSending octets taken.Nothing = octets ≡ []
IsSending octets (taken.Sends message) = (message.items ≡ octets) × (0 < length octets)
IsSending octets taken.Done = ⊥
IsSending octets (taken.Fails fault) = ⊥

abbrev pub IsStep : List ℕ → Result PollOutcome RunFault → JobStep Sent RunFault → Type 0
IsStep octets (Ok Nothing) step = IsSending octets step
IsStep octets (Ok Done) step = step ≡ taken.Done
IsStep octets (Err why) step = step ≡ taken.Fails why

-- the calls at an input, the octets that they give and their outcome
abbrev pub Calls : Input → List ℕ → PollEndValue → Result PollOutcome RunFault → PollEndValue
    → Type 0
Calls BeginsOf octets t result t' = BeginsPoll [] octets t result t'
Calls (ReadsOf bytes) octets t result t' = ReadsBytes [] octets t bytes result t'
Calls TimesOut octets t result t' =
    TakesTimeout [] octets t.poll result t'.poll × (t'.left ≡ t.left)

pub record JobSteps (t : PollEndValue) (at : Input) (step : JobStep Sent RunFault)
    (t' : PollEndValue) : Type 0 where
  pub octets : List ℕ
  pub result : Result PollOutcome RunFault
  pub calls : Calls at octets t result t'
  pub step_is : IsStep octets result step
