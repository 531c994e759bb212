-- A poll over a carrier at its end of a line: its calls, and the moments at the line for each.
use Rattle.std.specs.Prelude.{◌≡◌, ◌+◌, ◌-◌, ◌<◌, ◌≤◌, ℕ, List, [], ◌∷◌, ◌++◌, drop, length, Option, Some, None, Result, Ok, Err}
use Rattle.std.specs.List.{flat_map}
use Rattle.std.specs.declared.io.Error.{Error}
use Rattle.dlms_carrier.specs.Any.{AnyValue, IsFresh}
use Rattle.dlms_carrier.specs.declared.any.Route.{Route}
use Rattle.dlms_carrier.specs.Carrying.{Meaning, meaning}
use Rattle.dlms_headend.specs.CarrierPollValue.{CarrierPollValue, TermsValue}
use Rattle.dlms_headend.specs.CarrierPolling.{Begins, fresh_over}
use Rattle.dlms_headend.specs.CarrierRun.{Beside, Call, Feed, Wait, IsCall}
use Rattle.dlms_headend.specs.Listed.{columns_listed_in}
use Rattle.dlms_headend.specs.declared.poll_fault.PollFault.{PollFault}
use Rattle.dlms_headend.specs.declared.poll_fault.PollFault.TheVariants as failing
use Rattle.dlms_headend.specs.declared.stage.PollCourse.TheVariants as standing
use Rattle.dlms_headend.specs.declared.step.PollOutcome.{PollOutcome}
use Rattle.dlms_headend.specs.declared.step.PollOutcome.TheVariants.{Nothing, Done}
use Rattle.dlms_secured.specs.Guard.{GuardValue}
use Rattle.dlms_secured.specs.declared.fault.SecuredFault.{SecuredFault}
use Rattle.dlms_ends.specs.Carried.{CarriedValue, Steps, apdu_of, fault_of, is_waiting, out_of}
use Rattle.dlms_ends.specs.Faults.{IsOfSystem, TellsError}
use Rattle.dlms_ends.specs.Moments.{Moment, Adds, Breaks}
use Rattle.dlms_ends.specs.Moments.Moment.{Came, Quiet, Unheard, Went}
use Rattle.dlms_ends.specs.declared.fault.RunFault.{RunFault}
use Rattle.dlms_ends.specs.declared.fault.RunFault.TheVariants.{Poll, Columns, Insecure}
use Rattle.dlms_ends.specs.declared.head_end.TheConstants.{MOST_BYTES}
use Rattle.dlms_ends.specs.declared.poll_end.TheConstants.{MOST_READS}

-- a poll over the secured carrier of its route
abbrev pub PollAt : Type 0
PollAt = CarrierPollValue CarriedValue

abbrev pub means : Meaning CarriedValue
means = meaning Steps out_of apdu_of is_waiting

-- the poll, and how many octets may still come
pub record PollEndValue : Type 0 where
  pub poll : PollAt
  pub left : ℕ

-- a poll by these terms over the carrier of this route, with this guard or with none, to which nothing has come
pub record IsNew (route : Route) (terms : TermsValue) (guard : Option GuardValue) (t : PollEndValue)
    : Type 0 where
  pub carrier : AnyValue
  pub fresh : IsFresh route carrier
  pub poll : t.poll ≡ fresh_over (record { carrier = carrier; guard = guard }) terms
  pub left : t.left ≡ MOST_BYTES

-- other columns are reported with those that the last answer lists
abbrev pub told_by : PollFault → PollAt → RunFault
told_by failing.Columns p = Columns (columns_listed_in (apdu_of p.carrier))
told_by fault p = Poll fault

-- the report of a poll's fault: the security layer's cause, if it ended the association
abbrev pub cause : Option SecuredFault → PollFault → PollAt → RunFault
cause None fault p = told_by fault p
cause (Some why) fault p = Insecure why

-- ---- the octets to write after a call

-- the octets, if there are any, are written at one moment
abbrev pub went : List ℕ → List Moment
went [] = []
went (octet ∷ octets) = Went (octet ∷ octets) ∷ []

-- they are written, or the line breaks
abbrev pub Goes : Option (List Moment) → Option (List Moment) → List ℕ → Result (Unit {0}) RunFault
    → Type 0
Goes old new octets (Ok done) = Adds old new (went octets)
Goes old new octets (Err why) = IsOfSystem why × Breaks old new octets

-- they are not: the line breaks at them, or the security layer ended the association
pub data Stops (old new : Option (List Moment)) (p : PollAt) (why : RunFault) : Type 0 where
  LineBreaks : IsOfSystem why → Breaks old new (out_of p.carrier) → Stops old new p why
  IsInsecure : (fault : SecuredFault) → fault_of p.carrier ≡ Some fault → why ≡ Insecure fault
      → Adds old new [] → Stops old new p why

-- the octets of a poll are written, or they are not
abbrev pub Writes : Option (List Moment) → Option (List Moment) → PollAt
    → Result (Unit {0}) RunFault → Type 0
Writes old new p (Ok done) = (fault_of p.carrier ≡ None) × Adds old new (went (out_of p.carrier))
Writes old new p (Err why) = Stops old new p why

-- the connection is requested, and the octets of the poll are written
pub record Dials (old new : Option (List Moment)) (t : PollEndValue)
    (result : Result (Unit {0}) RunFault) (t' : PollEndValue) : Type 0 where
  pub begins : Begins Steps t.poll t'.poll
  pub goes : Writes old new t'.poll result
  pub left : t'.left ≡ t.left

-- ---- a piece that arrived

-- a call of the poll with octets that arrived: how many it read, and the octets to write after it
pub record Reading : Type 0 where
  pub count : ℕ
  pub out : List ℕ

-- the call as the poll's own laws see it
abbrev pub FeedsAt : PollAt → List ℕ → ℕ → Result PollOutcome PollFault → PollAt → Type 0
FeedsAt p octets count result p' = IsCall means p (Feed octets count result) p'

-- a call after which the poll goes on
pub record Reads (p : PollAt) (octets : List ℕ) (call : Reading) (p' : PollAt) : Type 0 where
  pub feeds : FeedsAt p octets call.count (Ok Nothing) p'
  pub whole : fault_of p'.carrier ≡ None
  pub out : call.out ≡ out_of p'.carrier

-- a call at which the poll fails
pub record FailsToRead (p : PollAt) (octets : List ℕ) (count : ℕ) (why : RunFault) (p' : PollAt) :
    Type 0 where
  pub fault : PollFault
  pub feeds : FeedsAt p octets count (Err fault) p'
  pub told : why ≡ cause (fault_of p'.carrier) fault p'

-- the outcome of such a call, or why the poll fails
abbrev pub IsOneRead : PollAt → List ℕ → ℕ → Result PollOutcome RunFault → PollAt → Type 0
IsOneRead p octets count (Ok outcome) p' = FeedsAt p octets count (Ok outcome) p'
IsOneRead p octets count (Err why) p' = FailsToRead p octets count why p'

-- these calls, one after another, each with the octets that are left
pub data AllRead (p : PollAt) (octets : List ℕ) : List Reading → PollAt → List ℕ → Type 0 where
  NoCall : AllRead p octets [] p octets
  OneCall : (calls : List Reading) (mid p' : PollAt) (rest : List ℕ) (call : Reading)
      → AllRead p octets calls mid rest → Reads mid rest call p'
      → AllRead p octets (calls ++ call ∷ []) p' (drop call.count rest)

-- the octets written after these calls, in their order
abbrev pub moments_of : List Reading → List Moment
moments_of calls = flat_map (λ call. went call.out) calls

-- The poll reads a piece, and its octets are written after each call. The piece is read to its end; or the poll is done at a call, or
-- fails at it, and nothing is written after it; or the octets after a call are not written.
pub data TakesPiece (old new : Option (List Moment)) (p : PollAt) (octets : List ℕ)
    (result : Result PollOutcome RunFault) (p' : PollAt) : Type 0 where
  IsRead : (calls : List Reading) → AllRead p octets calls p' [] → Adds old new (moments_of calls)
      → result ≡ Ok Nothing → TakesPiece old new p octets result p'
  IsDone : (calls : List Reading) (mid : PollAt) (rest : List ℕ) (count : ℕ)
      → AllRead p octets calls mid rest → FeedsAt mid rest count (Ok Done) p'
      → Adds old new (moments_of calls) → result ≡ Ok Done → TakesPiece old new p octets result p'
  Fails : (calls : List Reading) (mid : PollAt) (rest : List ℕ) (count : ℕ) (why : RunFault)
      → AllRead p octets calls mid rest → FailsToRead mid rest count why p'
      → Adds old new (moments_of calls) → result ≡ Err why → TakesPiece old new p octets result p'
  IsStopped : (calls : List Reading) (mid : PollAt) (rest : List ℕ) (count : ℕ)
      (now : Option (List Moment)) (why : RunFault) → AllRead p octets calls mid rest
      → FeedsAt mid rest count (Ok Nothing) p' → Adds old now (moments_of calls)
      → Stops now new p' why → result ≡ Err why → TakesPiece old new p octets result p'

-- ---- a timeout

-- the call as the poll's own laws see it
abbrev pub WaitsAt : PollAt → Result PollOutcome PollFault → PollAt → Type 0
WaitsAt p result p' = IsCall means p (Wait result) p'

-- the poll handles the timeout, and its octets are written, or are not; or it is done, or fails
pub data TakesTimeout (old new : Option (List Moment)) (p : PollAt)
    (result : Result PollOutcome RunFault)
    (p' : PollAt) : Type 0 where
  IsRepeated : WaitsAt p (Ok Nothing) p' → Writes old new p' (Ok tt) → result ≡ Ok Nothing
      → TakesTimeout old new p result p'
  IsEnough : WaitsAt p (Ok Done) p' → Adds old new [] → result ≡ Ok Done
      → TakesTimeout old new p result p'
  HasFault : (why : PollFault) → WaitsAt p (Err why) p' → Adds old new []
      → result ≡ Err (cause (fault_of p'.carrier) why p') → TakesTimeout old new p result p'
  IsStopped : (why : RunFault) → WaitsAt p (Ok Nothing) p' → Stops old new p' why
      → result ≡ Err why → TakesTimeout old new p result p'

-- ---- the line fails

-- the outcome of a poll whose line failed for this cause: it is done if a timeout ends it so
abbrev pub outcome_of_loss : RunFault → Result PollOutcome PollFault → Result PollOutcome RunFault
outcome_of_loss why (Ok Done) = Ok Done
outcome_of_loss why (Ok Nothing) = Err why
outcome_of_loss why (Err fault) = Err why

-- the poll takes the failure for a timeout
abbrev pub IsLost : PollAt → RunFault → Result PollOutcome RunFault → PollAt → Type 0
IsLost p why result p' = (told : Result PollOutcome PollFault) × WaitsAt p told p'
    × (result ≡ outcome_of_loss why told)

-- ---- one read of the line

-- Nothing arrives in time; or a piece arrives, which is counted and read, or is longer than may still come; or the read fails, which
-- ends the poll.
pub data Listens (old new : Option (List Moment)) (t : PollEndValue)
    (result : Result PollOutcome RunFault) (t' : PollEndValue) : Type 0 where
  IsQuiet : (now : Option (List Moment)) → Adds old now (Quiet ∷ []) → t'.left ≡ t.left
      → TakesTimeout now new t.poll result t'.poll → Listens old new t result t'
  HasCome : (bytes : List ℕ) (now : Option (List Moment)) → Adds old now (Came bytes ∷ [])
      → length bytes ≤ t.left → t'.left ≡ t.left - length bytes
      → TakesPiece now new t.poll bytes result t'.poll → Listens old new t result t'
  Floods : (bytes : List ℕ) → Adds old new (Came bytes ∷ []) → t.left < length bytes
      → result ≡ Err (Poll failing.Protocol) → t' ≡ t → Listens old new t result t'
  ReadFails : (error : Error) (why : RunFault) → Adds old new (Unheard error ∷ [])
      → TellsError error why
      → t'.left ≡ t.left → IsLost t.poll why result t'.poll → Listens old new t result t'

-- ---- the poll

-- this many reads of the line, after each of which the poll goes on
pub data ListensOn (old : Option (List Moment)) (t : PollEndValue)
    : ℕ → Option (List Moment) → PollEndValue → Type 0 where
  NoRead : ListensOn old t 0 old t
  OneMore : (count : ℕ) (now new : Option (List Moment)) (mid t' : PollEndValue)
      → ListensOn old t count now mid → Listens now new mid (Ok Nothing) t'
      → ListensOn old t (count + 1) new t'

-- the poll is done, or it failed
abbrev pub Ends : Result PollOutcome RunFault → Result (Unit {0}) RunFault → Type 0
Ends (Ok Nothing) result = ⊥
Ends (Ok Done) result = result ≡ Ok tt
Ends (Err fault) result = result ≡ Err fault

-- The poll dials, and reads the line until it is done or fails; or its octets are not written as it dials; or the limit of reads is
-- reached.
pub data PollsOver (old new : Option (List Moment)) (t : PollEndValue)
    (result : Result (Unit {0}) RunFault) (t' : PollEndValue) : Type 0 where
  DialsInVain : (why : RunFault) → Dials old new t (Err why) t' → result ≡ Err why
      → PollsOver old new t result t'
  Listened : (dialled : Option (List Moment)) (first : PollEndValue) (count : ℕ)
      (now : Option (List Moment)) (mid : PollEndValue)
      (told : Result PollOutcome RunFault) → Dials old dialled t (Ok tt) first
      → ListensOn dialled first count now mid
      → Listens now new mid told t' → Ends told result → PollsOver old new t result t'
  Tires : (dialled : Option (List Moment)) (first : PollEndValue)
      → Dials old dialled t (Ok tt) first
      → ListensOn dialled first MOST_READS new t' → result ≡ Err (Poll failing.Line)
      → PollsOver old new t result t'

-- The poll is done, by calls that led to it from a new one: so requests and answers passed in turn, and the answers begin with an
-- acceptance and answers that spell its rows.
pub record IsPolledOver (route : Route) (terms : TermsValue) (guard : Option GuardValue)
    (t : PollEndValue) : Type 0 where
  pub carrier : AnyValue
  pub fresh : IsFresh route carrier
  pub calls : List Call
  pub beside : Beside means (record { carrier = carrier; guard = guard }) terms calls t.poll
  pub done : t.poll.course ≡ standing.Done
