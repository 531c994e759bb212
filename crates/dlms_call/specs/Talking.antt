-- A client at its end of a line: its calls, and the moments at the line for each.
use Rattle.std.specs.Prelude.{◌≡◌, ◌≢◌, ◌⊎◌, ◌+◌, ◌-◌, ◌<◌, ◌≤◌, ℕ, List, [], ◌∷◌, drop, length, Option, Some, None, Result, Ok, Err}
use Rattle.std.specs.List.{flat_map}
use Rattle.std.specs.IoError.{error_kind}
use Rattle.std.specs.declared.io.Error.{Error}
use Rattle.std.specs.declared.io.ErrorKind.TheVariants.{OutOfMemory}
use Rattle.dlms_association.specs.declared.fault.Fault.{Fault}
use Rattle.dlms_association.specs.declared.fault.Fault.TheVariants as fault
use Rattle.dlms_client.specs.Calls.{Feeds, Waits}
use Rattle.dlms_client.specs.ClientValue.{ClientValue}
use Rattle.dlms_client.specs.declared.outcome.Outcome.{Outcome}
use Rattle.dlms_client.specs.declared.outcome.Outcome.TheVariants.{Nothing, Associated, Answered, Down}
use Rattle.dlms_ends.specs.Moments.{Moment, Adds, Breaks}
use Rattle.dlms_ends.specs.Moments.Moment.{Came, Quiet, Unheard, Went}
use Rattle.dlms_secured.specs.declared.fault.SecuredFault.{SecuredFault}
use Rattle.dlms_call.specs.Carried.{CarriedValue, Steps, apdu_of, fault_of, is_waiting, out_of}
use Rattle.dlms_call.specs.declared.client_end.TheConstants.{READS}
use Rattle.dlms_call.specs.declared.fault.CallFault.{CallFault}
use Rattle.dlms_call.specs.declared.fault.CallFault.TheVariants.{Talk, Insecure, Io, Memory}
use Rattle.dlms_call.specs.declared.fault.CallFault.TheVariants.{TooLarge}

-- a client over the secured carrier of its route
abbrev pub ClientAt : Type 0
ClientAt = ClientValue CarriedValue

-- the client, and how many octets may still come
pub record TalkValue : Type 0 where
  pub client : ClientAt
  pub left : ℕ

-- how many octets of a value have come
abbrev pub joined : ClientAt → ℕ
joined c = length c.association.blocks.joined

-- ---- faults

-- the fault of an error of the system: a failed allocation is `Memory`, and any other error is the
-- line's, `Io`
abbrev pub TellsError : Error → CallFault → Type 0
TellsError error fault = ((error_kind error ≡ OutOfMemory) × (fault ≡ Memory))
    ⊎ ((error_kind error ≢ OutOfMemory) × (fault ≡ Io))

-- the fault of some error of the system
abbrev pub IsOfSystem : CallFault → Type 0
IsOfSystem fault = (fault ≡ Memory) ⊎ (fault ≡ Io)

-- the report of a client's fault: the security layer's cause, if it ended the association
abbrev pub cause : Option SecuredFault → Fault → CallFault
cause None fault = Talk fault
cause (Some why) fault = Insecure why

-- ---- the octets to write after a call

-- the octets to write, if there are any, go out at one moment
abbrev pub went : List ℕ → List Moment
went [] = []
went (octet ∷ octets) = Went (octet ∷ octets) ∷ []

-- they go out, or the line breaks
abbrev pub Goes : Option (List Moment) → Option (List Moment) → List ℕ → Result (Unit {0}) CallFault
    → Type 0
Goes old new octets (Ok done) = Adds old new (went octets)
Goes old new octets (Err why) = IsOfSystem why × Breaks old new octets

-- they do not: the line breaks at them, or the security layer ended the association
pub data Stops (old new : Option (List Moment)) (c : ClientAt) (why : CallFault) : Type 0 where
  LineBreaks : IsOfSystem why → Breaks old new (out_of c.carrier) → Stops old new c why
  IsInsecure : (fault : SecuredFault) → fault_of c.carrier ≡ Some fault → why ≡ Insecure fault
      → Adds old new [] → Stops old new c why

-- the octets of a client go out, or they do not
abbrev pub Writes : Option (List Moment) → Option (List Moment) → ClientAt
    → Result (Unit {0}) CallFault → Type 0
Writes old new c (Ok done) = (fault_of c.carrier ≡ None) × Adds old new (went (out_of c.carrier))
Writes old new c (Err why) = Stops old new c why

-- ---- a piece that arrived

-- a call of the client with octets that arrived: how many it read, its outcome, and the octets to
-- write after it
pub record Reading : Type 0 where
  pub count : ℕ
  pub outcome : Outcome
  pub out : List ℕ

-- a call that ends the talk: it reports a fault, or joins more octets of a value than allowed
pub data FailsToRead (most : ℕ) (c : ClientAt) (octets : List ℕ) (count : ℕ) (why : CallFault)
    (c' : ClientAt) : Type 0 where
  HasFault : (fault : Fault) → Feeds Steps apdu_of c octets count (Err fault) c'
      → why ≡ cause (fault_of c'.carrier) fault → FailsToRead most c octets count why c'
  IsTooLarge : (outcome : Outcome) → Feeds Steps apdu_of c octets count (Ok outcome) c'
      → most < joined c'
      → why ≡ TooLarge → FailsToRead most c octets count why c'

-- the call was so, and no more octets of a value have come than allowed
pub record Reads (most : ℕ) (c : ClientAt) (octets : List ℕ) (call : Reading)
    (c' : ClientAt) : Type 0 where
  pub feeds : Feeds Steps apdu_of c octets call.count (Ok call.outcome) c'
  pub within : joined c' ≤ most
  pub out : call.out ≡ out_of c'.carrier

-- the outcome of such a call, or why the talk ends with it: the client's fault, or too many octets
abbrev pub IsOneRead : ℕ → ClientAt → List ℕ → ℕ → Result Outcome CallFault → ClientAt → Type 0
IsOneRead most c octets count (Ok outcome) c' = Feeds Steps apdu_of c octets count (Ok outcome) c'
    × (joined c' ≤ most)
IsOneRead most c octets count (Err fault) c' = FailsToRead most c octets count fault c'

-- these calls, one after another, each with the octets that are left; none ends the association
abbrev pub AllRead : ℕ → ClientAt → List ℕ → List Reading → ClientAt → List ℕ → Type 0
AllRead most c octets [] c' rest = (c' ≡ c) × (rest ≡ octets)
AllRead most c octets (call ∷ calls) c' rest = (mid : ClientAt) × Reads most c octets call mid
    × (fault_of mid.carrier ≡ None) × AllRead most mid (drop call.count octets) calls c' rest

-- what went out at them
abbrev pub moments_of : List Reading → List Moment
moments_of calls = flat_map (λ call. went call.out) calls

-- the second outcome, or the first if the second is none
abbrev pub later : Outcome → Outcome → Outcome
later first Nothing = first
later first Associated = Associated
later first (Answered answer) = Answered answer
later first Down = Down

-- the last outcome of these calls
abbrev pub last_outcome : List Reading → Outcome
last_outcome [] = Nothing
last_outcome (call ∷ calls) = later call.outcome (last_outcome calls)

-- The client reads a piece, and its octets are written after each call. The piece is read to its
-- end; or a call ends the talk,
-- and nothing is written after it; or the octets after a call do not go out.
pub data TakesPiece (most : ℕ) (old new : Option (List Moment)) (c : ClientAt) (octets : List ℕ)
    (result : Result Outcome CallFault) (c' : ClientAt) : Type 0 where
  IsRead : (calls : List Reading) → AllRead most c octets calls c' []
      → Adds old new (moments_of calls)
      → result ≡ Ok (last_outcome calls) → TakesPiece most old new c octets result c'
  Fails : (calls : List Reading) (mid : ClientAt) (rest : List ℕ) (count : ℕ) (why : CallFault)
      → AllRead most c octets calls mid rest → FailsToRead most mid rest count why c'
      → Adds old new (moments_of calls) → result ≡ Err why
      → TakesPiece most old new c octets result c'
  IsStopped : (calls : List Reading) (mid : ClientAt) (rest : List ℕ) (call : Reading)
      (now : Option (List Moment)) (why : CallFault) → AllRead most c octets calls mid rest
      → Reads most mid rest call c' → Adds old now (moments_of calls) → Stops now new c' why
      → result ≡ Err why → TakesPiece most old new c octets result c'

-- ---- a timeout

-- the client handles the timeout, and its octets are written; or it reports a fault; or they do not
-- go out
pub data TakesTimeout (old new : Option (List Moment)) (c : ClientAt)
    (result : Result Outcome CallFault)
    (c' : ClientAt) : Type 0 where
  IsTold : (outcome : Outcome) → Waits Steps is_waiting c (Ok outcome) c'
      → Writes old new c' (Ok tt) → result ≡ Ok outcome → TakesTimeout old new c result c'
  HasFault : (why : Fault) → Waits Steps is_waiting c (Err why) c' → Adds old new []
      → result ≡ Err (cause (fault_of c'.carrier) why) → TakesTimeout old new c result c'
  IsStopped : (outcome : Outcome) (why : CallFault) → Waits Steps is_waiting c (Ok outcome) c'
      → Stops old new c' why → result ≡ Err why → TakesTimeout old new c result c'

-- ---- one read of the line

-- Nothing arrives in time; or a piece arrives, which is counted and read, or is longer than may
-- still come; or the read fails.
pub data Listens (most : ℕ) (old new : Option (List Moment)) (t : TalkValue)
    (result : Result Outcome CallFault) (t' : TalkValue) : Type 0 where
  IsQuiet : (now : Option (List Moment)) → Adds old now (Quiet ∷ []) → t'.left ≡ t.left
      → TakesTimeout now new t.client result t'.client → Listens most old new t result t'
  HasCome : (bytes : List ℕ) (now : Option (List Moment)) → Adds old now (Came bytes ∷ [])
      → length bytes ≤ t.left → t'.left ≡ t.left - length bytes
      → TakesPiece most now new t.client bytes result t'.client → Listens most old new t result t'
  Floods : (bytes : List ℕ) → Adds old new (Came bytes ∷ []) → t.left < length bytes
      → result ≡ Err (Talk fault.Form) → t' ≡ t → Listens most old new t result t'
  ReadFails : (error : Error) (why : CallFault) → Adds old new (Unheard error ∷ [])
      → TellsError error why
      → result ≡ Err why → t' ≡ t → Listens most old new t result t'

-- this many reads of the line, after each of which the talk goes on
pub data ListensOn (most : ℕ) (old : Option (List Moment)) (t : TalkValue)
    : ℕ → Option (List Moment) → TalkValue → Type 0 where
  NoRead : ListensOn most old t 0 old t
  OneMore : (count : ℕ) (now new : Option (List Moment)) (mid t' : TalkValue)
      → ListensOn most old t count now mid → Listens most now new mid (Ok Nothing) t'
      → ListensOn most old t (count + 1) new t'

-- an outcome for the caller
abbrev pub IsMore : Result Outcome CallFault → Type 0
IsMore (Ok Nothing) = ⊥
IsMore (Ok Associated) = Unit {0}
IsMore (Ok (Answered answer)) = Unit {0}
IsMore (Ok Down) = Unit {0}
IsMore (Err fault) = Unit {0}

-- The first read of the line with an outcome for the caller; or the limit of reads was reached.
pub data Settles (most : ℕ) (old new : Option (List Moment)) (t : TalkValue)
    (result : Result Outcome CallFault) (t' : TalkValue) : Type 0 where
  IsTold : (count : ℕ) (now : Option (List Moment)) (mid : TalkValue)
      → ListensOn most old t count now mid → Listens most now new mid result t'
      → IsMore result → Settles most old new t result t'
  Tires : result ≡ Err (Talk fault.Line) → ListensOn most old t READS new t'
      → Settles most old new t result t'
