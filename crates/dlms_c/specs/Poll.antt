-- The answers of a poller's calls.
use Rattle.std.specs.Prelude.{◌≡◌, ◌≤◌, ℕ, Bool, true, false, if◌then◌else◌, List, [], ◌∷◌, length, take, Option, Some, None, Result, Ok, Err, IfNone, IfSome, IsSome, slice_index_or}
use Rattle.dlms_data.specs.declared.date_time.TheConstants.{LAST_SECOND}
use Rattle.dlms_frame.specs.Client.{client_of}
use Rattle.dlms_frame.specs.Frame.{FrameSpelling, Parts}
use Rattle.dlms_frame.specs.Stream.{Fits as KeepsStretch, Takes}
use Rattle.dlms_headend.specs.Asking.{PlanValue}
use Rattle.dlms_headend.specs.Poll.{HasReleased}
use Rattle.dlms_headend.specs.PollerValue.{PollerValue}
use Rattle.dlms_headend.specs.Polling.{CanTimeOut, Fits, Polls, TimesOut, WantsMemory, fresh_poll}
use Rattle.dlms_headend.specs.declared.plan.Columns.{Columns as ColumnsChoice}
use Rattle.dlms_headend.specs.declared.plan.Columns.TheVariants.{Asked, Trusted}
use Rattle.dlms_headend.specs.declared.row.Row.{Row}
use Rattle.dlms_headend.specs.declared.stage.Course.TheVariants.{Running}
use Rattle.dlms_c.specs.declared.codes.TheConstants.{COLUMNS, DENIED, DONE, LINE, MEMORY, NOTHING, PROTOCOL, RESULT, SEND}
use Rattle.dlms_c.specs.declared.kept_poller.KeptPoller.{KeptPoller}
use Rattle.dlms_c.specs.declared.poller.PollPlan.{PollPlan}
use Rattle.dlms_c.specs.declared.poller.PolledRow.{PolledRow}
use Rattle.dlms_headend.specs.declared.poll_fault.PollFault.{PollFault}
use Rattle.dlms_headend.specs.declared.poll_fault.PollFault.TheVariants.{Refused, Result as Answered, Line, Protocol, Columns, Memory}
use Rattle.dlms_headend.specs.declared.step.PollStep.{PollStep}
use Rattle.dlms_headend.specs.declared.step.PollStep.TheVariants.{Nothing, Send, Done}

-- ---- the arguments of a poll

-- A poll may have these arguments: a client's address, a secret of at most 16 octets, and if a second is given, one of the clock.
pub record CanPoll (asked : PollPlan) (secret : List ℕ) : Type 0 where
  pub client : IsSome (client_of asked.client)
  pub short : length secret ≤ 16
  pub after : asked.has_after ≡ true → asked.after ≤ LAST_SECOND

-- the second from which rows are asked for, if one is given
abbrev pub after_of : PollPlan → Option ℕ
after_of asked = if asked.has_after then Some asked.after else None

abbrev pub columns_of : Bool → ColumnsChoice
columns_of true = Asked
columns_of false = Trusted

-- the plan has exactly this client, secret, second and columns, and no last second
pub record IsPlanOf (asked : PollPlan) (secret : List ℕ) (plan : PlanValue) : Type 0 where
  pub client : client_of asked.client ≡ Some plan.client
  pub knows : plan.secret ≡ secret
  pub after : plan.after ≡ after_of asked
  pub until : plan.until ≡ None
  pub columns : plan.columns ≡ columns_of asked.asks_columns

-- the poll of a plan, not begun; no octet has come
pub record IsFresh (plan : PlanValue) (k : KeptPoller) : Type 0 where
  pub poller : k.poller ≡ fresh_poll plan
  pub fits : Fits k.poller []
  pub deframer : KeepsStretch k.deframer.bytes [] 0

-- the poll of exactly what is asked for
pub record IsNewPoller (asked : PollPlan) (secret : List ℕ) (k : KeptPoller) : Type 0 where
  pub plan : PlanValue
  pub planned : IsPlanOf asked secret plan
  pub fresh : IsFresh plan k

-- ---- what a call answers

-- the code of a fault, and the number that it carries
abbrev pub fault_code : PollFault → ℕ
fault_code (Refused number) = DENIED
fault_code (Answered number) = RESULT
fault_code Line = LINE
fault_code Protocol = PROTOCOL
fault_code Columns = COLUMNS
fault_code Memory = MEMORY

abbrev pub fault_number : PollFault → ℕ
fault_number (Refused number) = number
fault_number (Answered number) = number
fault_number Line = 0
fault_number Protocol = 0
fault_number Columns = 0
fault_number Memory = 0

-- a code alone: no frame is to be sent, and no number is carried
pub record TellsOnly (answer code : ℕ) (sent : List ℕ) (number : ℕ) : Type 0 where
  pub code_is : code ≡ answer
  pub none : sent ≡ []
  pub carried : number ≡ 0

-- a frame that is to be sent
pub record TellsSend (frame : Parts) (code : ℕ) (sent : List ℕ) (number : ℕ) : Type 0 where
  pub code_is : code ≡ SEND
  pub spelled : FrameSpelling sent frame
  pub carried : number ≡ 0

-- a fault
pub record TellsFault (fault : PollFault) (code : ℕ) (sent : List ℕ) (number : ℕ) : Type 0 where
  pub code_is : code ≡ fault_code fault
  pub none : sent ≡ []
  pub carried : number ≡ fault_number fault

-- The answer for a poll's outcome: the code, the octets of the frame to send, and the fault's number.
abbrev pub Tells : Option (Result PollStep PollFault) → (code : ℕ) (sent : List ℕ) (number : ℕ)
    → Type 0
Tells None code sent number = TellsOnly NOTHING code sent number
Tells (Some (Ok Nothing)) code sent number = TellsOnly NOTHING code sent number
Tells (Some (Ok (Send frame))) code sent number = TellsSend frame code sent number
Tells (Some (Ok Done)) code sent number = TellsOnly DONE code sent number
Tells (Some (Err fault)) code sent number = TellsFault fault code sent number

-- the same of a frame that is to be sent, if there is one
abbrev pub TellsFrame : Option Parts → (code : ℕ) (sent : List ℕ) → Type 0
TellsFrame None code sent = (code ≡ NOTHING) × (sent ≡ [])
TellsFrame (Some frame) code sent = (code ≡ SEND) × FrameSpelling sent frame

-- the same of a time-out
abbrev pub TellsAgain : Option (Result Parts PollFault) → (code : ℕ) (sent : List ℕ) (number : ℕ)
    → Type 0
TellsAgain None code sent number = TellsOnly NOTHING code sent number
TellsAgain (Some (Ok frame)) code sent number = TellsSend frame code sent number
TellsAgain (Some (Err fault)) code sent number = TellsFault fault code sent number

-- How the poll handles a frame after these APDUs. It is done only if they hold the rows, and out of memory comes only for an answer
-- that needs some.
pub record PollsFrame (apdus : List (List ℕ)) (f : Parts) (old : PollerValue)
    (made : Result PollStep PollFault) (new : PollerValue) : Type 0 where
  pub polls : Polls apdus f old made new
  pub done : made ≡ Ok Done → HasReleased old.plan.columns apdus new.talk.rows
  pub memory : old.course ≡ Running → made ≡ Err Memory → WantsMemory old apdus f

-- Octets through at most one frame of the stretch, how the poll handles it, and the answer.
pub record TakesFrame (old : KeptPoller) (octets : List ℕ) (taken code : ℕ) (sent : List ℕ)
    (number : ℕ) (new : KeptPoller) : Type 0 where
  pub within : taken ≤ length octets
  pub takes : Takes old.deframer.bytes (take taken octets) new.deframer.frame new.deframer.bytes
  pub step : Option (Result PollStep PollFault)
  pub none : new.deframer.frame ≡ None → (step ≡ None) × (new.poller ≡ old.poller)
  pub polls : (f : Parts) → new.deframer.frame ≡ Some f → IfSome step
      (λ made. (apdus : List (List ℕ)) → Fits old.poller apdus
      → PollsFrame apdus f old.poller made new.poller)
  pub some : (f : Parts) → new.deframer.frame ≡ Some f → IsSome step
  pub tells : Tells step code sent number

-- A timeout, and its answer; nothing if there can be none.
pub record TimesOutOnce (old : KeptPoller) (code : ℕ) (sent : List ℕ) (number : ℕ)
    (new : KeptPoller) : Type 0 where
  pub again : Option (Result Parts PollFault)
  pub none : IfNone again ((CanTimeOut old.poller → ⊥) × (new ≡ old))
  pub some : IfSome again (λ made. CanTimeOut old.poller × TimesOut old.poller made new.poller)
  pub tells : TellsAgain again code sent number

-- this is at the index
abbrev pub IsItem : {X : Type 0} → List X → ℕ → X → Type 0
IsItem {X} xs index x = (d : X) → slice_index_or xs index d ≡ x

-- a row's second and registers, in their order
abbrev pub IsRow : PolledRow → Row → Type 0
IsRow row polled = (row.second ≡ polled.clock)
    × (polled.registers ≡ row.active_import ∷ row.active_export ∷ row.reactive_import ∷ [])
