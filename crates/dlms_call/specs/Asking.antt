-- Requests over a line: each is sent, and then the line is read until its outcome.
use Rattle.std.specs.Prelude.{◌≡◌, ℕ, List, [], Option, Result, Ok, Err}
use Rattle.dlms_apdu.specs.Forms.{RequestForm}
use Rattle.dlms_association.specs.declared.answer.Answer.{Answer}
use Rattle.dlms_association.specs.declared.ask_fault.AskFault.{AskFault}
use Rattle.dlms_association.specs.declared.ask_fault.AskFault.TheVariants as ask
use Rattle.dlms_association.specs.declared.fault.Fault.TheVariants as fault
use Rattle.dlms_association.specs.declared.stage.Asked.{Asked}
use Rattle.dlms_carrier.specs.Any.{AnyValue, IsFresh}
use Rattle.dlms_client.specs.Calls.{Asks, Begins, Leaves, fresh, IsFree as IsFreeOver}
use Rattle.dlms_client.specs.Plan.{PlanValue, terms_in}
use Rattle.dlms_client.specs.declared.outcome.Outcome.{Outcome}
use Rattle.dlms_client.specs.declared.outcome.Outcome.TheVariants.{Nothing, Associated, Answered, Down}
use Rattle.dlms_ends.specs.Moments.{Moment, Adds}
use Rattle.dlms_secured.specs.Guard.{GuardValue}
use Rattle.dlms_call.specs.Carried.{Steps, is_idle}
use Rattle.dlms_call.specs.Talking.{Settles, Stops, TalkValue, Writes}
use Rattle.dlms_call.specs.declared.asking.TheConstants.{NO_BOUND}
use Rattle.dlms_call.specs.declared.client_end.TheConstants.{MOST_BYTES}
use Rattle.dlms_call.specs.declared.fault.CallFault.{CallFault}
use Rattle.dlms_call.specs.declared.fault.CallFault.TheVariants.{Talk, TooLong, Memory}

-- the outcome of a requested association, of a request and of the connection's end; anything else
-- is of another form
abbrev pub opening_result : Result Outcome CallFault → Result (Unit {0}) CallFault
opening_result (Ok Nothing) = Err (Talk fault.Form)
opening_result (Ok Associated) = Ok tt
opening_result (Ok (Answered answer)) = Err (Talk fault.Form)
opening_result (Ok Down) = Err (Talk fault.Form)
opening_result (Err fault) = Err fault

abbrev pub answer_in : Result Outcome CallFault → Result Answer CallFault
answer_in (Ok Nothing) = Err (Talk fault.Form)
answer_in (Ok Associated) = Err (Talk fault.Form)
answer_in (Ok (Answered answer)) = Ok answer
answer_in (Ok Down) = Err (Talk fault.Form)
answer_in (Err fault) = Err fault

abbrev pub release_result : Result Outcome CallFault → Result (Unit {0}) CallFault
release_result (Ok Nothing) = Err (Talk fault.Form)
release_result (Ok Associated) = Err (Talk fault.Form)
release_result (Ok (Answered answer)) = Err (Talk fault.Form)
release_result (Ok Down) = Ok tt
release_result (Err fault) = Err fault

-- The octets to write go out, and the settled outcome is returned as the caller's; or they do not
-- go out.
pub data GoesOut {X : Type 0} (most : ℕ) (told_in : Result Outcome CallFault → Result X CallFault)
    (old new : Option (List Moment)) (t : TalkValue) (result : Result X CallFault) (t' : TalkValue)
    : Type 0 where
  IsStopped : (why : CallFault) → Stops old new t.client why → result ≡ Err why → t' ≡ t
      → GoesOut most told_in old new t result t'
  IsSettled : (now : Option (List Moment)) (told : Result Outcome CallFault)
      → Writes old now t.client (Ok tt) → Settles most now new t told t'
      → result ≡ told_in told → GoesOut most told_in old new t result t'

-- ---- an association

-- a client by this plan with this guard, or with none, to which nothing has come
pub record IsNew (plan : PlanValue) (guard : Option GuardValue) (t : TalkValue) : Type 0 where
  pub carrier : AnyValue
  pub route : IsFresh plan.route carrier
  pub client : t.client ≡ fresh (record { carrier = carrier; guard = guard }) (terms_in plan)
  pub left : t.left ≡ MOST_BYTES

-- it requests the connection, its octets are written, and this is its outcome
pub record Opens (old new : Option (List Moment)) (plan : PlanValue) (guard : Option GuardValue)
    (result : Result (Unit {0}) CallFault) (t' : TalkValue) : Type 0 where
  pub first : TalkValue
  pub mid : TalkValue
  pub fresh : IsNew plan guard first
  pub begins : Begins Steps first.client mid.client
  pub left : mid.left ≡ first.left
  pub goes : GoesOut NO_BOUND opening_result old new mid result t'

-- or nothing is sent, for want of memory
pub data FailsToOpen (old new : Option (List Moment)) (plan : PlanValue) (guard : Option GuardValue)
    (why : CallFault) : Type 0 where
  HasNoRoom : why ≡ Memory → Adds old new [] → FailsToOpen old new plan guard why
  IsNotOpened : (t' : TalkValue) → Opens old new plan guard (Err why) t'
      → FailsToOpen old new plan guard why

-- ---- a request

-- a request may be made
abbrev pub IsFree : TalkValue → Type 0
IsFree t = IsFreeOver is_idle t.client

-- the report of a request that the client does not make
abbrev pub told_of : AskFault → CallFault
told_of ask.TooLong = TooLong
told_of ask.Memory = Memory

-- If it may be requested, the client makes the request and it is sent, and the answer is returned;
-- or the client does not make it.
-- If it may not, nothing happens.
pub data Requests (most : ℕ) (may : Type 0) (asked : Asked) (form : RequestForm)
    (old new : Option (List Moment)) (t : TalkValue) (result : Result Answer CallFault)
    (t' : TalkValue)
    : Type 0 where
  NotAsked : (may → ⊥) → result ≡ Err (Talk fault.Form) → t' ≡ t → Adds old new []
      → Requests most may asked form old new t result t'
  NotMade : may → (why : AskFault) → Asks Steps asked form t.client (Err why) t'.client
      → t'.left ≡ t.left → result ≡ Err (told_of why) → Adds old new []
      → Requests most may asked form old new t result t'
  IsMade : may → (mid : TalkValue) → Asks Steps asked form t.client (Ok tt) mid.client
      → mid.left ≡ t.left → GoesOut most answer_in old new mid result t'
      → Requests most may asked form old new t result t'

-- ---- the connection's end

-- If it may be requested, the client requests it: it comes at once, or the octets of the client
-- are written, and the outcome is returned.
pub data EndsTalk (may : Type 0) (old new : Option (List Moment)) (t : TalkValue)
    (result : Result (Unit {0}) CallFault) (t' : TalkValue) : Type 0 where
  NotEnded : (may → ⊥) → result ≡ Err (Talk fault.Form) → t' ≡ t → Adds old new []
      → EndsTalk may old new t result t'
  EndsAtOnce : may → Leaves Steps t.client (Ok Down) t'.client → t'.left ≡ t.left → result ≡ Ok tt
      → Adds old new [] → EndsTalk may old new t result t'
  IsEnded : may → (outcome : Outcome) (mid : TalkValue) → (outcome ≡ Down → ⊥)
      → Leaves Steps t.client (Ok outcome) mid.client → mid.left ≡ t.left
      → GoesOut NO_BOUND release_result old new mid result t'
      → EndsTalk may old new t result t'
