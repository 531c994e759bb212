-- The stake of an answer: success or data, which may only be reported of settled events.
use Rattle.std.specs.Prelude.{◌≡◌, ℕ, ◌==◌, ◌&&◌, ◌||◌, Bool, true, if◌then◌else◌, List, [], Ok, get_or}
use Rattle.dlms_apdu.specs.Forms.{RequestForm, get_normal, get_next, set_normal, set_first, set_block, action_normal, action_first, action_block, get_result, get_block_result, set_result, set_last, action_result}
use Rattle.dlms_apdu.specs.Reading.{request_at}
use Rattle.dlms_state.specs.declared.event.Event.{Event}
use Rattle.dlms_service.specs.declared.stake.Stake.{Stake}
use Rattle.dlms_service.specs.declared.stake.Stake.TheVariants.{Get, Next, Set, SetLast, Action}
use Rattle.dlms_service.specs.Session.{SessionValue, Outcome, says, without_get, without_put}
use Rattle.dlms_service.specs.Serves.{FindsMemory, Serves}

-- an answer of this service and form, with a 0 at this place
abbrev pub tells : ℕ → ℕ → ℕ → List ℕ → Bool
tells service form place answer =
    (get_or answer 0 0 == service) && (get_or answer 1 0 == form) && (get_or answer place 1 == 0)

-- An answer of success, or with data (IEC 62056-5-3): GET with data (C4 01 invoke 00 ..), a block of GET with raw bytes
-- (C4 02 invoke last number 00 ..), SET (C5 01 invoke 00), the last block of SET (C5 03 invoke 00 number), ACTION (C7 01 invoke 00 ..).
abbrev pub is_success : List ℕ → Bool
is_success answer =
    tells 0xC4 1 3 answer || tells 0xC4 2 8 answer || tells 0xC5 1 3 answer || tells 0xC5 3 3 answer || tells 0xC7 1 3 answer

-- the result of a device that failed: hardware-fault
abbrev pub hardware_fault : ℕ
hardware_fault = 1

-- in which form a request is answered so
abbrev pub stake_of : RequestForm → Stake
stake_of (get_normal invoke d selector) = Get invoke
stake_of (get_next invoke number) = Next invoke number
stake_of (set_normal invoke d selector v) = Set invoke
stake_of (set_first invoke d selector last number raw) = SetLast invoke number
stake_of (set_block invoke last number raw) = SetLast invoke number
stake_of (action_normal invoke d parameter) = Action invoke
stake_of (action_first invoke d last number raw) = Action invoke
stake_of (action_block invoke last number raw) = Action invoke

-- the device failed: the transfer ends, with result 1 in the form of its request
abbrev pub fails : SessionValue → Stake → Outcome
fails s (Get invoke) = says (without_get s) (get_result invoke hardware_fault)
fails s (Next invoke number) = says (without_get s) (get_block_result invoke number hardware_fault)
fails s (Set invoke) = says (without_put s) (set_result invoke hardware_fault)
fails s (SetLast invoke number) = says (without_put s) (set_last invoke hardware_fault number)
fails s (Action invoke) = says (without_put s) (action_result invoke hardware_fault)

-- the same, whether or not the event is accepted
abbrev pub failing : Bool → SessionValue → Stake → List Event → Outcome
failing kept s stake events = record (fails s stake) { accepted = if kept then events else [] }

-- A request would have been answered with success or data, and the device failed: result 1 takes the place of that answer.
abbrev pub FailsBy : (Outcome → Type 0) → Bool → SessionValue → List ℕ → Outcome → Type 0
FailsBy Leads kept s apdu o =
    (form : RequestForm) × (request_at apdu ≡ Ok form) × (would : Outcome) × Leads would
    × (is_success would.answer ≡ true)
    × (o ≡ failing kept s (stake_of form) would.accepted)

abbrev pub Fails : Bool → List Event → SessionValue → List ℕ → Outcome → Type 0
Fails kept E s apdu o = FailsBy (Serves FindsMemory E s apdu) kept s apdu o
