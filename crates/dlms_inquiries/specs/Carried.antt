-- The carrier of an association: one that protects APDUs if it has a guard, over the carrier of the route.
use Rattle.std.specs.Prelude.{ℕ, List, Option, Some, None}
use Rattle.dlms_carrier.specs.Any as any
use Rattle.dlms_carrier.specs.Any.{AnyValue}
use Rattle.dlms_carrier.specs.Carrying.{Input, Meaning, meaning}
use Rattle.dlms_carrier.specs.declared.event.Event.{Event}
use Rattle.dlms_secured.specs.Guard.{GuardValue}
use Rattle.dlms_secured.specs.Steps as secured
use Rattle.dlms_secured.specs.Steps.{SecuredValue, fault_with}
use Rattle.dlms_secured.specs.declared.fault.SecuredFault.{SecuredFault}

abbrev pub CarriedValue : Type 0
CarriedValue = SecuredValue AnyValue

-- its calls, its octets to write and the APDU that it handed up last
abbrev pub Steps : CarriedValue → Input → Event → CarriedValue → Type 0
Steps = secured.Steps any.Steps any.apdu_of

abbrev pub out_of : CarriedValue → List ℕ
out_of = secured.out_of any.out_of

abbrev pub apdu_of : CarriedValue → List ℕ
apdu_of = secured.apdu_of any.apdu_of

-- there is no connection; an APDU may be given; an answer is awaited
abbrev pub is_down : CarriedValue → Type 0
is_down = λ s. any.is_down s.carrier

abbrev pub is_idle : CarriedValue → Type 0
is_idle = secured.IsIdle any.is_idle

abbrev pub is_waiting : CarriedValue → Type 0
is_waiting = secured.IsWaiting any.is_waiting

abbrev pub means : Meaning CarriedValue
means = meaning Steps out_of apdu_of is_waiting

-- why the security layer ended the association, if it did
abbrev pub fault_of : CarriedValue → Option SecuredFault
fault_of carrier = fault_with carrier.guard

-- the meter's counter that was accepted last, and the meter's system title; none without a guard
abbrev pub accepted_by : Option GuardValue → Option ℕ
accepted_by None = None
accepted_by (Some guard) = guard.security.accepted

abbrev pub peer_of : Option GuardValue → Option (List ℕ)
peer_of None = None
peer_of (Some guard) = guard.security.peer
