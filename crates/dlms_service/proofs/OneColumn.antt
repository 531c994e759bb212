-- The worked example, step by step.
use Rattle.std.proofs.Common.{◌≡◌, refl, subst, sym, arith, ℕ, ◌<◌, ◌^◌, [], ◌∷◌, None, Result, Ok}
use Rattle.std.proofs.lemmas.List.Elements.{All-cons, All-nil}
use Rattle.dlms_data.specs.Value.{Value, array, structure, double_long_unsigned, long_unsigned, octet_string, integer, none, cons}
use Rattle.std.specs.Prelude.{pos}
use Rattle.dlms_data.specs.Writing.{short_length}
use Rattle.dlms_data.specs.declared.descriptor.Descriptor.{Descriptor}
use Rattle.dlms_service.specs.declared.association.Association.{Association}
use Rattle.dlms_apdu.specs.Forms.{RequestForm, get_normal, set_normal, action_normal}
use Rattle.dlms_apdu.specs.Reading.{request_at}
use Rattle.dlms_apdu.specs.declared.fault.Refusal.{Refusal}
use Rattle.dlms_apdu.proofs.WholeLaws.{reads_written_requests}
use Rattle.dlms_state.specs.declared.event.Event.TheVariants.{Capture}
use Rattle.dlms_state.specs.Types.{AreBytes}
use Rattle.dlms_state.specs.Events.{kept_after, register_after, moment_after, offset_after, period_after, columns_after, ends_in_clearing, ends_in_capture}
use Rattle.dlms_classes.specs.Access.{object_named}
use Rattle.dlms_service.specs.Serves.{FindsMemory, Serves, Read}
use Rattle.dlms_service.specs.OneColumn.{session, set_bytes, capture_bytes, get_bytes, pulses, one_column, answered}

-- an attribute or a method of the load profile
abbrev profile : ℕ → Descriptor
profile id = record { class = 7; name = 1 ∷ 0 ∷ 0x63 ∷ 1 ∷ 0 ∷ 0xFF ∷ []; id = id }

-- register 0 as a capture object
abbrev column : Value
column = structure (cons (long_unsigned 3) (cons (octet_string (1 ∷ 0 ∷ 1 ∷ 8 ∷ 0 ∷ 0xFF ∷ [])) (cons (integer (pos 2)) (cons (long_unsigned 0) none))))

abbrev set_form : RequestForm
set_form = set_normal 0xC1 (profile 3) None (array (cons column none))

abbrev capture_form : RequestForm
capture_form = action_normal 0xC1 (profile 2) None

abbrev get_form : RequestForm
get_form = get_normal 0xC1 (profile 2) None

abbrev association : Association
association = record { conformance = record { 0 = 0x19 }; size = 1024 }

set_read : request_at set_bytes ≡ Ok set_form
unfolding short_length
set_read = reads_written_requests set_form
    (tt, record { levels = omega arith; in_range = (omega arith, ((omega arith, (omega arith, (omega arith, (record { sfits = omega arith }, (omega arith, tt))))), tt)) }) (omega arith, refl)

capture_read : request_at capture_bytes ≡ Ok capture_form
capture_read = reads_written_requests capture_form tt (omega arith, refl)

get_read : request_at get_bytes ≡ Ok get_form
get_read = reads_written_requests get_form tt (omega arith, refl)

one_byte : AreBytes 4 (1 ∷ [])
one_byte = record { count = omega arith; each = All-cons (λ (byte : ℕ). byte < 2 ^ 8) 1 [] (omega arith) (All-nil (λ (byte : ℕ). byte < 2 ^ 8)) }

pub set_served : Serves FindsMemory (pulses ∷ []) session set_bytes (answered (0xC5 ∷ 0x01 ∷ 0xC1 ∷ 0x00 ∷ []) (one_column ∷ []))
unfolding object_named
set_served = subst (λ (r : Result RequestForm Refusal). Read FindsMemory (pulses ∷ []) session association r (answered (0xC5 ∷ 0x01 ∷ 0xC1 ∷ 0x00 ∷ []) (one_column ∷ [])))
    (sym set_read) (Ok one_column, refl, one_byte, refl)

pub capture_served : Serves FindsMemory (pulses ∷ one_column ∷ []) session capture_bytes (answered (0xC7 ∷ 0x01 ∷ 0xC1 ∷ 0x00 ∷ 0x00 ∷ []) (Capture ∷ []))
unfolding object_named
capture_served = subst (λ (r : Result RequestForm Refusal). Read FindsMemory (pulses ∷ one_column ∷ []) session association r (answered (0xC7 ∷ 0x01 ∷ 0xC1 ∷ 0x00 ∷ 0x00 ∷ []) (Capture ∷ [])))
    (sym capture_read) (Ok Capture, refl, tt, refl)

abbrev shown_value : Value
shown_value = array (cons (structure (cons (double_long_unsigned 42) none)) none)

pub read_served : Serves FindsMemory (pulses ∷ one_column ∷ Capture ∷ []) session get_bytes (answered (0xC4 ∷ 0x01 ∷ 0xC1 ∷ 0x00 ∷ 0x01 ∷ 0x01 ∷ 0x02 ∷ 0x01 ∷ 0x06 ∷ 0x00 ∷ 0x00 ∷ 0x00 ∷ 0x2A ∷ []) [])
unfolding object_named kept_after register_after moment_after offset_after period_after columns_after ends_in_clearing ends_in_capture short_length
read_served = subst (λ (r : Result RequestForm Refusal). Read FindsMemory (pulses ∷ one_column ∷ Capture ∷ []) session association r (answered (0xC4 ∷ 0x01 ∷ 0xC1 ∷ 0x00 ∷ 0x01 ∷ 0x01 ∷ 0x02 ∷ 0x01 ∷ 0x06 ∷ 0x00 ∷ 0x00 ∷ 0x00 ∷ 0x2A ∷ []) []))
    (sym get_read) (Ok shown_value, (tt, ((refl, tt), tt)), (record { fits = record { levels = omega arith; in_range = (omega arith, ((omega arith, (omega arith, tt)), tt)) }; size = omega arith }, refl))
