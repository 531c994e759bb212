-- Which event a service asks for: the values that SET and ACTION take (IEC 62056-6-2: value of class Data, time of class
-- Clock, capture_objects and capture_period of class Profile generic, secret of class Association LN, and the methods).
use Rattle.std.specs.Prelude.{◌≡◌, ℕ, ◌==◌, if◌then◌else◌, List, length, Option, Some, Result, Ok, Err, MatchResult}
use Rattle.dlms_data.specs.Value.{Value, octet_string, visible_string, double_long_unsigned, long, date_time}
use Rattle.dlms_data.specs.DateTime.{NamesSecond}
use Rattle.dlms_data.specs.declared.descriptor.Descriptor.{Descriptor}
use Rattle.dlms_frame.specs.declared.client.Client.{Client}
use Rattle.dlms_state.specs.declared.event.Event.{Event}
use Rattle.dlms_state.specs.declared.event.Event.TheVariants as event
use Rattle.dlms_state.specs.Events.{text_set, secret_set, columns_set}
use Rattle.dlms_state.specs.declared.event.SecretOf.{SecretOf}
use Rattle.dlms_state.specs.Types.{FitsType}
use Rattle.dlms_classes.specs.declared.access.AccessResult.{AccessResult}
use Rattle.dlms_classes.specs.declared.access.AccessResult.TheVariants.{ReadWriteDenied, TypeUnmatched, OtherReason}
use Rattle.dlms_classes.specs.declared.table.Content.{Content}
use Rattle.dlms_classes.specs.declared.table.Content.TheVariants.{Text, Time, CaptureObjects, CapturePeriod, Secret}
use Rattle.dlms_classes.specs.declared.table.Call.{Call}
use Rattle.dlms_classes.specs.declared.table.Call.TheVariants as call
use Rattle.dlms_classes.specs.Access.{◌>>=◌, writable, callable}
use Rattle.dlms_classes.specs.Column.{columns_of}
use Rattle.dlms_classes.specs.Secrets.{secret_of}

-- what a value is to set
pub data Setting : Type 0 where
  clock_to : List ℕ → Setting
  period_to : ℕ → Setting
  text_to : List ℕ → Setting
  -- whose it is
  secret_to : SecretOf → List ℕ → Setting
  columns_to : List ℕ → Setting

-- a text is an octet-string or a visible-string
abbrev pub text_setting : Value → Result Setting AccessResult
text_setting (octet_string bytes) = Ok (text_to bytes)
text_setting (visible_string bytes) = Ok (text_to bytes)
text_setting _ = Err TypeUnmatched

-- a time is a date-time or an octet-string of twelve
abbrev pub octets_of_time : Value → Result (List ℕ) AccessResult
octets_of_time (date_time octets) = Ok octets
octets_of_time (octet_string octets) = if length octets == 12 then Ok octets else Err TypeUnmatched
octets_of_time _ = Err TypeUnmatched

abbrev pub time_setting : Value → Result Setting AccessResult
time_setting v = octets_of_time v >>= λ octets. Ok (clock_to octets)

abbrev pub period_setting : Value → Result Setting AccessResult
period_setting (double_long_unsigned seconds) = Ok (period_to seconds)
period_setting _ = Err TypeUnmatched

-- the secret that is set is the client's own, if it has one
abbrev pub secret_setting : Value → Option SecretOf → Result Setting AccessResult
secret_setting (octet_string bytes) (Some whose) = Ok (secret_to whose bytes)
secret_setting _ _ = Err TypeUnmatched

-- an array of structures: the ids of the columns that they name
abbrev pub columns_setting : Value → Result Setting AccessResult
columns_setting v = columns_of v >>= λ ids. Ok (columns_to ids)

-- what a client's value is to set in an attribute; in the others nothing can be set
abbrev pub setting_of : Client → Content → Value → Result Setting AccessResult
setting_of client Text v = text_setting v
setting_of client Time v = time_setting v
setting_of client CaptureObjects v = columns_setting v
setting_of client CapturePeriod v = period_setting v
setting_of client Secret v = secret_setting v (secret_of client)
setting_of client _ v = Err TypeUnmatched

-- what SET of a value asks for
abbrev pub setting_asked : Client → Descriptor → Value → Result Setting AccessResult
setting_asked client d v = writable client d >>= λ a. setting_of client a.content v

-- the event does it
abbrev pub Does : Setting → Event → Type 0
Does (clock_to octets) e = (second : ℕ) × NamesSecond octets second × (e ≡ event.SetTime second)
Does (period_to seconds) e = e ≡ event.SetPeriod seconds
Does (text_to bytes) e = text_set e ≡ Some bytes
Does (secret_to whose bytes) e = secret_set whose e ≡ Some bytes
Does (columns_to ids) e = columns_set e ≡ Some ids

-- the event that carries out the request, or the refusal: for another reason if the octets name no second, or if there are more
-- bytes than an event holds
abbrev pub IsPlan : Result Setting AccessResult → Result Event AccessResult → Type 0
IsPlan (Err r) result = result ≡ Err r
IsPlan (Ok setting) result = MatchResult result (Does setting) (λ r. (r ≡ OtherReason)
    × ((e : Event) → FitsType e → ¬ (Does setting e)))

-- a shift takes a long; the other methods take anything or nothing
abbrev pub shift_asked : Option Value → Result Event AccessResult
shift_asked (Some (long seconds)) = Ok (event.Shift seconds)
shift_asked _ = Err TypeUnmatched

abbrev pub event_of : Call → Option Value → Result Event AccessResult
event_of (call.ResetRegister channel) parameter = Ok (event.ResetRegister channel)
event_of call.AdjustToMinute parameter = Ok event.AdjustMinute
event_of call.ShiftTime parameter = shift_asked parameter
event_of call.ResetProfile parameter = Ok event.ResetProfile
event_of call.Capture parameter = Ok event.Capture
event_of call.Withheld parameter = Err ReadWriteDenied

-- the event that ACTION asks for
abbrev pub event_asked : Client → Descriptor → Option Value → Result Event AccessResult
event_asked client d parameter = callable client d >>= λ method. event_of method parameter
