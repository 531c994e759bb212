-- The notifications of a meter (IEC 62056-5-3, 9.5, data-notification and event-notification-request), in A-XDR.
use Rattle.std.specs.Prelude.{◌≡◌, ◌==◌, if◌then◌else◌, ℕ, List, [], ◌∷◌, Option, Some, None, option_map, option_and_then}
use Rattle.std.specs.Int.{w16, w32, from_be_bytes}
use Rattle.dlms_data.specs.declared.descriptor.Descriptor.{Descriptor}
use Rattle.dlms_values.specs.Spelling.{IsSpelling}
use Rattle.dlms_values.specs.Value.{Value}
use Rattle.dlms_listen.specs.declared.notification.Notification.{Notification}

-- what a notification says
pub record Said : Type 0 where
  pub invoke : Option ℕ
  pub time : Option (List ℕ)
  pub attribute : Option Descriptor
  pub value : List ℕ

abbrev pub said : Notification → Said
said n = record { invoke = n.invoke; time = n.time; attribute = n.attribute; value = n.value.now }

-- the twelve octets of a date-time, and what follows them
abbrev pub twelve : List ℕ → Option (List ℕ × List ℕ)
twelve (a ∷ b ∷ c ∷ d ∷ e ∷ f ∷ g ∷ h ∷ i ∷ j ∷ k ∷ l ∷ rest) =
    Some (a ∷ b ∷ c ∷ d ∷ e ∷ f ∷ g ∷ h ∷ i ∷ j ∷ k ∷ l ∷ [], rest)
twelve _ = None

abbrev pub stamped : List ℕ → Option (Option (List ℕ) × List ℕ)
stamped octets = option_map (λ x. (Some x.0, x.1)) (twelve octets)

-- An octet-string that is empty or a date-time. Some meters write its tag, 9, before it, which no date-time has as its length.
abbrev pub tagged : List ℕ → Option (Option (List ℕ) × List ℕ)
tagged (count ∷ rest) = if count == 12 then stamped rest else None
tagged _ = None

abbrev pub timed : List ℕ → Option (Option (List ℕ) × List ℕ)
timed (count ∷ rest) =
    if count == 0 then Some (None, rest)
    else if count == 12 then stamped rest
    else if count == 9 then tagged rest
    else None
timed _ = None

-- long-invoke-id-and-priority, date-time, and the value
abbrev pub data_in : List ℕ → Option Said
data_in (a ∷ b ∷ c ∷ d ∷ rest) = option_map (λ x. record {
  invoke = Some (from_be_bytes w32 (a ∷ b ∷ c ∷ d ∷ []));
  time = x.0;
  attribute = None;
  value = x.1;
}) (timed rest)
data_in _ = None

-- the attribute, its class, logical name and number, and the value
abbrev pub attributed : Option (List ℕ) → List ℕ → Option Said
attributed time (a ∷ b ∷ c ∷ d ∷ e ∷ f ∷ g ∷ h ∷ id ∷ value) = Some (record {
  invoke = None;
  time = time;
  attribute = Some (record {
    class = from_be_bytes w16 (a ∷ b ∷ []);
    name = c ∷ d ∷ e ∷ f ∷ g ∷ h ∷ [];
    id = id;
  });
  value = value;
})
attributed time _ = None

-- a time that may be absent, the attribute, and the value
abbrev pub event_in : List ℕ → Option Said
event_in (option ∷ rest) =
    if option == 0 then attributed None rest
    else if option == 1 then option_and_then (λ x. attributed x.0 x.1) (timed rest)
    else None
event_in _ = None

-- the fields of an APDU
abbrev pub fields_in : List ℕ → Option Said
fields_in (tag ∷ rest) =
    if tag == 0x0F then data_in rest else if tag == 0xC2 then event_in rest else None
fields_in _ = None

-- an APDU that is a notification: its fields, of which the value is one value of at most eight levels
pub record IsNotification (apdu : List ℕ) (n : Said) : Type 0 where
  pub fields : fields_in apdu ≡ Some n
  pub value : (v : Value) × IsSpelling n.value v
