-- The stations in a TOML text, and the one whose keys open a message.
use Rattle.std.specs.Prelude.{◌≡◌, ◌≢◌, ◌⊎◌, ◌<◌, ◌-◌, ◌&&◌, codes, ℕ, List, [], ◌∷◌, find, length, slice_get, Bool, true, false, Option, Some, None, option_and_then, Result, Err, if◌then◌else◌}
use Rattle.toml.specs.Data.{Data, array, as_array, as_table, Members, get_member}
use Rattle.toml.specs.Parse.{parse_document}
use Rattle.toml.specs.View.{items_of}
use Rattle.dlms_security.specs.Opening.{header_in}
use Rattle.dlms_security.specs.declared.opener.Known.{Known}
use Rattle.dlms_security.specs.declared.opener.Closed.{Closed}
use Rattle.dlms_security.specs.declared.opener.Closed.TheVariants.{NoKey, UnknownTitle, Refused}
use Rattle.dlms_security.specs.declared.opening.Header.{Header}
use Rattle.dlms_security.specs.declared.policy.Policy.{Policy}
use Rattle.dlms_security.specs.declared.policy.Policy.TheVariants.{Authenticated, Encrypted, AuthenticatedEncrypted}
use Rattle.dlms_security.specs.declared.fault.UnprotectFault.TheVariants.{NotProtected, AnotherControl}
use Rattle.dlms_keys.specs.Settings.{Has, HasOthers, IsHex, Lacks, MayHaveKey, known, size_of}
use Rattle.dlms_keys.specs.Station.{is_near, is_title, opened_by, opens, sender_of}
use Rattle.dlms_keys.specs.declared.fault.SettingsFault.{SettingsFault}
use Rattle.dlms_keys.specs.declared.fault.SettingsFault.TheVariants.{Unknown}
use Rattle.dlms_keys.specs.declared.fault.StationsFault.{StationsFault}
use Rattle.dlms_keys.specs.declared.fault.StationsFault.TheVariants.{Toml, Other, Many, At, Memory}
use Rattle.dlms_keys.specs.declared.setting.Setting.{Setting}
use Rattle.dlms_keys.specs.declared.setting.Setting.TheVariants.{Title, EncryptionKey, AuthenticationKey}
use Rattle.dlms_keys.specs.declared.station.Station.{Station}

-- ---- the text

abbrev pub station_settings : List Setting
station_settings = Title ∷ EncryptionKey ∷ AuthenticationKey ∷ []

-- a table says this station, and nothing else
pub record SaysStation (t : Members) (s : Station) : Type 0 where
  pub title : Has Title (λ value. IsHex 8 value s.title) t
  pub encryption_key : Has EncryptionKey (λ value. IsHex 16 value s.encryption_key) t
  pub authentication_key : MayHaveKey s.authentication_key t
  pub only : size_of t ≡ known station_settings t

-- why a table says no station
abbrev pub IsRefusedStation : Members → SettingsFault → Type 0
IsRefusedStation t fault = ((fault ≡ Unknown) × HasOthers station_settings t)
    ⊎ ((setting : Setting) × Lacks setting t fault)

abbrev pub SaysValue : Data → Station → Type 0
SaysValue d s = (t : Members) × (as_table d ≡ Some t) × SaysStation t s

-- values say these stations, one each, in their order
abbrev pub SayStations : List Data → List Station → Type 0
SayStations [] [] = Unit {0}
SayStations (d ∷ ds) (s ∷ ss) = SaysValue d s × SayStations ds ss
SayStations _ _ = ⊥

-- why the value with this number says no station
abbrev pub IsRefusedValue : ℕ → Data → StationsFault → Type 0
IsRefusedValue n d fault = ((fault ≡ Other) × (as_table d ≡ None))
    ⊎ ((why : SettingsFault) × (fault ≡ At n why) × (t : Members) × (as_table d ≡ Some t)
    × IsRefusedStation t why)

-- why values say no stations: there are too many, or one of them, counted from 1, is refused
abbrev pub IsRefusedList : List Data → StationsFault → Type 0
IsRefusedList ds fault = (fault ≡ Memory) ⊎ (((fault ≡ Many) × (256 < length ds))
    ⊎ ((n : ℕ) × (d : Data) × (slice_get ds (n - 1) ≡ Some d) × IsRefusedValue n d fault))

-- the value of the member `station`
abbrev pub station_at : Members → Option Data
station_at t = get_member (codes "station") t

-- a table has `[[station]]` tables, which say these stations, and nothing else
pub record SaysKeyring (t : Members) (ss : List Station) : Type 0 where
  pub values : List Data
  pub at : station_at t ≡ Some (array (items_of values))
  pub says : SayStations values ss
  pub only : size_of t ≡ 1

abbrev pub IsRefusedKeyring : Members → StationsFault → Type 0
IsRefusedKeyring t fault =
    ((fault ≡ Other) × ((size_of t ≢ 1) ⊎ (option_and_then as_array (station_at t) ≡ None)))
    ⊎ ((values : List Data) × (station_at t ≡ Some (array (items_of values)))
    × IsRefusedList values fault)

-- what reading a text returns
abbrev pub ReadAsKeyring : List ℕ → List Station → Type 0
ReadAsKeyring text ss = (t : Members) × (parse_document text ≡ Some t) × SaysKeyring t ss

abbrev pub IsRefusedText : List ℕ → StationsFault → Type 0
IsRefusedText text fault = (fault ≡ Memory) ⊎ (((fault ≡ Toml) × (parse_document text ≡ None))
    ⊎ ((t : Members) × (parse_document text ≡ Some t) × IsRefusedKeyring t fault))

-- ---- the station

-- messages of this policy have a tag
abbrev pub has_tag : Policy → Bool
has_tag Authenticated = true
has_tag Encrypted = false
has_tag AuthenticatedEncrypted = true

-- the first station that is the sender or the receiver, and opens the message; the first one that opens it; and the first one that is
-- the sender or the receiver
abbrev pub near_opening : List Station → Known → Policy → Header → List ℕ → Option Station
near_opening ss known policy header message =
    find (λ s. is_near known header s && opens known policy header message s) ss

abbrev pub any_opening : List Station → Known → Policy → Header → List ℕ → Option Station
any_opening ss known policy header message = find (λ s. opens known policy header message s) ss

abbrev pub near_station : List Station → Known → Header → Option Station
near_station ss known header = find (λ s. is_near known header s) ss

-- the first station with this title
abbrev pub titled_station : List ℕ → List Station → Option Station
titled_station title ss = find (λ s. is_title s.title (Some title)) ss

abbrev pub or_station : Option Station → Option Station → Option Station
or_station (Some s) other = Some s
or_station None other = other

-- Stations that are neither the sender nor the receiver are tried if a tag decides.
abbrev pub station_for : List Station → Known → Policy → Header → List ℕ → Option Station
station_for ss known policy header message =
    or_station (near_opening ss known policy header message)
    (or_station (if has_tag policy then any_opening ss known policy header message else None)
    (near_station ss known header))

-- why no station opens a message: there is none for its ends; and its sender may not be known
abbrev pub reason_of : Option (List ℕ) → Closed
reason_of (Some sender) = NoKey
reason_of None = UnknownTitle

-- what a station opens a message as
abbrev pub opened_at : Option Station → Known → Policy → Header → List ℕ → Result (List ℕ) Closed
opened_at (Some station) known policy header message = opened_by known policy header message station
opened_at None known policy header message = Err (reason_of (sender_of known header))

abbrev pub opening_under : List Station → Known → Policy → Header → List ℕ → Result (List ℕ) Closed
opening_under ss known policy header message =
    opened_at (station_for ss known policy header message) known policy header message

-- An encrypted message whose sender is not known cannot be opened: nothing would tell a wrong title.
abbrev pub is_lost : Option (List ℕ) → Policy → Bool
is_lost None Encrypted = true
is_lost _ _ = false

abbrev pub opening_by_policy : List Station → Known → Option Policy → Header → List ℕ
    → Result (List ℕ) Closed
opening_by_policy ss known None header message = Err (Refused AnotherControl)
opening_by_policy ss known (Some policy) header message =
    if is_lost (sender_of known header) policy then Err UnknownTitle
    else opening_under ss known policy header message

abbrev pub opening_by_header : List Station → Known → Option Header → List ℕ
    → Result (List ℕ) Closed
opening_by_header ss known None message = Err (Refused NotProtected)
opening_by_header ss known (Some header) message =
    opening_by_policy ss known header.policy header message

-- the APDU in a message, or why it is not opened
abbrev pub opening_among : List Station → Known → List ℕ → Result (List ℕ) Closed
opening_among ss known message = opening_by_header ss known (header_in message) message

-- whether a tag authenticates the APDU in a message
abbrev pub tag_of_policy : Option Policy → Bool
tag_of_policy None = false
tag_of_policy (Some policy) = has_tag policy

abbrev pub is_tagged : Option Header → Bool
is_tagged None = false
is_tagged (Some header) = tag_of_policy header.policy
