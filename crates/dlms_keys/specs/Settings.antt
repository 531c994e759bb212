-- The settings that a TOML table says.
use Rattle.std.specs.Prelude.{◌≡◌, ◌≢◌, ◌⊎◌, codes, ℕ, suc, zero, List, length, filter, Bool, true, false, Option, Some, None, is_some, Ok}
use Rattle.hex.specs.Hex.{decode_sized}
use Rattle.toml.specs.Data.{Data, string, boolean, Members, no_members, member, get_member}
use Rattle.toml.specs.Parse.{parse_document}
use Rattle.dlms_security.specs.declared.form.Form.{Form}
use Rattle.dlms_security.specs.declared.form.Form.TheVariants.{Service, General}
use Rattle.dlms_security.specs.declared.policy.Policy.{Policy as PolicyOf}
use Rattle.dlms_security.specs.declared.policy.Policy.TheVariants.{Authenticated, Encrypted, AuthenticatedEncrypted}
use Rattle.dlms_keys.specs.Names.{name_of, settings}
use Rattle.dlms_keys.specs.declared.fault.SettingsFault.{SettingsFault}
use Rattle.dlms_keys.specs.declared.fault.SettingsFault.TheVariants.{Toml, Unknown, Missing, Invalid, Memory}
use Rattle.dlms_keys.specs.declared.setting.Setting.{Setting}
use Rattle.dlms_keys.specs.declared.setting.Setting.TheVariants.{Title, EncryptionKey, AuthenticationKey, Policy, Messages, Dedicated, Counters}

pub record SettingsValue : Type 0 where
  pub title : List ℕ
  pub encryption_key : List ℕ
  pub authentication_key : List ℕ
  pub policy : PolicyOf
  pub messages : Form
  pub dedicated : Bool
  pub counters : List ℕ

abbrev pub policy_word : PolicyOf → List ℕ
policy_word Authenticated = codes "authenticated"
policy_word Encrypted = codes "encrypted"
policy_word AuthenticatedEncrypted = codes "authenticated-encrypted"

abbrev pub form_word : Form → List ℕ
form_word Service = codes "service"
form_word General = codes "general"

-- a value is the hex digits of this many octets
pub record IsHex (n : ℕ) (value : Data) (octets : List ℕ) : Type 0 where
  pub text : List ℕ
  pub is : value ≡ string text
  pub digits : decode_sized text n ≡ Ok octets

-- a setting may have this value
abbrev pub IsLawful : Setting → Data → Type 0
IsLawful Title value = (octets : List ℕ) × IsHex 8 value octets
IsLawful EncryptionKey value = (octets : List ℕ) × IsHex 16 value octets
IsLawful AuthenticationKey value = (octets : List ℕ) × IsHex 16 value octets
IsLawful Policy value = (policy : PolicyOf) × (value ≡ string (policy_word policy))
IsLawful Messages value = (form : Form) × (value ≡ string (form_word form))
IsLawful Dedicated value = (flag : Bool) × (value ≡ boolean flag)
IsLawful Counters value = (path : List ℕ) × (value ≡ string path)

-- the value of a setting
abbrev pub value_at : Setting → Members → Option Data
value_at setting table = get_member (name_of setting) table

-- a table has a setting, and its value is so
abbrev pub Has : Setting → (Data → Type 0) → Members → Type 0
Has setting Is table = (value : Data) × (value_at setting table ≡ Some value) × Is value

-- how many members a table has, and how many of them are these settings
abbrev pub size_of : Members → ℕ
size_of no_members = zero
size_of (member name value table) = suc (size_of table)

abbrev pub known : List Setting → Members → ℕ
known names table = length (filter (λ setting. is_some (value_at setting table)) names)

-- The names of a table differ, so it has no others than these settings if it has as many members as these.
abbrev pub HasOthers : List Setting → Members → Type 0
HasOthers names table = size_of table ≢ known names table

abbrev pub HasUnknown : Members → Type 0
HasUnknown table = HasOthers settings table

-- a table has this authentication key, or none
abbrev pub MayHaveKey : Option (List ℕ) → Members → Type 0
MayHaveKey None table = value_at AuthenticationKey table ≡ None
MayHaveKey (Some key) table = Has AuthenticationKey (λ value. IsHex 16 value key) table

-- Authentication alone does not hide a dedicated key, which is sent.
abbrev pub shows_key : PolicyOf → Bool → Bool
shows_key Authenticated dedicated = dedicated
shows_key Encrypted dedicated = false
shows_key AuthenticatedEncrypted dedicated = false

pub record ShowsKey (table : Members) : Type 0 where
  pub policy_is : PolicyOf
  pub flag : Bool
  pub policy : Has Policy (λ value. value ≡ string (policy_word policy_is)) table
  pub dedicated : Has Dedicated (λ value. value ≡ boolean flag) table
  pub shown : shows_key policy_is flag ≡ true

-- a table says these settings, and nothing else
pub record Says (table : Members) (s : SettingsValue) : Type 0 where
  pub title : Has Title (λ value. IsHex 8 value s.title) table
  pub encryption_key : Has EncryptionKey (λ value. IsHex 16 value s.encryption_key) table
  pub authentication_key : Has AuthenticationKey
      (λ value. IsHex 16 value s.authentication_key) table
  pub policy : Has Policy (λ value. value ≡ string (policy_word s.policy)) table
  pub messages : Has Messages (λ value. value ≡ string (form_word s.messages)) table
  pub dedicated : Has Dedicated (λ value. value ≡ boolean s.dedicated) table
  pub counters : Has Counters (λ value. value ≡ string s.counters) table
  pub only : size_of table ≡ known settings table
  pub hidden : shows_key s.policy s.dedicated ≡ false

-- why a setting cannot be read from a table
abbrev pub Lacks : Setting → Members → SettingsFault → Type 0
Lacks setting table fault = ((fault ≡ Missing setting) × (value_at setting table ≡ None))
    ⊎ ((fault ≡ Invalid setting) × Has setting (λ value. IsLawful setting value → ⊥) table)

-- why a table is refused
abbrev pub IsRefusedFor : Members → SettingsFault → Type 0
IsRefusedFor table fault = ((fault ≡ Unknown) × HasUnknown table)
    ⊎ (((fault ≡ Invalid Dedicated) × ShowsKey table)
    ⊎ ((setting : Setting) × Lacks setting table fault))

-- what reading a text returns
abbrev pub ReadAs : List ℕ → SettingsValue → Type 0
ReadAs text s = (table : Members) × (parse_document text ≡ Some table) × Says table s

abbrev pub IsRefused : List ℕ → SettingsFault → Type 0
IsRefused text fault = (fault ≡ Memory) ⊎ (((fault ≡ Toml) × (parse_document text ≡ None))
    ⊎ ((table : Members) × (parse_document text ≡ Some table) × IsRefusedFor table fault))
