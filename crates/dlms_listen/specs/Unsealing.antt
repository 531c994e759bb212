-- Which telegrams are taken, in clear, or in general-glo-ciphering as the Luxembourg port sends them, authenticated and encrypted; and
-- why others are refused: the first of these causes.
use Rattle.std.specs.Prelude.{◌≡◌, ◌⊎◌, ◌-◌, ◌<◌, ◌≤◌, nat_lt, if◌then◌else◌, ℕ, Bool, true, List, ◌++◌, length, take, drop, Option, Some, None, IsSome}
use Rattle.dlms_cipher.specs.Dlms.{cipher_of, sealed_tag}
use Rattle.dlms_keys.specs.declared.station.Station.{Station}
use Rattle.dlms_keys.specs.Keyring.{titled_station}
use Rattle.dlms_security.specs.Form.{kind_of}
use Rattle.dlms_security.specs.Opening.{header_in}
use Rattle.dlms_security.specs.declared.opening.Header.{Header}
use Rattle.dlms_security.specs.declared.fault.UnprotectFault.{UnprotectFault}
use Rattle.dlms_security.specs.declared.fault.UnprotectFault.TheVariants.{AnotherControl, Long, Short, WrongTag}
use Rattle.dlms_security.specs.declared.policy.Policy.{Policy}
use Rattle.dlms_security.specs.declared.policy.Policy.TheVariants.{Authenticated, Encrypted, AuthenticatedEncrypted}
use Rattle.dlms_telegram.specs.Telegram.{IsTelegram}
use Rattle.dlms_telegram.specs.Telegram as telegrams
use Rattle.dlms_telegram.specs.declared.reader.TheConstants.{MOST_TELEGRAM}
use Rattle.dlms_listen.specs.Receiving.{IsStale}
use Rattle.dlms_listen.specs.declared.counters.Sender.{Sender}
use Rattle.dlms_listen.specs.declared.fault.Refusal.{Refusal}
use Rattle.dlms_listen.specs.declared.fault.Refusal.TheVariants as refusal
use Rattle.dlms_listen.specs.declared.receiver.Content.{Content}
use Rattle.dlms_listen.specs.declared.receiver.Content.TheVariants as content
use Rattle.dlms_listen.specs.declared.receiver.Seal.{Seal}

-- the header of a message that is authenticated and encrypted says this
pub record IsSealOf (header : Header) (seal : Seal) : Type 0 where
  pub title : header.title ≡ Some seal.title
  pub counter : header.counter ≡ seal.counter
  pub policy : header.policy ≡ Some AuthenticatedEncrypted
  pub authenticated : seal.is_authenticated ≡ true

-- The octets are a head of 18 (tag, title, length, security header), a ciphertext, and its tag; the ciphertext is that of the plain text.
pub record Decrypts (encryption authentication : List ℕ) (seal : Seal)
    (octets plain : List ℕ) : Type 0 where
  pub text : List ℕ
  pub tag : List ℕ
  pub parts : octets ≡ take 18 octets ++ (text ++ tag)
  pub tag_is : tag ≡ sealed_tag encryption authentication seal.title seal.counter text
  pub plain_is : plain ≡ cipher_of encryption seal.title seal.counter text

-- this station opens the octets under its keys
abbrev pub OpensUnder : (encryption : List ℕ) → Option (List ℕ) → (octets : List ℕ) → Seal
    → (plain : List ℕ) → Type 0
OpensUnder encryption None octets seal plain = ⊥
OpensUnder encryption (Some authentication) octets seal plain =
    Decrypts encryption authentication seal octets plain

abbrev pub OpensBy : Option Station → (octets : List ℕ) → Seal → (plain : List ℕ) → Type 0
OpensBy None octets seal plain = ⊥
OpensBy (Some station) octets seal plain =
    OpensUnder station.encryption_key station.authentication_key octets seal plain

pub record UnsealsBy (stations : List Station) (octets : List ℕ) (seal : Seal)
    (plain : List ℕ) : Type 0 where
  pub header : Header
  pub read : header_in octets ≡ Some header
  pub seal_is : IsSealOf header seal
  pub opens : OpensBy (titled_station seal.title stations) octets seal plain

abbrev pub Unseals : Option (List Station) → (octets : List ℕ) → Seal → (plain : List ℕ) → Type 0
Unseals None octets seal plain = ⊥
Unseals (Some stations) octets seal plain = UnsealsBy stations octets seal plain

-- the telegram in these octets: in clear if there are no keys, and otherwise under the keys of its sender
abbrev pub ContainsTelegram : Option (List Station) → List ℕ → Content → Option Seal → Type 0
ContainsTelegram keys octets (content.Notification n) seal = ⊥
ContainsTelegram keys octets (content.Telegram t) None =
    (kind_of octets ≡ None) × (keys ≡ None) × IsTelegram octets t.text.now t.is_checked
ContainsTelegram keys octets (content.Telegram t) (Some seal) =
    (plain : List ℕ) × IsSome (kind_of octets) × Unseals keys octets seal plain
    × IsTelegram plain t.text.now t.is_checked

-- ---- refused telegrams

-- the octets before the tag of 12, and the tag
abbrev pub parted : List ℕ → List ℕ × List ℕ
parted sealed = (take (length sealed - 12) sealed, drop (length sealed - 12) sealed)

-- the ciphertext and the tag of a ciphered telegram, after its head of 18 octets
abbrev pub sealed_in : List ℕ → Option (List ℕ × List ℕ)
sealed_in octets = if nat_lt (length octets) 30 then None else Some (parted (drop 18 octets))

-- why a ciphertext and its tag are not decrypted: they are not there, there are too many octets, or the tag is another
abbrev pub IsUndecrypted : (encryption authentication : List ℕ) → Seal → Option (List ℕ × List ℕ)
    → UnprotectFault → Type 0
IsUndecrypted encryption authentication seal None why = why ≡ Short
IsUndecrypted encryption authentication seal (Some parts) why =
    ((why ≡ Long) × (MOST_TELEGRAM < length parts.0))
    ⊎ ((why ≡ WrongTag) × (length parts.0 ≤ MOST_TELEGRAM)
    × ¬ (parts.1 ≡ sealed_tag encryption authentication seal.title seal.counter parts.0))

abbrev pub IsUnopenedUnder : (octets encryption : List ℕ) → Seal → Option (List ℕ) → Refusal
    → Type 0
IsUnopenedUnder octets encryption seal None why = why ≡ refusal.NoAuthenticationKey seal.title
IsUnopenedUnder octets encryption seal (Some authentication) why =
    (fault : UnprotectFault) × (why ≡ refusal.Closed seal.title fault)
    × IsUndecrypted encryption authentication seal (sealed_in octets) fault

abbrev pub IsUnopenedBy : (octets : List ℕ) → Seal → Option Station → Refusal → Type 0
IsUnopenedBy octets seal None why = why ≡ refusal.Foreign seal.title
IsUnopenedBy octets seal (Some station) why =
    IsUnopenedUnder octets station.encryption_key seal station.authentication_key why

abbrev pub IsUnopenedFrom : List Station → (octets title : List ℕ) → (counter : ℕ) → Option Policy
    → Refusal → Type 0
IsUnopenedFrom stations octets title counter (Some AuthenticatedEncrypted) why =
    IsUnopenedBy octets (record { title = title; counter = counter; is_authenticated = true })
    (titled_station title stations) why
IsUnopenedFrom stations octets title counter (Some Authenticated) why =
    why ≡ refusal.Closed title AnotherControl
IsUnopenedFrom stations octets title counter (Some Encrypted) why =
    why ≡ refusal.Closed title AnotherControl
IsUnopenedFrom stations octets title counter None why = why ≡ refusal.Closed title AnotherControl

abbrev pub IsUnopenedNamed : List Station → List ℕ → Option (List ℕ) → ℕ → Option Policy → Refusal
    → Type 0
IsUnopenedNamed stations octets None counter policy why = why ≡ refusal.NoTitle
IsUnopenedNamed stations octets (Some title) counter policy why =
    IsUnopenedFrom stations octets title counter policy why

abbrev pub IsUnopenedWith : List Station → List ℕ → Option Header → Refusal → Type 0
IsUnopenedWith stations octets None why = why ≡ refusal.Malformed
IsUnopenedWith stations octets (Some header) why =
    IsUnopenedNamed stations octets header.title header.counter header.policy why

-- why a ciphered telegram is not opened
abbrev pub IsUnopened : Option (List Station) → List ℕ → Refusal → Type 0
IsUnopened None octets why = why ≡ refusal.NoKeys
IsUnopened (Some stations) octets why = IsUnopenedWith stations octets (header_in octets) why

-- why a telegram in clear is not taken
abbrev pub IsRefusedInClear : Option (List Station) → List ℕ → Refusal → Type 0
IsRefusedInClear keys octets why =
    ((why ≡ refusal.Malformed) × telegrams.IsNone octets)
    ⊎ ((why ≡ refusal.InClear) × IsSome keys × ((text : List ℕ) × (checked : Bool)
    × IsTelegram octets text checked))

-- why an opened one is not taken
abbrev pub IsRefusedOpened : List Sender → (plain : List ℕ) → Seal → Refusal → Type 0
IsRefusedOpened senders plain seal why =
    ((why ≡ refusal.Malformed) × telegrams.IsNone plain)
    ⊎ (((text : List ℕ) × (checked : Bool) × IsTelegram plain text checked)
    × IsStale seal senders why)

-- why the octets of a telegram are not taken: the first of these causes
abbrev pub IsRefusedTelegram : Option (List Station) → List Sender → List ℕ → Refusal → Type 0
IsRefusedTelegram keys senders octets why =
    ((kind_of octets ≡ None) × IsRefusedInClear keys octets why)
    ⊎ (IsSome (kind_of octets) × IsUnopened keys octets why)
    ⊎ (IsSome (kind_of octets) × ((plain : List ℕ) × (seal : Seal) × Unseals keys octets seal plain
    × IsRefusedOpened senders plain seal why))
