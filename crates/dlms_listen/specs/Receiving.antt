-- Which notifications are taken, in clear or under keys, and why others are refused: the first of these causes.
use Rattle.std.specs.Prelude.{◌≡◌, ◌⊎◌, ◌==◌, ◌||◌, if◌then◌else◌, ℕ, Bool, true, false, List, [], ◌∷◌, Option, Some, None, IsSome, length, Result, Ok, Err}
use Rattle.dlms_keys.specs.declared.station.Station.{Station}
use Rattle.dlms_keys.specs.Keyring.{titled_station}
use Rattle.dlms_security.specs.Form.{kind_of}
use Rattle.dlms_security.specs.Opening.{header_in, opening}
use Rattle.dlms_security.specs.declared.fault.UnprotectFault.{UnprotectFault}
use Rattle.dlms_security.specs.declared.fault.UnprotectFault.TheVariants.{AnotherControl}
use Rattle.dlms_security.specs.declared.opening.Header.{Header}
use Rattle.dlms_security.specs.declared.policy.Policy.{Policy}
use Rattle.dlms_security.specs.declared.policy.Policy.TheVariants.{Authenticated, Encrypted, AuthenticatedEncrypted}
use Rattle.dlms_listen.specs.Notification.{IsNotification, Said, said}
use Rattle.dlms_listen.specs.declared.fault.Refusal.{Refusal}
use Rattle.dlms_listen.specs.declared.fault.Refusal.TheVariants as refusal
use Rattle.dlms_listen.specs.declared.counters.Sender.{Sender}
use Rattle.dlms_listen.specs.declared.counters.TheConstants.{MOST_SENDERS}
use Rattle.dlms_listen.specs.Sender.{Accepts, IsReplay}
use Rattle.dlms_listen.specs.declared.receiver.Content.{Content}
use Rattle.dlms_listen.specs.declared.receiver.Content.TheVariants as content
use Rattle.dlms_listen.specs.declared.receiver.Seal.{Seal}

-- why an APDU is no notification: by its first octet it is of another service, or its fields or its value are not those of its own
abbrev pub refusal_of : List ℕ → Refusal
refusal_of [] = refusal.Another None
refusal_of (tag ∷ rest) =
    if (tag == 0x0F) || (tag == 0xC2) then refusal.Malformed else refusal.Another (Some tag)

abbrev pub zeros : List ℕ
zeros = 0 ∷ 0 ∷ 0 ∷ 0 ∷ 0 ∷ 0 ∷ 0 ∷ 0 ∷ 0 ∷ 0 ∷ 0 ∷ 0 ∷ 0 ∷ 0 ∷ 0 ∷ 0 ∷ []

-- the authentication key under a policy; any, if it makes no tag
abbrev pub key_for : Option (List ℕ) → Policy → Option (List ℕ)
key_for (Some key) policy = Some key
key_for None Encrypted = Some zeros
key_for None Authenticated = None
key_for None AuthenticatedEncrypted = None

abbrev pub has_tag : Policy → Bool
has_tag Encrypted = false
has_tag Authenticated = true
has_tag AuthenticatedEncrypted = true

-- what a ciphered APDU contains, and who protected it how
pub record Opened : Type 0 where
  pub plain : List ℕ
  pub seal : Seal

abbrev pub sealed : Seal → Result (List ℕ) UnprotectFault → Result Opened Refusal
sealed seal (Err fault) = Err (refusal.Closed seal.title fault)
sealed seal (Ok plain) = Ok (record { plain = plain; seal = seal })

abbrev pub opened_under : (apdu encryption : List ℕ) → Seal → Option (List ℕ)
    → Result Opened Refusal
opened_under apdu encryption seal None = Err (refusal.NoAuthenticationKey seal.title)
opened_under apdu encryption seal (Some key) = sealed seal (opening encryption key seal.title apdu)

abbrev pub opened_by : (apdu : List ℕ) → Seal → Policy → Option Station → Result Opened Refusal
opened_by apdu seal policy None = Err (refusal.Foreign seal.title)
opened_by apdu seal policy (Some station) =
    opened_under apdu station.encryption_key seal (key_for station.authentication_key policy)

abbrev pub opened_from : List Station → (apdu title : List ℕ) → (counter : ℕ) → Option Policy
    → Result Opened Refusal
opened_from stations apdu title counter None = Err (refusal.Closed title AnotherControl)
opened_from stations apdu title counter (Some policy) =
    opened_by apdu (record {
      title = title;
      counter = counter;
      is_authenticated = has_tag policy;
    }) policy (titled_station title stations)

abbrev pub opened_named : List Station → List ℕ → Option (List ℕ) → ℕ → Option Policy
    → Result Opened Refusal
opened_named stations apdu None counter policy = Err refusal.NoTitle
opened_named stations apdu (Some title) counter policy =
    opened_from stations apdu title counter policy

abbrev pub opened_with : List Station → List ℕ → Option Header → Result Opened Refusal
opened_with stations apdu None = Err refusal.Malformed
opened_with stations apdu (Some header) =
    opened_named stations apdu header.title header.counter header.policy

-- what a ciphered APDU contains under the keys of its sender, or why it is not opened
abbrev pub opened : Option (List Station) → List ℕ → Result Opened Refusal
opened None apdu = Err refusal.NoKeys
opened (Some stations) apdu = opened_with stations apdu (header_in apdu)

abbrev pub IsNone : List ℕ → Type 0
IsNone apdu = (n : Said) → IsNotification apdu n → ⊥

-- the notification in an APDU: in clear if there are no keys, and otherwise under the keys of its sender
abbrev pub Contains : Option (List Station) → List ℕ → Said → Option Seal → Type 0
Contains keys apdu n None = (kind_of apdu ≡ None) × (keys ≡ None) × IsNotification apdu n
Contains keys apdu n (Some seal) =
    (plain : List ℕ) × IsSome (kind_of apdu) × (opened keys apdu
    ≡ Ok (record { plain = plain; seal = seal })) × IsNotification plain n

-- what is received from an APDU is a notification
abbrev pub ContainsNotification : Option (List Station) → List ℕ → Content → Option Seal → Type 0
ContainsNotification keys apdu (content.Notification n) seal = Contains keys apdu (said n) seal
ContainsNotification keys apdu (content.Telegram t) seal = ⊥

-- the counter of a seal is accepted; what is in clear has none
abbrev pub AcceptsSeal : Option Seal → List Sender → List Sender → Type 0
AcceptsSeal None old new = new ≡ old
AcceptsSeal (Some seal) old new = Accepts seal.title seal.counter old new

-- why the counter of a seal is not accepted: it is a replay, or there are too many senders
abbrev pub IsStale : Seal → List Sender → Refusal → Type 0
IsStale seal senders (refusal.Replay title counter last) =
    (title ≡ seal.title) × (counter ≡ seal.counter) × IsReplay seal.title seal.counter last senders
IsStale seal senders (refusal.Foreign title) =
    (title ≡ seal.title) × (length senders ≡ MOST_SENDERS)
IsStale seal senders other = ⊥

-- why a notification in clear is not taken
abbrev pub IsRefusedInClear : Option (List Station) → List ℕ → Refusal → Type 0
IsRefusedInClear keys apdu why =
    ((why ≡ refusal_of apdu) × IsNone apdu) ⊎ ((why ≡ refusal.InClear) × IsSome keys
    × ((n : Said) × IsNotification apdu n))

-- why a ciphered one is not taken
abbrev pub IsRefusedOpened : List Sender → Result Opened Refusal → Refusal → Type 0
IsRefusedOpened senders (Err fault) why = why ≡ fault
IsRefusedOpened senders (Ok found) why =
    ((why ≡ refusal_of found.plain) × IsNone found.plain)
    ⊎ (((n : Said) × IsNotification found.plain n) × IsStale found.seal senders why)

-- why an APDU is not taken: the first of these causes
abbrev pub IsRefused : Option (List Station) → List Sender → List ℕ → Refusal → Type 0
IsRefused keys senders apdu why =
    ((kind_of apdu ≡ None) × IsRefusedInClear keys apdu why)
    ⊎ (IsSome (kind_of apdu) × IsRefusedOpened senders (opened keys apdu) why)
