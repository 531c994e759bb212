-- What the keys of a station open.
use Rattle.std.specs.Prelude.{◌||◌, ℕ, List, replicate, Bool, false, Option, Some, None, is_ok, Result, Ok, Err}
use Rattle.std.specs.Str.{bytes_eq}
use Rattle.dlms_security.specs.Opening.{opening}
use Rattle.dlms_security.specs.declared.kind.KeyKind.{KeyKind}
use Rattle.dlms_security.specs.declared.kind.KeyKind.TheVariants.{Global, Dedicated as UnderDedicated}
use Rattle.dlms_security.specs.declared.opener.Known.{Known}
use Rattle.dlms_security.specs.declared.opener.Closed.{Closed}
use Rattle.dlms_security.specs.declared.opener.Closed.TheVariants.{NoDedicatedKey, NoAuthenticationKey, Refused}
use Rattle.dlms_security.specs.declared.opening.Header.{Header}
use Rattle.dlms_security.specs.declared.policy.Policy.{Policy}
use Rattle.dlms_security.specs.declared.policy.Policy.TheVariants.{Authenticated, Encrypted, AuthenticatedEncrypted}
use Rattle.dlms_security.specs.declared.fault.UnprotectFault.{UnprotectFault}
use Rattle.dlms_keys.specs.declared.station.Station.{Station}

-- the title under which a message is opened: its sender's, or the station's own if the sender is not known
abbrev pub title_for : Option (List ℕ) → Station → List ℕ
title_for (Some sender) station = sender
title_for None station = station.title

-- the encryption key of a kind of message
abbrev pub encryption_for : KeyKind → Option (List ℕ) → Station → Result (List ℕ) Closed
encryption_for Global dedicated station = Ok station.encryption_key
encryption_for UnderDedicated (Some key) station = Ok key
encryption_for UnderDedicated None station = Err NoDedicatedKey

-- the authentication key; of no matter for a message without a tag
abbrev pub authentication_or : Policy → Option (List ℕ) → Result (List ℕ) Closed
authentication_or policy (Some key) = Ok key
authentication_or Encrypted None = Ok (replicate 16 0)
authentication_or Authenticated None = Err NoAuthenticationKey
authentication_or AuthenticatedEncrypted None = Err NoAuthenticationKey

abbrev pub authentication_for : Policy → Station → Result (List ℕ) Closed
authentication_for policy station = authentication_or policy station.authentication_key

abbrev pub closed_of : Result (List ℕ) UnprotectFault → Result (List ℕ) Closed
closed_of (Ok apdu) = Ok apdu
closed_of (Err fault) = Err (Refused fault)

abbrev pub opened_under : Result (List ℕ) Closed → Result (List ℕ) Closed → (title message : List ℕ)
    → Result (List ℕ) Closed
opened_under (Err closed) authentication title message = Err closed
opened_under (Ok encryption) (Err closed) title message = Err closed
opened_under (Ok encryption) (Ok authentication) title message =
    closed_of (opening encryption authentication title message)

-- the sender of a message, as it says itself, or as the association says
abbrev pub first_title : Option (List ℕ) → Option (List ℕ) → Option (List ℕ)
first_title (Some title) other = Some title
first_title None other = other

abbrev pub sender_of : Known → Header → Option (List ℕ)
sender_of known header = first_title header.title known.sender

-- the APDU in a message with this header under the keys of a station
abbrev pub opened_by : Known → Policy → Header → List ℕ → Station → Result (List ℕ) Closed
opened_by known policy header message station =
    opened_under (encryption_for header.kind known.dedicated_key station)
    (authentication_for policy station)
    (title_for (sender_of known header) station) message

abbrev pub opens : Known → Policy → Header → List ℕ → Station → Bool
opens known policy header message station = is_ok (opened_by known policy header message station)

-- the station is the sender or the receiver
abbrev pub is_title : List ℕ → Option (List ℕ) → Bool
is_title title None = false
is_title title (Some other) = bytes_eq title other

abbrev pub is_near : Known → Header → Station → Bool
is_near known header station =
    is_title station.title header.title || (is_title station.title known.sender
    || is_title station.title known.receiver)
