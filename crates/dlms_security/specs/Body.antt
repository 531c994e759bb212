-- The protected body of a message under each policy (IEC 62056-5-3; Green Book 9.2.7.2).
use Rattle.std.specs.Prelude.{ℕ, ◌-◌, nat_lt, if◌then◌else◌, List, ◌++◌, length, take, drop, Result, Ok, Err}
use Rattle.std.specs.Str.{bytes_eq}
use Rattle.dlms_cipher.specs.Dlms.{cipher_of, sealed_tag, signed_tag}
use Rattle.dlms_security.specs.declared.form.TheConstants.{MOST_APDU}
use Rattle.dlms_security.specs.declared.policy.Policy.{Policy}
use Rattle.dlms_security.specs.declared.policy.Policy.TheVariants.{Authenticated, Encrypted, AuthenticatedEncrypted}
use Rattle.dlms_security.specs.declared.fault.UnprotectFault.{UnprotectFault}
use Rattle.dlms_security.specs.declared.fault.UnprotectFault.TheVariants.{Short, Long, WrongTag}

-- The security control byte: bit 4 is authentication, bit 5 encryption. Suite 0, unicast key and no compression are 0 bits.
abbrev pub control_of : Policy → ℕ
control_of Authenticated = 0x10
control_of Encrypted = 0x20
control_of AuthenticatedEncrypted = 0x30

-- one use of the keys: both keys, the sender's system title and the invocation counter
pub record Use : Type 0 where
  pub encryption : List ℕ
  pub authentication : List ℕ
  pub title : List ℕ
  pub counter : ℕ

-- a text encrypted or decrypted
abbrev pub text_of : Use → List ℕ → List ℕ
text_of u text = cipher_of u.encryption u.title u.counter text

-- the tag of a ciphertext
abbrev pub seal_of : Use → List ℕ → List ℕ
seal_of u ciphertext = sealed_tag u.encryption u.authentication u.title u.counter ciphertext

-- the tag of a text that is not encrypted
abbrev pub signature_of : Use → List ℕ → List ℕ
signature_of u text = signed_tag u.encryption u.authentication u.title u.counter text

-- the protected body of an APDU
abbrev pub body_of : Policy → Use → List ℕ → List ℕ
body_of Authenticated u apdu = apdu ++ signature_of u apdu
body_of Encrypted u apdu = text_of u apdu
body_of AuthenticatedEncrypted u apdu = text_of u apdu ++ seal_of u (text_of u apdu)

-- the APDU of a readable text and a tag
abbrev pub signed_apdu : Use → List ℕ → List ℕ → Result (List ℕ) UnprotectFault
signed_apdu u text tag =
    if nat_lt MOST_APDU (length text) then Err Long
    else if bytes_eq tag (signature_of u text) then Ok text
    else Err WrongTag

-- the APDU of a ciphertext and a tag
abbrev pub sealed_apdu : Use → List ℕ → List ℕ → Result (List ℕ) UnprotectFault
sealed_apdu u text tag =
    if nat_lt MOST_APDU (length text) then Err Long
    else if bytes_eq tag (seal_of u text) then Ok (text_of u text)
    else Err WrongTag

-- the APDU of a ciphertext without a tag
abbrev pub encrypted_apdu : Use → List ℕ → Result (List ℕ) UnprotectFault
encrypted_apdu u text = if nat_lt MOST_APDU (length text) then Err Long else Ok (text_of u text)

-- the last twelve bytes are the tag
abbrev pub text_in : List ℕ → List ℕ
text_in body = take (length body - 12) body

abbrev pub tag_in : List ℕ → List ℕ
tag_in body = drop (length body - 12) body

-- the APDU of a body, or why there is none
abbrev pub open_body : Policy → Use → List ℕ → Result (List ℕ) UnprotectFault
open_body Authenticated u body = if nat_lt (length body) 12 then Err Short else signed_apdu u (text_in body) (tag_in body)
open_body Encrypted u body = encrypted_apdu u body
open_body AuthenticatedEncrypted u body = if nat_lt (length body) 12 then Err Short else sealed_apdu u (text_in body) (tag_in body)
