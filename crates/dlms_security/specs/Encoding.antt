-- The encoding of a ciphered form, byte by byte (the ASN.1 of the ciphered APDUs in Green Book 9.5; lengths in A-XDR, IEC 61334-6).
use Rattle.std.specs.Prelude.{◌≡◌, ◌↔◌, ℕ, ◌+◌, ◌*◌, ◌^◌, ◌<◌, ◌⊎◌, true, List, [], ◌∷◌, ◌++◌, length, slice_index, Option, Some, None, Ok}
use Rattle.dlms_security.specs.declared.form.Head.{Head}
use Rattle.dlms_security.specs.Form.{is_form_tag, is_general, content, parts}

-- a length below 128 in one byte
abbrev pub InOne : ℕ → List ℕ → Type 0
InOne n size = (n < 0x80) × (size ≡ n ∷ [])

-- a length in one byte after 0x81
abbrev pub InTwo : ℕ → List ℕ → Type 0
InTwo n size = (n < 0x100) × (size ≡ 0x81 ∷ n ∷ [])

-- a length in two bytes after 0x82, the high one first
pub record InThree (n : ℕ) (size : List ℕ) : Type 0 where
  pub high : ℕ
  pub low : ℕ
  pub high_byte : high < 0x100
  pub low_byte : low < 0x100
  pub number : n ≡ high * 256 + low
  pub encoded : size ≡ 0x82 ∷ high ∷ low ∷ []

-- these bytes encode the length; they may be longer than needed
abbrev pub IsLength : ℕ → List ℕ → Type 0
IsLength n size = InOne n size ⊎ InTwo n size ⊎ InThree n size

-- the start of a message: the tag of a service's ciphered form; or the tag of general-glo-ciphering or general-ded-ciphering, and a
-- title of eight bytes
abbrev pub IsFront : ℕ → Option (List ℕ) → List ℕ → Type 0
IsFront tag None front = (is_form_tag tag ≡ true) × (front ≡ tag ∷ [])
IsFront tag (Some title) front = (length title ≡ 8) × (is_general tag ≡ true) × (front ≡ tag ∷ 8 ∷ title)

-- the message encodes this header and this body
pub record IsEncoding (message : List ℕ) (head : Head) (body : List ℕ) : Type 0 where
  pub front : List ℕ
  pub size : List ℕ
  pub in_front : IsFront head.tag head.title front
  pub sized : IsLength (length (content head.control head.counter body)) size
  pub counter : head.counter < 2 ^ 32
  pub whole : message ≡ front ++ size ++ content head.control head.counter body

abbrev pub AreBytes : List ℕ → Type 0
AreBytes bytes = (i : ℕ) → slice_index bytes i < 256

-- a message is read as a header and a body exactly if it encodes them
abbrev pub ReadExactly : Type 0
ReadExactly = (message : List ℕ) (head : Head) (body : List ℕ) → AreBytes message → (parts message ≡ Ok (head, body)) ↔ IsEncoding message head body
