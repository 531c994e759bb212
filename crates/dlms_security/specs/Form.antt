-- The ciphered forms of an APDU (IEC 62056-5-3; Green Book 9.2.7.2 and 9.5): tag; in general-glo-ciphering and general-ded-ciphering
-- the sender's system title; length in A-XDR; security header, which is the security control byte and the invocation counter;
-- protected body.
use Rattle.std.specs.Prelude.{ℕ, ◌+◌, ◌*◌, ◌/◌, ◌%◌, ◌==◌, ◌||◌, nat_lt, if◌then◌else◌, Bool, true, false, List, [], ◌∷◌, ◌++◌, length, Option, Some, None, Result, Ok, Err, option_map, option_and_then}
use Rattle.std.specs.Int.{w32, to_be_bytes, from_be_bytes}
use Rattle.dlms_security.specs.declared.kind.KeyKind.{KeyKind}
use Rattle.dlms_security.specs.declared.kind.KeyKind.TheVariants.{Global, Dedicated}
use Rattle.dlms_security.specs.declared.form.Form.{Form}
use Rattle.dlms_security.specs.declared.form.Form.TheVariants.{Service, General}
use Rattle.dlms_security.specs.declared.form.Head.{Head}
use Rattle.dlms_security.specs.declared.fault.UnprotectFault.{UnprotectFault}
use Rattle.dlms_security.specs.declared.fault.UnprotectFault.TheVariants.{NotProtected, Short}

-- ---- tags

-- initiate request and response, confirmed-service-error
abbrev pub is_initiate : ℕ → Bool
is_initiate tag = (tag == 0x01) || ((tag == 0x08) || (tag == 0x0E))

-- get, set, event notification and action request; get, set and action response
abbrev pub is_service : ℕ → Bool
is_service tag =
    (tag == 0xC0) || ((tag == 0xC1) || ((tag == 0xC2) || ((tag == 0xC3) || ((tag == 0xC4) || ((tag == 0xC5) || (tag == 0xC7))))))

-- the tag of the ciphered form of the APDUs with this tag, if there is one: glo- or ded-
abbrev pub form_tag : KeyKind → ℕ → Option ℕ
form_tag Global tag = if is_initiate tag then Some (tag + 0x20)
    else if is_service tag then Some (tag + 8) else None
form_tag Dedicated tag = if is_service tag then Some (tag + 0x10) else None

-- the tags of the glo- forms, and of the ded- forms
abbrev pub is_glo : ℕ → Bool
is_glo tag =
    (tag == 0x21) || ((tag == 0x28) || ((tag == 0x2E) || ((tag == 0xC8) || ((tag == 0xC9) || ((tag == 0xCA)
    || ((tag == 0xCB) || ((tag == 0xCC) || ((tag == 0xCD) || (tag == 0xCF)))))))))

abbrev pub is_ded : ℕ → Bool
is_ded tag =
    (tag == 0xD0) || ((tag == 0xD1) || ((tag == 0xD2) || ((tag == 0xD3) || ((tag == 0xD4) || ((tag == 0xD5) || (tag == 0xD7))))))

abbrev pub is_form_tag : ℕ → Bool
is_form_tag tag = is_glo tag || is_ded tag

-- the tag of general-glo-ciphering or general-ded-ciphering
abbrev pub general_tag : KeyKind → ℕ
general_tag Global = 0xDB
general_tag Dedicated = 0xDC

abbrev pub is_general : ℕ → Bool
is_general tag = (tag == 0xDB) || (tag == 0xDC)

-- the kind of key that a message with this tag is protected by, if it is protected
abbrev pub kind_of_tag : ℕ → Option KeyKind
kind_of_tag tag = if (tag == 0xDB) || is_glo tag then Some Global
    else if (tag == 0xDC) || is_ded tag then Some Dedicated else None

abbrev pub kind_of : List ℕ → Option KeyKind
kind_of [] = None
kind_of (tag ∷ rest) = kind_of_tag tag

-- the APDU is of a service whose ciphered form has this tag
abbrev pub is_some_of : ℕ → Option ℕ → Bool
is_some_of tag None = false
is_some_of tag (Some form) = form == tag

abbrev pub begins_as : KeyKind → ℕ → List ℕ → Bool
begins_as kind tag [] = false
begins_as kind tag (first ∷ rest) = is_some_of tag (form_tag kind first)

-- A message with this tag may contain the APDU under this kind of key: a general one any APDU, the others those of their service.
abbrev pub is_of : KeyKind → ℕ → List ℕ → Bool
is_of kind tag apdu = if tag == general_tag kind then true else begins_as kind tag apdu

-- ---- writing

-- a length in its shortest encoding
abbrev pub length_octets : ℕ → List ℕ
length_octets n =
    if nat_lt n 0x80 then n ∷ []
    else if nat_lt n 0x100 then 0x81 ∷ n ∷ []
    else 0x82 ∷ n / 256 ∷ n % 256 ∷ []

-- the start of a message, in front of the length
abbrev pub service_front : KeyKind → List ℕ → Option (List ℕ)
service_front kind [] = None
service_front kind (first ∷ rest) = option_map (λ tag. tag ∷ []) (form_tag kind first)

abbrev pub front_of : KeyKind → Form → List ℕ → List ℕ → Option (List ℕ)
front_of kind Service title apdu = service_front kind apdu
front_of kind General title apdu = Some (general_tag kind ∷ 8 ∷ title)

-- the bytes that the length counts
abbrev pub content : ℕ → ℕ → List ℕ → List ℕ
content control counter body = control ∷ to_be_bytes w32 counter ++ body

-- a message of a front and a content
abbrev pub message_of : List ℕ → List ℕ → List ℕ
message_of front inner = front ++ length_octets (length inner) ++ inner

-- ---- reading

-- the rest, if it has this length
abbrev pub exactly : ℕ → List ℕ → Option (List ℕ)
exactly n rest = if n == length rest then Some rest else None

-- the same, after 0x81 and after 0x82
abbrev pub content_of_one : List ℕ → Option (List ℕ)
content_of_one (a ∷ rest) = exactly a rest
content_of_one _ = None

abbrev pub content_of_two : List ℕ → Option (List ℕ)
content_of_two (a ∷ b ∷ rest) = exactly (a * 256 + b) rest
content_of_two _ = None

-- the bytes after a length, if they have that length
abbrev pub content_of : List ℕ → Option (List ℕ)
content_of [] = None
content_of (first ∷ rest) =
    if nat_lt first 0x80 then exactly first rest
    else if first == 0x81 then content_of_one rest
    else if first == 0x82 then content_of_two rest
    else None

-- the header and the body in a content
abbrev pub header : ℕ → Option (List ℕ) → List ℕ → Option (Head × List ℕ)
header tag title (control ∷ a ∷ b ∷ c ∷ d ∷ body) =
    Some (
      record {
        tag = tag;
        title = title;
        control = control;
        counter = from_be_bytes w32 (a ∷ b ∷ c ∷ d ∷ []);
      },
      body,
    )
header tag title _ = None

-- the same, of a service's ciphered form after its tag
abbrev pub service : ℕ → List ℕ → Option (Head × List ℕ)
service tag octets = option_and_then (header tag None) (content_of octets)

-- the same, of a general form after its title
abbrev pub titled_parts : ℕ → List ℕ → List ℕ → Option (Head × List ℕ)
titled_parts tag title octets = option_and_then (header tag (Some title)) (content_of octets)

-- the same, of a general form after its tag
abbrev pub general : ℕ → List ℕ → Option (Head × List ℕ)
general tag (n ∷ a ∷ b ∷ c ∷ d ∷ e ∷ f ∷ g ∷ h ∷ rest) =
    if n == 8 then titled_parts tag (a ∷ b ∷ c ∷ d ∷ e ∷ f ∷ g ∷ h ∷ []) rest else None
general tag _ = None

-- a message without these parts is cut off, or has a wrong length
abbrev pub or_short : Option (Head × List ℕ) → Result (Head × List ℕ) UnprotectFault
or_short None = Err Short
or_short (Some found) = Ok found

-- the header and the body of a message, or why there are none
abbrev pub parts : List ℕ → Result (Head × List ℕ) UnprotectFault
parts [] = Err Short
parts (tag ∷ rest) =
    if is_general tag then or_short (general tag rest)
    else if is_form_tag tag then or_short (service tag rest)
    else Err NotProtected
