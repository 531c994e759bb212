-- The forms of the APDUs of services (IEC 62056-5-3, 9.5, the ASN.1 of the APDUs): the name of each, and its fields.
use Rattle.std.specs.Prelude.{ℕ, ◌+◌, ◌*◌, ◌==◌, if◌then◌else◌, List, [], ◌∷◌, Option, Some, None, codes, option_map}
use Rattle.dlms_dissect.specs.declared.fields.Field.TheVariants as field
use Rattle.dlms_dissect.specs.declared.forms.Entry.{Entry}
use Rattle.dlms_dissect.specs.declared.forms.Form.{Form}
use Rattle.dlms_dissect.specs.declared.walk.Step.{Step}
use Rattle.dlms_dissect.specs.declared.walk.Step.TheVariants.{One, Many}

pub record Row : Type 0 where
  pub name : List ℕ
  pub steps : List Step

abbrev pub row_of : Form → Row
row_of form = record { name = form.name.now; steps = form.steps.now }

-- the row with this number, if there is one
abbrev pub form_in : List (ℕ × Row) → ℕ → Option Row
form_in [] number = None
form_in (row ∷ rows) number = if number == row.0 then Some row.1 else form_in rows number

abbrev pub form : ℕ → List ℕ → List Step → ℕ × Row
form number name steps = (number, record { name = name; steps = steps })

abbrev pub entry_of : Entry → ℕ × Row
entry_of entry = form entry.number entry.name.now entry.steps.now

-- by the tag and the choice after it
abbrev pub chosen_forms : List (ℕ × Row)
chosen_forms =
    form 0xc001 (codes "get-request-normal") (One field.Invoke ∷ One field.Attribute ∷ [])
    ∷ form 0xc002 (codes "get-request-next") (One field.Invoke ∷ One field.Number ∷ [])
    ∷ form 0xc003 (codes "get-request-with-list") (One field.Invoke ∷ Many field.Attribute ∷ [])
    ∷ form 0xc101 (codes "set-request-normal")
    (One field.Invoke ∷ One field.Attribute ∷ One field.Value ∷ [])
    ∷ form 0xc102 (codes "set-request-with-first-datablock")
    (One field.Invoke ∷ One field.Attribute ∷ One field.Block ∷ [])
    ∷ form 0xc103 (codes "set-request-with-datablock") (One field.Invoke ∷ One field.Block ∷ [])
    ∷ form 0xc104 (codes "set-request-with-list")
    (One field.Invoke ∷ Many field.Attribute ∷ Many field.Value ∷ [])
    ∷ form 0xc105 (codes "set-request-with-list-and-first-datablock")
    (One field.Invoke ∷ Many field.Attribute ∷ One field.Block ∷ [])
    ∷ form 0xc301 (codes "action-request-normal")
    (One field.Invoke ∷ One field.Method ∷ One field.Parameter ∷ [])
    ∷ form 0xc302 (codes "action-request-next-pblock") (One field.Invoke ∷ One field.Number ∷ [])
    ∷ form 0xc303 (codes "action-request-with-list")
    (One field.Invoke ∷ Many field.Method ∷ Many field.Value ∷ [])
    ∷ form 0xc304 (codes "action-request-with-first-pblock")
    (One field.Invoke ∷ One field.Method ∷ One field.Block ∷ [])
    ∷ form 0xc305 (codes "action-request-with-list-and-first-pblock")
    (One field.Invoke ∷ Many field.Method ∷ One field.Block ∷ [])
    ∷ form 0xc306 (codes "action-request-with-pblock") (One field.Invoke ∷ One field.Block ∷ [])
    ∷ form 0xc401 (codes "get-response-normal") (One field.Invoke ∷ One field.GetResult ∷ [])
    ∷ form 0xc402 (codes "get-response-with-datablock")
    (One field.Invoke ∷ One field.BlockResult ∷ [])
    ∷ form 0xc403 (codes "get-response-with-list") (One field.Invoke ∷ Many field.GetResult ∷ [])
    ∷ form 0xc501 (codes "set-response-normal") (One field.Invoke ∷ One field.AccessResult ∷ [])
    ∷ form 0xc502 (codes "set-response-datablock") (One field.Invoke ∷ One field.Number ∷ [])
    ∷ form 0xc503 (codes "set-response-last-datablock")
    (One field.Invoke ∷ One field.AccessResult ∷ One field.Number ∷ [])
    ∷ form 0xc504 (codes "set-response-last-datablock-with-list")
    (One field.Invoke ∷ Many field.AccessResult ∷ One field.Number ∷ [])
    ∷ form 0xc505 (codes "set-response-with-list") (One field.Invoke ∷ Many field.AccessResult ∷ [])
    ∷ form 0xc701 (codes "action-response-normal") (One field.Invoke ∷ One field.Return ∷ [])
    ∷ form 0xc702 (codes "action-response-with-pblock") (One field.Invoke ∷ One field.Block ∷ [])
    ∷ form 0xc703 (codes "action-response-with-list") (One field.Invoke ∷ Many field.Return ∷ [])
    ∷ form 0xc704 (codes "action-response-next-pblock") (One field.Invoke ∷ One field.Number ∷ [])
    ∷ []

-- by the tag alone
abbrev pub plain_forms : List (ℕ × Row)
plain_forms =
    form 0x05 (codes "read-request") (Many field.ShortName ∷ [])
    ∷ form 0x06 (codes "write-request") (Many field.ShortName ∷ Many field.Value ∷ [])
    ∷ form 0x0c (codes "read-response") (Many field.ShortData ∷ [])
    ∷ form 0x0d (codes "write-response") (Many field.ShortResult ∷ [])
    ∷ form 0x0e (codes "confirmed-service-error") (One field.ServiceError ∷ [])
    ∷ form 0x0f (codes "data-notification")
    (One field.LongInvoke ∷ One field.Time ∷ One field.Value ∷ [])
    ∷ form 0x10 (codes "data-notification-confirm") (One field.LongInvoke ∷ One field.Time ∷ [])
    ∷ form 0x16 (codes "unconfirmed-write-request") (Many field.ShortName ∷ Many field.Value ∷ [])
    ∷ form 0x18 (codes "information-report-request")
    (One field.OptionalTime ∷ Many field.ShortName ∷ Many field.Value ∷ [])
    ∷ form 0xc2 (codes "event-notification-request")
    (One field.OptionalTime ∷ One field.Notified ∷ One field.Value ∷ [])
    ∷ form 0xd8 (codes "exception-response") (One field.Exception ∷ [])
    ∷ form 0xd9 (codes "access-request")
    (One field.LongInvoke ∷ One field.Time ∷ Many field.Access ∷ Many field.Value ∷ [])
    ∷ form 0xda (codes "access-response")
    (One field.LongInvoke ∷ One field.Time ∷ One field.NoAccess ∷ Many field.Value
    ∷ Many field.AccessDone ∷ [])
    ∷ form 0xdb (codes "general-glo-ciphering") (One field.Title ∷ One field.Ciphered ∷ [])
    ∷ form 0xdc (codes "general-ded-ciphering") (One field.Title ∷ One field.Ciphered ∷ [])
    ∷ form 0xdd (codes "general-ciphering")
    (One field.Octets ∷ One field.Title ∷ One field.Title ∷ One field.Time ∷ One field.Octets
    ∷ One field.Key ∷ One field.Ciphered ∷ [])
    ∷ form 0xdf (codes "general-signing")
    (One field.Octets ∷ One field.Title ∷ One field.Title ∷ One field.Time ∷ One field.Octets
    ∷ One field.Octets ∷ One field.Octets ∷ [])
    ∷ form 0xe0 (codes "general-block-transfer")
    (One field.Control ∷ One field.ShortNumber ∷ One field.ShortNumber ∷ One field.Octets ∷ [])
    ∷ form 0xc8 (codes "glo-get-request") (One field.Ciphered ∷ [])
    ∷ form 0xc9 (codes "glo-set-request") (One field.Ciphered ∷ [])
    ∷ form 0xca (codes "glo-event-notification-request") (One field.Ciphered ∷ [])
    ∷ form 0xcb (codes "glo-action-request") (One field.Ciphered ∷ [])
    ∷ form 0xcc (codes "glo-get-response") (One field.Ciphered ∷ [])
    ∷ form 0xcd (codes "glo-set-response") (One field.Ciphered ∷ [])
    ∷ form 0xcf (codes "glo-action-response") (One field.Ciphered ∷ [])
    ∷ form 0xd0 (codes "ded-get-request") (One field.Ciphered ∷ [])
    ∷ form 0xd1 (codes "ded-set-request") (One field.Ciphered ∷ [])
    ∷ form 0xd2 (codes "ded-event-notification-request") (One field.Ciphered ∷ [])
    ∷ form 0xd3 (codes "ded-action-request") (One field.Ciphered ∷ [])
    ∷ form 0xd4 (codes "ded-get-response") (One field.Ciphered ∷ [])
    ∷ form 0xd5 (codes "ded-set-response") (One field.Ciphered ∷ [])
    ∷ form 0xd7 (codes "ded-action-response") (One field.Ciphered ∷ [])
    ∷ []

abbrev pub with_rest : List ℕ → Row → Row × List ℕ
with_rest rest row = (row, rest)

abbrev pub chosen_at : ℕ → List ℕ → Option (Row × List ℕ)
chosen_at tag [] = None
chosen_at tag (choice ∷ rest) =
    option_map (with_rest rest) (form_in chosen_forms (tag * 256 + choice))

-- the row of its tag, if there is one, otherwise of its tag and its choice
abbrev pub or_chosen : Option Row → ℕ → List ℕ → Option (Row × List ℕ)
or_chosen (Some row) tag rest = Some (row, rest)
or_chosen None tag rest = chosen_at tag rest

-- the form of an APDU, and the octets of its fields
abbrev pub form_at : List ℕ → Option (Row × List ℕ)
form_at [] = None
form_at (tag ∷ rest) = or_chosen (form_in plain_forms tag) tag rest
