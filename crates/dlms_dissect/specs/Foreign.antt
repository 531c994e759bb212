-- APDUs of services by the reader of their own.
use Rattle.std.specs.Prelude.{◌≡◌, ℕ, ◌==◌, ◌||◌, if◌then◌else◌, Bool, List, [], ◌∷◌, Option, Some, None}
use Rattle.dlms_dissect.specs.Asked.{of_invoke}
use Rattle.dlms_dissect.specs.Forms.{Row, form_at, row_of}
use Rattle.dlms_dissect.specs.Secrets.{secrecy_of, told_as}
use Rattle.dlms_dissect.specs.Survey.{IsSurvey, first_of, secrecy_of_named}
use Rattle.dlms_dissect.specs.Walk.{Spells, Told}
use Rattle.dlms_dissect.specs.declared.foreign.Foreign.{Foreign}
use Rattle.dlms_dissect.specs.declared.foreign.Role.{Role}
use Rattle.dlms_dissect.specs.declared.foreign.Role.TheVariants.{Asks, Answers, AnswersUnfollowed, Says}
use Rattle.dlms_dissect.specs.declared.named.Asked.{Asked}
use Rattle.dlms_dissect.specs.declared.named.Named.{Named}
use Rattle.dlms_dissect.specs.declared.secrecy.Secrecy.{Secrecy}
use Rattle.dlms_dissect.specs.declared.secrecy.Secrecy.TheVariants.{Unknown}
use Rattle.dlms_dissect.specs.declared.survey.Survey.{Survey}

-- no form's fields are spelled
abbrev pub IsNoForm : List ℕ → Type 0
IsNoForm bytes = (row : Row) (octets : List ℕ) (ts : List Told) → form_at bytes ≡ Some (row, octets)
    → Spells row.steps octets ts → ⊥

-- The APDU has this form, whose fields its octets spell, and this is said of them; or it has none.
abbrev pub IsForeign : List ℕ → Option Foreign → Type 0
IsForeign bytes None = IsNoForm bytes
IsForeign bytes (Some f) =
    (first_of bytes ≡ Some f.tag) × (form_at bytes ≡ Some (row_of f.form, f.fields.now))
    × IsSurvey f.form.steps.now f.fields.now f.survey

-- requests and responses of GET, SET and ACTION; the responses to a read by short names and to an access
abbrev pub role_of : ℕ → Role
role_of tag =
    if (tag == 0xc0) || ((tag == 0xc1) || (tag == 0xc3)) then Asks
    else if (tag == 0xc4) || ((tag == 0xc5) || (tag == 0xc7)) then Answers
    else if (tag == 0x0c) || (tag == 0xda) then AnswersUnfollowed
    else Says

abbrev pub asks_of : Option ℕ → Option Named → Option Asked
asks_of None named = None
asks_of (Some invoke) None = None
asks_of (Some invoke) (Some named) = Some (record { invoke = invoke; named = named })

-- what it asks for: of several the one of which most is kept secret
abbrev pub asked_by : Survey → Option Asked
asked_by s = asks_of s.invoke s.chief

abbrev pub answered_by : Option Asked → Option ℕ → Option Asked
answered_by asked None = None
answered_by asked (Some invoke) = of_invoke asked invoke

-- How its values are reported: by the objects that it names; for an answer by the requested object, and if that is not followed
-- always as a possible secret.
abbrev pub values_of : Role → Bool → Option Asked → Survey → Secrecy
values_of Asks raw asked s = told_as raw (secrecy_of_named s.chief)
values_of Answers raw asked s = told_as raw (secrecy_of (answered_by asked s.invoke))
values_of AnswersUnfollowed raw asked s = Unknown
values_of Says raw asked s = told_as raw (secrecy_of_named s.chief)

abbrev pub of_answer : Role → Option Asked → Survey → Option Asked
of_answer Answers asked s = answered_by asked s.invoke
of_answer _ asked s = None
