-- The objects that the fields of an APDU name.
use Rattle.std.specs.Prelude.{◌≡◌, ◌⊎◌, ℕ, ◌+◌, ◌*◌, ◌==◌, nat_le, if◌then◌else◌, Bool, true, false, List, [], ◌∷◌, Option, Some, None}
use Rattle.dlms_dissect.specs.Secrets.{secrecy_at}
use Rattle.dlms_dissect.specs.Walk.{Spells, Told, is_field, is_list}
use Rattle.dlms_dissect.specs.declared.fields.Field.{Field}
use Rattle.dlms_dissect.specs.declared.fields.Field.TheVariants.{Invoke, Attribute, Notified, Method, Access}
use Rattle.dlms_dissect.specs.declared.named.Named.{Named}
use Rattle.dlms_dissect.specs.declared.secrecy.Secrecy.{Secrecy}
use Rattle.dlms_dissect.specs.declared.secrecy.Secrecy.TheVariants.{Open, Unknown, Secret}
use Rattle.dlms_dissect.specs.declared.survey.Survey.{Survey}
use Rattle.dlms_dissect.specs.declared.walk.Step.{Step}

-- how much is kept secret
abbrev pub rank_of : Secrecy → ℕ
rank_of Open = 0
rank_of Unknown = 1
rank_of Secret = 2

abbrev pub rank : Named → ℕ
rank n = rank_of (secrecy_at n)

-- the one of which more is kept secret, and of two alike the first
abbrev pub chief : Option Named → Named → Option Named
chief None other = Some other
chief (Some one) other = if nat_le (rank other) (rank one) then Some one else Some other

-- class-id, instance-id, attribute-id or method-id
abbrev pub name_at : List ℕ → Bool → Option Named
name_at (high ∷ low ∷ a ∷ b ∷ c ∷ d ∷ e ∷ f ∷ id ∷ rest) method =
    Some (record {
      descriptor = record {
        class = high * 256 + low;
        name = a ∷ b ∷ c ∷ d ∷ e ∷ f ∷ [];
        id = id;
      };
      method = method;
    })
name_at _ method = None

abbrev pub access_name_at : List ℕ → Option Named
access_name_at (choice ∷ octets) = name_at octets (choice == 3)
access_name_at [] = None

-- what a field names: an attribute, a method, or in an access either
abbrev pub name_in : Field → List ℕ → Option Named
name_in Attribute octets = name_at octets false
name_in Notified octets = name_at octets false
name_in Method octets = name_at octets true
name_in Access octets = access_name_at octets
name_in _ octets = None

abbrev pub named_by : Told → Option Named
named_by (is_field field octets) = name_in field octets
named_by (is_list field count) = None

abbrev pub first_of : List ℕ → Option ℕ
first_of [] = None
first_of (octet ∷ rest) = Some octet

abbrev pub with_name : Survey → Option Named → Survey
with_name s None = s
with_name s (Some named) = record s { chief = chief s.chief named }

abbrev pub with_field : Survey → Field → List ℕ → Survey
with_field s Invoke octets = record s { invoke = first_of octets }
with_field s field octets = with_name s (name_in field octets)

abbrev pub noted : Survey → Told → Survey
noted s (is_field field octets) = with_field s field octets
noted s (is_list field count) = s

abbrev pub noted_all : Survey → List Told → Survey
noted_all s [] = s
noted_all s (t ∷ ts) = noted_all (noted s t) ts

abbrev pub nothing : Survey
nothing = record { invoke = None; chief = None }

-- the octets spell fields of which this is said
abbrev pub IsSurvey : List Step → List ℕ → Survey → Type 0
IsSurvey steps octets s = (ts : List Told) × (Spells steps octets ts × (s ≡ noted_all nothing ts))

-- one of the fields names it
abbrev pub Names : List Told → Named → Type 0
Names [] n = ⊥
Names (t ∷ ts) n = (named_by t ≡ Some n) ⊎ Names ts n

-- the secrecy of the values of an APDU, by the most secret object that it names; if it names none, they may be secrets
abbrev pub secrecy_of_named : Option Named → Secrecy
secrecy_of_named None = Unknown
secrecy_of_named (Some n) = secrecy_at n
