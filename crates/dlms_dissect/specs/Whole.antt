-- The report of a value that came in blocks.
use Rattle.std.specs.Prelude.{◌≡◌, ℕ, List, IsOkAnd}
use Rattle.dlms_data.specs.Memory.{NeedsFirst}
use Rattle.dlms_data.specs.Reading.{data_at}
use Rattle.dlms_data.specs.Spelling.{IsSpelling}
use Rattle.dlms_data.specs.Value.{Value}
use Rattle.dlms_data.specs.View.{value_of}
use Rattle.dlms_dissect.specs.Places.{IsValueFault, refused_value}
use Rattle.dlms_dissect.specs.declared.secrecy.Secrecy.{Secrecy}
use Rattle.dlms_dissect.specs.declared.secrecy.Secrecy.TheVariants.{Open, Unknown, Secret}
use Rattle.dlms_dissect.specs.declared.whole.Whole.{Whole}
use Rattle.dlms_dissect.specs.declared.whole.Whole.TheVariants as told

-- the octets spell no value
abbrev pub IsNoValue : List ℕ → Type 0
IsNoValue octets = (v : Value) → IsSpelling octets v → ⊥

-- A secret is reported to be one; for other octets the value that they spell is reported, veiled if it may be one, or a fault if
-- they spell none.
abbrev pub IsToldOfWhole : {A : Type 0} → Secrecy → List ℕ → Whole A → Type 0
IsToldOfWhole Secret octets whole = whole ≡ told.Secret
IsToldOfWhole Unknown octets (told.Unknown covered) = IsSpelling octets (value_of covered.value)
IsToldOfWhole Unknown octets (told.Unreadable fault) = IsNoValue octets
    × IsValueFault (refused_value octets) octets 0 fault
IsToldOfWhole Unknown octets _ = ⊥
IsToldOfWhole Open octets (told.Value value) = IsSpelling octets (value_of value)
IsToldOfWhole Open octets (told.Unreadable fault) = IsNoValue octets
    × IsValueFault (refused_value octets) octets 0 fault
IsToldOfWhole Open octets _ = ⊥

-- memory is requested: for octets that are no secret, if a value that needs some begins them
abbrev pub WantsMemory : Secrecy → List ℕ → Type 0
WantsMemory Secret octets = ⊥
WantsMemory Unknown octets = IsOkAnd (data_at 8 octets) NeedsFirst
WantsMemory Open octets = IsOkAnd (data_at 8 octets) NeedsFirst
