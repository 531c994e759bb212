-- The rows of a compact array (A-XDR, IEC 61334-6, and the Blue Book's compact-array): the values of a row follow one another without
-- tags, in the order of the types that are described once.
use Rattle.std.specs.Prelude.{◌≡◌, ℕ, List, [], ◌∷◌, Option, Some, None, Result, Ok, Err}
use Rattle.dlms_buffer.specs.declared.fault.BufferFault.{BufferFault}
use Rattle.dlms_buffer.specs.declared.fault.BufferFault.TheVariants.{Memory, Value as Unread}
use Rattle.dlms_values.specs.declared.fault.ValueFault.{ValueFault}
use Rattle.dlms_values.specs.declared.fault.ValueFault.TheVariants.{Nested}
use Rattle.dlms_values.specs.declared.types.Tag.{Tag}
use Rattle.dlms_values.specs.declared.types.Tag.TheVariants.{Plain}
use Rattle.dlms_values.specs.Types.{type_of}
use Rattle.dlms_values.specs.Value.{Value}
use Rattle.dlms_values.specs.Reading.{◌>>=◌, plain_at}

-- one value of a type that contains no others
abbrev pub untagged_at : Option Tag → List ℕ → Result (Value × List ℕ) ValueFault
untagged_at (Some (Plain p)) bytes = plain_at p bytes
untagged_at _ bytes = Err Nested

-- a value for each of these tags
unfoldable pub packed_at : List ℕ → List ℕ → Result (List Value × List ℕ) ValueFault
packed_at [] bytes = Ok ([], bytes)
packed_at (tag ∷ tags) bytes =
    untagged_at (type_of tag) bytes >>= λ v. packed_at tags v.1 >>= λ vs. Ok (v.0 ∷ vs.0, vs.1)

-- What a function returned, seen by view, is what reading returns; it may run out of memory.
abbrev pub TellsRow : {X Y : Type 0} → (X → Y) → Result X BufferFault → Result Y ValueFault → Type 0
TellsRow view (Ok x) read = read ≡ Ok (view x)
TellsRow view (Err Memory) read = Unit {0}
TellsRow view (Err (Unread e)) read = read ≡ Err e
TellsRow view (Err _) read = ⊥
