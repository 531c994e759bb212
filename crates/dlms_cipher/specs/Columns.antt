-- A block as four columns. Each column is the number of its four octets, most significant octet first.
use Rattle.std.specs.Prelude.{◌≡◌, ◌<◌, ℕ, List, [], ◌++◌, map, slice_index_or}
use Rattle.std.specs.Int.{w32, to_be_bytes}
use Rattle.dlms_cipher.specs.declared.columns.Columns.{Columns}
use Rattle.dlms_cipher.specs.Aes.{round_key}

abbrev pub octets_of : Columns → List ℕ
octets_of s = to_be_bytes w32 s.first ++ to_be_bytes w32 s.second ++ to_be_bytes w32 s.third
    ++ to_be_bytes w32 s.fourth

-- the list has the eleven round keys of the key, in order
abbrev pub IsExpanded : List ℕ → List Columns → Type 0
IsExpanded key keys = (i : ℕ) → i < 11 → slice_index_or (map octets_of keys) i [] ≡ round_key key i
