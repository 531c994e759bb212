-- The size of a table.
use Rattle.std.proofs.Common.{◌≡◌, ap, refl, List, [], ◌∷◌, Bool, true, false, not, suc, String, Global, length, btree_map_len}
use Rattle.std.specs.BTreeMap.{BTreeMap}
use Rattle.toml.specs.View.{members_view, table_view}
use Rattle.toml.specs.declared.value.Value.{Value}
use Rattle.dlms_keys.specs.Settings.{size_of}

size_is : (entries : List (String Global × Value)) → size_of (members_view entries) ≡ length entries
size_is [] = refl
size_is (e ∷ entries) = ap suc (size_is entries)

-- as many members as the map has entries
pub size_of_map : (table : BTreeMap (String Global) Value) → size_of (table_view table) ≡ btree_map_len table
size_of_map table = size_is table.entries

pub not_true : (b : Bool) → not b ≡ true → b ≡ false
not_true true h = cc
not_true false h = refl

pub not_false : (b : Bool) → not b ≡ false → b ≡ true
not_false true h = refl
not_false false h = cc
