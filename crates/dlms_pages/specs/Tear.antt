-- How each slot that was on its way is torn.
use Rattle.std.specs.Prelude.{◌≡◌, ◌<◌, ℕ, List, [], length, slice_index_or}
use Rattle.dlms_pages.specs.declared.tear.SlotTear.{SlotTear}
use Rattle.dlms_pages.specs.declared.tear.SlotTear.TheVariants.{Old, New}
use Rattle.dlms_pages.specs.declared.tear.SlotTears.{SlotTears}
use Rattle.dlms_pages.specs.declared.tear.SlotTears.TheVariants.{All, Each}

-- the tear of this slot
abbrev pub tear_at : SlotTears → ℕ → SlotTear
tear_at (All tear) k = tear
tear_at (Each tears) k = slice_index_or tears.now k Old

-- a slot of which all octets came is the new one
abbrev pub AreWhole : SlotTears → (news slots : List (List ℕ)) → Type 0
AreWhole tears news slots = (k : ℕ) → k < length slots → tear_at tears k ≡ New
    → slice_index_or slots k [] ≡ slice_index_or news k []
