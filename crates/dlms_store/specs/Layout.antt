-- The layout of a device: two slots, each with a gate and its bodies, then the journal pages and the ring pages. No clause of a
-- store's own calls states it.
use Rattle.std.specs.Prelude.{ℕ, ◌+◌, ◌%◌}
use Rattle.dlms_store.specs.declared.layout.Slot.{Slot}
use Rattle.dlms_store.specs.declared.layout.Slot.TheVariants.{First, Second}
use Rattle.dlms_store.specs.declared.layout.TheConstants.{BODIES, RING, RING_PAGES}

abbrev pub index_of : Slot → ℕ
index_of First = 0
index_of Second = 1

-- the page of a slot's gate, which its bodies follow
abbrev pub gate_of : Slot → ℕ
gate_of First = 0
gate_of Second = 1 + BODIES

abbrev pub other_of : Slot → Slot
other_of First = Second
other_of Second = First

-- the place of the k-th ring page
abbrev pub ring_place : ℕ → ℕ
ring_place k = RING + k % RING_PAGES
