-- The purposes of the places of pages, by the layout of dlms_store.
use Rattle.std.specs.Prelude.{◌≡◌, ◌<◌, ◌+◌, ◌-◌, ◌==◌, ℕ, nat_le, nat_lt, if◌then◌else◌, Option, Some, None}
use Rattle.dlms_store.specs.declared.layout.Slot.{Slot}
use Rattle.dlms_store.specs.declared.layout.Slot.TheVariants.{First, Second}
use Rattle.dlms_store.specs.declared.layout.TheConstants.{BODIES, JOURNAL, JOURNAL_PAGES, RING}
use Rattle.dlms_store.specs.Layout.{gate_of}
use Rattle.dlms_survey.specs.declared.place.Place.{Place}
use Rattle.dlms_survey.specs.declared.place.Place.TheVariants.{Gate, Body, Journal, Ring}

-- the page with this number after a slot's gate, which has the number 0
abbrev pub IsInSlot : Slot → ℕ → Place → Type 0
IsInSlot slot number (Gate of) = (of ≡ slot) × (number ≡ 0)
IsInSlot slot number (Body of k) = (of ≡ slot) × (number ≡ 1 + k)
IsInSlot slot number (Journal k) = ⊥
IsInSlot slot number (Ring k) = ⊥

abbrev pub IsPlace : ℕ → Place → Type 0
IsPlace page (Gate slot) = page ≡ gate_of slot
IsPlace page (Body slot k) = (page ≡ gate_of slot + 1 + k) × (k < BODIES)
IsPlace page (Journal k) = (page ≡ JOURNAL + k) × (k < JOURNAL_PAGES)
IsPlace page (Ring k) = page ≡ RING + k

-- the place of a page: by its number after a slot's gate, and by its number in the store
abbrev pub in_slot : Slot → ℕ → Place
in_slot slot number = if number == 0 then Gate slot else Body slot (number - 1)

abbrev pub place_at : ℕ → Place
place_at page =
    if nat_le RING page then Ring (page - RING)
    else if nat_le JOURNAL page then Journal (page - JOURNAL)
    else if nat_lt page (gate_of Second) then in_slot First page
    else in_slot Second (page - gate_of Second)

-- the index that a place asks for; that of a gate is not looked at
abbrev pub index_at : Place → Option ℕ
index_at (Gate slot) = None
index_at (Body slot k) = Some k
index_at (Journal k) = Some k
index_at (Ring k) = Some k
