-- A file that is made.
use Rattle.std.specs.Prelude.{◌≡◌, ◌⊎◌, Some, None}
use Rattle.dlms_pages.specs.Device.{View, Image, page_at}
use Rattle.dlms_pages.specs.Stops.{LeavesOnly}
use Rattle.dlms_counters.specs.Slot.{CounterState}
use Rattle.dlms_counters.specs.Image.{recovered}
use Rattle.dlms_counters.specs.Writing.{IsBlank}

-- both pages hold nothing
abbrev pub IsUnused : Image → Type 0
IsUnused image = IsBlank (page_at image 0) × IsBlank (page_at image 1)

-- an image of before, or a file that is not opened, or the first contents
abbrev pub IsBegun : CounterState → (Image → Type 0) → Image → Type 0
IsBegun c old image = old image ⊎ ((recovered image ≡ None) ⊎ (recovered image ≡ Some c))

-- a stop inside the call or after it leaves such an image
pub record Begins (c : CounterState) (old new : View) : Type 0 where
  pub any_moment : LeavesOnly old new (IsBegun c old.may_leave)
  pub after : (image : Image) → new.may_leave image → IsBegun c old.may_leave image
