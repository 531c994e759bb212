-- What a stop leaves of a file while it is written.
use Rattle.std.specs.Prelude.{◌≡◌, ◌≤◌, ◌⊎◌, ℕ, List, Some, Result, length, OnOk, replicate, slice_set, true}
use Rattle.dlms_pages.specs.Device.{View, Image, Outcome}
use Rattle.dlms_pages.specs.Stops.{LeavesOnly}
use Rattle.dlms_pages.specs.declared.device.PageRead.{PageRead}
use Rattle.dlms_pages.specs.declared.device.PageRead.TheVariants.{Content, Damaged}
use Rattle.dlms_counters.specs.Slot.{CounterState}
use Rattle.dlms_counters.specs.Image.{recovered}

-- A device goes on: it stays as honest as it was, its pages stay as many, and the count of its
-- faults does not fall.
pub record GoesOn (old new : View) : Type 0 where
  pub honest : new.honest ≡ old.honest
  pub count : length new.seen ≡ length old.seen
  pub faults : old.faults ≤ new.faults

-- A stop inside the call or after it leaves an image that has Meanwhile, and after an Ok one that
-- has AtLast.
pub record Brings {T E : Type 0} (Meanwhile AtLast : Image → Type 0) (old new : View)
    (result : Result T E) : Type 0 where
  pub any_moment : LeavesOnly old new Meanwhile
  pub after : (image : Image) → new.may_leave image → Meanwhile image
  pub at_last : OnOk result ((image : Image) → new.may_leave image → AtLast image)

-- a page: as it was, new or torn, and at last new
abbrev pub Puts : {T E : Type 0} → ℕ → List ℕ → View → View → Result T E → Type 0
Puts index bytes old new result =
    Brings (Outcome index bytes old.may_leave)
    (λ image. image ≡ slice_set old.seen index (Content bytes)) old new result

-- the device keeps the rules, and a recovery finds these contents in each image that a stop may
-- leave
pub record IsSettled (v : View) (c : CounterState) : Type 0 where
  pub honest : v.honest ≡ true
  pub each : (image : Image) → v.may_leave image → recovered image ≡ Some c

-- a recovery finds the old contents or the new ones
abbrev pub IsEither : CounterState → CounterState → Image → Type 0
IsEither c d image = (recovered image ≡ Some c) ⊎ (recovered image ≡ Some d)

-- contents: at every moment the old ones or the new ones, and at last the new ones
abbrev pub Stores : {T E : Type 0} → CounterState → CounterState → View → View → Result T E → Type 0
Stores c d old new result = Brings (IsEither c d) (λ image. recovered image ≡ Some d) old new result

-- nothing was written: at every moment and at the end a stop leaves only what it could have left
-- before
pub record Spares (old new : View) : Type 0 where
  pub any_moment : LeavesOnly old new old.may_leave
  pub each : (image : Image) → new.may_leave image → old.may_leave image

-- a page that holds nothing: zeros, or damaged
abbrev pub IsBlank : PageRead → Type 0
IsBlank (Content bytes) = bytes ≡ replicate 512 0
IsBlank Damaged = Unit {0}
