-- What stops during a run of device calls may leave.
use Rattle.std.specs.Prelude.{◌≡◌, ◌≤◌, ◌⊎◌, ℕ, true}
use Rattle.dlms_pages.specs.Device.{View, Image}

-- A stop at any moment since old leaves an image that has P.
pub record LeavesOnly (old new : View) (P : Image → Type 0) : Type 0 where
  pub later : old.moment ≤ new.moment
  pub each : (c : Image) → new.left_since old.moment c → P c
  -- for a run that began earlier
  pub before : (t : ℕ) (c : Image) → t ≤ old.moment → new.left_since t c → old.left_since t c ⊎ P c

-- A stop leaves this image and no other.
pub record IsFixed (v : View) (image : Image) : Type 0 where
  pub honest : v.honest ≡ true
  pub only : (c : Image) → v.may_leave c → c ≡ image

-- calls that only read, if there is one image: it is the same at every moment
pub record Looks (old new : View) (image : Image) : Type 0 where
  pub fixed : IsFixed new image
  pub any_moment : LeavesOnly old new (λ c. c ≡ image)
