-- The frames of a stream. A stretch is what comes between two silences. The standard (IEC 62056-46, 6.4.1) finds a frame's end
-- by its length; which frame is the next where several might be is this project's own choice.
use Rattle.std.specs.Prelude.{◌≡◌, ℕ, ◌+◌, ◌≤◌, List, [], ◌∷◌, ◌++◌, length, drop, Option, Some, None}
use Rattle.std.specs.List.{flat_map, filter_map}
use Rattle.dlms_frame.specs.Frame.{Parts, IsFrame, FrameSpelling, spelling}

-- A frame is in the stretch, with its opening flag at i and its closing flag at j.
pub record FrameAt (stretch : List ℕ) (i j : ℕ) (f : Parts) : Type 0 where
  pub fits : IsFrame f
  pub after : List ℕ
  pub text : drop i stretch ≡ spelling f ++ after
  pub ends : i + length (spelling f) ≡ j + 1

-- From the place on, this frame is the next: its closing flag stands earliest, and of those that end there it
-- begins earliest.
pub record IsNext (stretch : List ℕ) (place i j : ℕ) (f : Parts) : Type 0 where
  pub stands : FrameAt stretch i j f
  pub behind : place ≤ i
  pub earliest : (i' j' : ℕ) (g : Parts) → place ≤ i' → FrameAt stretch i' j' g → j ≤ j'
  pub longest : (i' : ℕ) (g : Parts) → place ≤ i' → FrameAt stretch i' j g → i ≤ i'

-- the frames of the stretch from the place on, each searched for from the closing flag of the one before
abbrev pub FramesOf : List ℕ → ℕ → List Parts → Type 0
FramesOf stretch place [] = (i j : ℕ) (f : Parts) → place ≤ i → FrameAt stretch i j f → ⊥
FramesOf stretch place (f ∷ fs) = (i : ℕ) × (j : ℕ) × IsNext stretch place i j f
    × FramesOf stretch j fs

-- The kept bytes fit a stretch that has arrived, and a place in it: whatever bytes follow, each frame from the place on begins in
-- the kept bytes or later, and has not ended.
pub record Fits (kept stretch : List ℕ) (place : ℕ) : Type 0 where
  pub gone : ℕ
  pub behind : place ≤ gone
  pub within : gone ≤ length stretch
  pub bytes : kept ≡ drop gone stretch
  pub awaited : (more : List ℕ) (i j : ℕ) (f : Parts) → place ≤ i → FrameAt (stretch ++ more) i j f
      → (gone ≤ i) × (length stretch ≤ j)

-- The state of a deframer: the bytes in which frames may begin, and the frame that its last call ended, if any.
pub record Kept : Type 0 where
  pub bytes : List ℕ
  pub frame : Option Parts

-- What a call did with the bytes that it took, for every stretch that fits.
abbrev pub Takes : List ℕ → List ℕ → Option Parts → List ℕ → Type 0
Takes old taken None new = (stretch : List ℕ) (place : ℕ) → Fits old stretch place
    → Fits new (stretch ++ taken) place
Takes old taken (Some f) new = (stretch : List ℕ) (place : ℕ) → Fits old stretch place
    → (i : ℕ) × (j : ℕ) × (j + 1 ≡ length (stretch ++ taken))
    × IsNext (stretch ++ taken) place i j f × Fits new (stretch ++ taken) j

-- Each frame that begins with these bytes, however it goes on, has ended within them.
abbrev pub IsOver : List ℕ → Type 0
IsOver bytes = (f : Parts) (more after : List ℕ) → IsFrame f → bytes ++ more ≡ spelling f ++ after
    → length (spelling f) ≤ length bytes

-- from k on the bytes are this frame, and from no earlier place any other
pub record IsLongest (bytes : List ℕ) (k : ℕ) (f : Parts) : Type 0 where
  pub spelled : FrameSpelling (drop k bytes) f
  pub first : (k' : ℕ) (g : Parts) → FrameSpelling (drop k' bytes) g → k ≤ k'

-- what fits still does
abbrev pub Keeps : List ℕ → List ℕ → Type 0
Keeps old new = (stretch : List ℕ) (place : ℕ) → Fits old stretch place → Fits new stretch place

-- A call of feed, as its caller sees it: the bytes that it took, and the frame that it gave, if any.
pub record Call : Type 0 where
  pub taken : List ℕ
  pub found : Option Parts

-- These calls, one after another, may lead from the bytes kept before to those kept after.
abbrev pub Feeds : List ℕ → List Call → List ℕ → Type 0
Feeds old [] new = new ≡ old
Feeds old (call ∷ calls) new = (mid : List ℕ) × Takes old call.taken call.found mid
    × Feeds mid calls new

-- the bytes of the calls, one after another
abbrev pub bytes_of : List Call → List ℕ
bytes_of calls = flat_map (λ call. call.taken) calls

-- the frames of the calls, in their order
abbrev pub frames_of : List Call → List Parts
frames_of calls = filter_map (λ call. call.found) calls
