-- The first frame of a reply.
use Rattle.std.proofs.Common.{◌≡◌, ◌≤◌, ◌<◌, ◌⊎◌, ◌+◌, ℕ, arith, List, [], ◌++◌, length, take, drop, Option, Some, None, subst, inl, inr}
use Rattle.std.specs.Prelude.{IfNone}
use Rattle.std.proofs.lemmas.Bool.{cases_lt}
use Rattle.std.proofs.lemmas.List.{take_all, take-append-drop}
use Rattle.dlms_frame.specs.Frame.{Parts}
use Rattle.dlms_frame.specs.Stream.{FrameAt, IsNext, Fits, Takes}
use Rattle.dlms_frame.proofs.StreamLemmas.{frame_room, frame_in_front, frame_in_whole}
use Rattle.dlms_serving.specs.Refusals.{IsFirstFrame}

ends_first : (s more : List ℕ) (i j : ℕ) (f : Parts) → j + 1 ≡ length s → IsNext s 0 i j f → (i' j' : ℕ) (g : Parts) → 0 ≤ i' → FrameAt (s ++ more) i' j' g → (j' < length s) ⊎ (length s ≤ j') → j ≤ j'
ends_first s more i j f ends next i' j' g behind at (inl within) = next.earliest i' j' g behind (frame_in_front s more i' j' g at within)
ends_first s more i j f ends next i' j' g behind at (inr past) = omega (arith, ends, past)

-- the next frame of the bytes up to its end is that of all bytes
next_in_whole : (s more : List ℕ) (i j : ℕ) (f : Parts) → j + 1 ≡ length s → IsNext s 0 i j f → IsNext (s ++ more) 0 i j f
next_in_whole s more i j f ends next = record {
  stands = frame_in_whole s more i j f next.stands;
  behind = next.behind;
  earliest = λ i' j' g behind at. ends_first s more i j f ends next i' j' g behind at (cases_lt j' (length s));
  longest = λ i' g behind at. next.longest i' g behind (frame_in_front s more i' j g at (omega (arith, ends)));
}

frame_found : (kept new bytes : List ℕ) (count : ℕ) (frame : Parts) → Fits kept [] 0 → Takes kept (take count bytes) (Some frame) new → IsFirstFrame bytes (Some frame)
frame_found kept new bytes count frame fits takes =
    let (i, j, ends, next, rest) = takes [] 0 fits in
    (i, j, subst (λ (t : List ℕ). IsNext t 0 i j frame) (take-append-drop count bytes) (next_in_whole (take count bytes) (drop count bytes) i j frame ends next))

no_frame_found : (kept new bytes : List ℕ) (count : ℕ) → count ≡ length bytes → Fits kept [] 0 → Takes kept (take count bytes) None new → IsFirstFrame bytes None
no_frame_found kept new bytes count all fits takes = λ i j frame next.
    let whole : take count bytes ≡ bytes = take_all count bytes (omega (arith, all)) in
    let fits' : Fits new bytes 0 = subst (λ (t : List ℕ). Fits new t 0) whole (takes [] 0 fits) in
    let past = fits'.awaited [] i j frame next.behind (frame_in_whole bytes [] i j frame next.stands) in
    let room = frame_room bytes i j frame next.stands in
    absurd (omega (arith, past.1, room))

pub first_found : (kept new bytes : List ℕ) (count : ℕ) (found : Option Parts) → Fits kept [] 0 → IfNone found (count ≡ length bytes) → Takes kept (take count bytes) found new → IsFirstFrame bytes found
first_found kept new bytes count None fits all takes = no_frame_found kept new bytes count all fits takes
first_found kept new bytes count (Some frame) fits all takes = frame_found kept new bytes count frame fits takes
