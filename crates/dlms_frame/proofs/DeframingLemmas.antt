-- A frame at the end of a window, and the bytes that are kept of it.
use Rattle.std.proofs.Common.{◌≡◌, ℕ, ◌+◌, ◌-◌, ◌≤◌, ◌/◌, ◌%◌, Bool, List, [], ◌∷◌, ◌++◌, length, take, drop, refl, sym, ap, subst, ◌∙◌, arith, Option, Some, None, option_map, append_assoc, length-append}
use Rattle.std.proofs.Math.Seq.{drop-append_seam, take-append_seam}
use Rattle.std.proofs.lemmas.List.{drop-drop, length-drop, append-nil}
use Rattle.dlms_frame.specs.Check.{check_of}
use Rattle.dlms_frame.specs.Frame.{Parts, FrameSpelling, IsFrame, body_with, checked, header_bytes, header_of}
use Rattle.dlms_frame.specs.Stream.{Kept, Fits, Takes}
use Rattle.dlms_frame.specs.Deframing.{parts_in, left_of, EndsIn}
use Rattle.dlms_frame.specs.declared.deframer.Found.{Found}
use Rattle.dlms_frame.specs.declared.frame.Address.{Address}
use Rattle.dlms_frame.proofs.FrameLemmas.{length-checked}

some_none : {A : Type 0} {x : A} → Some x ≡ None → ⊥
some_none e = cc

-- if no frame has ended, the window is kept
pub opened : (w : List ℕ) (found : Option Found) (v : Kept) → record { bytes = left_of w found; frame = option_map (parts_in w) found } ≡ v → v.frame ≡ None → EndsIn w found
    → (w ≡ v.bytes) × (length w ≤ 2048) × (found ≡ None)
opened w None v is none fits = (ap (λ (k : Kept). k.bytes) is, fits, refl)
opened w (Some f) v is none fits = absurd (some_none (ap (λ (k : Kept). k.frame) is ∙ none))

-- the bytes of a frame with information, which is followed by its check and a flag
with_info : (front info : List ℕ) → 1 ≤ length info → (before : List ℕ) × (after : List ℕ) × (length after ≡ 3) × (126 ∷ (body_with front info ++ 126 ∷ []) ≡ before ++ (info ++ after))
unfolding checked
with_info front [] some = absurd (omega arith)
with_info front (x ∷ xs) some =
    let whole = checked front ++ x ∷ xs in
    let sum = check_of whole % 256 ∷ check_of whole / 256 ∷ [] in (
      126 ∷ checked front,
      sum ++ 126 ∷ [],
      refl,
      ap (λ (t : List ℕ). 126 ∷ t) (append_assoc whole sum (126 ∷ []) ∙ append_assoc (checked front) (x ∷ xs) (sum ++ 126 ∷ [])),
    )

three_at_least : (front info : List ℕ) → 3 ≤ length (126 ∷ (body_with front info ++ 126 ∷ []))
three_at_least front [] = omega (arith, length-append (checked front) (126 ∷ []), length-checked front)
three_at_least front (x ∷ xs) = omega (arith, length-append (checked (checked front ++ x ∷ xs)) (126 ∷ []), length-checked (checked front ++ x ∷ xs))

place_with : (w : List ℕ) (k : ℕ) (before info after : List ℕ) → length after ≡ 3 → 1 ≤ length info → drop k w ≡ before ++ (info ++ after)
    → (length info + 3 ≤ length w) × (take (length info) (drop (length w - 3 - length info) w) ≡ info)
place_with w k before info after three some whole =
    let size : length w - k ≡ length before + (length info + length after) =
    sym (length-drop k w) ∙ ap length whole ∙ length-append before (info ++ after) ∙ ap (λ n. length before + n) (length-append info after) in
    let at : length w - 3 - length info ≡ k + length before = omega (arith, size, three) in (
      omega (arith, size, three),
      ap (λ n. take (length info) (drop n w)) at
          ∙ ap (λ t. take (length info) t) (sym (drop-drop (length before) k w))
          ∙ ap (λ t. take (length info) (drop (length before) t)) whole
          ∙ ap (λ t. take (length info) t) (drop-append_seam before (info ++ after))
          ∙ take-append_seam info after,
    )

place_of : (w : List ℕ) (k : ℕ) (front info : List ℕ) → drop k w ≡ 126 ∷ (body_with front info ++ 126 ∷ [])
    → (length info + 3 ≤ length w) × (take (length info) (drop (length w - 3 - length info) w) ≡ info)
place_of w k front [] is =
    (omega (arith, length-drop k w, ap length is, three_at_least front []), refl)
place_of w k front (x ∷ xs) is =
    let parts = with_info front (x ∷ xs) (omega arith) in
    place_with w k parts.0 (x ∷ xs) parts.1 parts.2 (omega arith) (is ∙ parts.3)

pub info_place : (w : List ℕ) (k : ℕ) (f : Parts) → FrameSpelling (drop k w) f
    → (length f.info + 3 ≤ length w) × (take (length f.info) (drop (length w - 3 - length f.info) w) ≡ f.info)
info_place w k f h = place_of w k (header_bytes (header_of f)) f.info h.text

-- the frame that was noted is the one at the end of the window
pub found_is : (w : List ℕ) (k : ℕ) (f : Parts) (s : Bool) (d r : Address) (n : ℕ) (info : List ℕ) (count : ℕ) → FrameSpelling (drop k w) f
    → record { segmented = s; dest = d; src = r; control = n; info = info } ≡ f → count ≡ length info
    → parts_in w (record { segmented = s; dest = d; src = r; control = n; count = count }) ≡ f
found_is w k f s d r n info count h is count_is =
    let with : List ℕ → Parts = λ i. record { segmented = s; dest = d; src = r; control = n; info = i } in
    let e : count ≡ length f.info = count_is ∙ ap (λ (g : Parts). length g.info) is in
    ap (λ m. with (take m (drop (length w - 3 - m) w))) e ∙ ap with (info_place w k f h).1 ∙ ap (λ (g : Parts). with g.info) (sym is) ∙ is

-- a frame that was noted ends the window
pub EndsIn-found : (w : List ℕ) (k : ℕ) (f : Parts) (found : Found) → FrameSpelling (drop k w) f → parts_in w found ≡ f → found.count ≡ length f.info → length w ≤ 3072 → EndsIn w (Some found)
EndsIn-found w k f found h is count_is short =
    let room : length f.info + 3 ≤ length w = (info_place w k f h).0 in
    (short, omega (arith, room, count_is), subst (λ (g : Parts). IsFrame g) (sym is) h.fits)

-- no byte changes nothing
pub Takes-nothing : (old new : List ℕ) → new ≡ old → Takes old [] None new
Takes-nothing old new is = λ s place fits.
    subst (λ (t : List ℕ). Fits new t place) (sym (append-nil s)) (subst (λ (t : List ℕ). Fits t s place) (sym is) fits)
