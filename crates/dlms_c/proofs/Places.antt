-- Where the information of a frame stands, and that a stretch without a next frame has none.
use Rattle.std.proofs.Common.{◌≡◌, ℕ, ◌+◌, ◌-◌, ◌<◌, ◌≤◌, List, [], ◌∷◌, ◌++◌, length, take, drop, refl, sym, ap, subst, ◌∙◌, arith, append_assoc, length-append, Option, Some, None}
use Rattle.std.proofs.lemmas.List.{take_at, drop_at, drop-drop, append-nil, take-append-drop, take_all, length-take-le}
use Rattle.dlms_frame.specs.Frame.{Parts, FrameSpelling, address_bytes, body_with, checked, header_bytes, header_of, frame_len, spelling}
use Rattle.dlms_frame.specs.Stream.{FrameAt, Fits, FramesOf, IsNext, Takes}
use Rattle.dlms_frame.proofs.FrameLemmas.{length-checked, length-header_bytes}
use Rattle.dlms_frame.proofs.StreamLemmas.{frame_room, length-spelling}
use Rattle.dlms_frame.proofs.LawLemmas.{next_stays}

info_in : (s front info after : List ℕ) (i at : ℕ) → drop i s ≡ 126 ∷ (body_with front info ++ 126 ∷ []) ++ after → at ≡ i + 3 + length front
    → take (length info) (drop at s) ≡ info
unfolding checked
info_in s front [] after i at text place = refl
info_in s front (x ∷ xs) after i at text place =
    let len = length-checked front in
    let n : at ≡ i + (1 + length (checked front)) = omega (arith, len, place) in
    let rest : List ℕ = _ in
    let parts : 126 ∷ (body_with front (x ∷ xs) ++ 126 ∷ []) ++ after ≡ (126 ∷ checked front) ++ (x ∷ xs ++ rest) =
    ap (λ t. 126 ∷ t) (append_assoc (body_with front (x ∷ xs)) (126 ∷ []) after ∙ append_assoc (checked front ++ x ∷ xs) _ _ ∙ append_assoc (checked front) (x ∷ xs) _) in
    ap (λ k. take (length (x ∷ xs)) (drop k s)) n
    ∙ ap (λ t. take (length (x ∷ xs)) t) (sym (drop-drop (1 + length (checked front)) i s) ∙ ap (λ t. drop (1 + length (checked front)) t) (text ∙ parts) ∙ drop_at (126 ∷ checked front) (x ∷ xs ++ rest) (1 + length (checked front)) (omega arith))
    ∙ take_at (x ∷ xs) rest (length (x ∷ xs)) refl

-- the information of a frame at i
pub info_at : (s : List ℕ) (i j at : ℕ) (f : Parts) → FrameAt s i j f → at ≡ i + 6 + length (address_bytes f.dest) + length (address_bytes f.src)
    → take (length f.info) (drop at s) ≡ f.info
info_at s i j at f stands place = info_in s (header_bytes (header_of f)) f.info stands.after i at stands.text (omega (arith, place, length-header_bytes (header_of f)))

-- what a call that took n of the octets says of the frame that it found
pub record Found (s : List ℕ) (n : ℕ) (f : Parts) : Type 0 where
  pub room : frame_len f + 2 ≤ n
  pub next : IsNext s 0 (n - (frame_len f + 2)) (n - 1) f

pub found_in : (old new s : List ℕ) (n : ℕ) (f : Parts) → n ≤ length s → Fits old [] 0 → Takes old (take n s) (Some f) new → Found s n f
found_in old new s n f small begins takes =
    let t = takes [] 0 begins in
    let i = t.0 in let j = t.1 in
    let last : j + 1 ≡ length (take n s) = t.2 in
    let next : IsNext (take n s) 0 i j f = t.3 in
    let all : IsNext s 0 i j f = subst (λ l. IsNext l 0 i j f) (take-append-drop n s) (next_stays (take n s) (drop n s) 0 i j f last next) in
    let len : length (take n s) ≡ n = length-take-le n s small in
    let spelled : length (spelling f) ≡ frame_len f + 2 = length-spelling f in
    let ends : i + length (spelling f) ≡ j + 1 = all.stands.ends in
    let first : i ≡ n - (frame_len f + 2) = omega arith in
    let end : j ≡ n - 1 = omega arith in
    record {
      room = omega arith;
      next = subst (λ k. IsNext s 0 k (n - 1) f) first (subst (λ k. IsNext s 0 i k f) end all);
    }

-- if nothing was found there is nothing
pub no_frame : (old new s : List ℕ) → Fits old [] 0 → Takes old s None new → FramesOf s 0 []
no_frame old new s begins takes i j f behind stands =
    let fits = takes [] 0 begins in
    let late = fits.awaited [] i j f behind (subst (λ t. FrameAt t i j f) (sym (append-nil s)) stands) in
    let within : j < length s = frame_room s i j f stands in
    absurd (omega (arith, late.1, within))
