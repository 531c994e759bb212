-- One frame, one list of frames, whatever the cutting.
use Rattle.std.proofs.Common.{◌≡◌, ℕ, ◌+◌, ◌<◌, ◌≤◌, List, [], ◌∷◌, ◌++◌, length, refl, sym, ap, subst, ◌∙◌, inl, inr, arith, append_assoc, Option, Some, None}
use Rattle.std.proofs.lemmas.Bool.{cases_lt}
use Rattle.std.proofs.lemmas.List.{append_cancel_left, append_cancel_right, append-nil}
use Rattle.dlms_frame.specs.declared.frame.Header.{Header}
use Rattle.dlms_frame.specs.Frame.{Parts, IsFrame, FrameSpelling, header_bytes, header_of, checked, body_with, body, spelling}
use Rattle.dlms_frame.specs.Stream.{FrameAt, IsNext, FramesOf, Fits, Takes, Call, Feeds, bytes_of, frames_of}
use Rattle.dlms_frame.proofs.FrameLemmas.{one_header, body_parts, IsHeader-of, length-checked, length-body_with}
use Rattle.dlms_frame.proofs.StreamLemmas.{same_front, frame_room, frame_in_front, frame_in_whole}

-- ---- one frame

same_checked : (a b : List ℕ) → checked a ≡ checked b → a ≡ b
unfolding checked
same_checked a b e =
    let len : length a + 2 ≡ length b + 2 = sym (length-checked a) ∙ ap length e ∙ length-checked b in
    (same_front a b _ _ (omega arith) e).0

same_info : (front a b : List ℕ) → body_with front a ≡ body_with front b → a ≡ b
same_info front [] [] e = refl
same_info front [] (y ∷ ys) e = absurd (omega (arith, sym (length-body_with front []) ∙ ap length e ∙ length-body_with front (y ∷ ys)))
same_info front (x ∷ xs) [] e = absurd (omega (arith, sym (length-body_with front (x ∷ xs)) ∙ ap length e ∙ length-body_with front []))
same_info front (x ∷ xs) (y ∷ ys) e = append_cancel_left (checked front) (x ∷ xs) (y ∷ ys) (same_checked _ _ e)

abbrev parts_of : Header → List ℕ → Parts
parts_of h info = record { segmented = h.segmented; dest = h.dest; src = h.src; control = h.control; info = info }

tail_is : (x y : ℕ) (xs ys : List ℕ) → x ∷ xs ≡ y ∷ ys → xs ≡ ys
tail_is x y xs ys e = cc

same_spelling : (f g : Parts) → IsFrame f → IsFrame g → spelling f ≡ spelling g → f ≡ g
same_spelling f g fits_f fits_g e =
    let inner : body f ≡ body g = append_cancel_right (body f) (body g) (126 ∷ []) (tail_is _ _ _ _ e) in
    let front_f = body_parts f in
    let front_g = body_parts g in
    let header : header_of f ≡ header_of g =
    (one_header (header_of f) (header_of g) front_f.0 front_g.0 (IsHeader-of f fits_f) (IsHeader-of g fits_g) (sym front_f.1 ∙ inner ∙ front_g.1)).0 in
    let info : f.info ≡ g.info = same_info (header_bytes (header_of g)) f.info g.info (ap (λ h. body_with (header_bytes h) f.info) (sym header) ∙ inner) in
    ap (λ h. parts_of h f.info) header ∙ ap (λ t. parts_of (header_of g) t) info

pub one_frame : (bytes : List ℕ) (f g : Parts) → FrameSpelling bytes f → FrameSpelling bytes g → f ≡ g
one_frame bytes f g a b = same_spelling f g a.fits b.fits (sym a.text ∙ b.text)

-- ---- one list

same_place : (s : List ℕ) (i j : ℕ) (f g : Parts) → FrameAt s i j f → FrameAt s i j g → f ≡ g
same_place s i j f g a b =
    let ends_f : i + length (spelling f) ≡ j + 1 = a.ends in
    let ends_g : i + length (spelling g) ≡ j + 1 = b.ends in
    same_spelling f g a.fits b.fits (same_front (spelling f) (spelling g) a.after b.after (omega arith) (sym a.text ∙ b.text)).0

≤_both : (a b : ℕ) → a ≤ b → b ≤ a → a ≡ b
≤_both a b p q = omega arith

pub one_next : (s : List ℕ) (place i j i' j' : ℕ) (f g : Parts) → IsNext s place i j f → IsNext s place i' j' g → (j ≡ j') × (f ≡ g)
one_next s place i j i' j' f g a b =
    let same_j : j ≡ j' = ≤_both j j' (a.earliest i' j' g b.behind b.stands) (b.earliest i j f a.behind a.stands) in
    let other : FrameAt s i' j g = subst (λ n. FrameAt s i' n g) (sym same_j) b.stands in
    let mine : FrameAt s i j' f = subst (λ n. FrameAt s i n f) same_j a.stands in
    let same_i : i ≡ i' = ≤_both i i' (a.longest i' g b.behind other) (b.longest i f a.behind mine) in
    (same_j, same_place s i j f g a.stands (subst (λ n. FrameAt s n j g) (sym same_i) other))

pub one_list_of : (s : List ℕ) (place : ℕ) (fs gs : List Parts) → FramesOf s place fs → FramesOf s place gs → fs ≡ gs
one_list_of s place [] [] a b = refl
one_list_of s place [] (g ∷ gs) a (i, j, next, rest) = absurd (a i j g next.behind next.stands)
one_list_of s place (f ∷ fs) [] (i, j, next, rest) b = absurd (b i j f next.behind next.stands)
one_list_of s place (f ∷ fs) (g ∷ gs) (i, j, next, rest) (i', j', next', rest') =
    let same = one_next s place i j i' j' f g next next' in
    ap (λ h. h ∷ fs) same.1 ∙ ap (λ t. g ∷ t) (one_list_of s j fs gs rest (subst (λ n. FramesOf s n gs) (sym same.0) rest'))

-- ---- any pieces

-- what comes after the closing flag changes nothing
pub next_stays : (s more : List ℕ) (place i j : ℕ) (f : Parts) → j + 1 ≡ length s → IsNext s place i j f → IsNext (s ++ more) place i j f
next_stays s more place i j f last next = record {
  stands = frame_in_whole s more i j f next.stands;
  behind = next.behind;
  earliest = λ i' j' g after at. elim (cases_lt j' j) [
    | inl lt ↦ next.earliest i' j' g after (frame_in_front s more i' j' g at (omega arith))
    | inr le ↦ le
  ];
  longest = λ i' g after at. next.longest i' g after (frame_in_front s more i' j g at (omega arith));
}

-- one call, and the results of the others
one_more : (old mid s taken : List ℕ) (found : Option Parts) (place : ℕ) (calls : List Call) → Fits old s place → Takes old taken found mid
    → ((t : List ℕ) (q : ℕ) → Fits mid t q → FramesOf (t ++ bytes_of calls) q (frames_of calls))
    → FramesOf (s ++ (taken ++ bytes_of calls)) place (frames_of (record { taken = taken; found = found } ∷ calls))
one_more old mid s taken None place calls fits takes others =
    subst (λ t. FramesOf t place (frames_of calls)) (append_assoc s taken (bytes_of calls)) (others (s ++ taken) place (takes s place fits))
one_more old mid s taken (Some f) place calls fits takes others =
    let step = takes s place fits in (
      step.0,
      step.1,
      subst (λ t. IsNext t place step.0 step.1 f) (append_assoc s taken (bytes_of calls)) (next_stays (s ++ taken) (bytes_of calls) place step.0 step.1 f step.2 step.3),
      subst (λ t. FramesOf t step.1 (frames_of calls)) (append_assoc s taken (bytes_of calls)) (others (s ++ taken) step.1 step.4),
    )

runs : (calls : List Call) (old new s : List ℕ) (place : ℕ) → Fits old s place → Feeds old calls new → FramesOf (s ++ bytes_of calls) place (frames_of calls)
runs [] old new s place fits fed = λ i j f after at.
    let late : length s ≤ j = (fits.awaited [] i j f after at).1 in
    let room : j < length (s ++ []) = frame_room (s ++ []) i j f at in
    let same : length (s ++ []) ≡ length s = ap length (append-nil s) in
    omega arith
runs (call ∷ calls) old new s place fits (mid, takes, fed) =
    one_more old mid s call.taken call.found place calls fits takes (λ t q h. runs calls mid new t q h fed)

pub any_run : (old new : List ℕ) (calls : List Call) → Fits old [] 0 → Feeds old calls new → FramesOf (bytes_of calls) 0 (frames_of calls)
any_run old new calls fits fed = runs calls old new [] 0 fits fed
