-- The longest frame at the end of a buffer, found along the index.
use Rattle.std.proofs.Common.{◌≡◌, ℕ, zero, suc, ◌+◌, ◌-◌, ◌*◌, ◌/◌, ◌%◌, ◌<◌, ◌≤◌, ◌⊎◌, Bool, true, false, eqb, List, [], ◌∷◌, length, get_or, take, drop, refl, sym, ap, subst, ◌∙◌, inl, inr, arith, Option, Some, None, ◌&&◌}
use Rattle.std.specs.Prelude.{IfSome, IfNone}
use Rattle.std.proofs.lemmas.Bool.{cases_lt, cases_eq, eq-eqb, and_from, cond-true}
use Rattle.std.proofs.lemmas.List.{get_or-drop, get_or-take, drop-drop, drop-take, length-drop, length-take-le, append-nil}
use Rattle.dlms_frame.specs.Frame.{Parts, FrameSpelling, frame_len, tail_len, segment_bit, spelling}
use Rattle.dlms_frame.specs.Stream.{IsLongest}
use Rattle.dlms_frame.specs.Index.{end_of, latest, IsIndex}
use Rattle.dlms_frame.proofs.StreamLemmas.{spelling_front, length-spelling, last_is_flag}
use Rattle.dlms_frame.proofs.IndexLemmas.{latest_above, latest_end, latest_same, latest_other}

-- among the places from n on, this is the longest frame
abbrev pub Best : List ℕ → ℕ → ℕ → ℕ → Option Parts → Type 0
Best bytes from to n None = (k : ℕ) (f : Parts) → from ≤ k → n ≤ k → FrameSpelling (drop k (take to bytes)) f → ⊥
Best bytes from to n (Some f) = (k : ℕ) × (from ≤ k) × (n ≤ k) × FrameSpelling (drop k (take to bytes)) f
    × ((k' : ℕ) (g : Parts) → from ≤ k' → n ≤ k' → FrameSpelling (drop k' (take to bytes)) g → k ≤ k')

-- how far the walk along the index has come
pub record Walk (bytes : List ℕ) (from to place : ℕ) (best : Option Parts) : Type 0 where
  pub n : ℕ
  pub at : place ≡ latest bytes n (to - 1)
  pub below : n ≤ to - 2
  pub so_far : Best bytes from to n best

some_tail : (info : List ℕ) → 2 ≤ tail_len info
some_tail [] = omega arith
some_tail (x ∷ xs) = omega arith

spelled_len : (bytes : List ℕ) (k to : ℕ) (f : Parts) → to ≤ length bytes → FrameSpelling (drop k (take to bytes)) f → (k + (frame_len f + 2) ≡ to) × (5 ≤ frame_len f)
spelled_len bytes k to f within h =
    let len : to - k ≡ frame_len f + 2 =
    ap (λ n. n - k) (sym (length-take-le to bytes within)) ∙ sym (length-drop k (take to bytes)) ∙ ap length h.text ∙ length-spelling f in
    (omega arith, omega (arith, some_tail f.info))

three : (bytes : List ℕ) (k to a b c : ℕ) (rest : List ℕ) → k + 2 < to → drop k (take to bytes) ≡ a ∷ b ∷ c ∷ rest
    → (get_or bytes k 0 ≡ a) × (get_or bytes (k + 1) 0 ≡ b) × (get_or bytes (k + 2) 0 ≡ c)
three bytes k to a b c rest within is =
    let e : k + 0 ≡ k = omega arith in (
      ap (λ n. get_or bytes n 0) (sym e) ∙ sym (get_or-take to bytes (k + 0) 0 (omega arith)) ∙ sym (get_or-drop k (take to bytes) 0 0) ∙ ap (λ t. get_or t 0 0) is,
      sym (get_or-take to bytes (k + 1) 0 (omega arith)) ∙ sym (get_or-drop k (take to bytes) 1 0) ∙ ap (λ t. get_or t 1 0) is,
      sym (get_or-take to bytes (k + 2) 0 (omega arith)) ∙ sym (get_or-drop k (take to bytes) 2 0) ∙ ap (λ t. get_or t 2 0) is,
    )

bit_low : (b : Bool) → (segment_bit b ≡ 0) ⊎ (segment_bit b ≡ 8)
bit_low false = inl refl
bit_low true = inr refl

-- a frame at the end of the bytes ends there by its own length
pub frame_end : (bytes : List ℕ) (k to : ℕ) (f : Parts) → to ≤ length bytes → FrameSpelling (drop k (take to bytes)) f → end_of bytes k ≡ to - 1
unfolding end_of
frame_end bytes k to f within h =
    let front = spelling_front f [] in
    let len = spelled_len bytes k to f within h in
    let size : k + (frame_len f + 2) ≡ to = len.0 in
    let some : 5 ≤ frame_len f = len.1 in
    let short : frame_len f ≤ 2047 = h.fits.len in
    let bytes_are = three bytes k to _ _ _ front.0 (omega arith) (h.text ∙ sym (append-nil (spelling f)) ∙ front.1) in
    let high : get_or bytes (k + 1) 0 ≡ 160 + segment_bit f.segmented + frame_len f / 256 = bytes_are.1 in
    let low : get_or bytes (k + 2) 0 ≡ frame_len f % 256 = bytes_are.2 in
    let ten : get_or bytes (k + 1) 0 / 16 ≡ 10 = elim (bit_low f.segmented) [ inl e ↦ omega arith | inr e ↦ omega arith ] in
    let sum : k + 1 + (get_or bytes (k + 1) 0 % 8 * 256 + get_or bytes (k + 2) 0) ≡ to - 1 =
    elim (bit_low f.segmented) [ inl e ↦ omega arith | inr e ↦ omega arith ] in
    cond-true ((eqb (get_or bytes k 0) 126) && (eqb (get_or bytes (k + 1) 0 / 16) 10)) _ 0
    (and_from (eqb (get_or bytes k 0) 126) (eqb (get_or bytes (k + 1) 0 / 16) 10) (eq-eqb (get_or bytes k 0) 126 bytes_are.0) (eq-eqb (get_or bytes (k + 1) 0 / 16) 10 ten))
    ∙ sum

-- at the start of the walk
pub Walk-start : (bytes : List ℕ) (from to place : ℕ) → to ≤ length bytes → 2 ≤ to → place ≡ latest bytes (to - 2) (to - 1) → Walk bytes from to place None
Walk-start bytes from to place within some is = record {
  n = to - 2;
  at = is;
  below = ≤_same (to - 2);
  so_far = λ k f after late h.
      let len = spelled_len bytes k to f within h in
      let size : k + (frame_len f + 2) ≡ to = len.0 in
      let room : 5 ≤ frame_len f = len.1 in
      omega arith;
}
  where
    ≤_same : (a : ℕ) → a ≤ a
    ≤_same a = omega arith

regroup : (bytes : List ℕ) (k to : ℕ) → k ≤ to → take (to - k) (drop k bytes) ≡ drop k (take to bytes)
regroup bytes k to le =
    let e : k + (to - k) ≡ to = omega arith in
    sym (drop-take k (to - k) bytes) ∙ ap (λ n. drop k (take n bytes)) e

-- a place that holds a frame
pub Walk-found : (bytes : List ℕ) (from to place next start : ℕ) (best : Option Parts) (f : Parts) → from ≤ start → place ≡ suc start → 2 ≤ to → Walk bytes from to place best
    → next ≡ latest bytes start (end_of bytes start) → FrameSpelling (take (to - start) (drop start bytes)) f → Walk bytes from to next (Some f)
Walk-found bytes from to place next start best f after is some w is_next h =
    let here = latest_end bytes w.n (to - 1) start (sym w.at ∙ is) in
    let lt : start < w.n = here.1 in
    let le : w.n ≤ to - 2 = w.below in
    record {
      n = start;
      at = is_next ∙ ap (latest bytes start) here.0;
      below = omega arith;
      so_far = (start, after, ≤_self start, subst (λ t. FrameSpelling t f) (regroup bytes start to (omega arith)) h, λ k g _ late _. late);
    }
  where
    ≤_self : (a : ℕ) → a ≤ a
    ≤_self a = omega arith

-- no frame stands between two places of the index
none_between : (bytes : List ℕ) (to n place k : ℕ) (f : Parts) → to ≤ length bytes → place ≡ latest bytes n (to - 1) → place ≤ k → k < n → FrameSpelling (drop k (take to bytes)) f → ⊥
none_between bytes to n place k f within is le lt h =
    omega (arith, latest_above bytes n (to - 1) k lt (frame_end bytes k to f within h))

-- a best from n on is one from an earlier place, if none is between
Best-earlier : (bytes : List ℕ) (from to m n : ℕ) (best : Option Parts) → m ≤ n → ((k : ℕ) (f : Parts) → from ≤ k → m ≤ k → k < n → FrameSpelling (drop k (take to bytes)) f → ⊥)
    → Best bytes from to n best → Best bytes from to m best
Best-earlier bytes from to m n None le none b = λ k f after late h. elim (cases_lt k n) [ inl lt ↦ none k f after late lt h | inr ge ↦ b k f after ge h ]
Best-earlier bytes from to m n (Some f) le none (k, after, late, spelled, first) =
    (k, after, omega arith, spelled, λ k' g after' late' h. elim (cases_lt k' n) [ inl lt ↦ absurd (none k' g after' late' lt h) | inr ge ↦ first k' g after' ge h ])

-- a place that holds none
pub Walk-passed : (bytes : List ℕ) (from to place next start : ℕ) (best : Option Parts) → from ≤ start → place ≡ suc start → 2 ≤ to → to ≤ length bytes → Walk bytes from to place best
    → next ≡ latest bytes start (end_of bytes start) → ((f : Parts) → FrameSpelling (take (to - start) (drop start bytes)) f → ⊥) → Walk bytes from to next best
Walk-passed bytes from to place next start best after is some within w is_next none =
    let here = latest_end bytes w.n (to - 1) start (sym w.at ∙ is) in
    let lt : start < w.n = here.1 in
    let le : w.n ≤ to - 2 = w.below in
    record {
      n = start;
      at = is_next ∙ ap (latest bytes start) here.0;
      below = omega arith;
      so_far = Best-earlier bytes from to start w.n best (omega arith)
          (λ k f _ late below h. elim (cases_eq k start) [
            | inl same ↦ none f (subst (λ t. FrameSpelling t f) (ap (λ m. drop m (take to bytes)) same ∙ sym (regroup bytes start to (omega arith))) h)
            | inr other ↦ none_between bytes to w.n place k f within w.at (omega arith) below h
          ])
          w.so_far;
    }

-- what the walk says at its end
all_of : (bytes : List ℕ) (from to place : ℕ) (best : Option Parts) → to ≤ length bytes → place ≤ from → Walk bytes from to place best → Best bytes from to 0 best
all_of bytes from to place best within over w =
    Best-earlier bytes from to 0 w.n best (omega arith) (λ k f after late below h. none_between bytes to w.n place k f within w.at (omega arith) below h) w.so_far

pub Walk-none : (bytes : List ℕ) (from to place : ℕ) (best : Option Parts) → to ≤ length bytes → place ≤ from → Walk bytes from to place best
    → IfNone best ((k : ℕ) (f : Parts) → FrameSpelling (drop k (drop from (take to bytes))) f → ⊥)
Walk-none bytes from to place (Some f) within over w = tt
Walk-none bytes from to place None within over w = λ k f h.
    all_of bytes from to place None within over w (from + k) f (omega arith) (omega arith) (subst (λ t. FrameSpelling t f) (drop-drop k from (take to bytes)) h)

pub Walk-some : (bytes : List ℕ) (from to place : ℕ) (best : Option Parts) → to ≤ length bytes → place ≤ from → Walk bytes from to place best
    → IfSome best (λ f. (k : ℕ) × IsLongest (drop from (take to bytes)) k f)
Walk-some bytes from to place None within over w = tt
Walk-some bytes from to place (Some f) within over w =
    longest_of f (all_of bytes from to place (Some f) within over w)
  where
    longest_of : (g : Parts) → Best bytes from to 0 (Some g) → (k : ℕ) × IsLongest (drop from (take to bytes)) k g
    longest_of g (k, after, late, spelled, first) =
        let e : from + (k - from) ≡ k = omega arith in (
          k - from,
          record {
            spelled = subst (λ t. FrameSpelling t g) (ap (λ m. drop m (take to bytes)) (sym e) ∙ sym (drop-drop (k - from) from (take to bytes))) spelled;
            first = λ k' h' spelled'.
                let le : k ≤ from + k' = first (from + k') h' (omega arith) (omega arith) (subst (λ t. FrameSpelling t h') (drop-drop k' from (take to bytes)) spelled') in
                omega arith;
          },
        )

pub flag_last : (bytes : List ℕ) (from to k : ℕ) (f : Parts) → to ≤ length bytes → FrameSpelling (drop k (drop from (take to bytes))) f → (2 ≤ to) × (get_or bytes (to - 1) 0 ≡ 126)
flag_last bytes from to k f within h =
    let h' : FrameSpelling (drop (from + k) (take to bytes)) f = subst (λ t. FrameSpelling t f) (drop-drop k from (take to bytes)) h in
    let len = spelled_len bytes (from + k) to f within h' in
    let size : from + k + (frame_len f + 2) ≡ to = len.0 in
    let last = last_is_flag (take to bytes) (from + k) f h' in
    let short : length (take to bytes) ≡ to = length-take-le to bytes within in
    (omega arith, sym (get_or-take to bytes (to - 1) 0 (omega arith)) ∙ ap (λ n. get_or (take to bytes) (n - 1) 0) (sym short) ∙ last.1)

latest_le : (bytes : List ℕ) (n e : ℕ) → latest bytes n e ≤ n
latest_le bytes zero e = omega arith
latest_le bytes (suc n) e =
    elim (cases_eq (end_of bytes n) e) [
      | inl same ↦ let top : latest bytes (suc n) e ≡ suc n = latest_same bytes n e same in omega arith
      | inr other ↦ let below : latest bytes (suc n) e ≡ latest bytes n e = latest_other bytes n e other in omega (arith, latest_le bytes n e)
    ]

-- the place that a walk comes to is one before its bound
pub Walk-bound : (bytes : List ℕ) (from to place : ℕ) (best : Option Parts) → Walk bytes from to place best → place ≤ to - 2
Walk-bound bytes from to place best w =
    let at : place ≡ latest bytes w.n (to - 1) = w.at in
    let le : w.n ≤ to - 2 = w.below in
    omega (arith, latest_le bytes w.n (to - 1))

-- what the index holds at a place of the walk
pub next_is : (bytes heads links : List ℕ) (from to place start next : ℕ) (best : Option Parts) → IsIndex bytes heads links (to - 2) → 2 ≤ to → to ≤ 3072 → place ≡ suc start
    → Walk bytes from to place best → next ≡ get_or links start 0 → (next ≡ latest bytes start (end_of bytes start)) × (next ≤ start)
next_is bytes heads links from to place start next best h some within is w is_next =
    let here = latest_end bytes w.n (to - 1) start (sym w.at ∙ is) in
    let end : end_of bytes start ≡ to - 1 = here.0 in
    let lt : start < w.n = here.1 in
    let le : w.n ≤ to - 2 = w.below in
    let value : next ≡ latest bytes start (end_of bytes start) = is_next ∙ h.before start (omega arith) (omega arith) (omega arith) in
    (value, omega (arith, latest_le bytes start (end_of bytes start)))
