-- The number that stands most often in a list that grows by a number that is no less than any before.
use Rattle.std.proofs.Common.{◌≡◌, ◌∙◌, ◌<◌, ◌≤◌, ◌+◌, ◌==◌, ℕ, refl, sym, ap, arith, inl, inr, cond, suc, List, [], ◌∷◌, ◌++◌, length, take, get_or, add-one}
use Rattle.std.specs.Prelude.{Option, Some, None, MatchOption}
use Rattle.std.proofs.lemmas.Bool.{cases_eq, cases_lt}
use Rattle.std.proofs.lemmas.List.Sums.{sum_by_push}
use Rattle.std.proofs.lemmas.List.Sorted.{length_permutation, sum_by-IsPermutation}
use Rattle.std.proofs.lemmas.List.{nil_from_length, take_more}
use Rattle.std.specs.List.Sorted.{IsNonDecreasing, IsPermutation}
use Rattle.dlms_plot.specs.Steps.{times, IsUsual}

pub times_push : (n : ℕ) (xs : List ℕ) (x : ℕ) → times n (xs ++ x ∷ []) ≡ times n xs + cond (x == n) 1 0
times_push n xs x = sum_by_push (λ s. cond (s == n) 1 0) xs x

pub times_same : (xs : List ℕ) (x : ℕ) → times x (xs ++ x ∷ []) ≡ times x xs + 1
times_same xs x = grind (arith, times_push x xs x)

pub times_other : (n : ℕ) (xs : List ℕ) (x : ℕ) → (n ≡ x → ⊥) → times n (xs ++ x ∷ []) ≡ times n xs
times_other n xs x other = grind (arith, times_push n xs x, other)

-- what is known of the numbers that were seen, of which the last one is the greatest
pub record IsSoFar (seen : List ℕ) (last count best most : ℕ) : Type 0 where
  pub lasts : count ≡ times last seen
  pub bests : most ≡ times best seen
  pub usual : IsUsual seen best
  pub above : (other : ℕ) → last < other → times other seen ≡ 0

pub first_seen : (x : ℕ) → IsSoFar (x ∷ []) x 1 x 1
first_seen x = record {
  lasts = grind (arith, times_same [] x);
  bests = grind (arith, times_same [] x);
  usual = record {
    among = grind (arith, times_same [] x);
    most = λ other. elim (cases_eq other x) [
      | inl is ↦ grind (arith, is)
      | inr not ↦ grind (arith, times_other other [] x not)
    ];
    least = λ other as_often. elim (cases_eq other x) [
      | inl is ↦ grind (arith, is)
      | inr not ↦ grind (arith, times_other other [] x not, times_same [] x, as_often)
    ];
  };
  above = λ other less. grind (arith, times_other other [] x (λ is. grind (arith, is, less)));
}

-- how often the next one was seen
pub next_same : (seen : List ℕ) (last count best most x : ℕ) → IsSoFar seen last count best most → x ≡ last → count + 1 ≡ times x (seen ++ x ∷ [])
next_same seen last count best most x h is = grind (arith, times_same seen x, h.lasts, ap (λ n. times n seen) is)

pub next_other : (seen : List ℕ) (last count best most x : ℕ) → IsSoFar seen last count best most → last ≤ x → (x ≡ last → ⊥) → 1 ≡ times x (seen ++ x ∷ [])
next_other seen last count best most x h up other =
    let above : last < x = grind (arith, up, other) in
    grind (arith, times_same seen x, h.above x above)

above_next : (seen : List ℕ) (last count best most x : ℕ) → IsSoFar seen last count best most → last ≤ x → (other : ℕ) → x < other → times other (seen ++ x ∷ []) ≡ 0
above_next seen last count best most x h up other less =
    times_other other seen x (λ is. grind (arith, is, less)) ∙ h.above other (omega arith)

-- the next one stands more often than the best
pub so_far_better : (seen : List ℕ) (last count best most x next : ℕ) → IsSoFar seen last count best most → last ≤ x → next ≡ times x (seen ++ x ∷ []) → most < next
    → IsSoFar (seen ++ x ∷ []) x next x next
so_far_better seen last count best most x next h up is more =
    let rest : (other : ℕ) → (other ≡ x → ⊥) → times other (seen ++ x ∷ []) < times x (seen ++ x ∷ []) =
    λ other not. grind (arith, times_other other seen x not, h.usual.most other, h.bests, is, more) in
    record {
      lasts = is;
      bests = is;
      usual = record {
        among = grind (arith, is, more);
        most = λ other. elim (cases_eq other x) [
          | inl same ↦ grind (arith, ap (λ n. times n (seen ++ x ∷ [])) same)
          | inr not ↦ grind (arith, rest other not)
        ];
        least = λ other as_often. elim (cases_eq other x) [
          | inl same ↦ grind (arith, same)
          | inr not ↦ let less = rest other not in absurd (grind (arith, less, as_often))
        ];
      };
      above = above_next seen last count best most x h up;
    }

-- it does not
pub so_far_same : (seen : List ℕ) (last count best most x next : ℕ) → IsSoFar seen last count best most → last ≤ x → next ≡ times x (seen ++ x ∷ []) → next ≤ most
    → IsSoFar (seen ++ x ∷ []) x next best most
so_far_same seen last count best most x next h up is no_more =
    let another : best ≡ x → ⊥ = λ same. grind (arith, times_same seen x, h.bests, ap (λ n. times n seen) same, is, no_more) in
    let stays : times best (seen ++ x ∷ []) ≡ times best seen = times_other best seen x another in
    let not_above : best ≤ x = elim (cases_lt x best) [
      | inl above ↦ let none : times best seen ≡ 0 = h.above best (omega arith) in absurd (grind (arith, none, h.usual.among))
      | inr le ↦ le
    ] in
    record {
      lasts = is;
      bests = h.bests ∙ sym stays;
      usual = record {
        among = grind (arith, stays, h.usual.among);
        most = λ other. elim (cases_eq other x) [
          | inl same ↦ grind (arith, ap (λ n. times n (seen ++ x ∷ [])) same, is, no_more, stays, h.bests)
          | inr not ↦ grind (arith, times_other other seen x not, stays, h.usual.most other)
        ];
        least = λ other as_often. elim (cases_eq other x) [
          | inl same ↦ grind (arith, same, not_above)
          | inr not ↦ h.usual.least other (sym (times_other other seen x not) ∙ (as_often ∙ stays))
        ];
      };
      above = above_next seen last count best most x h up;
    }

-- in another order
pub usual_in : (xs ys : List ℕ) (step : ℕ) → IsPermutation xs ys → IsUsual ys step → IsUsual xs step
usual_in xs ys step order h =
    let same : (n : ℕ) → times n ys ≡ times n xs = λ n. sum_by-IsPermutation (λ s. cond (s == n) 1 0) xs ys order in
    record {
      among = grind (arith, same step, h.among);
      most = λ other. grind (arith, same step, same other, h.most other);
      least = λ other as_often. h.least other (same other ∙ (as_often ∙ sym (same step)));
    }

pub found_in : (xs ys : List ℕ) (found : Option ℕ) → IsPermutation xs ys → MatchOption found (ys ≡ []) (IsUsual ys) → MatchOption found (xs ≡ []) (IsUsual xs)
found_in xs ys None order h = nil_from_length xs (sym (length_permutation xs ys order) ∙ ap length h)
found_in xs ys (Some step) order h = usual_in xs ys step order h

-- there is one usual step
pub same_usual : (steps : List ℕ) (a b : ℕ) → IsUsual steps a → IsUsual steps b → a ≡ b
same_usual steps a b first second =
    let as_often : times b steps ≡ times a steps = grind (arith, first.most b, second.most a) in
    let up : a ≤ b = first.least b as_often in
    let down : b ≤ a = second.least a (sym as_often) in
    omega arith

-- ---- a step of the loop

pub seen_next : (first : ℕ) (rest : List ℕ) (i : ℕ) → i < length rest → first ∷ take (i + 1) rest ≡ (first ∷ take i rest) ++ get_or rest i 0 ∷ []
seen_next first rest i lt = ap (λ (xs : List ℕ). first ∷ xs) (take_more rest i 0 lt)

pub last_up : (first : ℕ) (rest : List ℕ) (i last : ℕ) → i < length rest → IsNonDecreasing (first ∷ rest) → last ≡ get_or (first ∷ rest) i 0 → last ≤ get_or rest i 0
last_up first rest i last lt up is =
    let next : get_or (first ∷ rest) i 0 ≤ get_or rest i 0 = up i (suc i) 0 (omega arith) (omega arith) in
    omega (arith, next, is)

pub get_next : (first : ℕ) (rest : List ℕ) (i : ℕ) → get_or rest i 0 ≡ get_or (first ∷ rest) (i + 1) 0
get_next first rest i = rw add-one refl
