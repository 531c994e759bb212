-- Stretches of a stream, joined and cut.
use Rattle.std.proofs.Common.{◌≡◌, ◌≤◌, ◌<◌, ◌+◌, ◌-◌, ◌++◌, [], ◌∷◌, ℕ, zero, suc, length, drop, map, inl, inr, refl, sym, ap, ◌∙◌, arith}
use Rattle.std.proofs.lemmas.Bool.{cases_lt}
use Rattle.std.proofs.lemmas.List.{append-nil, drop_all}
use Rattle.std.proofs.lemmas.List.FromFn.{length-map-range_with_len}
use Rattle.dlms_capture.specs.Streams.{behind, stretch}

joined : (f : ℕ → ℕ) (a b p q n : ℕ) → a + p ≡ b → p + q ≡ n → stretch f a p ++ stretch f b q ≡ stretch f a n
joined f a b zero q n there all =
    let begins : b ≡ a = omega arith in
    let long : q ≡ n = omega arith in
    rw (begins, long) refl
joined f a b (suc p) q n there all =
    let long : n ≡ suc (p + q) = omega arith in
    rw long (ap (λ xs. f a ∷ xs) (joined f (a + 1) b p q (p + q) (omega arith) refl))

cut : (f : ℕ → ℕ) (a b k m n : ℕ) → a + k ≡ b → k + m ≡ n → drop k (stretch f a n) ≡ stretch f b m
cut f a b zero m n there all =
    let begins : b ≡ a = omega arith in
    let long : m ≡ n = omega arith in
    rw (begins, long) refl
cut f a b (suc k) m n there all =
    let long : n ≡ suc (k + m) = omega arith in
    rw long (cut f (a + 1) b k m (k + m) (omega arith) refl)

pub nothing_lost_of : (f : ℕ → ℕ) (start given place n : ℕ) → start ≤ given → place ≤ given
    → stretch f start (given - start) ++ behind given place (stretch f place n) ≡ stretch f start (given + length (behind given place (stretch f place n)) - start)
nothing_lost_of f start given place n begun due =
    elim (cases_lt n (given - place)) [
      | inl short ↦
          let none : drop (given - place) (stretch f place n) ≡ [] = drop_all (given - place) (stretch f place n) (omega (arith, length-map-range_with_len f place n)) in
          let same : given + 0 - start ≡ given - start = omega arith in
          rw (none, same) (append-nil (stretch f start (given - start)))
      | inr long ↦
          let added : drop (given - place) (stretch f place n) ≡ stretch f given (n - (given - place)) = cut f place given (given - place) (n - (given - place)) n (omega arith) (omega arith) in
          let count = length-map-range_with_len f given (n - (given - place)) in
          rw added (joined f start given (given - start) (n - (given - place)) _ (omega arith) (omega arith))
    ]
