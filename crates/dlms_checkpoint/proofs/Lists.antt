-- Places in concatenated lists.
use Rattle.std.proofs.Common.{◌≡◌, ℕ, zero, suc, ◌+◌, ◌*◌, ◌<◌, ◌^◌, List, [], ◌∷◌, ◌++◌, length, drop, slice_index, refl, sym, ap, ◌∙◌, arith}
use Rattle.byteorder.specs.Endian.{big_from, big_bytes}
use Rattle.byteorder.specs.Numbers.{big_from-cons, big_number-reads_back}

-- the element after the front, by its place there
pub at_behind : (front rest : List ℕ) (i k : ℕ) → k ≡ length front + i → slice_index (front ++ rest) k ≡ slice_index rest i
at_behind [] rest i k e = ap (slice_index rest) (omega (arith, e))
at_behind (x ∷ front) rest i zero e = absurd (omega (arith, e))
at_behind (x ∷ front) rest i (suc k) e = at_behind front rest i k (omega (arith, e))

pub from_behind : (front rest : List ℕ) (i n k : ℕ) → k ≡ length front + i → big_from k n (front ++ rest) ≡ big_from i n rest
from_behind [] rest i n k e = ap (λ (j : ℕ). big_from j n rest) (omega (arith, e))
from_behind (x ∷ front) rest i n zero e = absurd (omega (arith, e))
from_behind (x ∷ front) rest i n (suc k) e = big_from-cons k n x (front ++ rest) ∙ from_behind front rest i n k (omega (arith, e))

pub drop_behind : (front rest : List ℕ) (i k : ℕ) → k ≡ length front + i → drop k (front ++ rest) ≡ drop i rest
drop_behind [] rest i k e = ap (λ (j : ℕ). drop j rest) (omega (arith, e))
drop_behind (x ∷ front) rest i zero e = absurd (omega (arith, e))
drop_behind (x ∷ front) rest i (suc k) e = drop_behind front rest i k (omega (arith, e))

pub number_here : (n x : ℕ) (rest : List ℕ) → x < 256 ^ n → big_from 0 n (big_bytes n x ++ rest) ≡ x
number_here n x rest fits = big_number-reads_back n x rest fits

-- the same by the rest
pub from_drop : (i n : ℕ) (bytes : List ℕ) → big_from 0 n (drop i bytes) ≡ big_from i n bytes
from_drop zero n bytes = refl
from_drop (suc i) zero [] = refl
from_drop (suc i) (suc n) [] = from_nothing 0 (suc i) (suc n)
  where
    from_nothing : (j k m : ℕ) → big_from j m [] ≡ big_from k m []
    from_nothing j k zero = refl
    from_nothing j k (suc m) = ap (λ (r : ℕ). 0 * 256 ^ m + r) (from_nothing (suc j) (suc k) m)
from_drop (suc i) n (x ∷ bytes) = from_drop i n bytes ∙ sym (big_from-cons i n x bytes)
