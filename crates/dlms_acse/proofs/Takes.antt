-- Lengths and their content: everything that is read has that spelling, and everything spelled so is read.
use Rattle.std.proofs.Common.{◌≡◌, ℕ, ◌-◌, ◌+◌, ◌≤◌, Bool, true, false, cond, ltb, ◌||◌, List, [], ◌∷◌, ◌++◌, length, take, drop, Result, Ok, Err, refl, sym, ap, subst, ◌∙◌, append_assoc, arith, ◌⊎◌, inl, inr}
use Rattle.std.proofs.lemmas.Bool.{ltb-false, le-ltb, ltb-true, lt-ltb}
use Rattle.std.proofs.lemmas.List.{take_at, drop_at, take-append-drop, length-append, length-take}
use Rattle.byteorder.specs.Endian.{big_number}
use Rattle.dlms_acse.specs.declared.fault.AcseFault.{AcseFault}
use Rattle.dlms_acse.specs.declared.fault.AcseFault.TheVariants.{Short, Length}
use Rattle.dlms_acse.specs.Reading.{◌>>=◌, taken_at, length_at, number_at, octets_at}
use Rattle.dlms_acse.specs.Spelling.{IsLength, Counts}

-- the value of a step that did not fail
pub bind_ok : {A B : Type 0} (r : Result A AcseFault) (f : A → Result B AcseFault) (y : B) → (r >>= f) ≡ Ok y → (x : A) × (r ≡ Ok x) × (f x ≡ Ok y)
bind_ok (Ok x) f y e = (x, refl, e)
bind_ok (Err d) f y e = absurd cc

abbrev pub done : {A : Type 0} → A → Result A AcseFault
done x = Ok x

pub ok_is : {A : Type 0} (x y : A) → done x ≡ done y → x ≡ y
ok_is x y e = cc

pub guard_ok : {A : Type 0} (b : Bool) (d : AcseFault) (r : Result A AcseFault) (y : A) → cond b (Err d) r ≡ Ok y → (b ≡ false) × (r ≡ Ok y)
guard_ok true d r y e = absurd cc
guard_ok false d r y e = (refl, e)

-- which way a test went
pub chosen : {A : Type 0} (b : Bool) (x y z : A) → cond b x y ≡ z → ((b ≡ true) × (x ≡ z)) ⊎ ((b ≡ false) × (y ≡ z))
chosen true x y z e = inl (refl, e)
chosen false x y z e = inr (refl, e)

-- text of this kind is at the front, and rest follows it
abbrev pub Takes : List ℕ → List ℕ → (List ℕ → Type 0) → Type 0
Takes bytes rest kind = (text : List ℕ) × (bytes ≡ text ++ rest) × kind text

pub taken_takes : (n : ℕ) (bytes : List ℕ) (x : List ℕ × List ℕ) → taken_at n bytes ≡ Ok x → (bytes ≡ x.0 ++ x.1) × (length x.0 ≡ n)
unfolding taken_at
taken_takes n bytes x e =
    let g = guard_ok (ltb (length bytes) n) Short (Ok (take n bytes, drop n bytes)) x e in
    let enough : n ≤ length bytes = ltb-false _ _ g.0 in
    subst (λ (y : List ℕ × List ℕ). (bytes ≡ y.0 ++ y.1) × (length y.0 ≡ n)) (ok_is (take n bytes, drop n bytes) x g.1)
    (sym (take-append-drop n bytes), omega (arith, length-take n bytes))

pub taken_again : (n : ℕ) (text rest : List ℕ) → length text ≡ n → taken_at n (text ++ rest) ≡ Ok (text, rest)
unfolding taken_at
taken_again n text rest len =
    let enough : ltb (length (text ++ rest)) n ≡ false = le-ltb _ _ (omega (arith, length-append text rest)) in
    rw (enough, take_at text rest n len, drop_at text rest n len) refl

number_takes : (n : ℕ) (bytes : List ℕ) (x : ℕ × List ℕ) → number_at n bytes ≡ Ok x → Takes bytes x.1 (λ text. (length text ≡ n) × (x.0 ≡ big_number n text))
unfolding number_at
number_takes n bytes x e =
    let t = bind_ok (taken_at n bytes) (λ t. Ok (big_number n t.0, t.1)) x e in
    let parts = taken_takes n bytes t.0 t.1 in
    subst (λ (y : ℕ × List ℕ). Takes bytes y.1 (λ text. (length text ≡ n) × (y.0 ≡ big_number n text))) (ok_is (big_number n t.0.0, t.0.1) x t.2)
    (t.0.0, parts.0, (parts.1, refl))

number_again : (n : ℕ) (text rest : List ℕ) → length text ≡ n → number_at n (text ++ rest) ≡ Ok (big_number n text, rest)
unfolding number_at
number_again n text rest len = rw (taken_again n text rest len) refl

-- a first byte, with the bytes that it counts
long_length : (most b : ℕ) (text : List ℕ) (n : ℕ) → 129 ≤ b → b ≤ 128 + most → length text ≡ b - 128 → n ≡ big_number (b - 128) text → IsLength most (b ∷ text) n
long_length most b [] n low high len is = absurd (omega arith)
long_length most b (c ∷ more) n low high len is =
    (omega arith, omega arith, is ∙ ap (λ (k : ℕ). big_number k (c ∷ more)) (sym len))

length_takes : (most : ℕ) (bytes : List ℕ) (x : ℕ × List ℕ) → length_at most bytes ≡ Ok x → Takes bytes x.1 (λ text. IsLength most text x.0)
unfolding length_at
length_takes most [] x e = absurd cc
length_takes most (b ∷ rest) x e =
    elim (chosen (ltb b 128) (Ok (b, rest)) (cond (ltb b 129 || ltb (128 + most) b) (Err Length) (number_at (b - 128) rest)) (Ok x) e) [
      | inl one ↦ subst (λ (y : ℕ × List ℕ). Takes (b ∷ rest) y.1 (λ text. IsLength most text y.0)) (ok_is (b, rest) x one.1) (b ∷ [], refl, (ltb-true b 128 one.0, refl))
      | inr further ↦
          let g = guard_ok (ltb b 129 || ltb (128 + most) b) Length (number_at (b - 128) rest) x further.1 in
          let t = number_takes (b - 128) rest x g.1 in
          let range = neither (ltb b 129) (ltb (128 + most) b) g.0 in
          let low : 129 ≤ b = ltb-false b 129 range.0 in
          let high : b ≤ 128 + most = ltb-false (128 + most) b range.1 in
          (b ∷ t.0, ap (λ (w : List ℕ). b ∷ w) t.1, long_length most b t.0 x.0 low high t.2.0 t.2.1)
    ]
  where
    neither : (p q : Bool) → (p || q) ≡ false → (p ≡ false) × (q ≡ false)
    neither true q e = absurd cc
    neither false q e = (refl, e)

pub length_again : (most : ℕ) (text : List ℕ) (n : ℕ) (rest : List ℕ) → IsLength most text n → length_at most (text ++ rest) ≡ Ok (n, rest)
unfolding length_at
length_again most [] n rest h = absurd h
length_again most (b ∷ []) n rest h =
    let low : ltb b 128 ≡ true = lt-ltb b 128 h.0 in
    rw (low, h.1) refl
length_again most (b ∷ c ∷ more) n rest h =
    let big : ltb b 128 ≡ false = le-ltb b 128 (omega (arith, h.1)) in
    let low : ltb b 129 ≡ false = le-ltb b 129 (omega (arith, h.1)) in
    let high : ltb (128 + most) b ≡ false = le-ltb (128 + most) b (omega (arith, h.0, h.1)) in
    let len : length (c ∷ more) ≡ b - 128 = omega (arith, h.1) in
    let number : big_number (b - 128) (c ∷ more) ≡ n = ap (λ (k : ℕ). big_number k (c ∷ more)) (sym len) ∙ sym h.2 in
    let chosen : length_at most (b ∷ c ∷ (more ++ rest)) ≡ number_at (b - 128) ((c ∷ more) ++ rest) = rw (big, low, high) refl in
    chosen ∙ number_again (b - 128) (c ∷ more) rest len ∙ ap (λ (k : ℕ). Ok (k, rest)) number

-- ---- a length, and what it counts

pub octets_takes : (most : ℕ) (bytes : List ℕ) (x : List ℕ × List ℕ) → octets_at most bytes ≡ Ok x → Takes bytes x.1 (λ text. Counts most text x.0)
unfolding octets_at
octets_takes most bytes x e =
    let n = bind_ok (length_at most bytes) (λ n. taken_at n.0 n.1) x e in
    let parts = taken_takes n.0.0 n.0.1 x n.2 in
    let len = length_takes most bytes n.0 n.1 in
    let counts : IsLength most len.0 (length x.0) = subst (λ (k : ℕ). IsLength most len.0 k) (sym parts.1) len.2 in
    (len.0 ++ x.0, len.1 ∙ ap (λ (t : List ℕ). len.0 ++ t) parts.0 ∙ sym (append_assoc len.0 x.0 x.1), (len.0, refl, counts))

pub octets_again : (most : ℕ) (text b rest : List ℕ) → Counts most text b → octets_at most (text ++ rest) ≡ Ok (b, rest)
unfolding octets_at
octets_again most text b rest h =
    let regrouped : text ++ rest ≡ h.0 ++ (b ++ rest) = ap (λ (t : List ℕ). t ++ rest) h.1 ∙ append_assoc h.0 b rest in
    ap (octets_at most) regrouped ∙ rw (length_again most h.0 (length b) (b ++ rest) h.2, taken_again (length b) b rest refl) refl

pub octets_within : (most : ℕ) (bytes : List ℕ) (x : List ℕ × List ℕ) → octets_at most bytes ≡ Ok x → length x.1 ≤ length bytes
octets_within most bytes x e =
    let t = octets_takes most bytes x e in
    omega (arith, ap length t.1, length-append t.0 x.1)
