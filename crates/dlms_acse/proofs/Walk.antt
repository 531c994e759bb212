-- Walking over fields.
use Rattle.std.proofs.Common.{◌≡◌, ℕ, zero, suc, ◌≤◌, ◌<◌, ◌==◌, ◌||◌, Bool, true, false, List, [], ◌∷◌, length, Result, Ok, Err, Some, None, refl, sym, ap, ◌∙◌, arith, get_or, set, subst, get_or-set_same, get_or-set_other}
use Rattle.std.proofs.lemmas.Bool.Decides.{nat_tests}
use Rattle.std.proofs.Math.ListN.{length-set}
use Rattle.dlms_acse.specs.declared.fault.AcseFault.{AcseFault}
use Rattle.dlms_acse.specs.declared.fault.AcseFault.TheVariants.{Repeated}
use Rattle.dlms_acse.specs.Reading.{octets_at, contains, checked_at, find_at}
use Rattle.dlms_acse.proofs.Takes.{octets_within}

-- one field is read, and the walk continues after it
pub checked-next : (n tag : ℕ) (tags rest : List ℕ) (x : List ℕ × List ℕ) → suc (length rest) ≤ n → contains tag tags ≡ false → octets_at 2 rest ≡ Ok x →
    (m : ℕ) × (length x.1 ≤ m) × (checked_at n tags (tag ∷ rest) ≡ checked_at m (tag ∷ tags) x.1)
checked-next zero tag tags rest x l new e = absurd (omega arith)
checked-next (suc n) tag tags rest x l new e =
    let within = octets_within 2 rest x e in
    (n, omega arith, rw (new, e) refl)

pub checked-repeated : (n tag : ℕ) (tags rest : List ℕ) → suc (length rest) ≤ n → contains tag tags ≡ true → checked_at n tags (tag ∷ rest) ≡ Err Repeated
checked-repeated zero tag tags rest l old = absurd (omega arith)
checked-repeated (suc n) tag tags rest l old = rw old refl

pub checked-fault : (n tag : ℕ) (tags rest : List ℕ) (f : AcseFault) → suc (length rest) ≤ n → contains tag tags ≡ false → octets_at 2 rest ≡ Err f → checked_at n tags (tag ∷ rest) ≡ Err f
checked-fault zero tag tags rest f l new e = absurd (omega arith)
checked-fault (suc n) tag tags rest f l new e = rw (new, e) refl

pub checked-done : (n : ℕ) (tags : List ℕ) → checked_at n tags [] ≡ Ok tt
checked-done zero tags = refl
checked-done (suc n) tags = refl

pub find-here : (n tag : ℕ) (rest : List ℕ) (x : List ℕ × List ℕ) → suc (length rest) ≤ n → octets_at 2 rest ≡ Ok x → find_at n tag (tag ∷ rest) ≡ Some x.0
find-here zero tag rest x l e = absurd (omega arith)
find-here (suc n) tag rest x l e = let here : (tag == tag) ≡ true = grind (arith, nat_tests) in rw (here, e) refl

pub find-next : (n tag t : ℕ) (rest : List ℕ) (x : List ℕ × List ℕ) → suc (length rest) ≤ n → (t ≡ tag → ⊥) → octets_at 2 rest ≡ Ok x →
    (m : ℕ) × (length x.1 ≤ m) × (find_at n tag (t ∷ rest) ≡ find_at m tag x.1)
find-next zero tag t rest x l ne e = absurd (omega arith)
find-next (suc n) tag t rest x l ne e =
    let within = octets_within 2 rest x e in
    let there : (t == tag) ≡ false = grind (arith, nat_tests) in
    (n, omega arith, rw (there, e) refl)

pub find-fault : (n tag t : ℕ) (rest : List ℕ) (f : AcseFault) → suc (length rest) ≤ n → octets_at 2 rest ≡ Err f → find_at n tag (t ∷ rest) ≡ None
find-fault zero tag t rest f l e = absurd (omega arith)
find-fault (suc n) tag t rest f l e = rw e refl

pub find-done : (n tag : ℕ) → find_at n tag [] ≡ None
find-done zero tag = refl
find-done (suc n) tag = refl

-- the table of tags, with one more
pub table-next : (seen : List Bool) (tag k : ℕ) (tags : List ℕ) → tag < length seen → get_or seen k false ≡ contains k tags → get_or (set seen tag true) k false ≡ contains k (tag ∷ tags)
table-next seen tag k tags lt e = by_test (tag == k) refl
  where
    by_test : (b : Bool) → (tag == k) ≡ b → get_or (set seen tag true) k false ≡ (b || contains k tags)
    by_test true h = let same : tag ≡ k = grind (arith, nat_tests) in subst (λ (j : ℕ). get_or (set seen tag true) j false ≡ true) same (get_or-set_same seen tag true false lt)
    by_test false h = let other : k ≡ tag → ⊥ = grind (arith, nat_tests) in get_or-set_other seen tag k true false other ∙ e

-- the table knows these tags
abbrev pub Knows : List Bool → List ℕ → Type 0
Knows seen tags = (length seen ≡ 256) × ((k : ℕ) → k < 256 → get_or seen k false ≡ contains k tags)

-- the whole is checked like the rest
abbrev pub IsLeft : List Bool → List ℕ → Result (Unit {0}) AcseFault → Type 0
IsLeft seen rest total = (n : ℕ) × (tags : List ℕ) × (length rest ≤ n) × Knows seen tags × (total ≡ checked_at n tags rest)

pub left-next : (seen : List Bool) (i tag : ℕ) (rest behind : List ℕ) (x : List ℕ × List ℕ) (total : Result (Unit {0}) AcseFault) → IsLeft seen rest total → i ≡ tag → i < 256
    → get_or seen i false ≡ false → rest ≡ tag ∷ behind → octets_at 2 behind ≡ Ok x → IsLeft (set seen i true) x.1 total
left-next seen i tag rest behind x total was same lt new front e =
    let l : suc (length behind) ≤ was.0 = omega (arith, ap length front, was.2) in
    let unused : contains tag was.1 ≡ false = subst (λ (k : ℕ). contains k was.1 ≡ false) same (sym (was.3.1 i lt) ∙ new) in
    let next = checked-next was.0 tag was.1 behind x l unused e in
    let room : i < length seen = omega (arith, was.3.0) in (
      next.0,
      tag ∷ was.1,
      next.1,
      (length-set seen i true ∙ was.3.0, λ k h. subst (λ (j : ℕ). get_or (set seen i true) k false ≡ contains k (j ∷ was.1)) same (table-next seen i k was.1 room (was.3.1 k h))),
      was.4 ∙ ap (checked_at was.0 was.1) front ∙ next.2,
    )

pub left-repeated : (seen : List Bool) (i tag : ℕ) (rest behind : List ℕ) (total : Result (Unit {0}) AcseFault) → IsLeft seen rest total → i ≡ tag → i < 256
    → get_or seen i false ≡ true → rest ≡ tag ∷ behind → Err Repeated ≡ total
left-repeated seen i tag rest behind total was same lt old front =
    let l : suc (length behind) ≤ was.0 = omega (arith, ap length front, was.2) in
    let used : contains tag was.1 ≡ true = subst (λ (k : ℕ). contains k was.1 ≡ true) same (sym (was.3.1 i lt) ∙ old) in
    sym (was.4 ∙ ap (checked_at was.0 was.1) front ∙ checked-repeated was.0 tag was.1 behind l used)
