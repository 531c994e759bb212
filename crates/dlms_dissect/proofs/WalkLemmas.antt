-- Fields are read one after another, and octets spell them in one way.
use Rattle.std.proofs.Common.{◌≡◌, ℕ, zero, suc, ◌<◌, ◌≤◌, ◌+◌, ◌-◌, ◌&&◌, nat_le, nat_lt, if◌then◌else◌, Bool, true, false, List, [], ◌∷◌, ◌++◌, length, take, drop, replicate, Option, Some, None, refl, subst, ap, arith, append_assoc, length-append, length-drop}
use Rattle.std.proofs.lemmas.List.{length-replicate, replicate-append-replicate}
use Rattle.dlms_dissect.specs.Fields.{front_at}
use Rattle.dlms_dissect.specs.Nodes.{length_at}
use Rattle.dlms_dissect.specs.Walk.{Told, is_field, is_list, with_field, with_list, next_of, IsRead, Spells, SpellsNothing}
use Rattle.dlms_dissect.specs.declared.fields.Field.{Field}
use Rattle.dlms_dissect.specs.declared.fields.Field.TheVariants.{Value}
use Rattle.dlms_dissect.specs.declared.nodes.Front.{Front}
use Rattle.dlms_dissect.specs.declared.nodes.Length.{Length}
use Rattle.dlms_dissect.specs.declared.walk.Step.{Step}
use Rattle.dlms_dissect.specs.declared.walk.Step.TheVariants.{One, Many}

-- ---- one more

pub read-more : (steps : List Step) (octets : List ℕ) (ts : List Told) (behind next : List Step) (rest left : List ℕ) (t : Told)
    → IsRead steps octets ts behind rest → next_of behind rest ≡ Some (t, next, left) → IsRead steps octets (ts ++ (t ∷ [])) next left
read-more steps octets [] behind next rest left t read is =
    let a : steps ≡ behind = read.0 in
    let b : octets ≡ rest = read.1 in
    let e : next_of steps octets ≡ Some (t, next, left) = cc in
    (next, left, (e, (refl, refl)))
read-more steps octets (u ∷ us) behind next rest left t read is =
    (read.0, read.1, (read.2.0, read-more read.0 read.1 us behind next rest left t read.2.1 is))

some-same : (o : Option (Told × List Step × List ℕ)) (x y : Told × List Step × List ℕ) → o ≡ Some x → o ≡ Some y → x ≡ y
some-same o x y a b = cc

pub next-same : (o : Option (Told × List Step × List ℕ)) (x y : Told × List Step × List ℕ) → o ≡ Some x → o ≡ Some y → x ≡ y
next-same o x y a b = some-same o x y a b

-- ---- what spells the whole spells what is left

pub left-spells : (steps : List Step) (octets : List ℕ) (ts us : List Told) (behind : List Step) (rest : List ℕ)
    → IsRead steps octets ts behind rest → Spells steps octets us → (vs : List Told) × Spells behind rest vs
left-spells steps octets [] us behind rest read whole =
    let P : List Step → Type 0 = λ s. Spells s octets us in
    let Q : List ℕ → Type 0 = λ o. Spells behind o us in
    (us, subst Q read.1 (subst P read.0 whole))
left-spells steps octets (t ∷ ts) [] behind rest read whole =
    let a : steps ≡ [] = whole.0 in
    let P : List Step → Type 0 = λ s. next_of s octets ≡ Some (t, read.0, read.1) in
    let b : None ≡ Some (t, read.0, read.1) = subst P a read.2.0 in
    cc
left-spells steps octets (t ∷ ts) (u ∷ us) behind rest read whole =
    let a : next_of steps octets ≡ Some (t, read.0, read.1) = read.2.0 in
    let b : next_of steps octets ≡ Some (u, whole.0, whole.1) = whole.2.0 in
    let e : (u, whole.0, whole.1) ≡ (t, read.0, read.1) = some-same _ _ _ b a in
    let s : whole.0 ≡ read.0 = ap (λ (p : Told × List Step × List ℕ). p.1) e in
    let o : whole.1 ≡ read.1 = ap (λ (p : Told × List Step × List ℕ). p.2) e in
    let P : List Step → Type 0 = λ x. Spells x whole.1 us in
    let Q : List ℕ → Type 0 = λ x. Spells read.0 x us in
    left-spells read.0 read.1 ts us behind rest read.2.1 (subst Q o (subst P s whole.2.1))

-- ---- each field has an octet at least

-- after a field of some octets that are there, no more octets are left
some-checked : (own : ℕ) (octets : List ℕ) (checked : Bool) (x y : Told × List Step × List ℕ) → checked ≡ (nat_lt 0 own && nat_le own (length octets))
    → (if checked then Some x else None) ≡ Some y → (x ≡ y) × (length (drop own octets) < length octets)
some-checked own octets true x y is e = (cc, simp length-drop (grind arith))
some-checked own octets false x y is e = cc

field-long : (field : Field) (steps : List Step) (octets : List ℕ) (front : Option Front) (t : Told) (next : List Step) (left : List ℕ)
    → with_field field steps octets front ≡ Some (t, next, left) → (length left < length octets) × (length steps ≤ length next)
field-long field steps octets None t next left is = cc
field-long field steps octets (Some front) t next left is =
    let x : Told × List Step × List ℕ = (is_field field (take front.own octets), replicate front.values (One Value) ++ steps, drop front.own octets) in
    let both = some-checked front.own octets (nat_lt 0 front.own && nat_le front.own (length octets)) x (t, next, left) refl is in
    let same : x ≡ (t, next, left) = both.0 in
    let b : drop front.own octets ≡ left = ap (λ (p : Told × List Step × List ℕ). p.2) same in
    let a : replicate front.values (One Value) ++ steps ≡ next = ap (λ (p : Told × List Step × List ℕ). p.1) same in
    (subst (λ (l : List ℕ). length l < length octets) b both.1, subst (λ (l : List Step). length steps ≤ length l) a (simp length-append (omega arith)))

list-long : (field : Field) (steps : List Step) (octets : List ℕ) (l : Option Length) (t : Told) (next : List Step) (left : List ℕ)
    → with_list field steps octets l ≡ Some (t, next, left) → (length left < length octets) × (length steps ≤ length next)
list-long field steps octets None t next left is = cc
list-long field steps octets (Some l) t next left is =
    let x : Told × List Step × List ℕ = (is_list field l.number, replicate l.number (One field) ++ steps, drop l.octets octets) in
    let both = some-checked l.octets octets (nat_lt 0 l.octets && nat_le l.octets (length octets)) x (t, next, left) refl is in
    let same : x ≡ (t, next, left) = both.0 in
    let b : drop l.octets octets ≡ left = ap (λ (p : Told × List Step × List ℕ). p.2) same in
    let a : replicate l.number (One field) ++ steps ≡ next = ap (λ (p : Told × List Step × List ℕ). p.1) same in
    (subst (λ (o : List ℕ). length o < length octets) b both.1, subst (λ (o : List Step). length steps ≤ length o) a (simp length-append (omega arith)))

next-long : (step : Step) (steps : List Step) (octets : List ℕ) (t : Told) (next : List Step) (left : List ℕ)
    → next_of (step ∷ steps) octets ≡ Some (t, next, left) → (length left < length octets) × (length steps ≤ length next)
next-long (One field) steps octets t next left is = field-long field steps octets (front_at field octets) t next left is
next-long (Many field) steps octets t next left is = list-long field steps octets (length_at octets) t next left is

pub read-shorter : (steps : List Step) (octets : List ℕ) (ts : List Told) (behind : List Step) (rest : List ℕ) → IsRead steps octets ts behind rest → length rest ≤ length octets
read-shorter steps octets [] behind rest read = let e : octets ≡ rest = read.1 in let f : length octets ≡ length rest = ap length e in omega (arith, f)
read-shorter [] octets (t ∷ ts) behind rest read = let e : None ≡ Some (t, read.0, read.1) = read.2.0 in cc
read-shorter (s ∷ steps) octets (t ∷ ts) behind rest read =
    let both = next-long s steps octets t read.0 read.1 read.2.0 in
    let a : length read.1 < length octets = both.0 in
    let b : length rest ≤ length read.1 = read-shorter read.0 read.1 ts behind rest read.2.1 in
    omega (arith, a, b)

pub spells-long : (steps : List Step) (octets : List ℕ) (ts : List Told) → Spells steps octets ts → length steps ≤ length octets
spells-long [] octets ts whole = omega arith
spells-long (s ∷ steps) octets [] whole = let e : s ∷ steps ≡ [] = whole.0 in cc
spells-long (s ∷ steps) octets (t ∷ ts) whole =
    let both = next-long s steps octets t whole.0 whole.1 whole.2.0 in
    let rest : length whole.0 ≤ length whole.1 = spells-long whole.0 whole.1 ts whole.2.1 in
    let a : length whole.1 < length octets = both.0 in
    let b : length steps ≤ length whole.0 = both.1 in
    omega arith

-- ---- what spells nothing

-- the first step is empty
pub next-none : (step : Step) (steps : List Step) (octets : List ℕ) → next_of (step ∷ steps) octets ≡ None → SpellsNothing (step ∷ steps) octets
next-none step steps octets none [] whole = let e : step ∷ steps ≡ [] = whole.0 in cc
next-none step steps octets none (t ∷ ts) whole = let e : next_of (step ∷ steps) octets ≡ Some (t, whole.0, whole.1) = whole.2.0 in cc

-- more octets are to follow it than are left
pub next-long_none : (step : Step) (steps : List Step) (octets : List ℕ) (t : Told) (next : List Step) (left : List ℕ)
    → next_of (step ∷ steps) octets ≡ Some (t, next, left) → length left < length next → SpellsNothing (step ∷ steps) octets
next-long_none step steps octets t next left is more [] whole = let e : step ∷ steps ≡ [] = whole.0 in cc
next-long_none step steps octets t next left is more (u ∷ us) whole =
    let e : next_of (step ∷ steps) octets ≡ Some (u, whole.0, whole.1) = whole.2.0 in
    let f : (u, whole.0, whole.1) ≡ (t, next, left) = some-same _ _ _ e is in
    let s : whole.0 ≡ next = ap (λ (p : Told × List Step × List ℕ). p.1) f in
    let o : whole.1 ≡ left = ap (λ (p : Told × List Step × List ℕ). p.2) f in
    let rest : length whole.0 ≤ length whole.1 = spells-long whole.0 whole.1 us whole.2.1 in
    let a : length next ≤ length left = subst (λ (x : List Step). length x ≤ length left) s (subst (λ (x : List ℕ). length whole.0 ≤ length x) o rest) in
    absurd (omega arith)

-- ---- a field, by what stands at the front

pub field-none : (field : Field) (steps : List Step) (octets : List ℕ) (front : Option Front) → front ≡ front_at field octets → front ≡ None → SpellsNothing (One field ∷ steps) octets
field-none field steps octets front is none =
    let P : Option Front → Type 0 = λ f. with_field field steps octets f ≡ None in
    let e : None ≡ front_at field octets = cc in
    next-none (One field) steps octets (subst P e refl)

lt-of : (a b : ℕ) → nat_lt a b ≡ true → a < b
lt-of a b e = grind arith

le-of : (a b : ℕ) → nat_le a b ≡ true → a ≤ b
le-of a b e = grind arith

checked-none : (x : Told × List Step × List ℕ) (a b : Bool) → (a ≡ true → b ≡ true → ⊥) → (if a && b then Some x else None) ≡ None
checked-none x true true bad = absurd (bad refl refl)
checked-none x true false bad = refl
checked-none x false b bad = refl

pub field-unchecked : (field : Field) (steps : List Step) (octets : List ℕ) (front : Front) → Some front ≡ front_at field octets
    → (0 < front.own → front.own ≤ length octets → ⊥) → SpellsNothing (One field ∷ steps) octets
field-unchecked field steps octets front is bad =
    let P : Option Front → Type 0 = λ f. with_field field steps octets f ≡ None in
    let e = checked-none (is_field field (take front.own octets), replicate front.values (One Value) ++ steps, drop front.own octets) (nat_lt 0 front.own) (nat_le front.own (length octets)) (λ a b. bad (lt-of 0 front.own a) (le-of front.own (length octets) b)) in
    next-none (One field) steps octets (subst P is e)

checked-some : (x : Told × List Step × List ℕ) (own : ℕ) (octets : List ℕ) → 0 < own → own ≤ length octets → (if nat_lt 0 own && nat_le own (length octets) then Some x else None) ≡ Some x
checked-some x own octets some within = grind arith

pub field-read : (field : Field) (steps : List Step) (octets own left : List ℕ) (front : Front) → Some front ≡ front_at field octets → 0 < front.own → front.own ≤ length octets
    → own ≡ take front.own octets → left ≡ drop front.own octets
    → next_of (One field ∷ steps) octets ≡ Some (is_field field own, replicate front.values (One Value) ++ steps, left)
field-read field steps octets own left front is some within front-is left-is =
    let P : Option Front → Type 0 = λ f. with_field field steps octets f ≡ Some (is_field field own, replicate front.values (One Value) ++ steps, left) in
    let x : Told × List Step × List ℕ = (is_field field (take front.own octets), replicate front.values (One Value) ++ steps, drop front.own octets) in
    let e : with_field field steps octets (Some front) ≡ Some x = checked-some x front.own octets some within in
    let y : x ≡ (is_field field own, replicate front.values (One Value) ++ steps, left) = cc in
    subst P is cc

pub field-too_long : (field : Field) (steps : List Step) (octets own left : List ℕ) (front : Front) (values : ℕ) → Some front ≡ front_at field octets → 0 < front.own → front.own ≤ length octets
    → own ≡ take front.own octets → left ≡ drop front.own octets → values ≤ length steps → length left < front.values + values → SpellsNothing (One field ∷ steps) octets
field-too_long field steps octets own left front values is some within front-is left-is more long =
    next-long_none (One field) steps octets (is_field field own) (replicate front.values (One Value) ++ steps) left (field-read field steps octets own left front is some within front-is left-is)
    (simp (length-append, length-replicate) (omega arith))

pub values-long : (values items : ℕ) (item : Field) (steps : List Step) → values ≤ length (replicate values (One Value) ++ (replicate items (One item) ++ steps))
values-long values items item steps = simp (length-append, length-replicate) (omega arith)

pub values-join : (n m : ℕ) (tail : List Step) → replicate n (One Value) ++ (replicate m (One Value) ++ tail) ≡ replicate (n + m) (One Value) ++ tail
values-join n m tail = rw (← append_assoc) (rw (replicate-append-replicate n m (One Value)) refl)

pub list-none : (field : Field) (steps : List Step) (octets : List ℕ) (l : Option Length) → l ≡ length_at octets → l ≡ None → SpellsNothing (Many field ∷ steps) octets
list-none field steps octets l is none =
    let P : Option Length → Type 0 = λ f. with_list field steps octets f ≡ None in
    let e : None ≡ length_at octets = cc in
    next-none (Many field) steps octets (subst P e refl)

-- ---- what stands first of what is left

pub front-replicate : (n : ℕ) (a : Step) (tail : List Step) → 0 < n → replicate n a ++ tail ≡ a ∷ (replicate (n - 1) a ++ tail)
front-replicate zero a tail some = absurd (omega arith)
front-replicate (suc n) a tail some = let e : suc n - 1 ≡ n = omega arith in rw e refl

pub front-item : (v n : ℕ) (a : Step) (tail : List Step) → v ≤ 0 → 0 < n → replicate v (One Value) ++ (replicate n a ++ tail) ≡ a ∷ (replicate v (One Value) ++ (replicate (n - 1) a ++ tail))
front-item zero n a tail none some = front-replicate n a tail some
front-item (suc v) n a tail none some = absurd (omega arith)

pub front-step : (v n : ℕ) (a : Step) (tail : List Step) → v ≤ 0 → n ≤ 0 → replicate v (One Value) ++ (replicate n a ++ tail) ≡ tail
front-step zero zero a tail v0 n0 = refl
front-step (suc v) n a tail v0 n0 = absurd (omega arith)
front-step zero (suc n) a tail v0 n0 = absurd (omega arith)
