-- Reading from left to right finds the parameters that are there, and no others.
use Rattle.std.proofs.Common.{◌≡◌, ℕ, ◌≤◌, ◌==◌, ◌&&◌, inl, inr, if◌then◌else◌, refl, sym, ◌∙◌, arith, ap, Bool, true, false, List, [], ◌∷◌, ◌++◌, length, take, drop, Option, None, Some, zero, suc, nat_le, unwrap_or, All}
use Rattle.std.proofs.lemmas.Bool.Decides.{nat_tests}
use Rattle.std.proofs.lemmas.List.{take-append-drop, length-take-le}
use Rattle.std.proofs.lemmas.List.Elements.{All-head, All-tail, All-cons, All-nil}
use Rattle.std.specs.List.{filter_map, last_or, cons_option}
use Rattle.dlms_link.specs.Parameters.{Parameter, IsParameter, IsInformation, has_lawful_length, parameter_bytes, group_of, information_of, received_by, greatest_received, number_of, read_group, capped_size, size_read, size_of, IsFirst}
use Rattle.dlms_link.proofs.Reading.{read_group-first}

same : (n : ℕ) → (n == n) ≡ true
same n = grind (arith, nat_tests)

-- after an item the one before it doesn't count
last_of_some : (x r s : ℕ) (xs : List ℕ) → unwrap_or (last_or (Some x) xs) r ≡ unwrap_or (last_or (Some x) xs) s
last_of_some x r s [] = refl
last_of_some x r s (y ∷ ys) = last_of_some y r s ys

last_or-some : (x r : ℕ) (xs : List ℕ) → unwrap_or (last_or (Some x) xs) r ≡ unwrap_or (last_or None xs) x
last_or-some x r [] = refl
last_or-some x r (y ∷ ys) = last_of_some y r x ys

-- the last 06, or this number
abbrev last_received : List Parameter → ℕ → ℕ
last_received ps r = unwrap_or (last_or None (filter_map received_by ps)) r

-- with one parameter more in front
last_received-cons : (p : Parameter) (ps : List Parameter) (r : ℕ) → last_received (p ∷ ps) r ≡ last_received ps (if p.id == 6 then number_of p.value else r)
last_received-cons p ps r = by_test (p.id == 6)
  where
    by_test : (b : Bool) → unwrap_or (last_or None (cons_option (if b then Some (number_of p.value) else None) (filter_map received_by ps))) r ≡ last_received ps (if b then number_of p.value else r)
    by_test true = last_or-some (number_of p.value) r (filter_map received_by ps)
    by_test false = refl

first_of : (p : Parameter) (rest : List ℕ) → IsParameter p → IsFirst p.id p.value rest (parameter_bytes p ++ rest)
first_of p rest h = record { lawful = h; text = refl }

read_all : (ps : List Parameter) (n r : ℕ) → All IsParameter ps → length (group_of ps) ≤ n → read_group n r (group_of ps) ≡ Some (last_received ps r)
read_all [] zero r h l = refl
read_all [] (suc n) r h l = refl
read_all (p ∷ ps) n r h l =
    let next = read_group-first n r p.id p.value (group_of ps) (group_of (p ∷ ps)) (first_of p (group_of ps) (All-head IsParameter p ps h)) l in
    next.2 ∙ read_all ps next.0 (if p.id == 6 then number_of p.value else r) (All-tail IsParameter p ps h) next.1 ∙ ap Some (sym (last_received-cons p ps r))

-- what is read is what the parameters say
pub size_of-information : (info : List ℕ) (ps : List Parameter) → IsInformation info ps → size_of info ≡ capped_size (greatest_received ps)
unfolding size_of
size_of-information info ps (inl h) = rw (h.0, h.1) refl
size_of-information info ps (inr h) =
    rw (h.0, same (length (group_of ps)), read_all ps (length (group_of ps)) 128 h.1 (omega arith)) refl

-- if reading succeeds, parameters are there
AreRead : List ℕ → Type 0
AreRead group = (ps : List Parameter) × (group ≡ group_of ps) × All IsParameter ps

none_is_some : {X : Type 0} {x : X} → None ≡ Some x → ⊥
none_is_some e = cc

-- one more parameter in front of those that are there
in_front : (id len : ℕ) (rest : List ℕ) → has_lawful_length id len ≡ true → len ≤ length rest → AreRead (drop len rest) → AreRead (id ∷ len ∷ rest)
unfolding AreRead
in_front id len rest lawful fits found =
    let p : Parameter = record { id = id; value = take len rest } in
    let size : length (take len rest) ≡ len = length-take-le len rest fits in
    let text : id ∷ len ∷ rest ≡ id ∷ length (take len rest) ∷ (take len rest ++ group_of found.0) =
    rw (size, ← found.1, take-append-drop len rest) refl in
    let good : IsParameter p = rw size lawful in
    (p ∷ found.0, text, All-cons IsParameter p found.0 good found.2)

read_more : (n : ℕ) → ((r k : ℕ) (group : List ℕ) → read_group n r group ≡ Some k → AreRead group) →
    (id len r k : ℕ) (rest : List ℕ) → read_group (suc n) r (id ∷ len ∷ rest) ≡ Some k → AreRead (id ∷ len ∷ rest)
read_more n read id len r k rest e = by_tests (has_lawful_length id len) (nat_le len (length rest)) refl refl e
  where
    by_tests : (a b : Bool) → has_lawful_length id len ≡ a → nat_le len (length rest) ≡ b →
        (if a && b then read_group n (if id == 6 then number_of (take len rest) else r) (drop len rest) else None) ≡ Some k → AreRead (id ∷ len ∷ rest)
    by_tests false b ea eb e = absurd (none_is_some e)
    by_tests true false ea eb e = absurd (none_is_some e)
    by_tests true true ea eb e = in_front id len rest ea (grind (arith, nat_tests)) (read (if id == 6 then number_of (take len rest) else r) k (drop len rest) e)

read_found : (n r k : ℕ) (group : List ℕ) → read_group n r group ≡ Some k → AreRead group
unfolding AreRead
read_found n r k [] e = ([], refl, All-nil IsParameter)
read_found zero r k (id ∷ []) e = absurd (none_is_some e)
read_found (suc n) r k (id ∷ []) e = absurd (none_is_some e)
read_found zero r k (id ∷ len ∷ rest) e = absurd (none_is_some e)
read_found (suc n) r k (id ∷ len ∷ rest) e = read_more n (read_found n) id len r k rest e

-- what is not None was read
some_read : (o : Option ℕ) (size : ℕ) → size_read o ≡ Some size → (k : ℕ) × (o ≡ Some k)
some_read None size e = absurd (none_is_some e)
some_read (Some k) size e = (k, refl)

spelled_group : (a b len size : ℕ) (rest : List ℕ) → a ≡ 129 → b ≡ 128 → len ≡ length rest → size_read (read_group (length rest) 128 rest) ≡ Some size →
    (ps : List Parameter) × IsInformation (a ∷ b ∷ len ∷ rest) ps
unfolding AreRead
spelled_group a b len size rest ea eb el e =
    let got = some_read (read_group (length rest) 128 rest) size e in
    let found = read_found (length rest) 128 got.0 rest got.1 in
    let text : a ∷ b ∷ len ∷ rest ≡ information_of found.0 = rw (ea, eb, el, ← found.1) refl in
    (found.0, inr (text, found.2))

pub size_of-found : (info : List ℕ) (size : ℕ) → size_of info ≡ Some size → (ps : List Parameter) × IsInformation info ps
unfolding size_of
size_of-found [] size e = ([], inl (refl, refl))
size_of-found (a ∷ []) size e = absurd (none_is_some e)
size_of-found (a ∷ b ∷ []) size e = absurd (none_is_some e)
size_of-found (a ∷ b ∷ len ∷ rest) size e = by_tests (a == 129) (b == 128) (len == length rest) refl refl refl e
  where
    by_tests : (p q r : Bool) → (a == 129) ≡ p → (b == 128) ≡ q → (len == length rest) ≡ r →
        (if p && q && r then size_read (read_group (length rest) 128 rest) else None) ≡ Some size → (ps : List Parameter) × IsInformation (a ∷ b ∷ len ∷ rest) ps
    by_tests false q r ep eq er e = absurd (none_is_some e)
    by_tests true false r ep eq er e = absurd (none_is_some e)
    by_tests true true false ep eq er e = absurd (none_is_some e)
    by_tests true true true ep eq er e =
        spelled_group a b len size rest (grind (arith, nat_tests)) (grind (arith, nat_tests)) (grind (arith, nat_tests)) e
