-- Pairs are read one after another.
use Rattle.std.proofs.Common.{◌≡◌, ℕ, ◌&&◌, if◌then◌else◌, Bool, true, false, List, [], ◌∷◌, Option, Some, None, option_map, refl, sym, ap, ◌∙◌}
use Rattle.std.specs.List.{list_all}
use Rattle.dlms_dissect.specs.Lines.{are_pairs, are_some, digit_of, first_pair, from_pair, is_parting, octet_of, octets_of, pair_with_rest, with_octet}

-- whether all is pairs and what may stand between them, and there is one, here or before
abbrev pub are_behind : Bool → Option (List ℕ) → Bool
are_behind has_pair None = false
are_behind has_pair (Some []) = has_pair
are_behind has_pair (Some (octet ∷ octets)) = true

abbrev pub are_pairs_behind : Bool → List ℕ → Bool
are_pairs_behind has_pair rest = are_behind has_pair (octets_of None rest)

are_behind-none : (o : Option (List ℕ)) → are_behind false o ≡ are_some o
are_behind-none None = refl
are_behind-none (Some []) = refl
are_behind-none (Some (x ∷ xs)) = refl

-- the octets of a pair and of the rest after it
abbrev octets_behind : Option (ℕ × List ℕ) → Option (List ℕ)
octets_behind None = None
octets_behind (Some found) = with_octet (Some found.0) (octets_of None found.1)

pair-octets : (ys : List ℕ) (o : Option ℕ) (octet : ℕ) (rest : List ℕ) → option_map {U = ℕ × List ℕ} (λ octet. (octet, ys)) o ≡ Some (octet, rest)
    → with_octet o (octets_of None ys) ≡ with_octet (Some octet) (octets_of None rest)
pair-octets ys None octet rest h = cc
pair-octets ys (Some v) octet rest h = ap octets_behind h

first-octets_from : (high : ℕ) (xs : List ℕ) (octet : ℕ) (rest : List ℕ) → pair_with_rest (high ∷ xs) ≡ Some (octet, rest)
    → octets_of (Some high) xs ≡ with_octet (Some octet) (octets_of None rest)
first-octets_from high [] octet rest h = cc
first-octets_from high (low ∷ ys) octet rest h = pair-octets ys (octet_of (digit_of high) (digit_of low)) octet rest h

-- the first pair spells the first octet
first-octets : (digits : List ℕ) (octet : ℕ) (rest : List ℕ) → first_pair digits ≡ Some (octet, rest)
    → octets_of None digits ≡ with_octet (Some octet) (octets_of None rest)
first-octets [] octet rest h = cc
first-octets (x ∷ xs) octet rest h =
    let P : Bool → Type 0 = λ b. pair_with_rest (if b then from_pair xs else x ∷ xs) ≡ Some (octet, rest)
    → (if b then octets_of None xs else octets_of (Some x) xs) ≡ with_octet (Some octet) (octets_of None rest) in
    (elim (is_parting x) as P [ true ↦ first-octets xs octet rest | false ↦ first-octets_from x xs octet rest ]) h

pair-none : (ys : List ℕ) (o : Option ℕ) → option_map {U = ℕ × List ℕ} (λ octet. (octet, ys)) o ≡ None → with_octet o (octets_of None ys) ≡ None
pair-none ys None h = refl
pair-none ys (Some v) h = cc

no-octets_from : (high : ℕ) (xs : List ℕ) → pair_with_rest (high ∷ xs) ≡ None → octets_of (Some high) xs ≡ None
no-octets_from high [] h = refl
no-octets_from high (low ∷ ys) h = pair-none ys (octet_of (digit_of high) (digit_of low)) h

-- if there is no first pair, there is none: only what may come between two pairs is there, or something else
no-octets : (digits : List ℕ) → first_pair digits ≡ None → octets_of None digits ≡ (if list_all is_parting digits then Some [] else None)
no-octets [] h = refl
no-octets (x ∷ xs) h =
    let P : Bool → Type 0 = λ b. pair_with_rest (if b then from_pair xs else x ∷ xs) ≡ None
    → (if b then octets_of None xs else octets_of (Some x) xs) ≡ (if b && list_all is_parting xs then Some [] else None) in
    (elim (is_parting x) as P [ true ↦ no-octets xs | false ↦ no-octets_from x xs ]) h

-- after a pair
behind-pair : (has_pair : Bool) (o : Option (List ℕ)) (octet : ℕ) → are_behind true o ≡ are_behind has_pair (with_octet (Some octet) o)
behind-pair has_pair None octet = refl
behind-pair has_pair (Some []) octet = refl
behind-pair has_pair (Some (x ∷ xs)) octet = refl

pub pairs-step : (has_pair : Bool) (digits : List ℕ) (octet : ℕ) (rest : List ℕ) → first_pair digits ≡ Some (octet, rest)
    → are_pairs_behind true rest ≡ are_pairs_behind has_pair digits
pairs-step has_pair digits octet rest h =
    let one = first-octets digits octet rest h in
    let two = behind-pair has_pair (octets_of None rest) octet in cc

behind-blank : (has_pair : Bool) (blank : Bool) → are_behind has_pair (if blank then Some [] else None) ≡ (has_pair && blank)
behind-blank true true = refl
behind-blank true false = refl
behind-blank false true = refl
behind-blank false false = refl

pairs-end : (has_pair : Bool) (digits : List ℕ) → first_pair digits ≡ None → are_pairs_behind has_pair digits ≡ (has_pair && list_all is_parting digits)
pairs-end has_pair digits h =
    let one = no-octets digits h in
    let two = behind-blank has_pair (list_all is_parting digits) in cc

-- after the last pair, or if there is none
pub pairs-blank : (has_pair : Bool) (rest digits : List ℕ) (blank : Bool) → first_pair rest ≡ None → are_pairs_behind has_pair rest ≡ are_pairs_behind false digits → has_pair ≡ true
    → blank ≡ list_all is_parting rest → blank ≡ are_pairs digits
pairs-blank true rest digits blank h same has is = is ∙ sym (pairs-end true rest h) ∙ same ∙ are_behind-none (octets_of None digits)
pairs-blank false rest digits blank h same has is = cc

pub pairs-none : (has_pair : Bool) (rest digits : List ℕ) → first_pair rest ≡ None → are_pairs_behind has_pair rest ≡ are_pairs_behind false digits → has_pair ≡ false
    → has_pair ≡ are_pairs digits
pairs-none true rest digits h same has = cc
pairs-none false rest digits h same has = sym (pairs-end false rest h) ∙ same ∙ are_behind-none (octets_of None digits)
