-- A list is looked through from its beginning for the least, the greatest or the last.
use Rattle.std.proofs.Common.{refl, sym, ◌∙◌, ◌≡◌, ◌⊎◌, ◌+◌, ◌<◌, ◌≤◌, ℕ, Bool, true, false, arith, List, [], ◌∷◌, get_or, length, map, Option, Some, None, subst, inl, inr, ap}
use Rattle.std.specs.Prelude.{IsTrue, nat_lt, option_map, slice_get}
use Rattle.std.proofs.lemmas.Bool.{false≢true}
use Rattle.std.proofs.lemmas.Bool.Decides.{nat_tests}
use Rattle.std.proofs.lemmas.List.{length-map}
use Rattle.std.proofs.lemmas.Option.{slice_get-get_or, slice_get-map, slice_get_within}
use Rattle.dlms_serving.specs.Queue.{IsLastOf, IsLeast, IsMost, greater, lesser}
use Rattle.dlms_serving.specs.declared.queue.Found.{Found}

-- the index that was found
abbrev pub index_of : Option Found → Option ℕ
index_of None = None
index_of (Some found) = Some found.index

-- among the first n entries this is the first of the least, if one has a number
abbrev pub LeastSoFar : List (Option ℕ) → ℕ → Option Found → Type 0
LeastSoFar ranks i None = (k rank : ℕ) → k < i → slice_get ranks k ≡ Some (Some rank) → ⊥
LeastSoFar ranks i (Some found) = (slice_get ranks found.index ≡ Some (Some found.number)) × ((k rank : ℕ) → k < i → slice_get ranks k ≡ Some (Some rank) → (found.number ≤ rank) × (k < found.index → found.number < rank)) × (found.index < i)

last_or_before : (k i : ℕ) → k < i + 1 → (k < i) ⊎ (k ≡ i)
last_or_before k i within = grind arith

same_rank : (ranks : List (Option ℕ)) (k i rank number : ℕ) → k ≡ i → slice_get ranks k ≡ Some (Some rank) → slice_get ranks i ≡ Some (Some number) → rank ≡ number
same_rank ranks k i rank number same one two = grind (arith)

no_rank : (ranks : List (Option ℕ)) (k i rank : ℕ) → k ≡ i → slice_get ranks k ≡ Some (Some rank) → slice_get ranks i ≡ Some None → ⊥
no_rank ranks k i rank same one two = grind (arith)

skips : (ranks : List (Option ℕ)) (i : ℕ) (s : Option Found) → LeastSoFar ranks i s → slice_get ranks i ≡ Some None → LeastSoFar ranks (i + 1) s
skips ranks i None so is = λ k rank within at. elim (last_or_before k i within) [ inl before ↦ so k rank before at | inr same ↦ no_rank ranks k i rank same at is ]
skips ranks i (Some found) (at, all, within) is =
    (at, λ k rank inside found_there. elim (last_or_before k i inside) [ inl before ↦ all k rank before found_there | inr same ↦ absurd (no_rank ranks k i rank same found_there is) ], omega (arith, within))

stays_least : (ranks : List (Option ℕ)) (i number : ℕ) (found : Found) → LeastSoFar ranks i (Some found) → slice_get ranks i ≡ Some (Some number) → found.number ≤ number → LeastSoFar ranks (i + 1) (Some found)
stays_least ranks i number found (at, all, within) is le = (
  at,
  λ k rank inside found_there. elim (last_or_before k i inside) [
    | inl before ↦ all k rank before found_there
    | inr same ↦ let e : rank ≡ number = same_rank ranks k i rank number same found_there is in (omega (arith, e, le), λ under. absurd (omega (arith, under, same, within)))
  ],
  omega (arith, within),
)

becomes_least : (ranks : List (Option ℕ)) (i number : ℕ) (s : Option Found) → LeastSoFar ranks i s → ((found : Found) → s ≡ Some found → number < found.number) → slice_get ranks i ≡ Some (Some number)
    → LeastSoFar ranks (i + 1) (Some (record { index = i; number = number }))
becomes_least ranks i number None so less is = (
  is,
  λ k rank inside found_there. elim (last_or_before k i inside) [
    | inl before ↦ absurd (so k rank before found_there)
    | inr same ↦ let e : rank ≡ number = same_rank ranks k i rank number same found_there is in (omega (arith, e), λ under. absurd (omega (arith, under, same)))
  ],
  omega arith,
)
becomes_least ranks i number (Some found) (at, all, within) less is = (
  is,
  λ k rank inside found_there. elim (last_or_before k i inside) [
    | inl before ↦ let some = all k rank before found_there in let lt = less found refl in (omega (arith, some.0, lt), λ under. omega (arith, some.0, lt))
    | inr same ↦ let e : rank ≡ number = same_rank ranks k i rank number same found_there is in (omega (arith, e), λ under. absurd (omega (arith, under, same)))
  ],
  omega arith,
)

chosen : (ranks : List (Option ℕ)) (i number : ℕ) (found : Found) → LeastSoFar ranks i (Some found) → slice_get ranks i ≡ Some (Some number) → (b : Bool) → nat_lt number found.number ≡ b
    → LeastSoFar ranks (i + 1) (lesser (Some found) i (Some number))
chosen ranks i number found so is true test = rw test (becomes_least ranks i number (Some found) so (λ other e. grind (arith, nat_tests, test, e)) is)
chosen ranks i number found so is false test = rw test (stays_least ranks i number found so is (grind (arith, nat_tests, test)))

pub least_more : (ranks : List (Option ℕ)) (i : ℕ) (s : Option Found) (rank : Option ℕ) → LeastSoFar ranks i s → slice_get ranks i ≡ Some rank → LeastSoFar ranks (i + 1) (lesser s i rank)
least_more ranks i s None so is = skips ranks i s so is
least_more ranks i None (Some number) so is = becomes_least ranks i number None so (λ found e. absurd cc) is
least_more ranks i (Some found) (Some number) so is = chosen ranks i number found so is (nat_lt number found.number) refl

pub least_found : (ranks : List (Option ℕ)) (n : ℕ) (s : Option Found) → n ≡ length ranks → LeastSoFar ranks n s → IsLeast ranks (index_of s)
least_found ranks n None all so = λ k rank at. so k rank (subst (λ (m : ℕ). k < m) (sym all) (slice_get_within ranks k (Some rank) at)) at
least_found ranks n (Some found) all (at, least, within) =
    (found.number, at, λ k rank there. least k rank (subst (λ (m : ℕ). k < m) (sym all) (slice_get_within ranks k (Some rank) there)) there)

-- ---- the greatest

-- among the first n numbers this is the last of the greatest, if there is one
abbrev pub MostSoFar : List ℕ → ℕ → Option Found → Type 0
MostSoFar numbers i None = i ≡ 0
MostSoFar numbers i (Some found) = (slice_get numbers found.index ≡ Some found.number) × ((k number : ℕ) → k < i → slice_get numbers k ≡ Some number → (number ≤ found.number) × (found.index < k → number < found.number)) × (found.index < i)

same_number : (numbers : List ℕ) (k i one two : ℕ) → k ≡ i → slice_get numbers k ≡ Some one → slice_get numbers i ≡ Some two → one ≡ two
same_number numbers k i one two same first second = grind (arith)

stays_most : (numbers : List ℕ) (i number : ℕ) (found : Found) → MostSoFar numbers i (Some found) → slice_get numbers i ≡ Some number → number < found.number → MostSoFar numbers (i + 1) (Some found)
stays_most numbers i number found (at, all, within) is lt = (
  at,
  λ k other inside there. elim (last_or_before k i inside) [
    | inl before ↦ all k other before there
    | inr same ↦ let e : other ≡ number = same_number numbers k i other number same there is in (omega (arith, e, lt), λ above. omega (arith, e, lt))
  ],
  omega (arith, within),
)

becomes_most : (numbers : List ℕ) (i number : ℕ) (s : Option Found) → MostSoFar numbers i s → ((found : Found) → s ≡ Some found → found.number ≤ number) → slice_get numbers i ≡ Some number
    → MostSoFar numbers (i + 1) (Some (record { index = i; number = number }))
becomes_most numbers i number None so more is = (
  is,
  λ k other inside there. elim (last_or_before k i inside) [
    | inl before ↦ absurd (omega (arith, before, so))
    | inr same ↦ let e : other ≡ number = same_number numbers k i other number same there is in (omega (arith, e), λ above. absurd (omega (arith, above, same)))
  ],
  omega arith,
)
becomes_most numbers i number (Some found) (at, all, within) more is = (
  is,
  λ k other inside there. elim (last_or_before k i inside) [
    | inl before ↦ let some = all k other before there in let le = more found refl in (omega (arith, some.0, le), λ above. absurd (omega (arith, above, before)))
    | inr same ↦ let e : other ≡ number = same_number numbers k i other number same there is in (omega (arith, e), λ above. absurd (omega (arith, above, same)))
  ],
  omega arith,
)

chosen_most : (numbers : List ℕ) (i number : ℕ) (found : Found) → MostSoFar numbers i (Some found) → slice_get numbers i ≡ Some number → (b : Bool) → nat_lt number found.number ≡ b
    → MostSoFar numbers (i + 1) (greater (Some found) i number)
chosen_most numbers i number found so is true test = rw test (stays_most numbers i number found so is (grind (arith, nat_tests, test)))
chosen_most numbers i number found so is false test = rw test (becomes_most numbers i number (Some found) so (λ other e. grind (arith, nat_tests, test, e)) is)

pub most_more : (numbers : List ℕ) (i : ℕ) (s : Option Found) (number : ℕ) → MostSoFar numbers i s → slice_get numbers i ≡ Some number → MostSoFar numbers (i + 1) (greater s i number)
most_more numbers i None number so is = becomes_most numbers i number None so (λ found e. absurd cc) is
most_more numbers i (Some found) number so is = chosen_most numbers i number found so is (nat_lt number found.number) refl

pub most_found : (numbers : List ℕ) (n : ℕ) (s : Option Found) → n ≡ length numbers → MostSoFar numbers n s → IsMost numbers s
most_found [] n None all so = refl
most_found (x ∷ numbers) n None all so = absurd (omega (arith, all, so))
most_found numbers n (Some found) all (at, most, within) =
    (at, λ k number there. most k number (subst (λ (m : ℕ). k < m) (sym all) (slice_get_within numbers k number there)) there)

pub none_wait : {X Y : Type 0} (f : X → Y) (xs : List X) → map f xs ≡ [] → xs ≡ []
none_wait f [] is = refl
none_wait f (x ∷ xs) is = absurd (cc is)

-- ---- the last that passes

abbrev pub LastSoFar : {X : Type 0} → (X → Bool) → List X → ℕ → Option ℕ → Type 0
LastSoFar {X} passes xs i None = (k : ℕ) (x : X) → k < i → slice_get xs k ≡ Some x → IsTrue (passes x) → ⊥
LastSoFar {X} passes xs i (Some index) = (last : X) × (slice_get xs index ≡ Some last) × IsTrue (passes last) × ((k : ℕ) (x : X) → k < i → slice_get xs k ≡ Some x → IsTrue (passes x) → k ≤ index) × (index < i)

same_entry : {X : Type 0} (xs : List X) (k i : ℕ) (x y : X) → k ≡ i → slice_get xs k ≡ Some x → slice_get xs i ≡ Some y → x ≡ y
same_entry xs k i x y same one two = grind arith

pub last_passes : {X : Type 0} (passes : X → Bool) (xs : List X) (i : ℕ) (s : Option ℕ) (x : X) → LastSoFar passes xs i s → slice_get xs i ≡ Some x → passes x ≡ true → LastSoFar passes xs (i + 1) (Some i)
last_passes passes xs i s x so is passed = (x, is, passed, λ k y inside there yes. omega (arith, inside), omega arith)

pub last_fails : {X : Type 0} (passes : X → Bool) (xs : List X) (i : ℕ) (s : Option ℕ) (x : X) → LastSoFar passes xs i s → slice_get xs i ≡ Some x → passes x ≡ false → LastSoFar passes xs (i + 1) s
last_fails {X} passes xs i None x so is failed = λ k y inside there yes. elim (last_or_before k i inside) [
  | inl before ↦ so k y before there yes
  | inr same ↦ absurd (false≢true (sym failed ∙ subst (λ (z : X). passes z ≡ true) (same_entry xs k i y x same there is) yes))
]
last_fails {X} passes xs i (Some index) x (last, at, passed, all, within) is failed = (
  last,
  at,
  passed,
  λ k y inside there yes. elim (last_or_before k i inside) [
    | inl before ↦ all k y before there yes
    | inr same ↦ absurd (false≢true (sym failed ∙ subst (λ (z : X). passes z ≡ true) (same_entry xs k i y x same there is) yes))
  ],
  omega (arith, within),
)

pub last_found : {X : Type 0} (passes : X → Bool) (xs : List X) (n : ℕ) (s : Option ℕ) → n ≡ length xs → LastSoFar passes xs n s → IsLastOf passes xs s
last_found passes xs n None all so = λ k x there yes. so k x (subst (λ (m : ℕ). k < m) (sym all) (slice_get_within xs k x there)) there yes
last_found passes xs n (Some index) all (last, at, passed, least, within) = (last, at, passed, λ k x there yes. least k x (subst (λ (m : ℕ). k < m) (sym all) (slice_get_within xs k x there)) there yes)

-- ---- over a list of places

-- what a list has of an entry
pub map_at : {X Y : Type 0} (f : X → Y) (xs : List X) (i : ℕ) (d : X) (y : Y) → i < length xs → y ≡ f (get_or xs i d) → slice_get (map f xs) i ≡ Some y
map_at {X} {Y} f xs i d y within is = slice_get-map f xs i ∙ ap (λ (o : Option X). option_map f o) (slice_get-get_or xs i d within) ∙ ap (λ (z : Y). Some z) (sym is)

-- all of it was looked through
pub all_of : {X Y : Type 0} (f : X → Y) (xs : List X) (i : ℕ) → length xs ≤ i → i ≤ length xs → i ≡ length (map f xs)
all_of f xs i over within = let same : i ≡ length xs = omega (arith, over, within) in same ∙ sym (length-map xs f)
