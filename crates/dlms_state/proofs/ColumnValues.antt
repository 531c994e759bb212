-- Columns: what is captured is a row of them, and each row of them is captured at some clock and some registers.
use Rattle.std.proofs.Common.{◌≡◌, ℕ, zero, suc, ◌<◌, ◌≤◌, ◌^◌, Bool, true, false, not, List, [], ◌∷◌, map, length, refl, ◌∙◌, arith, lit<, lit≤}
use Rattle.std.specs.Prelude.{All, ◌&&◌, ◌||◌, nat_eq, nat_le, if◌then◌else◌, slice_index}
use Rattle.std.specs.List.{list_any, list_all}
use Rattle.std.proofs.lemmas.List.{length-map}
use Rattle.std.proofs.lemmas.Bool.Decides.{nat_tests}
use Rattle.dlms_profile.specs.Rows.{IsRow}
use Rattle.dlms_state.specs.Columns.{are_distinct, fits_columns, value_of, row_of_columns, IsRowOf}
use Rattle.dlms_state.specs.declared.event.TheConstants.{LAST_SECOND, LAST_COLUMN}

-- ---- what is captured

pub index-map : (f : ℕ → ℕ) (xs : List ℕ) (k : ℕ) → k < length xs → slice_index (map f xs) k ≡ f (slice_index xs k)
index-map f [] zero low = absurd (omega arith)
index-map f [] (suc k) low = absurd (omega arith)
index-map f (x ∷ xs) zero low = refl
index-map f (x ∷ xs) (suc k) low = index-map f xs k (omega arith)

clock_at_place : (columns : List ℕ) (clock : ℕ) (registers : List ℕ) (k : ℕ) → clock ≤ LAST_SECOND → k < length columns → slice_index columns k ≡ 0 → slice_index (map (value_of clock registers) columns) k ≤ LAST_SECOND
clock_at_place columns clock registers k high low is = rw (index-map (value_of clock registers) columns k low, is) high

pub IsRowOf-captured : (columns : List ℕ) (clock : ℕ) (registers : List ℕ) → clock ≤ LAST_SECOND → IsRowOf columns (row_of_columns columns clock registers)
IsRowOf-captured columns clock registers high = record {
  count = length-map columns (value_of clock registers);
  clock = λ k low is. clock_at_place columns clock registers k high low is;
}

word_at : (words : List ℕ) (k : ℕ) → All (λ word. word < 2 ^ 32) words → slice_index words k < 2 ^ 32
word_at [] k fit = lit< tt
word_at (word ∷ words) zero fit = fit 0 0 (omega arith)
word_at (word ∷ words) (suc k) fit = word_at words k (λ i d low. fit (suc i) d (omega arith))

map_fits : (f : ℕ → ℕ) (xs : List ℕ) → ((x : ℕ) → f x < 2 ^ 32) → All (λ word. word < 2 ^ 32) (map f xs)
map_fits f [] each k d low = absurd (omega arith)
map_fits f (x ∷ xs) each zero d low = each x
map_fits f (x ∷ xs) each (suc k) d low = map_fits f xs each k d (omega arith)

before_all : (word : ℕ) (words : List ℕ) → word < 2 ^ 32 → All (λ w. w < 2 ^ 32) words → All (λ w. w < 2 ^ 32) (word ∷ words)
before_all word words low fit zero d less = low
before_all word words low fit (suc k) d less = fit k d (omega arith)

pub IsRow-captured : (columns : List ℕ) (clock : ℕ) (registers : List ℕ) → length columns ≤ 4 → clock < 2 ^ 32 → All (λ word. word < 2 ^ 32) registers → IsRow (row_of_columns columns clock registers)
IsRow-captured columns clock registers few low fit = record {
  count = rw (length-map columns (value_of clock registers)) few;
  values = map_fits (value_of clock registers) columns (λ id. word_at (clock ∷ registers) id (before_all clock registers low fit));
}

-- ---- a row's values given back

-- the value at the place of a column, and 0 if the column is not there
abbrev pub looked_up : List ℕ → List ℕ → ℕ → ℕ
looked_up [] values id = 0
looked_up (column ∷ columns) [] id = 0
looked_up (column ∷ columns) (value ∷ values) id = if nat_eq column id then value else looked_up columns values id

either_false : (a b : Bool) → (a || b) ≡ false → (a ≡ false) × (b ≡ false)
either_false true b h = cc
either_false false true h = cc
either_false false false h = (refl, refl)

both_true : (a b : Bool) → (a && b) ≡ true → (a ≡ true) × (b ≡ true)
both_true true true h = (refl, refl)
both_true true false h = cc
both_true false b h = cc

not_true : (b : Bool) → not b ≡ true → b ≡ false
not_true true h = cc
not_true false h = refl

-- if an id is not among others, its value is not theirs
passed_over : (column value : ℕ) (columns values ids : List ℕ) → list_any (nat_eq column) ids ≡ false → map (looked_up (column ∷ columns) (value ∷ values)) ids ≡ map (looked_up columns values) ids
passed_over column value columns values [] none = refl
passed_over column value columns values (id ∷ ids) none =
    let parts = either_false (nat_eq column id) (list_any (nat_eq column) ids) none in
    rw (parts.0, passed_over column value columns values ids parts.1) refl

same_id : (n : ℕ) → nat_eq n n ≡ true
same_id n = grind (arith, nat_tests)

-- looking the columns up gives the values back
given_back : (columns values : List ℕ) → are_distinct columns ≡ true → length values ≡ length columns → map (looked_up columns values) columns ≡ values
given_back [] [] distinct count = refl
given_back [] (value ∷ values) distinct count = cc
given_back (column ∷ columns) [] distinct count = cc
given_back (column ∷ columns) (value ∷ values) distinct count =
    let parts = both_true (not (list_any (nat_eq column) columns)) (are_distinct columns) distinct in
    let rest : length values ≡ length columns = omega arith in
    rw (same_id column, passed_over column value columns values columns (not_true _ parts.0), given_back columns values parts.1 rest) refl

-- the value of a known id is that of the function
known_value : (f : ℕ → ℕ) (id : ℕ) → nat_le id LAST_COLUMN ≡ true → value_of (f 0) (f 1 ∷ f 2 ∷ f 3 ∷ []) id ≡ f id
known_value f zero known = refl
known_value f (suc zero) known = refl
known_value f (suc (suc zero)) known = refl
known_value f (suc (suc (suc zero))) known = refl
known_value f (suc (suc (suc (suc id)))) known = let past : suc (suc (suc (suc id))) ≤ LAST_COLUMN = grind (arith, nat_tests) in absurd (omega arith)

known_values : (f : ℕ → ℕ) (ids : List ℕ) → list_all (λ id. nat_le id LAST_COLUMN) ids ≡ true → map (value_of (f 0) (f 1 ∷ f 2 ∷ f 3 ∷ [])) ids ≡ map f ids
known_values f [] known = refl
known_values f (id ∷ ids) known =
    let parts = both_true (nat_le id LAST_COLUMN) (list_all (λ id. nat_le id LAST_COLUMN) ids) known in
    rw (known_value f id parts.0, known_values f ids parts.1) refl

-- at these the row of the columns has these values
pub values_given_back : (columns values : List ℕ) → fits_columns columns ≡ true → length values ≡ length columns →
    map (value_of (looked_up columns values 0) (looked_up columns values 1 ∷ looked_up columns values 2 ∷ looked_up columns values 3 ∷ [])) columns ≡ values
values_given_back columns values fits count =
    let some = both_true _ _ fits in
    let parts = both_true (list_all (λ id. nat_le id LAST_COLUMN) columns) (are_distinct columns) some.1 in
    known_values (looked_up columns values) columns parts.0 ∙ given_back columns values parts.1 count

pub looked_up-lt : (columns values : List ℕ) (id : ℕ) → All (λ value. value < 2 ^ 32) values → looked_up columns values id < 2 ^ 32
looked_up-lt [] values id fit = lit< tt
looked_up-lt (column ∷ columns) [] id fit = lit< tt
looked_up-lt (column ∷ columns) (value ∷ values) id fit =
    elim (nat_eq column id) as (λ b. (if b then value else looked_up columns values id) < 2 ^ 32)
    [ true ↦ fit 0 0 (omega arith) | false ↦ looked_up-lt columns values id (λ k d low. fit (suc k) d (omega arith)) ]

is_same : (n m : ℕ) → nat_eq n m ≡ true → n ≡ m
is_same n m h = grind (arith, nat_tests)

-- the clock's value is in its range if the clock is a column; otherwise it is 0
pub looked_up-clock : (columns values : List ℕ) → ((k : ℕ) → k < length columns → slice_index columns k ≡ 0 → slice_index values k ≤ LAST_SECOND) → looked_up columns values 0 ≤ LAST_SECOND
looked_up-clock [] values high = lit≤ tt
looked_up-clock (column ∷ columns) [] high = lit≤ tt
looked_up-clock (column ∷ columns) (value ∷ values) high =
    (elim (nat_eq column 0) as (λ b. nat_eq column 0 ≡ b → (if b then value else looked_up columns values 0) ≤ LAST_SECOND) [
      | true ↦ λ is. high 0 (omega arith) (is_same column 0 is)
      | false ↦ λ is. looked_up-clock columns values (λ k low zero_there. high (suc k) (omega arith) zero_there)
    ]) refl
