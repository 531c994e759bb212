-- How many levels and bytes the values of rows have.
use Rattle.std.proofs.Common.{◌≡◌, ℕ, zero, suc, ◌+◌, ◌-◌, ◌*◌, ◌^◌, ◌<◌, ◌≤◌, true, false, ltb, List, [], ◌∷◌, length, map, take, drop, slice_range, refl, sym, subst, arith, inl, inr, length-take, length-drop}
use Rattle.std.specs.Prelude.{All, Bool, not, ◌||◌, nat_eq}
use Rattle.std.specs.List.{list_any}
use Rattle.std.proofs.lemmas.Bool.{cases_lt, lt-ltb, le-ltb, and_parts}
use Rattle.std.proofs.lemmas.List.{length-append}
use Rattle.std.proofs.lemmas.List.Elements.{All-cons, All-nil, All-head, All-tail, All-take, All-drop}
use Rattle.byteorder.specs.Numbers.{length-bytes_high_first}
use Rattle.dlms_data.specs.Value.{Value, Values, array, structure, double_long_unsigned, octet_string, none, cons, count, depth, values_depth}
use Rattle.dlms_data.specs.Writing.{InRange, AllInRange, canonical, all_canonical, short_length}
use Rattle.dlms_profile.specs.declared.rows.Row.{Row}
use Rattle.dlms_profile.specs.Rows.{IsRow as FitsRow}
use Rattle.dlms_classes.specs.declared.rows.Cell.{Cell}
use Rattle.dlms_classes.specs.declared.rows.Cell.TheVariants.{Second, Number}
use Rattle.dlms_data.specs.Building.{IsTime}
use Rattle.dlms_classes.specs.Shown.{IsCell, IsRow, IsTable, Match, cells_of, cells, column_value}
use Rattle.dlms_classes.specs.Listing.{map_values}
use Rattle.dlms_classes.specs.Table.{object_of_column}
use Rattle.dlms_classes.proofs.Matching.{few_cells}
use Rattle.dlms_state.specs.Columns.{are_distinct}

-- at most this many levels, numbers in their ranges, and a spelling of at most this many bytes
pub record Small (levels bytes : ℕ) (v : Value) : Type 0 where
  pub deep : depth v ≤ levels
  pub fits : InRange v
  pub size : length (canonical v) ≤ bytes

pub record AreSmall (levels bytes : ℕ) (vs : Values) : Type 0 where
  pub deep : values_depth vs ≤ levels
  pub fits : AllInRange vs
  pub size : length (all_canonical vs) ≤ bytes

pub length_short : (n : ℕ) → n < 65536 → length (short_length n) ≤ 3
unfolding short_length
length_short n h =
    elim (cases_lt n 128) [
      | inl a ↦ let e : ltb n 128 ≡ true = lt-ltb n 128 a in rw e (omega arith)
      | inr a ↦ let not_a : ltb n 128 ≡ false = le-ltb n 128 a in
          elim (cases_lt n 256) [
            | inl b ↦ let e : ltb n 256 ≡ true = lt-ltb n 256 b in rw (not_a, e) (omega (arith, length-bytes_high_first 1 n))
            | inr b ↦ let not_b : ltb n 256 ≡ false = le-ltb n 256 b in
                let e : ltb n 65536 ≡ true = lt-ltb n 65536 h in rw (not_a, not_b, e) (omega (arith, length-bytes_high_first 2 n))
          ]
    ]

-- below 128 a length is one byte
length_shortest : (n : ℕ) → n < 128 → length (short_length n) ≤ 1
unfolding short_length
length_shortest n h = let e : ltb n 128 ≡ true = lt-ltb n 128 h in rw e (omega arith)

none_small : (levels : ℕ) → AreSmall levels 0 none
none_small levels = record { deep = omega arith; fits = tt; size = omega arith }

cons_small : (levels m n : ℕ) (v : Value) (vs : Values) → Small levels m v → AreSmall levels n vs → AreSmall levels (m + n) (cons v vs)
cons_small levels m n v vs one more = record { deep = omega arith; fits = (one.fits, more.fits); size = omega (arith, length-append (canonical v) (all_canonical vs)) }

structure_small : (levels n : ℕ) (vs : Values) → count vs < 128 → AreSmall levels n vs → Small (suc levels) (2 + n) (structure vs)
structure_small levels n vs few h = record {
  deep = omega arith;
  fits = (omega arith, h.fits);
  size = omega (arith, length_shortest (count vs) few, length-append (short_length (count vs)) (all_canonical vs));
}

array_small : (levels n : ℕ) (vs : Values) → count vs < 65536 → AreSmall levels n vs → Small (suc levels) (4 + n) (array vs)
array_small levels n vs few h = record {
  deep = omega arith;
  fits = (omega arith, h.fits);
  size = omega (arith, length_short (count vs) few, length-append (short_length (count vs)) (all_canonical vs));
}

pub octets_small : (bytes : List ℕ) → length bytes < 65536 → Small 0 (4 + length bytes) (octet_string bytes)
octets_small bytes h = record {
  deep = omega arith;
  fits = omega arith;
  size = omega (arith, length_short (length bytes) h, length-append (short_length (length bytes)) bytes);
}

time_octets_small : (octets : List ℕ) → length octets ≡ 12 → Small 0 14 (octet_string octets)
time_octets_small octets h = record {
  deep = omega arith;
  fits = omega arith;
  size = omega (arith, length_shortest (length octets) (omega arith), length-append (short_length (length octets)) octets);
}

pub time_small : (s : ℕ) (v : Value) → IsTime s v → Small 0 14 v
time_small s v h = subst (Small 0 14) (sym h.value) (time_octets_small h.octets h.names.size)

pub number_small : (n : ℕ) → n < 2 ^ 32 → Small 0 5 (double_long_unsigned n)
number_small n h = record { deep = omega arith; fits = h; size = omega (arith, length-bytes_high_first 4 n) }

-- ---- fields

-- the bytes of a field
abbrev pub weight : Cell → ℕ
weight (Second s) = 14
weight (Number n) = 5

pub weights : List Cell → ℕ
weights [] = 0
weights (c ∷ cs) = weight c + weights cs

abbrev pub HasRange : Cell → Type 0
HasRange (Second s) = Unit {0}
HasRange (Number n) = n < 2 ^ 32

cell_small : (c : Cell) (v : Value) → HasRange c → IsCell c v → Small 0 (weight c) v
cell_small (Second s) v fits h = time_small s v h
cell_small (Number n) v fits h = subst (Small 0 5) (sym h) (number_small n fits)

record HasSizes (cs : List Cell) (vs : Values) : Type 0 where
  few : count vs ≡ length cs
  small : AreSmall 0 (weights cs) vs

cells_small : (cs : List Cell) (vs : Values) → All HasRange cs → Match IsCell cs vs → HasSizes cs vs
unfolding weights
cells_small [] none fits h = record { few = refl; small = none_small 0 }
cells_small [] (cons v vs) fits h = absurd h
cells_small (c ∷ cs) none fits h = absurd h
cells_small (c ∷ cs) (cons v vs) fits h =
    let rest = cells_small cs vs (All-tail HasRange c cs fits) h.1 in
    record { few = omega (arith, rest.few); small = cons_small 0 (weight c) (weights cs) v vs (cell_small c v (All-head HasRange c cs fits) h.0) rest.small }

-- some fields of a row
pub record ArePart (cs : List Cell) : Type 0 where
  few : length cs ≤ 4
  light : weights cs ≤ 29
  fits : All HasRange cs

row_small : (cs : List Cell) (v : Value) → ArePart cs → IsRow cs v → Small 1 31 v
row_small cs (structure vs) part h =
    let sizes = cells_small cs vs part.fits h in
    let one = structure_small 0 (weights cs) vs (omega (arith, sizes.few, part.few)) sizes.small in
    record { deep = one.deep; fits = one.fits; size = omega (arith, one.size, part.light) }
row_small cs _ part h = absurd h

either_false : (a b : Bool) → (a || b) ≡ false → b ≡ false
either_false true b h = cc
either_false false b h = h

not_true : (b : Bool) → not b ≡ true → b ≡ false
not_true true h = cc
not_true false h = refl

-- the fields of columns without the clock, and of columns that have it once
light_others : (columns values : List ℕ) → list_any (nat_eq 0) columns ≡ false → weights (cells_of columns values) ≤ 5 * length columns
unfolding weights
light_others [] values h = omega arith
light_others (id ∷ columns) [] h = omega arith
light_others (zero ∷ columns) (value ∷ values) h = absurd cc
light_others (suc id ∷ columns) (value ∷ values) h =
    let rest = light_others columns values (either_false (nat_eq 0 (suc id)) (list_any (nat_eq 0) columns) h) in
    omega (arith, rest)

light_all : (columns values : List ℕ) → are_distinct columns ≡ true → weights (cells_of columns values) ≤ 9 + 5 * length columns
unfolding weights
light_all [] values h = omega arith
light_all (id ∷ columns) [] h = omega arith
light_all (zero ∷ columns) (value ∷ values) h =
    let parts = and_parts (not (list_any (nat_eq 0) columns)) (are_distinct columns) h in
    let rest = light_others columns values (not_true (list_any (nat_eq 0) columns) parts.0) in
    omega (arith, rest)
light_all (suc id ∷ columns) (value ∷ values) h =
    let parts = and_parts (not (list_any (nat_eq (suc id)) columns)) (are_distinct columns) h in
    let rest = light_all columns values parts.1 in
    omega (arith, rest)

ranges : (columns values : List ℕ) → All (λ value. value < 2 ^ 32) values → All HasRange (cells_of columns values)
ranges [] values h = All-nil HasRange
ranges (id ∷ columns) [] h = All-nil HasRange
ranges (zero ∷ columns) (value ∷ values) h =
    All-cons HasRange (Second value) (cells_of columns values) tt (ranges columns values (All-tail (λ (v : ℕ). v < 2 ^ 32) value values h))
ranges (suc id ∷ columns) (value ∷ values) h =
    All-cons HasRange (Number value) (cells_of columns values) (All-head (λ (v : ℕ). v < 2 ^ 32) value values h) (ranges columns values (All-tail (λ (v : ℕ). v < 2 ^ 32) value values h))

pub whole_part : (columns : List ℕ) → length columns ≤ 4 → are_distinct columns ≡ true → (row : Row) → FitsRow row → ArePart (cells columns row)
whole_part columns less distinct row h = record {
  few = omega (arith, less, few_cells columns row.values.items);
  light = omega (arith, less, light_all columns row.values.items distinct);
  fits = ranges columns row.values.items h.values;
}

-- ---- columns

column_small : (id : ℕ) → Small 1 20 (column_value (object_of_column id))
unfolding short_length
column_small zero = record { deep = omega arith; fits = (omega arith, (omega arith, (omega arith, (record { sfits = omega arith }, (omega arith, tt))))); size = omega arith }
column_small (suc zero) = record { deep = omega arith; fits = (omega arith, (omega arith, (omega arith, (record { sfits = omega arith }, (omega arith, tt))))); size = omega arith }
column_small (suc (suc zero)) = record { deep = omega arith; fits = (omega arith, (omega arith, (omega arith, (record { sfits = omega arith }, (omega arith, tt))))); size = omega arith }
column_small (suc (suc (suc zero))) = record { deep = omega arith; fits = (omega arith, (omega arith, (omega arith, (record { sfits = omega arith }, (omega arith, tt))))); size = omega arith }
column_small (suc (suc (suc (suc id)))) = record { deep = omega arith; fits = (omega arith, (omega arith, (omega arith, (record { sfits = omega arith }, (omega arith, tt))))); size = omega arith }

count_columns : (columns : List ℕ) → count (map_values (λ id. column_value (object_of_column id)) columns) ≡ length columns
count_columns [] = refl
count_columns (id ∷ columns) = let rest = count_columns columns in omega (arith, rest)

all_small : (columns : List ℕ) → AreSmall 1 (20 * length columns) (map_values (λ id. column_value (object_of_column id)) columns)
all_small [] = none_small 1
all_small (id ∷ columns) =
    let all = cons_small 1 20 (20 * length columns) (column_value (object_of_column id)) (map_values (λ id. column_value (object_of_column id)) columns) (column_small id) (all_small columns) in
    record { deep = all.deep; fits = all.fits; size = omega (arith, all.size) }

pub columns_small : (columns : List ℕ) → length columns ≤ 4 → Small 2 84 (array (map_values (λ id. column_value (object_of_column id)) columns))
columns_small columns less =
    let number = count_columns columns in
    let one = array_small 1 (20 * length columns) (map_values (λ id. column_value (object_of_column id)) columns) (omega (arith, less, number)) (all_small columns) in
    record { deep = one.deep; fits = one.fits; size = omega (arith, one.size, less) }

-- ---- some columns

weights-take : (n : ℕ) (cs : List Cell) → weights (take n cs) ≤ weights cs
unfolding weights
weights-take zero cs = omega arith
weights-take (suc n) [] = omega arith
weights-take (suc n) (c ∷ cs) = omega (arith, weights-take n cs)

weights-drop : (n : ℕ) (cs : List Cell) → weights (drop n cs) ≤ weights cs
unfolding weights
weights-drop zero cs = omega arith
weights-drop (suc n) [] = omega arith
weights-drop (suc n) (c ∷ cs) = omega (arith, weights-drop n cs)

pub cut_part : (first end : ℕ) (cs : List Cell) → ArePart cs → ArePart (slice_range cs first end)
cut_part first end cs part = record {
  few = omega (arith, length-take (end - first) (drop first cs), length-drop first cs, part.few);
  light = omega (arith, weights-take (end - first) (drop first cs), weights-drop first cs, part.light);
  fits = All-take HasRange _ _ (All-drop HasRange first cs part.fits);
}

-- ---- rows

record HasRowSizes (rows : List Row) (vs : Values) : Type 0 where
  few : count vs ≡ length rows
  small : AreSmall 1 (31 * length rows) vs

rows_small : (f : Row → List Cell) → ((row : Row) → FitsRow row → ArePart (f row)) → (rows : List Row) (vs : Values) → All FitsRow rows → Match IsRow (map f rows) vs → HasRowSizes rows vs
rows_small f part [] none fits h = record { few = refl; small = none_small 1 }
rows_small f part [] (cons v vs) fits h = absurd h
rows_small f part (row ∷ rows) none fits h = absurd h
rows_small f part (row ∷ rows) (cons v vs) fits h =
    let rest = rows_small f part rows vs (All-tail FitsRow row rows fits) h.1 in
    let all = cons_small 1 31 (31 * length rows) v vs (row_small (f row) v (part row (All-head FitsRow row rows fits)) h.0) rest.small in
    record { few = omega (arith, rest.few); small = record { deep = all.deep; fits = all.fits; size = omega (arith, all.size) } }

pub table_small : (f : Row → List Cell) → ((row : Row) → FitsRow row → ArePart (f row)) → (most : ℕ) (rows : List Row) (v : Value) → most < 65536 → length rows ≤ most → All FitsRow rows
    → IsTable (map f rows) v → Small 2 (4 + 31 * most) v
table_small f part most rows (array vs) less room fits h =
    let sizes = rows_small f part rows vs fits h in
    let one = array_small 1 (31 * length rows) vs (omega (arith, sizes.few)) sizes.small in
    record { deep = one.deep; fits = one.fits; size = omega (arith, one.size) }
table_small f part most rows _ less room fits h = absurd h
