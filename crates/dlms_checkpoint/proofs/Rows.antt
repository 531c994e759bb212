-- Rows one after another, each with the same number of values.
use Rattle.std.proofs.Common.{◌≡◌, ℕ, zero, suc, ◌+◌, ◌*◌, ◌/◌, ◌%◌, ◌<◌, ◌≤◌, ◌^◌, List, [], ◌∷◌, ◌++◌, length, take, drop, get_or, refl, sym, ap, ◌∙◌, subst, arith, append_assoc, All}
use Rattle.std.proofs.lemmas.List.{length-append, drop-drop, length-drop, drop-append-le, take-append-le}
use Rattle.std.proofs.Math.Seq.{take-add}
use Rattle.std.specs.List.{flat_map}
use Rattle.byteorder.specs.Endian.{big_from, big_bytes}
use Rattle.byteorder.specs.Numbers.{big_from-take, big_from-lt}
use Rattle.dlms_profile.specs.declared.rows.Row.{Row}
use Rattle.dlms_profile.specs.Rows.{IsRow, row_of_values}
use Rattle.dlms_checkpoint.specs.Checkpoint.{registers_bytes, row_bytes}
use Rattle.dlms_checkpoint.specs.Reading.{registers_at, values_at, row_at, rows_at}
use Rattle.dlms_checkpoint.proofs.Lists.{from_behind, number_here, from_drop, drop_behind}

abbrev pub AreOctets : List ℕ → Type 0
AreOctets bytes = All (λ byte. byte < 2 ^ 8) bytes

pub octets_behind : (n : ℕ) (bytes : List ℕ) → AreOctets bytes → AreOctets (drop n bytes)
octets_behind zero bytes all = all
octets_behind (suc n) [] all = all
octets_behind (suc n) (b ∷ bytes) all = octets_behind n bytes (λ k d low. all (suc k) d (omega (arith, low)))

-- ---- registers

pub length-registers : (registers : List ℕ) → length (registers_bytes registers) ≡ 12
unfolding registers_bytes
length-registers registers = refl

three_are : (a b c x y z : ℕ) → x ≡ a → y ≡ b → z ≡ c → x ∷ y ∷ z ∷ [] ≡ a ∷ b ∷ c ∷ []
three_are a b c x y z e f g = cc

pub registers_again : (registers rest : List ℕ) → length registers ≡ 3 → All (λ value. value < 2 ^ 32) registers → registers_at 0 (registers_bytes registers ++ rest) ≡ registers
unfolding registers_bytes registers_at
registers_again [] rest count fit = absurd (omega (arith, count))
registers_again (a ∷ []) rest count fit = absurd (omega (arith, count))
registers_again (a ∷ b ∷ []) rest count fit = absurd (omega (arith, count))
registers_again (a ∷ b ∷ c ∷ d ∷ more) rest count fit = absurd (omega (arith, count))
registers_again (a ∷ b ∷ c ∷ []) rest count fit =
    let A = big_bytes 4 a in
    let B = big_bytes 4 b in
    let C = big_bytes 4 c in
    let text : (A ++ (B ++ C)) ++ rest ≡ A ++ (B ++ (C ++ rest)) = append_assoc A (B ++ C) rest ∙ ap (λ (l : List ℕ). A ++ l) (append_assoc B C rest) in
    three_are a b c _ _ _
    (ap (big_from 0 4) text ∙ number_here 4 a (B ++ (C ++ rest)) (fit 0 0 (omega arith)))
    (ap (big_from 4 4) text ∙ from_behind A (B ++ (C ++ rest)) 0 4 4 refl ∙ number_here 4 b (C ++ rest) (fit 1 0 (omega arith)))
    (ap (big_from 8 4) text ∙ from_behind A (B ++ (C ++ rest)) 4 4 8 refl ∙ from_behind B (C ++ rest) 0 4 4 refl ∙ number_here 4 c rest (fit 2 0 (omega arith)))

-- places counted from further on
pub registers_drop : (place : ℕ) (bytes : List ℕ) → registers_at 0 (drop place bytes) ≡ registers_at place bytes
unfolding registers_at
registers_drop place bytes =
    three_are _ _ _ _ _ _ (from_drop place 4 bytes) (further 4) (further 8)
  where
    further : (k : ℕ) → big_from (0 + k) 4 (drop place bytes) ≡ big_from (place + k) 4 bytes
    further k = sym (from_drop (0 + k) 4 (drop place bytes)) ∙ ap (big_from 0 4) (drop-drop (0 + k) place bytes ∙ ap (λ (j : ℕ). drop j bytes) (omega arith)) ∙ from_drop (place + k) 4 bytes

-- ---- values

pub length-values_bytes : (values : List ℕ) → length (flat_map (big_bytes 4) values) ≡ 4 * length values
length-values_bytes [] = refl
length-values_bytes (v ∷ values) = length-append (big_bytes 4 v) (flat_map (big_bytes 4) values) ∙ omega (arith, length-values_bytes values)

pub length-values_at : (n : ℕ) (bytes : List ℕ) → length (values_at n bytes) ≡ n
length-values_at zero bytes = refl
length-values_at (suc n) bytes = omega (arith, length-values_at n (drop 4 bytes))

two_are : (a x : ℕ) (b y : List ℕ) → x ≡ a → y ≡ b → x ∷ y ≡ a ∷ b
two_are a x b y e f = cc

first_of : (P : ℕ → Type 0) (v : ℕ) (values : List ℕ) → All P (v ∷ values) → P v
first_of P v values all = all 0 v (omega arith)

others_of : (P : ℕ → Type 0) (v : ℕ) (values : List ℕ) → All P (v ∷ values) → All P values
others_of P v values all k d low = all (suc k) d (omega (arith, low))

pub values_again : (values rest : List ℕ) → All (λ value. value < 2 ^ 32) values → values_at (length values) (flat_map (big_bytes 4) values ++ rest) ≡ values
values_again [] rest fit = refl
values_again (v ∷ values) rest fit =
    let A = big_bytes 4 v in
    let B = flat_map (big_bytes 4) values in
    let text : (A ++ B) ++ rest ≡ A ++ (B ++ rest) = append_assoc A B rest in
    two_are _ _ _ _
    (ap (big_from 0 4) text ∙ number_here 4 v (B ++ rest) (first_of (λ value. value < 2 ^ 32) v values fit))
    (ap (λ (l : List ℕ). values_at (length values) (drop 4 l)) text ∙ ap (values_at (length values)) (drop_behind A (B ++ rest) 0 4 refl) ∙ values_again values rest (others_of (λ value. value < 2 ^ 32) v values fit))

pub values_more : (n : ℕ) (bytes : List ℕ) → values_at (n + 1) bytes ≡ values_at n bytes ++ big_from (4 * n) 4 bytes ∷ []
values_more n bytes = (let next : n + 1 ≡ suc n = omega arith in ap (λ (k : ℕ). values_at k bytes) next) ∙ more n bytes
  where
    more : (n : ℕ) (bytes : List ℕ) → values_at (suc n) bytes ≡ values_at n bytes ++ big_from (4 * n) 4 bytes ∷ []
    more zero bytes = refl
    more (suc n) bytes =
        let place : 4 + 4 * n ≡ 4 * suc n = omega arith in
        let last : big_from (4 * n) 4 (drop 4 bytes) ≡ big_from (4 * suc n) 4 bytes =
        sym (from_drop (4 * n) 4 (drop 4 bytes)) ∙ ap (big_from 0 4) (drop-drop (4 * n) 4 bytes) ∙ from_drop (4 + 4 * n) 4 bytes ∙ ap (λ (k : ℕ). big_from k 4 bytes) place in
        ap (λ (l : List ℕ). big_from 0 4 bytes ∷ l) (more n (drop 4 bytes) ∙ ap (λ (v : ℕ). values_at n (drop 4 bytes) ++ v ∷ []) last)

-- ---- read and written again

four_are : (w a x b y c z d : ℕ) → w ≡ a → x ≡ b → y ≡ c → z ≡ d → w ∷ x ∷ y ∷ z ∷ [] ≡ a ∷ b ∷ c ∷ d ∷ []
four_are w a x b y c z d e f g h = cc

four_bytes : (a b c d n : ℕ) → a < 256 → b < 256 → c < 256 → d < 256 → n ≡ a * 16777216 + (b * 65536 + (c * 256 + d)) → big_bytes 4 n ≡ a ∷ b ∷ c ∷ d ∷ []
four_bytes a b c d n p q r s e =
    let first : n / 16777216 % 256 ≡ a = omega (arith, e) in
    let second : n / 65536 % 256 ≡ b = omega (arith, e) in
    let third : n / 256 % 256 ≡ c = omega (arith, e) in
    let fourth : n % 256 ≡ d = omega (arith, e) in
    four_are (n / 16777216 % 256) a (n / 65536 % 256) b (n / 256 % 256) c (n % 256) d first second third fourth

pub word_back : (bytes : List ℕ) → 4 ≤ length bytes → AreOctets bytes → big_bytes 4 (big_from 0 4 bytes) ≡ take 4 bytes
word_back [] long all = absurd (omega (arith, long))
word_back (a ∷ []) long all = absurd (omega (arith, long))
word_back (a ∷ b ∷ []) long all = absurd (omega (arith, long))
word_back (a ∷ b ∷ c ∷ []) long all = absurd (omega (arith, long))
word_back (a ∷ b ∷ c ∷ d ∷ more) long all =
    four_bytes a b c d (big_from 0 4 (a ∷ b ∷ c ∷ d ∷ more)) (all 0 0 (omega arith)) (all 1 0 (omega arith)) (all 2 0 (omega arith)) (all 3 0 (omega arith)) (omega arith)

two_joined : (a b x y : List ℕ) → a ≡ x → b ≡ y → a ++ b ≡ x ++ y
two_joined a b x y e f = cc

pub values_back : (n : ℕ) (bytes : List ℕ) → 4 * n ≤ length bytes → AreOctets bytes → flat_map (big_bytes 4) (values_at n bytes) ≡ take (4 * n) bytes
values_back zero bytes long all = refl
values_back (suc n) bytes long all =
    let parted : 4 * suc n ≡ 4 + 4 * n = omega arith in
    two_joined _ _ _ _ (word_back bytes (omega (arith, long)) all) (values_back n (drop 4 bytes) (omega (arith, long, length-drop 4 bytes)) (octets_behind 4 bytes all))
    ∙ sym (take-add 4 (4 * n) bytes) ∙ sym (ap (λ (k : ℕ). take k bytes) parted)

-- ---- a row

row_is : (row other : Row) → other.values.items ≡ row.values.items → other ≡ row
row_is row other e = ap row_of_values e

pub length-row : (row : Row) → length (row_bytes row) ≡ 4 * length row.values.items
unfolding row_bytes
length-row row = length-values_bytes row.values.items

pub row_count : (width place : ℕ) (bytes : List ℕ) → length (row_at width place bytes).values.items ≡ width
unfolding row_at
row_count width place bytes = length-values_at width (drop place bytes)

pub row_drop : (width place : ℕ) (bytes : List ℕ) → row_at width 0 (drop place bytes) ≡ row_at width place bytes
unfolding row_at
row_drop width place bytes = refl

pub row_again : (width : ℕ) (row : Row) (rest : List ℕ) → IsRow row → length row.values.items ≡ width → row_at width 0 (row_bytes row ++ rest) ≡ row
unfolding row_bytes row_at
row_again width row rest is count =
    row_is row _ (ap (λ (n : ℕ). values_at n (flat_map (big_bytes 4) row.values.items ++ rest)) (sym count) ∙ values_again row.values.items rest is.values)

pub row_back : (width : ℕ) (bytes : List ℕ) → 4 * width ≤ length bytes → AreOctets bytes → row_bytes (row_at width 0 bytes) ≡ take (4 * width) bytes
unfolding row_bytes row_at
row_back width bytes long all = values_back width bytes long all

-- ---- one by one

pub length-rows_at : (width n : ℕ) (bytes : List ℕ) → length (rows_at width n bytes) ≡ n
length-rows_at width zero bytes = refl
length-rows_at width (suc n) bytes = omega (arith, length-rows_at width n (drop (4 * width) bytes))

moved : (width k : ℕ) (bytes : List ℕ) → row_at width (4 * width * k) (drop (4 * width) bytes) ≡ row_at width (4 * width * suc k) bytes
moved width k bytes =
    let far : 4 * width + 4 * width * k ≡ 4 * width * suc k = omega arith in
    sym (row_drop width (4 * width * k) (drop (4 * width) bytes)) ∙ ap (row_at width 0) (drop-drop (4 * width * k) (4 * width) bytes) ∙ row_drop width (4 * width + 4 * width * k) bytes ∙ ap (λ (j : ℕ). row_at width j bytes) far

here : (width : ℕ) (bytes : List ℕ) → row_at width 0 bytes ≡ row_at width (4 * width * 0) bytes
here width bytes = let start : 0 ≡ 4 * width * 0 = omega arith in ap (λ (j : ℕ). row_at width j bytes) start

rows_at-suc : (width n : ℕ) (bytes : List ℕ) → rows_at width (suc n) bytes ≡ rows_at width n bytes ++ row_at width (4 * width * n) bytes ∷ []
rows_at-suc width zero bytes = ap (λ (r : Row). r ∷ []) (here width bytes)
rows_at-suc width (suc n) bytes =
    ap (λ (l : List Row). row_at width 0 bytes ∷ l)
    (rows_at-suc width n (drop (4 * width) bytes) ∙ ap (λ (r : Row). rows_at width n (drop (4 * width) bytes) ++ r ∷ []) (moved width n bytes))

pub get-rows_at : (width n : ℕ) (bytes : List ℕ) (k : ℕ) (d : Row) → k < n → get_or (rows_at width n bytes) k d ≡ row_at width (4 * width * k) bytes
get-rows_at width zero bytes k d low = absurd (omega (arith, low))
get-rows_at width (suc n) bytes zero d low = here width bytes
get-rows_at width (suc n) bytes (suc k) d low =
    get-rows_at width n (drop (4 * width) bytes) k d (omega (arith, low)) ∙ moved width k bytes

pub rows_at-more : (width n : ℕ) (bytes : List ℕ) → rows_at width (n + 1) bytes ≡ rows_at width n bytes ++ row_at width (4 * width * n) bytes ∷ []
rows_at-more width n bytes =
    let next : n + 1 ≡ suc n = omega arith in
    ap (λ (m : ℕ). rows_at width m bytes) next ∙ rows_at-suc width n bytes

pub all_rows : (P : Row → Type 0) (width n : ℕ) (bytes : List ℕ) → ((k : ℕ) → k < n → P (row_at width (4 * width * k) bytes)) → All P (rows_at width n bytes)
all_rows P width n bytes each k d low =
    let few : k < n = omega (arith, low, length-rows_at width n bytes) in
    subst P (sym (get-rows_at width n bytes k d few)) (each k few)

pub each_row : (P : Row → Type 0) (width n : ℕ) (bytes : List ℕ) → All P (rows_at width n bytes) → (k : ℕ) → k < n → P (row_at width (4 * width * k) bytes)
each_row P width n bytes all k few =
    subst P (get-rows_at width n bytes k (row_at width 0 bytes) few) (all k (row_at width 0 bytes) (omega (arith, length-rows_at width n bytes, few)))

-- rows from a later place on
pub row_further : (width skipped i : ℕ) (bytes : List ℕ) → row_at width (4 * width * i) (drop (4 * width * skipped) bytes) ≡ row_at width (4 * width * (skipped + i)) bytes
row_further width skipped i bytes =
    let far : 4 * width * skipped + 4 * width * i ≡ 4 * width * (skipped + i) = omega arith in
    sym (row_drop width (4 * width * i) (drop (4 * width * skipped) bytes)) ∙ ap (row_at width 0) (drop-drop (4 * width * i) (4 * width * skipped) bytes) ∙ row_drop width (4 * width * skipped + 4 * width * i) bytes ∙ ap (λ (j : ℕ). row_at width j bytes) far

-- a row of two stretches, one after the other
values_of_front : (n : ℕ) (front back : List ℕ) → 4 * n ≤ length front → values_at n (front ++ back) ≡ values_at n front
values_of_front zero front back long = refl
values_of_front (suc n) front back long =
    let first : big_from 0 4 (front ++ back) ≡ big_from 0 4 front =
    sym (big_from-take 0 4 4 (front ++ back) (omega arith)) ∙ ap (big_from 0 4) (take-append-le 4 front back (omega (arith, long))) ∙ big_from-take 0 4 4 front (omega arith) in
    two_are _ _ _ _ first
    (ap (values_at n) (drop-append-le 4 front back (omega (arith, long))) ∙ values_of_front n (drop 4 front) back (omega (arith, long, length-drop 4 front)))

pub row_of_front : (width : ℕ) (front back : List ℕ) → 4 * width ≤ length front → row_at width 0 (front ++ back) ≡ row_at width 0 front
unfolding row_at
row_of_front width front back long = row_is _ _ (values_of_front width front back long)

pub row_in_front : (width : ℕ) (front back : List ℕ) (i : ℕ) → 4 * width * (i + 1) ≤ length front → row_at width (4 * width * i) (front ++ back) ≡ row_at width (4 * width * i) front
row_in_front width front back i within =
    sym (row_drop width (4 * width * i) (front ++ back)) ∙ ap (row_at width 0) (drop-append-le (4 * width * i) front back (omega (arith, within)))
    ∙ row_of_front width (drop (4 * width * i) front) back (omega (arith, within, length-drop (4 * width * i) front)) ∙ row_drop width (4 * width * i) front

pub row_in_back : (width : ℕ) (front back : List ℕ) (i k : ℕ) → length front ≡ 4 * width * k → row_at width (4 * width * (k + i)) (front ++ back) ≡ row_at width (4 * width * i) back
row_in_back width front back i k long =
    sym (row_drop width (4 * width * (k + i)) (front ++ back)) ∙ ap (row_at width 0) (drop_behind front back (4 * width * i) (4 * width * (k + i)) (omega (arith, long))) ∙ row_drop width (4 * width * i) back

-- ---- what is read is a row

values_fit : (n : ℕ) (bytes : List ℕ) → AreOctets bytes → All (λ value. value < 2 ^ 32) (values_at n bytes)
values_fit zero bytes octets k d low = absurd (omega (arith, low))
values_fit (suc n) bytes octets zero d low = big_from-lt 0 4 bytes (octet_at bytes octets)
  where
    octet_at : (bytes : List ℕ) → AreOctets bytes → (k : ℕ) → get_or bytes k 0 < 256
    octet_at [] octets k = omega arith
    octet_at (b ∷ bytes) octets zero = octets 0 0 (omega arith)
    octet_at (b ∷ bytes) octets (suc k) = octet_at bytes (λ j d low. octets (suc j) d (omega (arith, low))) k
values_fit (suc n) bytes octets (suc k) d low = values_fit n (drop 4 bytes) (octets_behind 4 bytes octets) k d (omega (arith, low))

pub is_row : (width place : ℕ) (bytes : List ℕ) → width ≤ 4 → AreOctets bytes → IsRow (row_at width place bytes)
unfolding row_at
is_row width place bytes few octets =
    record { count = omega (arith, few, length-values_at width (drop place bytes)); values = values_fit width (drop place bytes) (octets_behind place bytes octets) }

-- the bytes of a place are those of the row that is read there
pub placed : (width : ℕ) (bytes : List ℕ) (i : ℕ) → 4 * width * (i + 1) ≤ length bytes → AreOctets bytes → take (4 * width) (drop (4 * width * i) bytes) ≡ row_bytes (row_at width (4 * width * i) bytes)
placed width bytes i within octets =
    sym (row_back width (drop (4 * width * i) bytes) (omega (arith, within, length-drop (4 * width * i) bytes)) (octets_behind (4 * width * i) bytes octets)) ∙ ap row_bytes (row_drop width (4 * width * i) bytes)

-- rows of the same bytes are the same
pub one_row : (width : ℕ) (row other : Row) → IsRow row → IsRow other → length row.values.items ≡ width → length other.values.items ≡ width → row_bytes row ≡ row_bytes other → row ≡ other
one_row width row other is also count counts same =
    sym (row_again width row [] is count) ∙ ap (λ (l : List ℕ). row_at width 0 (l ++ [])) same ∙ row_again width other [] also counts
