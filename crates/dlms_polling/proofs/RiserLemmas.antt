-- The rows that are later than every row before them, one row after another.
use Rattle.std.proofs.Common.{◌≡◌, ◌<◌, ◌&&◌, ℕ, Bool, true, false, cond, Option, Some, List, [], ◌∷◌, ◌++◌, length, take, nat_lt, refl, sym, ◌∙◌, ap, arith, slice_index_or, ◌+◌, inl, inr, ⊎_elim}
use Rattle.std.specs.Prelude.{filter}
use Rattle.std.proofs.lemmas.List.{take_more}
use Rattle.std.proofs.lemmas.List.Elements.{All-cons, All-filter, All-head, All-tail, filter-append}
use Rattle.dlms_headend.specs.Merged.{is_later}
use Rattle.dlms_headend.specs.Rows.{AreReadings, IsReading}
use Rattle.dlms_world.specs.Sublists.{IsSublist}
use Rattle.dlms_polling.specs.Risers.{FilesSome, risers}
use Rattle.dlms_headend.specs.declared.row.Row.{Row}

-- the row is later than each of these
abbrev pub is_after_all : Row → List Row → Bool
is_after_all y [] = true
is_after_all y (x ∷ xs) = nat_lt x.clock y.clock && is_after_all y xs

one_end : (p : Row → Bool) (b : Bool) (y : Row) → filter p (cond b (y ∷ []) []) ≡ cond (p y && b) (y ∷ []) []
one_end p true y = elim (p y) as (λ v. cond v (y ∷ []) [] ≡ cond (v && true) (y ∷ []) []) [ true ↦ refl | false ↦ refl ]
one_end p false y = elim (p y) as (λ v. [] ≡ cond (v && false) (y ∷ []) []) [ true ↦ refl | false ↦ refl ]

pub risers_more : (xs : List Row) (y : Row) → risers (xs ++ y ∷ []) ≡ risers xs ++ cond (is_after_all y xs) (y ∷ []) []
risers_more [] y = refl
risers_more (x ∷ xs) y =
    ap (λ rs. x ∷ filter (is_later (Some x.clock)) rs) (risers_more xs y)
    ∙ ap (λ rs. x ∷ rs) (filter-append (is_later (Some x.clock)) (risers xs) (cond (is_after_all y xs) (y ∷ []) []))
    ∙ ap (λ last. x ∷ (filter (is_later (Some x.clock)) (risers xs) ++ last)) (one_end (is_later (Some x.clock)) (is_after_all y xs) y)

after_more : (y : Row) (xs : List Row) (x : Row) → is_after_all y (xs ++ x ∷ []) ≡ is_after_all y xs && nat_lt x.clock y.clock
after_more y [] x = elim (nat_lt x.clock y.clock) as (λ v. (v && true) ≡ (true && v)) [ true ↦ refl | false ↦ refl ]
after_more y (first ∷ xs) x =
    ap (λ b. nat_lt first.clock y.clock && b) (after_more y xs x)
    ∙ elim (nat_lt first.clock y.clock) as (λ v. (v && (is_after_all y xs && nat_lt x.clock y.clock)) ≡ ((v && is_after_all y xs) && nat_lt x.clock y.clock)) [ true ↦ refl | false ↦ refl ]

less_trans : (a b c : ℕ) → nat_lt a b ≡ true → nat_lt b c ≡ true → nat_lt a c ≡ true
less_trans a b c first second = grind (arith, first, second)

both : (a b : Bool) → (a && b) ≡ true → (a ≡ true) × (b ≡ true)
both true true is = (refl, refl)
both true false is = cc
both false b is = cc

and_true : (a b : Bool) → a ≡ true → b ≡ true → (a && b) ≡ true
and_true true true is other = refl
and_true true false is other = cc
and_true false b is other = cc

after_later : (row y : Row) (xs : List Row) → is_after_all row xs ≡ true → nat_lt row.clock y.clock ≡ true → is_after_all y xs ≡ true
after_later row y [] is less = refl
after_later row y (x ∷ xs) is less =
    let parts = both (nat_lt x.clock row.clock) (is_after_all row xs) is in
    and_true (nat_lt x.clock y.clock) (is_after_all y xs) (less_trans x.clock row.clock y.clock parts.0 less) (after_later row y xs parts.1 less)

not_below : (a b c : ℕ) → nat_lt a b ≡ false → nat_lt a c ≡ true → nat_lt b c ≡ true
not_below a b c first second = grind (arith, first, second)

not_after : (row y : Row) (xs : List Row) → is_after_all row xs ≡ false → is_after_all y xs ≡ true → nat_lt row.clock y.clock ≡ true
not_after row y [] is after = cc
not_after row y (x ∷ xs) is after =
    let parts = both (nat_lt x.clock y.clock) (is_after_all y xs) after in
    elim (nat_lt x.clock row.clock) as (λ v. nat_lt x.clock row.clock ≡ v → (v && is_after_all row xs) ≡ false → nat_lt row.clock y.clock ≡ true) [
      | true ↦ λ less rest. not_after row y xs rest parts.1
      | false ↦ λ less rest. not_below x.clock row.clock y.clock less parts.0
    ] refl is

-- a clock decides for each row whether it is later than all of these
abbrev pub IsLatest : Option ℕ → List Row → Type 0
IsLatest latest xs = (y : Row) → is_later latest y ≡ is_after_all y xs

pub latest_more : (latest : Option ℕ) (row : Row) (xs : List Row) → IsLatest latest xs → is_later latest row ≡ true → IsLatest (Some row.clock) (xs ++ row ∷ [])
latest_more latest row xs known later = λ y.
    elim (nat_lt row.clock y.clock) as (λ v. nat_lt row.clock y.clock ≡ v → nat_lt row.clock y.clock ≡ is_after_all y (xs ++ row ∷ [])) [
      | true ↦ λ less. less ∙ sym (after_more y xs row ∙ and_true (is_after_all y xs) (nat_lt row.clock y.clock) (after_later row y xs (sym (known row) ∙ later) less) less)
      | false ↦ λ less. less ∙ sym (after_more y xs row ∙ ap (λ b. is_after_all y xs && b) less ∙ elim (is_after_all y xs) as (λ v. (v && false) ≡ false) [ true ↦ refl | false ↦ refl ])
    ] refl

pub latest_same : (latest : Option ℕ) (row : Row) (xs : List Row) → IsLatest latest xs → is_later latest row ≡ false → IsLatest latest (xs ++ row ∷ [])
latest_same latest row xs known later = λ y.
    known y ∙ sym (after_more y xs row ∙ elim (is_after_all y xs) as (λ v. is_after_all y xs ≡ v → (v && nat_lt row.clock y.clock) ≡ v) [
      | true ↦ λ after. not_after row y xs (sym (known row) ∙ later) after
      | false ↦ λ after. refl
    ] refl)

-- the step of the loop, for a row that is kept, and for one that is not
pub kept_one : (latest : Option ℕ) (row : Row) (xs kept : List Row) → IsLatest latest xs → kept ≡ risers xs → is_later latest row ≡ true → kept ++ row ∷ [] ≡ risers (xs ++ row ∷ [])
kept_one latest row xs kept known are later =
    ap (λ rs. rs ++ row ∷ []) are ∙ sym (risers_more xs row ∙ ap (λ b. risers xs ++ cond b (row ∷ []) []) (sym (known row) ∙ later))

append_none : (xs : List Row) → xs ++ [] ≡ xs
append_none [] = refl
append_none (x ∷ xs) = ap (λ rest. x ∷ rest) (append_none xs)

pub kept_none : (latest : Option ℕ) (row : Row) (xs kept : List Row) → IsLatest latest xs → kept ≡ risers xs → is_later latest row ≡ false → kept ≡ risers (xs ++ row ∷ [])
kept_none latest row xs kept known are later =
    are ∙ sym (risers_more xs row ∙ ap (λ b. risers xs ++ cond b (row ∷ []) []) (sym (known row) ∙ later) ∙ append_none (risers xs))

pub step_kept : (rows : List Row) (i : ℕ) (d : Row) (latest : Option ℕ) (kept : List Row) → i < length rows → kept ≡ risers (take i rows) → IsLatest latest (take i rows) → is_later latest (slice_index_or rows i d) ≡ true
    → (kept ++ slice_index_or rows i d ∷ [] ≡ risers (take (i + 1) rows)) × IsLatest (Some (slice_index_or rows i d).clock) (take (i + 1) rows)
step_kept rows i d latest kept within are known later =
    let row = slice_index_or rows i d in
    let more : take (i + 1) rows ≡ take i rows ++ row ∷ [] = take_more rows i d within in
    rw more (kept_one latest row (take i rows) kept known are later, latest_more latest row (take i rows) known later)

pub step_same : (rows : List Row) (i : ℕ) (d : Row) (latest : Option ℕ) (kept : List Row) → i < length rows → kept ≡ risers (take i rows) → IsLatest latest (take i rows) → is_later latest (slice_index_or rows i d) ≡ false
    → (kept ≡ risers (take (i + 1) rows)) × IsLatest latest (take (i + 1) rows)
step_same rows i d latest kept within are known later =
    let row = slice_index_or rows i d in
    let more : take (i + 1) rows ≡ take i rows ++ row ∷ [] = take_more rows i d within in
    rw more (kept_none latest row (take i rows) kept known are later, latest_same latest row (take i rows) known later)

-- ---- some of the rows, in their order

longer : (kept rows : List Row) (row : Row) → IsSublist kept rows → IsSublist kept (row ∷ rows)
longer [] rows row some = tt
longer (k ∷ ks) rows row some = inr some

chosen : (p : Row → Bool) (kept rows : List Row) → IsSublist kept rows → IsSublist (filter p kept) rows
chosen p [] rows some = tt
chosen p (k ∷ ks) [] some = absurd some
chosen p (k ∷ ks) (row ∷ rows) some =
    ⊎_elim (λ (is : (k ≡ row) × IsSublist ks rows).
    elim (p k) as (λ v. IsSublist (cond v (k ∷ filter p ks) (filter p ks)) (row ∷ rows)) [ true ↦ inl (is.0, chosen p ks rows is.1) | false ↦ longer (filter p ks) rows row (chosen p ks rows is.1) ])
    (λ is. longer (filter p (k ∷ ks)) rows row (chosen p (k ∷ ks) rows is)) some

pub files_some : FilesSome
files_some [] = tt
files_some (row ∷ rows) = inl (refl, chosen (is_later (Some row.clock)) (risers rows) rows (files_some rows))

pub risers_are_readings : (rows : List Row) → AreReadings rows → AreReadings (risers rows)
risers_are_readings [] are = are
risers_are_readings (row ∷ rows) are =
    All-cons IsReading row (filter (is_later (Some row.clock)) (risers rows)) (All-head IsReading row rows are)
    (All-filter (is_later (Some row.clock)) IsReading (risers rows) (risers_are_readings rows (All-tail IsReading row rows are)))
