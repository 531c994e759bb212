-- One row later.
use Rattle.std.proofs.Common.{◌≡◌, ℕ, zero, suc, ◌+◌, ◌-◌, ◌^◌, ◌<◌, ◌≤◌, min, Bool, true, false, not, cond, List, [], ◌∷◌, ◌++◌, length, map, reverse, take, drop, set, get_or, Option, Some, None, unwrap_or, refl, sym, ap, subst, ◌∙◌, append_assoc, arith, add-one, replicate, Ok}
use Rattle.std.specs.List.{find, take_while}
use Rattle.std.proofs.lemmas.List.{reverse-append, map-append, length-append}
use Rattle.std.proofs.lemmas.List.Sums.{take_while-cons}
use Rattle.std.proofs.lemmas.Bool.{eq-eqb}
use Rattle.dlms_values.specs.Value.{Value, Values, null, structure, none, cons, count}
use Rattle.dlms_buffer.specs.Rows.{listed, row_of, is_null, is_given, last_given, rows_since, column}
use Rattle.dlms_buffer.specs.View.{Shown, shown, ShowRows}
use Rattle.dlms_buffer.specs.Steps.{step, steps}

capped : (n : ℕ) → min (suc n) (2 ^ 64 - 1) ≡ min (min n (2 ^ 64 - 1) + 1) (2 ^ 64 - 1)
capped n = omega arith

-- a column's last value, and then one more
pub shown-more : (values : List Value) (v : Value) → shown (values ++ v ∷ []) ≡ step (shown values) v
unfolding last_given rows_since
shown-more values v = rw (reverse-append values (v ∷ [])) (by_null (is_null v) refl)
  where
    front : List Value
    front = reverse values

    by_null : (b : Bool) → is_null v ≡ b → (unwrap_or (find is_given (v ∷ front)) null, min (length (take_while is_null (v ∷ front))) (2 ^ 64 - 1)) ≡ step (unwrap_or (find is_given front) null, min (length (take_while is_null front)) (2 ^ 64 - 1)) v
    by_null true e = rw (take_while-cons is_null v front, e) (ap (λ (n : ℕ). (unwrap_or (find is_given front) null, n)) (capped (length (take_while is_null front))))
    by_null false e = rw (take_while-cons is_null v front, e) refl

pub column-more : (rows : List (List Value)) (values : List Value) (j : ℕ) → column j (rows ++ values ∷ []) ≡ column j rows ++ get_or values j null ∷ []
column-more rows values j = map-append (λ (row : List Value). get_or row j null) rows (values ∷ [])

-- a cell after the step of its row
get-steps : (cells : List Shown) (values : List Value) (j : ℕ) → length values ≡ length cells → j < length cells → get_or (steps cells values) j (null, 0) ≡ step (get_or cells j (null, 0)) (get_or values j null)
get-steps [] values j same lt = absurd (omega arith)
get-steps (c ∷ cells) [] j same lt = absurd (omega arith)
get-steps (c ∷ cells) (v ∷ values) zero same lt = refl
get-steps (c ∷ cells) (v ∷ values) (suc j) same lt = get-steps cells values j (omega arith) (omega arith)

pub length-steps : (cells : List Shown) (values : List Value) → length (steps cells values) ≡ length cells
length-steps [] values = refl
length-steps (c ∷ cells) [] = refl
length-steps (c ∷ cells) (v ∷ values) = ap suc (length-steps cells values)

-- cells that show rows show the next row after it
pub shows-next : (rows : List (List Value)) (values : List Value) (cells : List Shown) → length values ≡ length cells → ShowRows rows cells → ShowRows (rows ++ values ∷ []) (steps cells values)
shows-next rows values cells same h j lt =
    let within : j < length cells = omega (arith, length-steps cells values) in
    get-steps cells values j same within ∙ ap (λ (c : Shown). step c (get_or values j null)) (h j within)
    ∙ sym (shown-more (column j rows) (get_or values j null)) ∙ sym (ap shown (column-more rows values j))

pub length-listed : (vs : Values) → length (listed vs) ≡ count vs
length-listed none = refl
length-listed (cons v vs) = ap suc (length-listed vs)

-- before the first row nothing is shown
none_shown : shown [] ≡ (null, 0)
unfolding last_given rows_since
none_shown = refl

abbrev nothing : Shown
nothing = (null, 0)

same_everywhere : (n j : ℕ) → get_or (replicate n nothing) j nothing ≡ nothing
same_everywhere zero j = refl
same_everywhere (suc n) zero = refl
same_everywhere (suc n) (suc j) = same_everywhere n j

pub shows-none : (cells : List Shown) (n : ℕ) → cells ≡ replicate n (null, 0) → ShowRows [] cells
shows-none cells n e j lt = ap (λ (c : List Shown). get_or c j (null, 0)) e ∙ same_everywhere n j ∙ sym none_shown

pub replicate-more : (n : ℕ) (x : Shown) → replicate n x ++ x ∷ [] ≡ replicate (n + 1) x
replicate-more n x = rw add-one (by_count n)
  where
    by_count : (k : ℕ) → replicate k x ++ x ∷ [] ≡ replicate (suc k) x
    by_count zero = refl
    by_count (suc k) = ap (λ (xs : List Shown). x ∷ xs) (by_count k)

pub row_is : (width : ℕ) (vs : Values) → count vs ≡ width → row_of width (structure vs) ≡ Ok (listed vs)
row_is width vs e = rw (eq-eqb (count vs) width e) refl

pub taken_row : (old : List Shown) (vs : Values) (new : List Shown) → count vs ≡ length old → new ≡ steps old (listed vs) → (rows : List (List Value)) → ShowRows rows old → ShowRows (rows ++ listed vs ∷ []) new
taken_row old vs new same e rows h =
    subst (ShowRows (rows ++ listed vs ∷ [])) (sym e) (shows-next rows (listed vs) old (length-listed vs ∙ same) h)

pub given_row : (old : List Shown) (values : List Value) (new : List Shown) → length values ≡ length old → new ≡ steps old values → (rows : List (List Value)) → ShowRows rows old → ShowRows (rows ++ values ∷ []) new
given_row old values new same e rows h = subst (ShowRows (rows ++ values ∷ [])) (sym e) (shows-next rows values old same h)
