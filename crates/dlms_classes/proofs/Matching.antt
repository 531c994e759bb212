-- Values that show elements, one after the other.
use Rattle.std.proofs.Common.{◌≡◌, refl, ap, ap₂, ◌∙◌, arith, length-drop, append-nil, ℕ, zero, suc, ◌+◌, ◌-◌, ◌<◌, ◌≤◌, List, [], ◌∷◌, ◌++◌, length, take, drop, map, get_or, slice_index, slice_range, append_assoc}
use Rattle.std.proofs.lemmas.List.{take_more, take_all, get_or-drop, map-append}
use Rattle.std.specs.Prelude.{All}
use Rattle.std.proofs.lemmas.List.Elements.{All-tail, All-filter, All-take, All-drop}
use Rattle.dlms_data.specs.Value.{Value, Values, none, cons, push_value}
use Rattle.dlms_profile.specs.declared.rows.Row.{Row}
use Rattle.dlms_profile.specs.Rows.{in_range, is_between, entries}
use Rattle.dlms_classes.specs.declared.rows.Cell.{Cell}
use Rattle.dlms_classes.specs.declared.rows.Cell.TheVariants.{Number}
use Rattle.dlms_state.specs.Columns.{IsRowOf}
use Rattle.dlms_classes.specs.Shown.{Match, IsCell, HasTime, cell_of, cells_of, cells}
use Rattle.dlms_state.specs.declared.event.TheConstants.{LAST_SECOND}

-- one more of both
pub Match-push : {X : Type 0} (R : X → Value → Type 0) (xs : List X) (vs : Values) (x : X) (v : Value) → Match R xs vs → R x v → Match R (xs ++ x ∷ []) (push_value vs v)
Match-push R [] none x v h r = (r, tt)
Match-push R [] (cons w ws) x v h r = absurd h
Match-push R (y ∷ xs) none x v h r = absurd h
Match-push R (y ∷ xs) (cons w ws) x v h r = (h.0, Match-push R xs ws x v h.1 r)

-- the next element, and the value pushed for it
pub matches_more : {X : Type 0} (R : X → Value → Type 0) (xs : List X) (i : ℕ) (d : X) (vs ws : Values) (v : Value) → i < length xs → ws ≡ push_value vs v → Match R (take i xs) vs
    → R (get_or xs i d) v → Match R (take (i + 1) xs) ws
matches_more R xs i d vs ws v lt e h r = rw (take_more xs i d lt, e) (Match-push R (take i xs) vs (get_or xs i d) v h r)

-- the next of some elements after others
pub rows_more : {X Y : Type 0} (R : Y → Value → Type 0) (f : X → Y) (xs : List X) (i : ℕ) (d : X) (done : List Y) (vs ws : Values) (v : Value) → i < length xs → ws ≡ push_value vs v
    → Match R (done ++ map f (take i xs)) vs → R (f (get_or xs i d)) v → Match R (done ++ map f (take (i + 1) xs)) ws
rows_more R f xs i d done vs ws v lt e h r =
    rw (take_more xs i d lt, map-append, ← append_assoc, e) (Match-push R (done ++ map f (take i xs)) vs (f (get_or xs i d)) v h r)

-- ---- the fields of rows

-- the field at a place
pub cell_at : (columns values : List ℕ) (i : ℕ) (d : Cell) → i < length columns → length values ≡ length columns
    → get_or (cells_of columns values) i d ≡ cell_of (slice_index columns i) (slice_index values i)
cell_at [] values i d lt same = absurd (omega arith)
cell_at (id ∷ columns) [] i d lt same = absurd (omega arith)
cell_at (id ∷ columns) (value ∷ values) zero d lt same = refl
cell_at (id ∷ columns) (value ∷ values) (suc i) d lt same = cell_at columns values i d (omega arith) (omega arith)

pub count_cells : (columns values : List ℕ) → length values ≡ length columns → length (cells_of columns values) ≡ length columns
count_cells [] values same = refl
count_cells (id ∷ columns) [] same = absurd (omega arith)
count_cells (id ∷ columns) (value ∷ values) same = let rest = count_cells columns values (omega arith) in omega (arith, rest)

pub few_cells : (columns values : List ℕ) → length (cells_of columns values) ≤ length columns
few_cells [] values = omega arith
few_cells (id ∷ columns) [] = omega arith
few_cells (id ∷ columns) (value ∷ values) = let rest = few_cells columns values in omega (arith, rest)

-- one more of a part of a list
pub range_more : {X : Type 0} (xs : List X) (first i : ℕ) (d : X) → first ≤ i → i < length xs → slice_range xs first (i + 1) ≡ slice_range xs first i ++ get_or xs i d ∷ []
range_more xs first i d le lt =
    let steps : (i + 1) - first ≡ (i - first) + 1 = omega (arith, le) in
    let place : first + (i - first) ≡ i = omega (arith, le) in
    let low : i - first < length (drop first xs) = omega (arith, le, lt, length-drop first xs) in
    let at : get_or (drop first xs) (i - first) d ≡ get_or xs i d = get_or-drop first xs (i - first) d ∙ ap (λ (k : ℕ). get_or xs k d) place in
    rw (steps, take_more (drop first xs) (i - first) d low, at) refl

-- one more field of a row
pub fields_more : (columns values : List ℕ) (first i : ℕ) (vs ws : Values) (v : Value) → first ≤ i → i < length columns → length values ≡ length columns → ws ≡ push_value vs v
    → Match IsCell (slice_range (cells_of columns values) first i) vs → IsCell (cell_of (slice_index columns i) (slice_index values i)) v
    → Match IsCell (slice_range (cells_of columns values) first (i + 1)) ws
fields_more columns values first i vs ws v le lt same e h r =
    let count = count_cells columns values same in
    let at = cell_at columns values i (Number 0) lt same in
    rw (range_more (cells_of columns values) first i (Number 0) le (omega (arith, count)), at, e)
    (Match-push IsCell (slice_range (cells_of columns values) first i) vs (cell_of (slice_index columns i) (slice_index values i)) v h r)

-- the clock of a row is in its range
time_in : (id value : ℕ) → (id ≡ 0 → value ≤ LAST_SECOND) → HasTime (cell_of id value)
time_in zero value h = h refl
time_in (suc id) value h = tt

pub field_has_time : (columns : List ℕ) (row : Row) (i : ℕ) → IsRowOf columns row → i < length columns → HasTime (cell_of (slice_index columns i) (slice_index row.values.items i))
field_has_time columns row i is lt = time_in (slice_index columns i) (slice_index row.values.items i) (is.clock i lt)

-- all columns of each row
pub all_columns : (columns : List ℕ) (rows : List Row) → map (λ row. slice_range (cells columns row) 0 (length columns)) rows ≡ map (cells columns) rows
all_columns columns [] = refl
all_columns columns (row ∷ rows) =
    let few : length (cells columns row) ≤ length columns - 0 = omega (arith, few_cells columns row.values.items) in
    ap₂ (λ x l. x ∷ l) (take_all (length columns - 0) (cells columns row) few) (all_columns columns rows)

-- ---- the rows that are selected

-- what holds of all rows holds of those that are selected
pub rows_in_range : (columns : List ℕ) (place from to : ℕ) (rows : List Row) → All (IsRowOf columns) rows → All (IsRowOf columns) (in_range place from to rows)
rows_in_range columns place from to rows h = All-filter (is_between place from to) (IsRowOf columns) rows h

pub rows_of_entries : (columns : List ℕ) (first last : ℕ) (rows : List Row) → All (IsRowOf columns) rows → All (IsRowOf columns) (entries first last rows)
rows_of_entries columns first last rows h = All-take (IsRowOf columns) _ _ (All-drop (IsRowOf columns) _ rows h)

pub rows_behind : (columns : List ℕ) (older newer : List Row) → All (IsRowOf columns) (older ++ newer) → All (IsRowOf columns) newer
rows_behind columns [] newer h = h
rows_behind columns (row ∷ older) newer h = rows_behind columns older newer (All-tail (IsRowOf columns) row (older ++ newer) h)

-- all entries, and all columns of each
all_entries : (rows : List Row) → entries 1 0 rows ≡ rows
all_entries rows = take_all (length rows - 0) rows (omega arith)

pub all_cut : (columns : List ℕ) (rows : List Row) → map (λ row. slice_range (cells columns row) 0 (length columns)) (entries 1 0 rows) ≡ map (cells columns) rows
all_cut columns rows = ap (λ (l : List Row). map (λ row. slice_range (cells columns row) 0 (length columns)) l) (all_entries rows) ∙ all_columns columns rows

pub all_of_found : (columns : List ℕ) (found rows : List Row) → found ≡ rows → map (λ row. slice_range (cells columns row) 0 (length columns)) (found ++ []) ≡ map (cells columns) rows
all_of_found columns found rows e = rw (append-nil found, e) (all_columns columns rows)
