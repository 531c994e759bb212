-- Encodings that are put together, one after the other.
use Rattle.std.proofs.Common.{◌≡◌, refl, sym, ap, ap₂, subst, ◌∙◌, arith, append-nil, append_assoc, length-drop, length-take, ℕ, zero, suc, ◌+◌, ◌-◌, ◌<◌, ◌≤◌, true, false, if◌then◌else◌, List, [], ◌∷◌, ◌++◌, length, take, drop, map, filter, get_or, slice_index, slice_range}
use Rattle.std.specs.Prelude.{nat_eq, not, ◌≢◌}
use Rattle.std.proofs.lemmas.List.Filters.{length-filter_both}
use Rattle.std.proofs.lemmas.List.{take_more, take_all, map-append, length-append, length-map}
use Rattle.std.specs.Prelude.{All}
use Rattle.std.proofs.lemmas.List.Elements.{filter-append, All-cons, All-nil, All-head, All-tail, All-take, All-drop}
use Rattle.dlms_state.specs.Columns.{IsRowOf}
use Rattle.std.specs.List.{enumerate_from}
use Rattle.dlms_data.specs.Value.{Value, Values, array, structure, none, cons, push_value, count}
use Rattle.dlms_data.specs.Writing.{canonical, all_canonical, short_length}
use Rattle.dlms_data.specs.declared.descriptor.Descriptor.{Descriptor}
use Rattle.dlms_frame.specs.declared.client.Client.{Client}
use Rattle.dlms_profile.specs.declared.rows.Row.{Row}
use Rattle.dlms_profile.specs.Rows.{entries}
use Rattle.dlms_state.specs.StateValue.{StateValue}
use Rattle.dlms_classes.specs.declared.table.Object.{Object}
use Rattle.dlms_classes.specs.declared.table.Content.{Content}
use Rattle.dlms_classes.specs.declared.table.Content.TheVariants.{Buffer}
use Rattle.dlms_classes.specs.declared.choosing.Choice.{Choice}
use Rattle.dlms_classes.specs.declared.choosing.Choice.TheVariants.{Whole, Between, Cut}
use Rattle.dlms_classes.specs.declared.rows.Cell.{Cell}
use Rattle.dlms_classes.specs.declared.rows.Cell.TheVariants.{Number}
use Rattle.dlms_classes.specs.Encoded.{IsPut, ArePut, chooses}
use Rattle.dlms_classes.specs.Choice.{Picks}
use Rattle.dlms_classes.specs.Listing.{map_values, listed, object_list}
use Rattle.dlms_classes.specs.Table.{Entry, entry_of, objects}
use Rattle.dlms_classes.specs.Shown.{Match, IsRow, IsCell, IsTable, Part, whole, between, cut, Shows, shown, part_shown, cell_of, cells_of, cells, columns_between, last_column}
use Rattle.dlms_classes.proofs.Listed.{listed_more, mapped_more, values_more}
use Rattle.dlms_classes.proofs.Matching.{Match-push, range_more, cell_at, count_cells}

-- the spelling of one more value is at the end
pub all_canonical-push : (vs : Values) (v : Value) → all_canonical (push_value vs v) ≡ all_canonical vs ++ canonical v
all_canonical-push none v = append-nil (canonical v)
all_canonical-push (cons w vs) v = ap (λ (l : List ℕ). canonical w ++ l) (all_canonical-push vs v) ∙ sym (append_assoc (canonical w) (all_canonical vs) (canonical v))

-- as many values as elements
pub count_match : {X : Type 0} (R : X → Value → Type 0) (xs : List X) (vs : Values) → Match R xs vs → count vs ≡ length xs
count_match R [] none h = refl
count_match R [] (cons v vs) h = absurd h
count_match R (x ∷ xs) none h = absurd h
count_match R (x ∷ xs) (cons v vs) h = ap suc (count_match R xs vs h.1)

-- one more of both
pub put_more : {X : Type 0} (R : X → Value → Type 0) (xs : List X) (x : X) (old middle new : List ℕ) → ArePut R xs old middle → IsPut (R x) middle new → ArePut R (xs ++ x ∷ []) old new
put_more R xs x old middle new (vs, shows, is) (v, holds, more) = (
  push_value vs v,
  Match-push R xs vs x v shows holds,
  more ∙ ap (λ (l : List ℕ). l ++ canonical v) is ∙ append_assoc old (all_canonical vs) (canonical v) ∙ ap (λ (l : List ℕ). old ++ l) (sym (all_canonical-push vs v)),
)

-- elements after others
Match-append : {X : Type 0} (R : X → Value → Type 0) (xs ys : List X) (vs ws : Values) → Match R xs vs → Match R ys ws → (us : Values) × Match R (xs ++ ys) us × (all_canonical us ≡ all_canonical vs ++ all_canonical ws)
Match-append R [] ys none ws h k = (ws, k, refl)
Match-append R [] ys (cons v vs) ws h k = absurd h
Match-append R (x ∷ xs) ys none ws h k = absurd h
Match-append R (x ∷ xs) ys (cons v vs) ws h k =
    let rest = Match-append R xs ys vs ws h.1 k in
    (cons v rest.0, (h.0, rest.1), ap (λ (l : List ℕ). canonical v ++ l) rest.2 ∙ sym (append_assoc (canonical v) (all_canonical vs) (all_canonical ws)))

pub put_behind : {X : Type 0} (R : X → Value → Type 0) (xs ys : List X) (old middle new : List ℕ) → ArePut R xs old middle → ArePut R ys middle new → ArePut R (xs ++ ys) old new
put_behind R xs ys old middle new (vs, shows, is) (ws, more, was) =
    let both = Match-append R xs ys vs ws shows more in
    (both.0, both.1, was ∙ ap (λ (l : List ℕ). l ++ all_canonical ws) is ∙ append_assoc old (all_canonical vs) (all_canonical ws) ∙ ap (λ (l : List ℕ). old ++ l) (sym both.2))

-- nothing yet
pub put_none : {X : Type 0} (R : X → Value → Type 0) (old : List ℕ) → ArePut R [] old old
put_none R old = (none, tt, sym (append-nil old))

-- no field yet
no_field : {X : Type 0} (xs : List X) (first : ℕ) → slice_range xs first first ≡ []
no_field xs first = let none : first - first ≡ 0 = omega arith in ap (λ (n : ℕ). take n (drop first xs)) none

pub nothing_put : (cs : List Cell) (first : ℕ) (old new : List ℕ) → new ≡ old → ArePut IsCell (slice_range cs first first) old new
nothing_put cs first old new e = rw (no_field cs first, e) (put_none IsCell old)

-- as many fields as columns
pub count_range : (columns values : List ℕ) (first end : ℕ) → length values ≡ length columns → end ≤ length columns → end - first ≡ length (slice_range (cells_of columns values) first end)
count_range columns values first end same le =
    omega (arith, count_cells columns values same, length-take (end - first) (drop first (cells_of columns values)), length-drop first (cells_of columns values))

-- one more field of a row
pub fields_put : (columns values : List ℕ) (first i : ℕ) (old middle new : List ℕ) → first ≤ i → i < length columns → length values ≡ length columns
    → ArePut IsCell (slice_range (cells_of columns values) first i) old middle → IsPut (IsCell (cell_of (slice_index columns i) (slice_index values i))) middle new
    → ArePut IsCell (slice_range (cells_of columns values) first (i + 1)) old new
fields_put columns values first i old middle new le lt same so_far more =
    let count = count_cells columns values same in
    rw (range_more (cells_of columns values) first i (Number 0) le (omega (arith, count)), cell_at columns values i (Number 0) lt same)
    (put_more IsCell (slice_range (cells_of columns values) first i) (cell_of (slice_index columns i) (slice_index values i)) old middle new so_far more)

-- a row after its head
pub row_put : (cs : List Cell) (n : ℕ) (old new : List ℕ) → n ≡ length cs → ArePut IsCell cs (old ++ 2 ∷ short_length n) new → IsPut (IsRow cs) old new
row_put cs n old new e (vs, shows, is) =
    let number : n ≡ count vs = e ∙ sym (count_match IsCell cs vs shows) in
    (structure vs, shows, is ∙ append_assoc old (2 ∷ short_length n) (all_canonical vs) ∙ ap (λ (k : ℕ). old ++ 2 ∷ (short_length k ++ all_canonical vs)) number)

-- a table after its head
pub table_put : (rows : List (List Cell)) (n : ℕ) (old new : List ℕ) → n ≡ length rows → ArePut IsRow rows (old ++ 1 ∷ short_length n) new → IsPut (IsTable rows) old new
table_put rows n old new e (vs, shows, is) =
    let number : n ≡ count vs = e ∙ sym (count_match IsRow rows vs shows) in
    (array vs, shows, is ∙ append_assoc old (1 ∷ short_length n) (all_canonical vs) ∙ ap (λ (k : ℕ). old ++ 1 ∷ (short_length k ++ all_canonical vs)) number)

-- ---- the rows that are chosen

pub chosen_put : (f : Row → List Cell) (choice : Choice) (row : Row) (old new : List ℕ) → chooses choice row ≡ true → IsPut (IsRow (f row)) old new → ArePut IsRow (map f (filter (chooses choice) (row ∷ []))) old new
chosen_put f choice row old new h (v, holds, is) = rw h (cons v none, (holds, tt), is ∙ ap (λ (l : List ℕ). old ++ l) (sym (append-nil (canonical v))))

pub skipped_put : (f : Row → List Cell) (choice : Choice) (row : Row) (old : List ℕ) → chooses choice row ≡ false → ArePut IsRow (map f (filter (chooses choice) (row ∷ []))) old old
skipped_put f choice row old h = rw h (put_none IsRow old)

-- the next row of some
pub rows_put : (f : Row → List Cell) (choice : Choice) (rows : List Row) (i : ℕ) (d : Row) (old middle new : List ℕ) → i < length rows
    → ArePut IsRow (map f (filter (chooses choice) (take i rows))) old middle → ArePut IsRow (map f (filter (chooses choice) (get_or rows i d ∷ []))) middle new
    → ArePut IsRow (map f (filter (chooses choice) (take (i + 1) rows))) old new
rows_put f choice rows i d old middle new lt so_far more =
    rw (take_more rows i d lt, filter-append, map-append) (put_behind IsRow (map f (filter (chooses choice) (take i rows))) (map f (filter (chooses choice) (get_or rows i d ∷ []))) old middle new so_far more)

-- each row is selected if no range is
pub all_chosen : (rows : List Row) → filter (chooses Whole) rows ≡ rows
all_chosen [] = refl
all_chosen (row ∷ rows) = ap (λ (l : List Row). row ∷ l) (all_chosen rows)

-- ---- entries of rows that stand in two lists

drop_both : {X : Type 0} (n : ℕ) (xs ys : List X) → drop n (xs ++ ys) ≡ drop n xs ++ drop (n - length xs) ys
drop_both zero xs ys = let e : 0 ≡ 0 - length xs = omega arith in ap (λ (k : ℕ). xs ++ drop k ys) e
drop_both (suc n) [] ys = let e : suc n ≡ suc n - 0 = omega arith in ap (λ (k : ℕ). drop k ys) e
drop_both (suc n) (x ∷ xs) ys = let e : n - length xs ≡ suc n - suc (length xs) = omega arith in drop_both n xs ys ∙ ap (λ (k : ℕ). drop n xs ++ drop k ys) e

take_both : {X : Type 0} (n : ℕ) (xs ys : List X) → take n (xs ++ ys) ≡ take n xs ++ take (n - length xs) ys
take_both zero xs ys = let e : 0 ≡ 0 - length xs = omega arith in ap (λ (k : ℕ). take k ys) e
take_both (suc n) [] ys = let e : suc n ≡ suc n - 0 = omega arith in ap (λ (k : ℕ). take k ys) e
take_both (suc n) (x ∷ xs) ys =
    let e : n - length xs ≡ suc n - suc (length xs) = omega arith in
    ap (λ l. x ∷ l) (take_both n xs ys ∙ ap (λ (k : ℕ). take n xs ++ take k ys) e)

pub range_both : {X : Type 0} (xs ys : List X) (first end : ℕ) → slice_range (xs ++ ys) first end ≡ slice_range xs first end ++ slice_range ys (first - length xs) (end - length xs)
range_both xs ys first end =
    let count : (end - first) - length (drop first xs) ≡ (end - length xs) - (first - length xs) = omega (arith, length-drop first xs) in
    ap (λ (l : List _). take (end - first) l) (drop_both first xs ys) ∙ take_both (end - first) (drop first xs) (drop (first - length xs) ys)
    ∙ ap (λ (n : ℕ). take (end - first) (drop first xs) ++ take n (drop (first - length xs) ys)) count

-- ---- whole arrays

-- one more after the others
pub appended : (head old new : List ℕ) (vs ws : Values) (v : Value) → ws ≡ push_value vs v → old ≡ head ++ all_canonical vs → new ≡ old ++ canonical v → new ≡ head ++ all_canonical ws
appended head old new vs ws v e so_far more =
    more ∙ ap (λ (l : List ℕ). l ++ canonical v) so_far ∙ append_assoc head (all_canonical vs) (canonical v)
    ∙ ap (λ (l : List ℕ). head ++ l) (sym (all_canonical-push vs v)) ∙ ap (λ (us : Values). head ++ all_canonical us) (sym e)

pub listed_put : {X : Type 0} (f : ℕ × X → Value) (xs : List X) (i : ℕ) (d : X) (head old new : List ℕ) → i < length xs → old ≡ head ++ all_canonical (map_values f (enumerate_from 1 (take i xs)))
    → new ≡ old ++ canonical (f (i + 1, get_or xs i d)) → new ≡ head ++ all_canonical (map_values f (enumerate_from 1 (take (i + 1) xs)))
listed_put f xs i d head old new lt so_far more =
    let vs = map_values f (enumerate_from 1 (take i xs)) in
    let v = f (i + 1, get_or xs i d) in
    appended head old new vs (map_values f (enumerate_from 1 (take (i + 1) xs))) v (sym (listed_more f xs i d vs (push_value vs v) v lt refl refl refl)) so_far more

pub mapped_put : {X Y : Type 0} (f : Y → Value) (h : X → Y) (xs : List X) (i : ℕ) (d : X) (head old new : List ℕ) → i < length xs → old ≡ head ++ all_canonical (map_values f (map h (take i xs)))
    → new ≡ old ++ canonical (f (h (get_or xs i d))) → new ≡ head ++ all_canonical (map_values f (map h (take (i + 1) xs)))
mapped_put f h xs i d head old new lt so_far more =
    let vs = map_values f (map h (take i xs)) in
    let v = f (h (get_or xs i d)) in
    appended head old new vs (map_values f (map h (take (i + 1) xs))) v (sym (mapped_more f h xs i d vs (push_value vs v) v lt refl refl refl)) so_far more

pub values_put : {X : Type 0} (f : X → Value) (xs : List X) (i : ℕ) (d : X) (head old new : List ℕ) (v : Value) → i < length xs → v ≡ f (get_or xs i d) → old ≡ head ++ all_canonical (map_values f (take i xs))
    → new ≡ old ++ canonical v → new ≡ head ++ all_canonical (map_values f (take (i + 1) xs))
values_put f xs i d head old new v lt e so_far more =
    let vs = map_values f (take i xs) in
    appended head old new vs (map_values f (take (i + 1) xs)) v (sym (values_more f xs i d vs (push_value vs v) v lt refl e refl)) so_far more

count_values : {X : Type 0} (f : X → Value) (xs : List X) → count (map_values f xs) ≡ length xs
count_values f [] = refl
count_values f (x ∷ xs) = ap suc (count_values f xs)

count_numbered : {X : Type 0} (n : ℕ) (xs : List X) → length (enumerate_from n xs) ≡ length xs
count_numbered n [] = refl
count_numbered n (x ∷ xs) = ap suc (count_numbered (n + 1) xs)

-- an array after its head
array_put : (vs : Values) (n : ℕ) (old new : List ℕ) → n ≡ count vs → new ≡ (old ++ 1 ∷ short_length n) ++ all_canonical vs → new ≡ old ++ canonical (array vs)
array_put vs n old new e is = is ∙ append_assoc old (1 ∷ short_length n) (all_canonical vs) ∙ ap (λ (k : ℕ). old ++ 1 ∷ (short_length k ++ all_canonical vs)) e

pub all_listed : {X : Type 0} (f : ℕ × X → Value) (xs : List X) (i : ℕ) (old new : List ℕ) → length xs ≤ i
    → new ≡ (old ++ 1 ∷ short_length (length xs)) ++ all_canonical (map_values f (enumerate_from 1 (take i xs))) → new ≡ old ++ canonical (array (map_values f (enumerate_from 1 xs)))
all_listed f xs i old new le is =
    array_put (map_values f (enumerate_from 1 xs)) (length xs) old new (sym (count_values f (enumerate_from 1 xs) ∙ count_numbered 1 xs))
    (is ∙ ap (λ (l : List _). (old ++ 1 ∷ short_length (length xs)) ++ all_canonical (map_values f (enumerate_from 1 l))) (take_all i xs le))

pub all_valued : {X : Type 0} (f : X → Value) (xs : List X) (i : ℕ) (old new : List ℕ) → length xs ≤ i
    → new ≡ (old ++ 1 ∷ short_length (length xs)) ++ all_canonical (map_values f (take i xs)) → new ≡ old ++ canonical (array (map_values f xs))
all_valued f xs i old new le is =
    array_put (map_values f xs) (length xs) old new (sym (count_values f xs)) (is ∙ ap (λ (l : List _). (old ++ 1 ∷ short_length (length xs)) ++ all_canonical (map_values f l)) (take_all i xs le))

-- the object list, from the program's table
pub list_put : (client : Client) (table : List Object) (i : ℕ) (new : List ℕ) → length table ≤ i → map entry_of table ≡ objects
    → new ≡ (1 ∷ short_length 9) ++ all_canonical (map_values (listed client) (map entry_of (take i table))) → new ≡ canonical (object_list client)
unfolding object_list
list_put client table i new le same is =
    is ∙ ap (λ (l : List Object). (1 ∷ short_length 9) ++ all_canonical (map_values (listed client) (map entry_of l))) (take_all i table le)
    ∙ ap (λ (l : List Entry). (1 ∷ short_length 9) ++ all_canonical (map_values (listed client) l)) same

-- ---- the table of the rows that are chosen, which stand in two lists

few_chosen : (choice : Choice) (rows : List Row) → length (filter (chooses choice) rows) ≤ length rows
few_chosen choice rows = omega (arith, length-filter_both (chooses choice) (λ row. not (chooses choice row)) (λ row. refl) rows)

pub few_of_both : (choice : Choice) (older newer : List Row) (k m : ℕ) → k ≡ length (filter (chooses choice) older) → m ≡ length (filter (chooses choice) newer) → length (older ++ newer) ≤ 960 → k + m ≤ 960
few_of_both choice older newer k m ek em le = omega (arith, few_chosen choice older, few_chosen choice newer, length-append older newer)

pub tables_put : (f : Row → List Cell) (choice : Choice) (older newer : List Row) (k m : ℕ) (start middle new : List ℕ) → k ≡ length (filter (chooses choice) older) → m ≡ length (filter (chooses choice) newer)
    → start ≡ 1 ∷ short_length (k + m) → ArePut IsRow (map f (filter (chooses choice) older)) start middle → ArePut IsRow (map f (filter (chooses choice) newer)) middle new
    → IsPut (IsTable (map f (filter (chooses choice) (older ++ newer)))) [] new
tables_put f choice older newer k m start middle new ek em e one two =
    let a = map f (filter (chooses choice) older) in
    let b = map f (filter (chooses choice) newer) in
    let number : k + m ≡ length (a ++ b) = omega (arith, length-append a b, length-map (filter (chooses choice) older) f, length-map (filter (chooses choice) newer) f) in
    rw (filter-append, map-append)
    (table_put (a ++ b) (k + m) [] new number (subst (λ (l : List ℕ). ArePut IsRow (a ++ b) l new) e (put_behind IsRow a b start middle new one two)))

-- the entries of rows in two lists
pub entries_of_both : (older newer rows : List Row) (first last until : ℕ) (one two : List Row) → older ++ newer ≡ rows → until ≡ (if nat_eq last 0 then length rows else last)
    → one ≡ slice_range older (first - 1) until → two ≡ slice_range newer ((first - 1) - length older) (until - length older) → one ++ two ≡ entries first last rows
entries_of_both older newer rows first last until one two is ends a b =
    ap₂ (λ (l m : List Row). l ++ m) a b ∙ sym (range_both older newer (first - 1) until) ∙ ap₂ (λ (l : List Row) (n : ℕ). slice_range l (first - 1) n) is ends

pub rows_before : (columns : List ℕ) (older newer : List Row) → All (IsRowOf columns) (older ++ newer) → All (IsRowOf columns) older
rows_before columns [] newer h = All-nil (IsRowOf columns)
rows_before columns (row ∷ older) newer h =
    All-cons (IsRowOf columns) row older (All-head (IsRowOf columns) row (older ++ newer) h) (rows_before columns older newer (All-tail (IsRowOf columns) row (older ++ newer) h))

pub rows_of_part : (columns : List ℕ) (rows found : List Row) (first end : ℕ) → found ≡ slice_range rows first end → All (IsRowOf columns) rows → All (IsRowOf columns) found
rows_of_part columns rows found first end e h = rw e (All-take (IsRowOf columns) _ _ (All-drop (IsRowOf columns) _ rows h))

-- some fields of entries
pub cut_table : (columns : List ℕ) (a b x y : ℕ) (rows found : List Row) (first end : ℕ) (bytes : List ℕ) → found ≡ entries a b rows → first ≡ x - 1 → end ≡ last_column (length columns) y
    → IsPut (IsTable (map (λ row. slice_range (cells columns row) first end) (filter (chooses Whole) found))) [] bytes
    → IsPut (IsTable (map (λ row. columns_between (length columns) x y (cells columns row)) (entries a b rows))) [] bytes
cut_table columns a b x y rows found first end bytes e low high (v, shows, is) =
    let same : map (λ row. slice_range (cells columns row) first end) (filter (chooses Whole) found) ≡ map (λ row. columns_between (length columns) x y (cells columns row)) (entries a b rows) =
    ap (λ (l : List Row). map (λ row. slice_range (cells columns row) first end) l) (all_chosen found ∙ e)
    ∙ ap₂ (λ (m n : ℕ). map (λ row. slice_range (cells columns row) m n) (entries a b rows)) low high in
    (v, subst (λ (l : List (List Cell)). IsTable l v) same shows, is)

pub whole_shown : (columns : List ℕ) (p : Part) (rows : List Row) (bytes : List ℕ) → Picks columns p Whole → IsPut (IsTable (map (cells columns) (filter (chooses Whole) rows))) [] bytes
    → IsPut (Shows (part_shown columns p rows)) [] bytes
whole_shown columns whole rows bytes picks (v, shows, is) = (v, subst (λ (l : List Row). IsTable (map (cells columns) l) v) (all_chosen rows) shows, is)
whole_shown columns (between first last) rows bytes picks put = absurd picks
whole_shown columns (cut first last first_col last_col) rows bytes picks put = absurd cc

pub between_shown : (columns : List ℕ) (p : Part) (place from to : ℕ) (rows : List Row) (bytes : List ℕ) → Picks columns p (Between place from to)
    → IsPut (IsTable (map (cells columns) (filter (chooses (Between place from to)) rows))) [] bytes → IsPut (Shows (part_shown columns p rows)) [] bytes
between_shown columns whole place from to rows bytes picks put = absurd cc
between_shown columns (between first last) place from to rows bytes picks (v, shows, is) =
    (v, record { place = place; is_column = picks.0; from = from; to = to; names_from = picks.1; names_to = picks.2; value = shows }, is)
between_shown columns (cut first last first_col last_col) place from to rows bytes picks put = absurd cc

-- the fields of a choice by entry
abbrev fields_cut : (columns : List ℕ) → List Row → Choice → List (List Cell)
fields_cut columns rows (Cut first last first_col last_col) = map (λ row. columns_between (length columns) first_col last_col (cells columns row)) (entries first last rows)
fields_cut columns rows Whole = []
fields_cut columns rows (Between place from to) = []

pub cut_shown : (columns : List ℕ) (p : Part) (a b x y : ℕ) (rows : List Row) (bytes : List ℕ) → Picks columns p (Cut a b x y)
    → IsPut (IsTable (map (λ row. columns_between (length columns) x y (cells columns row)) (entries a b rows))) [] bytes → IsPut (Shows (part_shown columns p rows)) [] bytes
cut_shown columns whole a b x y rows bytes picks put = absurd cc
cut_shown columns (between first last) a b x y rows bytes picks put = absurd picks
cut_shown columns (cut first last first_col last_col) a b x y rows bytes picks (v, shows, is) = (v, subst (λ (c : Choice). IsTable (fields_cut columns rows c) v) picks shows, is)

-- ---- what is no part of the buffer

pub other_shown : (s : StateValue) (client : Client) (d : Descriptor) (p : Part) (content : Content) (v : Value) → content ≢ Buffer → Shows (shown s client d whole content) v → Shows (shown s client d p content) v
other_shown s client d p Buffer v other h = absurd (other refl)
other_shown s client d p _ v other h = h
