-- The value of a state that fits its types has a spelling, which is no longer than the full buffer's.
use Rattle.std.proofs.Common.{◌≡◌, ◌∙◌, refl, sym, ap, subst, arith, ℕ, zero, suc, ◌+◌, ◌-◌, ◌*◌, ◌^◌, ◌<◌, ◌≤◌, Bool, true, false, ◌&&◌, if◌then◌else◌, List, [], ◌∷◌, length, map, filter, slice_index, slice_get, find, Option, Some, None, ok_or, Result, Ok, Err, length-take, length-drop, pos}
use Rattle.std.specs.Prelude.{All, IfOk, ◌==◌, nat_le, nat_lt, nat_eq}
use Rattle.std.specs.List.{list_all}
use Rattle.std.specs.Str.{bytes_eq}
use Rattle.std.proofs.lemmas.Bool.{leb-true, ltb-true, eqb-true, and_parts}
use Rattle.std.proofs.lemmas.List.Elements.{All-head, All-tail, All-filter, All-take, All-drop}
use Rattle.std.proofs.lemmas.Slice.Eq.{bytes_eq-Decides}
use Rattle.dlms_data.specs.Value.{Value, array, structure, octet_string, double_long_unsigned, integer, long_unsigned, enumerated, none, cons}
use Rattle.dlms_data.specs.Writing.{canonical, short_length}
use Rattle.dlms_data.specs.Fitting.{fits_in}
use Rattle.dlms_data.specs.View.{value_of}
use Rattle.dlms_data.specs.declared.data.Data.{Data}
use Rattle.dlms_data.proofs.Fitted.{fits_where}
use Rattle.dlms_data.specs.declared.descriptor.Descriptor.{Descriptor}
use Rattle.dlms_frame.specs.declared.client.Client.{Client}
use Rattle.dlms_frame.specs.declared.client.Client.TheVariants.{Public, Management, Reader}
use Rattle.dlms_profile.specs.declared.rows.Row.{Row}
use Rattle.dlms_profile.specs.declared.rows.TheConstants.{CAPACITY}
use Rattle.dlms_profile.specs.Rows.{IsRow as FitsRow, in_range, is_between, entries}
use Rattle.dlms_frame.specs.Client.{sap_of}
use Rattle.dlms_state.specs.StateValue.{StateValue, FitsTypes, HasEvents, IsStateOf, IsWithinLimits}
use Rattle.dlms_state.specs.declared.event.Event.{Event}
use Rattle.dlms_state.proofs.Limits.{IsWithinLimits-legal}
use Rattle.dlms_state.proofs.Types.{FitsTypes-legal}
use Rattle.dlms_classes.specs.declared.rows.Cell.{Cell}
use Rattle.dlms_classes.specs.declared.access.AccessResult.{AccessResult}
use Rattle.dlms_classes.specs.declared.access.AccessResult.TheVariants.{ObjectUndefined, ObjectClassInconsistent, ReadWriteDenied}
use Rattle.dlms_classes.specs.declared.table.Attribute.{Attribute}
use Rattle.dlms_classes.specs.declared.table.Content.{Content}
use Rattle.dlms_classes.specs.declared.table.Content.TheVariants.{LogicalName, DeviceName, SerialNumber, Text, Register, ScalerUnit, Time, TimeZone, ClockStatus, DaylightTime, DaylightDeviation, DaylightEnabled, ClockBase, ObjectList, AssociatedPartners, Withheld, Secret, AssociationStatus, Buffer, CaptureObjects, CapturePeriod, SortMethod, SortObject, EntriesInUse, ProfileEntries}
use Rattle.dlms_classes.specs.Access.{◌>>=◌, object_named, numbered, object_of, attribute_of, readable}
use Rattle.dlms_classes.specs.Answer.{Wanted, wanted, IsShown, IsAnswer, IsSendable, most_bytes}
use Rattle.dlms_classes.specs.Choice.{Selection, part_of}
use Rattle.dlms_classes.specs.Listing.{object_list, map_values}
use Rattle.dlms_classes.specs.Shown.{Part, whole, between, cut, Shows, IsTable, shown, part_shown, cells, columns_between, last_column, column_value, two}
use Rattle.dlms_classes.specs.Table.{Entry, objects, object_of_column, rights_of, may_read}
use Rattle.dlms_classes.proofs.Sizes.{Small, ArePart, octets_small, time_small, number_small, table_small, columns_small, whole_part, cut_part}
use Rattle.dlms_state.specs.Columns.{are_known, are_distinct}

-- ---- the table

-- a unit that is a byte
abbrev content_fits : Content → Bool
content_fits (ScalerUnit unit) = nat_lt unit 256
content_fits _ = true

abbrev entry_fits : Entry → Bool
entry_fits o = nat_eq (length o.name) 6 && list_all (λ a. content_fits a.content) o.attributes

objects_fit : list_all entry_fits objects ≡ true
objects_fit = refl

-- what is found passes each test that all pass, and the one by which it is found
found_at : {X : Type 0} (test ok : X → Bool) (b : Bool) (y x : X) (rest : Option X) → test y ≡ b → ok y ≡ true → (rest ≡ Some x → (ok x ≡ true) × (test x ≡ true))
    → (if b then Some y else rest) ≡ Some x → (ok x ≡ true) × (test x ≡ true)
found_at test ok true y x rest e k more h = let same : y ≡ x = cc in (rw (sym same) k, rw (sym same) e)
found_at test ok false y x rest e k more h = more h

find_passes : {X : Type 0} (test ok : X → Bool) (xs : List X) (x : X) → list_all ok xs ≡ true → find test xs ≡ Some x → (ok x ≡ true) × (test x ≡ true)
find_passes test ok [] x all h = absurd cc
find_passes test ok (y ∷ xs) x all h =
    let parts = and_parts (ok y) (list_all ok xs) all in
    found_at test ok (test y) y x (find test xs) refl parts.0 (find_passes test ok xs x parts.1) h

get_passes : {X : Type 0} (ok : X → Bool) (xs : List X) (i : ℕ) (x : X) → list_all ok xs ≡ true → slice_get xs i ≡ Some x → ok x ≡ true
get_passes ok [] i x all h = absurd cc
get_passes ok (y ∷ xs) zero x all h = let same : y ≡ x = cc in rw (sym same) ((and_parts (ok y) (list_all ok xs) all).0)
get_passes ok (y ∷ xs) (suc i) x all h = get_passes ok xs i x ((and_parts (ok y) (list_all ok xs) all).1) h

numbered_passes : {X : Type 0} (ok : X → Bool) (b : Bool) (xs : List X) (i : ℕ) (x : X) → list_all ok xs ≡ true → (if b then None else slice_get xs i) ≡ Some x → ok x ≡ true
numbered_passes ok true xs i x all h = absurd cc
numbered_passes ok false xs i x all h = get_passes ok xs i x all h

bound : {X Y : Type 0} (r : Result X AccessResult) (f : X → Result Y AccessResult) (y : Y) → (r >>= f) ≡ Ok y → (x : X) × (r ≡ Ok x) × (f x ≡ Ok y)
bound (Ok x) f y h = (x, refl, h)
bound (Err r) f y h = absurd cc

or_found : {X : Type 0} (o : Option X) (r : AccessResult) (x : X) → ok_or o r ≡ Ok x → o ≡ Some x
or_found None r x h = absurd cc
or_found (Some y) r x h = let same : y ≡ x = cc in ap Some same

passed : {X : Type 0} (b : Bool) (x y : X) (r : AccessResult) → (if b then Ok x else Err r) ≡ Ok y → x ≡ y
passed true x y r h = cc
passed false x y r h = absurd cc

-- the object is there, so its name has six bytes; and a unit is a byte
record IsFound (d : Descriptor) (content : Content) : Type 0 where
  name : length d.name ≡ 6
  unit : content_fits content ≡ true

readable_found : (client : Client) (d : Descriptor) (a : Attribute) → readable client d ≡ Ok a → IsFound d a.content
unfolding object_named
readable_found client d a h =
    let x = bound (attribute_of d) (λ a. if may_read (rights_of client a) then Ok a else Err ReadWriteDenied) a h in
    let attribute : x.0 ≡ a = passed (may_read (rights_of client x.0)) x.0 a ReadWriteDenied x.2 in
    let y = bound (object_of d) (λ o. ok_or (numbered d.id o.attributes) ObjectUndefined) x.0 x.1 in
    let z = bound (ok_or (object_named d.name) ObjectUndefined) (λ o. if o.class == d.class then Ok o else Err ObjectClassInconsistent) y.0 y.1 in
    let object : z.0 ≡ y.0 = passed (z.0.class == d.class) z.0 y.0 ObjectClassInconsistent z.2 in
    let fits = find_passes (λ o. bytes_eq o.name d.name) entry_fits objects z.0 objects_fit (or_found (object_named d.name) ObjectUndefined z.0 z.1) in
    let parts = and_parts (nat_eq (length z.0.name) 6) (list_all (λ a. content_fits a.content) z.0.attributes) fits.0 in
    let name : z.0.name ≡ d.name = (bytes_eq-Decides z.0.name d.name).0 fits.1 in
    let units : list_all (λ a. content_fits a.content) y.0.attributes ≡ true = subst (λ (o : Entry). list_all (λ a. content_fits a.content) o.attributes ≡ true) object parts.1 in
    record {
      name = ap length (sym name) ∙ eqb-true (length z.0.name) 6 parts.0;
      unit = subst (λ (b : Attribute). content_fits b.content ≡ true) attribute
          (numbered_passes (λ a. content_fits a.content) (d.id == 0) y.0.attributes (d.id - 1) x.0 units (or_found (numbered d.id y.0.attributes) ObjectUndefined x.0 y.2));
    }

wanted_found : (client : Client) (d : Descriptor) (selection : Option Selection) (w : Wanted) → wanted client d selection ≡ Ok w → IsFound d w.content
wanted_found client d selection w h =
    let x = bound (readable client d) (λ a. part_of a.content selection >>= λ p. Ok (record { content = a.content; part = p })) w h in
    let y = bound (part_of x.0.content selection) (λ p. Ok (record { content = x.0.content; part = p })) w x.2 in
    let content : x.0.content ≡ w.content = cc (y.2) in
    subst (IsFound d) content (readable_found client d x.0 x.1)

-- ---- what is shown

sendable : (levels bytes : ℕ) (v : Value) → levels ≤ 8 → bytes ≤ most_bytes → Small levels bytes v → IsSendable v
sendable levels bytes v low short h = record { fits = record { levels = omega arith; in_range = h.fits }; size = omega arith }

-- a value without a variable
closed : (w v : Value) → (fits_in 8 w && nat_le (length (canonical w)) most_bytes) ≡ true → v ≡ w → IsSendable v
closed w v h e =
    let parts = and_parts (fits_in 8 w) (nat_le (length (canonical w)) most_bytes) h in
    subst IsSendable (sym e) (record { fits = fits_where w parts.0; size = leb-true _ _ parts.1 })

octets : (most : ℕ) (bytes : List ℕ) (v : Value) → most ≤ 1024 → length bytes ≤ most → v ≡ octet_string bytes → IsSendable v
octets most bytes v less h e = subst IsSendable (sym e) (sendable 0 (4 + length bytes) (octet_string bytes) (omega arith) (omega arith) (octets_small bytes (omega arith)))

number : (n : ℕ) (v : Value) → n < 2 ^ 32 → v ≡ double_long_unsigned n → IsSendable v
number n v h e = subst IsSendable (sym e) (sendable 0 5 (double_long_unsigned n) (omega arith) (omega arith) (number_small n h))

register_fits : (xs : List ℕ) (i : ℕ) → All (λ value. value < 2 ^ 32) xs → slice_index xs i < 2 ^ 32
register_fits [] i h = omega arith
register_fits (x ∷ xs) zero h = All-head (λ (value : ℕ). value < 2 ^ 32) x xs h
register_fits (x ∷ xs) (suc i) h = register_fits xs i (All-tail (λ (value : ℕ). value < 2 ^ 32) x xs h)

units : (unit : ℕ) (v : Value) → unit < 256 → v ≡ structure (cons (integer (pos 0)) (cons (enumerated unit) none)) → IsSendable v
unfolding short_length
units unit v h e = subst IsSendable (sym e) (record { fits = record { levels = omega arith; in_range = (omega arith, (record { sfits = omega arith }, (h, tt))) }; size = omega arith })

table : (f : Row → List Cell) → ((row : Row) → FitsRow row → ArePart (f row)) → (rows : List Row) (v : Value) → length rows ≤ CAPACITY → All FitsRow rows → IsTable (map f rows) v → IsSendable v
table f part rows v room fits h = sendable 2 (4 + 31 * CAPACITY) v (omega arith) (omega arith) (table_small f part CAPACITY rows v (omega arith) room fits h)

either_short : (b : Bool) (row : Row) (kept rows : List Row) → length kept ≤ length rows → length (if b then row ∷ kept else kept) ≤ length (row ∷ rows)
either_short true row kept rows h = omega arith
either_short false row kept rows h = omega arith

few_in_range : (test : Row → Bool) (rows : List Row) → length (filter test rows) ≤ length rows
few_in_range test [] = omega arith
few_in_range test (row ∷ rows) = either_short (test row) row (filter test rows) rows (few_in_range test rows)

few_entries : (first last : ℕ) (rows : List Row) → length (entries first last rows) ≤ length rows
few_entries first last rows = simp (length-take, length-drop) (omega arith)

buffer_fits : (columns : List ℕ) (p : Part) (rows : List Row) (v : Value) → length columns ≤ 4 → are_distinct columns ≡ true → length rows ≤ CAPACITY → All FitsRow rows
    → Shows (part_shown columns p rows) v → IsSendable v
buffer_fits columns whole rows v few distinct room fits h = table (cells columns) (whole_part columns few distinct) rows v room fits h
buffer_fits columns (between first last) rows v few distinct room fits h =
    table (cells columns) (whole_part columns few distinct) (in_range h.place h.from h.to rows) v
    (omega (arith, few_in_range (is_between h.place h.from h.to) rows)) (All-filter (is_between h.place h.from h.to) FitsRow rows fits) h.value
buffer_fits columns (cut first last first_column last_col) rows v few distinct room fits h =
    table (λ row. columns_between (length columns) first_column last_col (cells columns row))
    (λ row fit. cut_part (first_column - 1) (last_column (length columns) last_col) (cells columns row) (whole_part columns few distinct row fit)) (entries first last rows) v
    (omega (arith, few_entries first last rows)) (All-take FitsRow _ _ (All-drop FitsRow _ rows fits)) h

columns_fit : (columns : List ℕ) (v : Value) → length columns ≤ 4 → v ≡ array (map_values (λ id. column_value (object_of_column id)) columns) → IsSendable v
columns_fit columns v few e = subst IsSendable (sym e) (sendable 2 84 _ (omega arith) (omega arith) (columns_small columns few))

list_fits : (client : Client) (v : Value) → v ≡ object_list client → IsSendable v
unfolding object_list short_length
list_fits Public v h = closed (object_list Public) v refl h
list_fits Management v h = closed (object_list Management) v refl h
list_fits Reader v h = closed (object_list Reader) v refl h

partners_fit : (client : Client) (v : Value) → v ≡ structure (two (integer (pos (sap_of client))) (long_unsigned 1)) → IsSendable v
unfolding short_length
partners_fit Public v h = closed _ v refl h
partners_fit Management v h = closed _ v refl h
partners_fit Reader v h = closed _ v refl h

shown_fits : (s : StateValue) (client : Client) (d : Descriptor) (p : Part) (content : Content) (v : Value) → FitsTypes s → s.period < 2 ^ 32 → are_distinct s.columns ≡ true → IsFound d content
    → Shows (shown s client d p content) v → IsSendable v
unfolding short_length
shown_fits s client d p LogicalName v fits period distinct found h = octets 6 d.name v (omega arith) (omega (arith, found.name)) h
shown_fits s client d p DeviceName v fits period distinct found h = closed _ v refl h
shown_fits s client d p SerialNumber v fits period distinct found h = closed _ v refl h
shown_fits s client d p Text v fits period distinct found h = octets 240 s.text v (omega arith) fits.text.count h
shown_fits s client d p (Register channel) v fits period distinct found h = number _ v (register_fits s.registers channel fits.registers) h
shown_fits s client d p (ScalerUnit unit) v fits period distinct found h = units unit v (ltb-true unit 256 found.unit) h
shown_fits s client d p Time v fits period distinct found h = sendable 0 14 v (omega arith) (omega arith) (time_small _ v h)
shown_fits s client d p TimeZone v fits period distinct found h = closed _ v refl h
shown_fits s client d p ClockStatus v fits period distinct found h = closed _ v refl h
shown_fits s client d p DaylightTime v fits period distinct found h = closed _ v refl h
shown_fits s client d p DaylightDeviation v fits period distinct found h = closed _ v refl h
shown_fits s client d p DaylightEnabled v fits period distinct found h = closed _ v refl h
shown_fits s client d p ClockBase v fits period distinct found h = closed _ v refl h
shown_fits s client d p ObjectList v fits period distinct found h = list_fits client v h
shown_fits s client d p AssociatedPartners v fits period distinct found h = partners_fit client v h
shown_fits s client d p AssociationStatus v fits period distinct found h = closed _ v refl h
shown_fits s client d p Buffer v fits period distinct found h = buffer_fits s.columns p s.rows.items v fits.columns.count distinct fits.room fits.rows h
shown_fits s client d p CaptureObjects v fits period distinct found h = columns_fit s.columns v fits.columns.count h
shown_fits s client d p CapturePeriod v fits period distinct found h = number s.period v period h
shown_fits s client d p SortMethod v fits period distinct found h = closed _ v refl h
shown_fits s client d p SortObject v fits period distinct found h = closed _ v refl h
shown_fits s client d p EntriesInUse v fits period distinct found h = number (length s.rows.items) v (omega (arith, fits.room)) h
shown_fits s client d p ProfileEntries v fits period distinct found h = number CAPACITY v (omega arith) h
shown_fits s client d p Withheld v fits period distinct found h = closed _ v refl h
shown_fits s client d p Secret v fits period distinct found h = closed _ v refl h

sent_for : (s : StateValue) (client : Client) (d : Descriptor) (want : Result Wanted AccessResult) (v : Value) → FitsTypes s → s.period < 2 ^ 32 → are_distinct s.columns ≡ true
    → ((w : Wanted) → want ≡ Ok w → IsFound d w.content) → IsShown s client d want (Ok v) → IsSendable v
sent_for s client d (Err r) v fits period distinct found h = absurd cc
sent_for s client d (Ok w) v fits period distinct found h = shown_fits s client d w.part w.content v fits period distinct (found w refl) h.1

of_state : (s : StateValue) (client : Client) (d : Descriptor) (selection : Option Selection) (v : Value) (E : List Event) → IsStateOf E s → IsShown s client d (wanted client d selection) (Ok v) → IsSendable v
of_state s client d selection v E is h =
    let fits : FitsTypes s = subst FitsTypes (sym is.value) (FitsTypes-legal E is.legal) in
    let limits : IsWithinLimits s = subst IsWithinLimits (sym is.value) (IsWithinLimits-legal E is.legal) in
    let some = and_parts (nat_lt 0 (length s.columns)) (are_known s.columns && are_distinct s.columns) limits.columns in
    let distinct = (and_parts (are_known s.columns) (are_distinct s.columns) some.1).1 in
    sent_for s client d (wanted client d selection) v fits (omega (arith, limits.period)) distinct (wanted_found client d selection) h

pub can_be_sent : (s : StateValue) (client : Client) (d : Descriptor) (selection : Option Selection) (v : Value) → HasEvents s → IsShown s client d (wanted client d selection) (Ok v) → IsSendable v
can_be_sent s client d selection v has h = of_state s client d selection v has.events has.state h

-- what a call answers
pub answer_can_be_sent : {A : Type 0} (s : StateValue) (client : Client) (d : Descriptor) (selection : Option Selection) (result : Result (Data A) AccessResult) → HasEvents s
    → IsAnswer s client d (wanted client d selection) result → IfOk result (λ v. IsSendable (value_of v))
answer_can_be_sent s client d selection (Ok v) has h = can_be_sent s client d selection (value_of v) has h
answer_can_be_sent s client d selection (Err r) has h = tt
