-- The definitions of the world beside those of the meter.
use Rattle.std.proofs.lemmas.Bool.Decides.{nat_tests}
use Rattle.dlms_headend.specs.Asking.{last_second}
use Rattle.std.proofs.Common.{sym, subst, arith, ◌≡◌, ◌<◌, ◌≤◌, ◌+◌, ◌-◌, ℕ, zero, suc, Bool, true, false, cond, Option, Some, None, List, [], ◌∷◌, map, length, refl, ◌∙◌, ap, nat_le}
use Rattle.std.specs.Prelude.{filter, ◌&&◌, ◌==◌, slice_get, slice_index}
use Rattle.std.specs.List.{AllByRecursion, position_from}
use Rattle.std.proofs.lemmas.List.Elements.{recursion_from_All}
use Rattle.dlms_link.specs.Server.{ServerRecord}
use Rattle.dlms_link.specs.declared.out.LinkOut.{LinkOut}
use Rattle.dlms_link.specs.declared.out.LinkOut.TheVariants.{Nothing, Reply, Apdu, Oversize, BadLlc, Up, Down}
use Rattle.dlms_meter.specs.Run.{Answered, sends}
use Rattle.dlms_profile.specs.Rows.{is_between, lies_between}
use Rattle.dlms_classes.specs.Shown.{clock_place}
use Rattle.dlms_state.specs.Columns.{IsRowOf}
use Rattle.dlms_profile.specs.declared.rows.Row.{Row as Captured}
use Rattle.dlms_meter.specs.Run.{Choice, Served, DeviceFails}
use Rattle.dlms_service.specs.Session.{SessionValue, Outcome}
use Rattle.dlms_state.specs.Events.{buffer_after, columns_after}
use Rattle.dlms_state.specs.StateValue.{IsWithinLimits, state_of}
use Rattle.dlms_state.specs.declared.event.Event.{Event}
use Rattle.dlms_world.specs.World.{reading_of, rows_between, rows_from, rows_since, all_rows_from}
use Rattle.dlms_world.specs.Turn.{Answers, handled}
use Rattle.dlms_data.specs.declared.date_time.TheConstants.{LAST_SECOND}

pub frames_handled : (choice : Choice) (E : List Event) (r : ServerRecord) (s : SessionValue) (out : LinkOut) (o : Outcome) → Answers choice E r s out o → Answered choice E r s out (handled r out o)
frames_handled choice E r s Apdu o is = (o, is, refl)
frames_handled (Served memory) E r s Oversize o is = ap (sends r) is
frames_handled (Served memory) E r s BadLlc o is = ap (sends r) is
frames_handled (Served memory) E r s Nothing o is = ap (λ (x : Outcome). handled r Nothing x) is
frames_handled (Served memory) E r s (Reply frame) o is = ap (λ (x : Outcome). handled r (Reply frame) x) is
frames_handled (Served memory) E r s (Up frame) o is = ap (λ (x : Outcome). handled r (Up frame) x) is
frames_handled (Served memory) E r s (Down frame) o is = ap (λ (x : Outcome). handled r (Down frame) x) is
frames_handled (DeviceFails kept wanted) E r s Oversize o none = absurd none
frames_handled (DeviceFails kept wanted) E r s BadLlc o none = absurd none
frames_handled (DeviceFails kept wanted) E r s Nothing o none = absurd none
frames_handled (DeviceFails kept wanted) E r s (Reply frame) o none = absurd none
frames_handled (DeviceFails kept wanted) E r s (Up frame) o none = absurd none
frames_handled (DeviceFails kept wanted) E r s (Down frame) o none = absurd none

both : (a b : Bool) → b ≡ true → (a && b) ≡ a
both true b e = e
both false b e = refl

below : (n : ℕ) → n ≤ LAST_SECOND → nat_le n LAST_SECOND ≡ true
below n h = grind (arith, h)

there : (values : List ℕ) (place : ℕ) → place < length values → slice_get values place ≡ Some (slice_index values place)
there [] place low = absurd (omega (arith, low))
there (value ∷ values) zero low = refl
there (value ∷ values) (suc place) low = there values place (omega (arith, low))

-- a row whose value at the clock's place is in the clock's range
record IsInTime (place : ℕ) (row : Captured) : Type 0 where
  long : place < length row.values.items
  clock : slice_index row.values.items place ≤ LAST_SECOND

in_time : (place second : ℕ) (row : Captured) → IsInTime place row → is_between place second LAST_SECOND row ≡ nat_le second (slice_index row.values.items place)
in_time place second row is =
    ap (lies_between second LAST_SECOND) (there row.values.items place is.long) ∙ both (nat_le second (slice_index row.values.items place)) (nat_le (slice_index row.values.items place) LAST_SECOND) (below (slice_index row.values.items place) is.clock)

same_filter : (place second : ℕ) (rows : List Captured) → AllByRecursion (IsInTime place) rows → filter (is_between place second LAST_SECOND) rows ≡ filter (λ row. nat_le second (slice_index row.values.items place)) rows
same_filter place second [] all = refl
same_filter place second (row ∷ rows) all =
    ap (λ b. cond b (row ∷ filter (is_between place second LAST_SECOND) rows) (filter (is_between place second LAST_SECOND) rows)) (in_time place second row all.0)
    ∙ ap (λ rest. cond (nat_le second (slice_index row.values.items place)) (row ∷ rest) rest) (same_filter place second rows all.1)

some_is : (a b : ℕ) → Some a ≡ Some b → a ≡ b
some_is a b e = cc

-- the clock is at its place
place_is : (columns : List ℕ) (from place : ℕ) → position_from (λ id. id == 0) from columns ≡ Some place → (from ≤ place) × (place - from < length columns) × (slice_index columns (place - from) ≡ 0)
place_is [] from place is = absurd (cc is)
place_is (zero ∷ ids) from place is =
    let same : from ≡ place = some_is from place is in
    let none : place - from ≡ 0 = omega (arith, same) in
    (omega (arith, same), omega (arith, none), ap (λ (k : ℕ). slice_index (zero ∷ ids) k) none)
place_is (suc n ∷ ids) from place is =
    let apart : (suc n == 0) ≡ false = grind (arith, nat_tests) in
    let after : position_from (λ id. id == 0) (from + 1) ids ≡ Some place = ap (λ (b : Bool). cond b (Some from) (position_from (λ id. id == 0) (from + 1) ids)) (sym apart) ∙ is in
    let rest = place_is ids (from + 1) place after in
    let low : from + 1 ≤ place = rest.0 in
    let inside : place - (from + 1) < length ids = rest.1 in
    let next : place - from ≡ suc (place - (from + 1)) = omega (arith, low) in
    (omega (arith, low), omega (arith, next, inside), ap (λ (k : ℕ). slice_index (suc n ∷ ids) k) next ∙ rest.2)

same_rows : (columns : List ℕ) (second : ℕ) (rows : List Captured) (place : Option ℕ) → clock_place columns ≡ place → AllByRecursion (IsRowOf columns) rows → rows_between place second LAST_SECOND rows ≡ rows_since place second rows
same_rows columns second rows None is all = refl
same_rows columns second rows (Some place) is all = same_filter place second rows (each rows all)
  where
    one : (row : Captured) → IsRowOf columns row → IsInTime place row
    one row of =
        let at = place_is columns 0 place is in
        let whole : place - 0 ≡ place = omega arith in
        let low : place < length columns = subst (λ (k : ℕ). k < length columns) whole at.1 in
        let named : slice_index columns place ≡ 0 = ap (λ (k : ℕ). slice_index columns k) (sym whole) ∙ at.2 in
        record { long = omega (arith, low, of.count); clock = of.clock place low named }

    each : (rows : List Captured) → AllByRecursion (IsRowOf columns) rows → AllByRecursion (IsInTime place) rows
    each [] all = tt
    each (row ∷ rows) all = (one row all.0, each rows all.1)

pub whole_range : (second : ℕ) (E : List Event) → IsWithinLimits (state_of E) → rows_from second LAST_SECOND E ≡ all_rows_from second None E
whole_range second E limits = ap (map reading_of) (same_rows (columns_after E) second (buffer_after E) (clock_place (columns_after E)) refl (recursion_from_All (IsRowOf (columns_after E)) (buffer_after E) limits.rows))

-- so are those of any range all that are due in it
pub due_range : (second : ℕ) (until : Option ℕ) (E : List Event) → IsWithinLimits (state_of E) → rows_from second (last_second until) E ≡ all_rows_from second until E
due_range second None E limits = whole_range second E limits
due_range second (Some last) E limits = refl
