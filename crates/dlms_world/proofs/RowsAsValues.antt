-- Few rows as a value that shows them, where their seconds have date-times.
use Rattle.std.proofs.Common.{arith, ◌≡◌, ◌∙◌, ◌*◌, ◌<◌, ◌≤◌, ℕ, Bool, true, false, cond, List, [], ◌∷◌, ◌++◌, map, drop, length, length-append, refl, sym, ap, subst}
use Rattle.std.specs.Prelude.{◌^◌, Some, filter, slice_index}
use Rattle.std.specs.List.{AllByRecursion}
use Rattle.std.proofs.lemmas.List.Elements.{recursion_from_All}
use Rattle.dlms_classes.specs.Shown.{IsRow as ShowsRow, IsTable, Match, cells, cells_of, clock_place}
use Rattle.dlms_data.specs.Building.{IsTime}
use Rattle.dlms_data.specs.Value.{Value, Values, array, structure, octet_string, double_long_unsigned, none as no_values, cons, count, depth, values_depth}
use Rattle.dlms_data.specs.Writing.{canonical, all_canonical, short_length, Fits, InRange, AllInRange}
use Rattle.dlms_headend.specs.Asking.{PlanValue, first_second, last_second}
use Rattle.dlms_headend.specs.Rows.{IsRow, AreRows}
use Rattle.dlms_profile.specs.Rows.{IsRow as IsSmall, in_range, is_between}
use Rattle.dlms_profile.specs.declared.rows.Row.{Row as Captured}
use Rattle.dlms_state.proofs.Limits.{IsWithinLimits-legal}
use Rattle.dlms_state.proofs.Types.{FitsTypes-legal}
use Rattle.dlms_state.specs.Columns.{first_columns}
use Rattle.dlms_state.specs.Events.{buffer_after, columns_after}
use Rattle.dlms_state.specs.Refusal.{IsLegal}
use Rattle.dlms_state.specs.declared.event.Event.{Event}
use Rattle.dlms_world.proofs.Served.{short_three}
use Rattle.dlms_world.proofs.ValuesAsRows.{AllHave, range_has}
use Rattle.dlms_world.proofs.SameAsMeter.{due_range}
use Rattle.dlms_world.specs.Possible.{HaveTimes}
use Rattle.dlms_world.specs.World.{reading_of, rows_between, rows_due}

-- ---- one row

record One (items : List ℕ) : Type 0 where
  v : Value
  shows : ShowsRow (cells_of first_columns items) v
  is : IsRow v (record { clock = slice_index items 0; registers = drop 1 items })
  fits : InRange v
  flat : depth v ≡ 1
  size : length (canonical v) ≡ 31

one_value : (items : List ℕ) → length items ≡ 4 → AllByRecursion (λ value. value < 2 ^ 32) items → (shown : Value) → IsTime (slice_index items 0) shown → One items
unfolding short_length
one_value (a ∷ b ∷ c ∷ d ∷ []) four small shown t =
    let registers : List ℕ = canonical (double_long_unsigned b) ++ (canonical (double_long_unsigned c) ++ (canonical (double_long_unsigned d) ++ [])) in
    record {
      v = structure (cons (octet_string t.octets) (cons (double_long_unsigned b) (cons (double_long_unsigned c) (cons (double_long_unsigned d) no_values))));
      shows = (record { octets = t.octets; bytes = t.bytes; value = refl; names = t.names; plainly = t.plainly }, (refl, (refl, (refl, tt))));
      is = record { time = t.octets; fields = refl; clock = t.names };
      fits = (omega arith, (omega (arith, t.names.size), (small.1.0, (small.1.1.0, (small.1.1.1.0, tt)))));
      flat = refl;
      size = rw t.names.size (omega (arith, t.names.size, length-append t.octets registers));
    }
one_value [] four small shown t = absurd (omega (arith, four))
one_value (a ∷ []) four small shown t = absurd (omega (arith, four))
one_value (a ∷ b ∷ []) four small shown t = absurd (omega (arith, four))
one_value (a ∷ b ∷ c ∷ []) four small shown t = absurd (omega (arith, four))
one_value (a ∷ b ∷ c ∷ d ∷ e ∷ items) four small shown t = absurd (omega (arith, four))

-- ---- rows

record Tabled (xs : List Captured) : Type 0 where
  values : Values
  shows : Match ShowsRow (map (cells first_columns) xs) values
  are : AreRows values (map reading_of xs)
  fits : AllInRange values
  flat : values_depth values ≤ 1
  many : count values ≡ length xs
  size : length (all_canonical values) ≡ length xs * 31

tabled : (xs : List Captured) → AllHave first_columns xs → AllByRecursion IsSmall xs → HaveTimes (map reading_of xs) → Tabled xs
tabled [] have small times = record { values = no_values; shows = tt; are = tt; fits = tt; flat = omega arith; many = refl; size = refl }
tabled (x ∷ xs) have small times =
    let one = one_value x.values.items have.0 (recursion_from_All (λ value. value < 2 ^ 32) x.values.items small.0.values) times.0.0 times.0.1 in
    let rest = tabled xs have.1 small.1 times.1 in
    record {
      values = cons one.v rest.values;
      shows = (one.shows, rest.shows);
      are = (one.is, rest.are);
      fits = (one.fits, rest.fits);
      flat = omega (arith, one.flat, rest.flat);
      many = omega (arith, rest.many);
      size = omega (arith, one.size, rest.size, length-append (canonical one.v) (all_canonical rest.values));
    }

small_among : (p : Captured → Bool) (xs : List Captured) → AllByRecursion IsSmall xs → AllByRecursion IsSmall (filter p xs)
small_among p [] h = tt
small_among p (x ∷ xs) h = elim (p x) as (λ b. AllByRecursion IsSmall (cond b (x ∷ filter p xs) (filter p xs))) [ true ↦ (h.0, small_among p xs h.1) | false ↦ small_among p xs h.1 ]

-- ---- the rows of a poll

-- a value that shows the rows that are due, in few bytes
pub record Shows (plan : PlanValue) (E : List Event) : Type 0 where
  pub values : Values
  pub fits : Fits (array values)
  pub few : length (canonical (array values)) ≤ 29764
  pub are : AreRows values (rows_due plan E)
  pub table : IsTable (map (cells (columns_after E)) (in_range 0 (first_second plan.after) (last_second plan.until) (buffer_after E))) (array values)

few_bytes : (xs : List Captured) → length xs ≤ 960 → (t : Tabled xs) → length (canonical (array t.values)) ≤ 29764
few_bytes xs few t =
    omega (arith, t.size, t.many, few, short_three (count t.values) (omega (arith, t.many, few)), length-append (short_length (count t.values)) (all_canonical t.values))

shorter : (p : Captured → Bool) (xs : List Captured) → length (filter p xs) ≤ length xs
shorter p [] = omega arith
shorter p (x ∷ xs) = elim (p x) as (λ b. length (cond b (x ∷ filter p xs) (filter p xs)) ≤ length (x ∷ xs)) [ true ↦ omega (arith, shorter p xs) | false ↦ omega (arith, shorter p xs) ]

pub shows_due : (plan : PlanValue) (E : List Event) → IsLegal E → columns_after E ≡ first_columns → HaveTimes (rows_due plan E) → Shows plan E
shows_due plan E legal columns times =
    let second : ℕ = first_second plan.after in
    let last : ℕ = last_second plan.until in
    let xs : List Captured = in_range 0 second last (buffer_after E) in
    let due : rows_due plan E ≡ map reading_of xs =
    sym (due_range second plan.until E (IsWithinLimits-legal E legal)) ∙ ap (λ (ids : List ℕ). map reading_of (rows_between (clock_place ids) second last (buffer_after E))) columns in
    let have : AllHave first_columns xs = subst (λ ids. AllHave ids xs) columns (range_has (Some 0) second last E) in
    let small : AllByRecursion IsSmall xs = small_among (is_between 0 second last) (buffer_after E) (recursion_from_All IsSmall (buffer_after E) (FitsTypes-legal E legal).rows) in
    let t : Tabled xs = tabled xs have small (subst HaveTimes due times) in
    let some : length xs ≤ 960 = omega (arith, shorter (is_between 0 second last) (buffer_after E), (FitsTypes-legal E legal).room) in
    record {
      values = t.values;
      fits = record { levels = omega (arith, t.flat); in_range = (omega (arith, t.many, some), t.fits) };
      few = few_bytes xs some t;
      are = subst (AreRows t.values) (sym due) t.are;
      table = subst (λ ids. IsTable (map (cells ids) xs) (array t.values)) (sym columns) t.shows;
    }
