-- Which part of the buffer a selector wants (buffer of class Profile generic, Blue Book 4.3.6: range_descriptor and
-- entry_descriptor). All types are looked at before any value.
use Rattle.std.specs.Prelude.{◌≡◌, ◌<◌, ◌≤◌, ℕ, ◌==◌, ◌&&◌, nat_lt, if◌then◌else◌, Bool, true, false, List, length, Option, Some, None, Result, Ok, Err, MatchResult, ⊤}
use Rattle.dlms_data.specs.Value.{Value, array, double_long_unsigned, none, cons}
use Rattle.dlms_data.specs.View.{value_of}
use Rattle.dlms_data.specs.DateTime.{NamesSecond}
use Rattle.dlms_data.specs.declared.descriptor.Selector.{Selector}
use Rattle.dlms_classes.specs.declared.access.AccessResult.{AccessResult}
use Rattle.dlms_classes.specs.declared.access.AccessResult.TheVariants.{TypeUnmatched, ScopeOfAccessViolated, OtherReason}
use Rattle.dlms_classes.specs.declared.choosing.Choice.{Choice}
use Rattle.dlms_classes.specs.declared.choosing.Choice.TheVariants.{Whole, Between, Cut}
use Rattle.dlms_classes.specs.declared.table.Content.{Content}
use Rattle.dlms_classes.specs.Access.{◌>>=◌}
use Rattle.dlms_classes.specs.Column.{four_of, long_unsigned_of, column_named}
use Rattle.dlms_classes.specs.Plan.{octets_of_time}
use Rattle.dlms_classes.specs.Listing.{is_selective}
use Rattle.dlms_classes.specs.Shown.{Part, whole, between, cut, clock_place, last_column}

-- a selector: its number and its parameters
pub record Selection : Type 0 where
  pub number : ℕ
  pub value : Value

abbrev pub selection_of : {A : Type 0} → Selector A → Selection
selection_of s = record { number = s.number; value = value_of s.value }

-- ---- types

abbrev pub double_long_unsigned_of : Value → Result ℕ AccessResult
double_long_unsigned_of (double_long_unsigned n) = Ok n
double_long_unsigned_of _ = Err TypeUnmatched

-- an array, and whether it holds nothing
abbrev pub is_empty_array : Value → Result Bool AccessResult
is_empty_array (array none) = Ok true
is_empty_array (array (cons v vs)) = Ok false
is_empty_array _ = Err TypeUnmatched

-- ---- by range

-- the column is the clock's time
abbrev pub is_clock : Option ℕ → Bool
is_clock None = false
is_clock (Some id) = id == 0

-- restricting_object, from_value, to_value, selected_values
abbrev pub range_of : Value → Result Part AccessResult
range_of v =
    four_of v >>= λ fields.
    column_named fields.0 >>= λ column.
    octets_of_time fields.1 >>= λ first.
    octets_of_time fields.2 >>= λ last.
    is_empty_array fields.3 >>= λ all_columns.
    (if is_clock column && all_columns then Ok (between first last) else Err OtherReason)

-- ---- by entry

-- from_entry, to_entry, from_selected_value, to_selected_value: refused if the first entry or column is 0
abbrev pub cut_of : Value → Result Part AccessResult
cut_of v =
    four_of v >>= λ fields.
    double_long_unsigned_of fields.0 >>= λ first.
    double_long_unsigned_of fields.1 >>= λ last.
    long_unsigned_of fields.2 >>= λ first_col.
    long_unsigned_of fields.3 >>= λ last_col.
    (if nat_lt 0 first && nat_lt 0 first_col then Ok (cut first last first_col last_col)
    else Err OtherReason)

-- ---- the selector

abbrev pub part_named : Selection → Result Part AccessResult
part_named s =
    if s.number == 1 then range_of s.value
    else if s.number == 2 then cut_of s.value
    else Err ScopeOfAccessViolated

-- the selected part of an attribute; a selector is refused if the attribute takes none
abbrev pub part_of : Content → Option Selection → Result Part AccessResult
part_of content None = Ok whole
part_of content (Some s) = if is_selective content then part_named s else Err ScopeOfAccessViolated

-- ---- the columns of a state, which decide whether it has such a part

-- the clock is one of the columns, and the octets name seconds of the clock
pub record HasRange (columns : List ℕ) (first last : List ℕ) : Type 0 where
  pub place : ℕ
  pub is_column : clock_place columns ≡ Some place
  pub from : ℕ
  pub to : ℕ
  pub names_from : NamesSecond first from
  pub names_to : NamesSecond last to

-- A range needs the clock. The first column of a cut is not past the end, and the last is not below it.
abbrev pub HasPart : (columns : List ℕ) → Part → Type 0
HasPart columns whole = ⊤
HasPart columns (between first last) = HasRange columns first last
HasPart columns (cut first last first_col last_col) =
    first_col ≤ last_column (length columns) last_col

-- the meaning of the program's choice
abbrev pub Picks : (columns : List ℕ) → Part → Choice → Type 0
Picks columns whole choice = choice ≡ Whole
Picks columns (between first last) (Between place from to) = (clock_place columns ≡ Some place)
    × NamesSecond first from × NamesSecond last to
Picks columns (between first last) _ = ⊥
Picks columns (cut first last first_col last_col) choice =
    choice ≡ Cut first last first_col last_col

-- entries and columns count from 1, and the last column is not below the first
abbrev pub IsProper : (columns : List ℕ) → Choice → Type 0
IsProper columns (Cut first last first_col last_col) = (0 < first) × (0 < first_col)
    × (first_col ≤ last_column (length columns) last_col)
IsProper columns _ = ⊤

-- the choice for the part, or the refusal: for another reason if these columns have no such part
abbrev pub IsChoice : (columns : List ℕ) → Result Part AccessResult → Result Choice AccessResult
    → Type 0
IsChoice columns (Err r) result = result ≡ Err r
IsChoice columns (Ok p) result = MatchResult result (Picks columns p) (λ r. (r ≡ OtherReason)
    × ¬ (HasPart columns p))
