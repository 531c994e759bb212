-- The column that a structure names (capture_objects and restricting_object of class Profile generic, Blue Book 4.3.6:
-- capture_object_definition). All types are looked at before any value.
use Rattle.std.specs.Prelude.{ℕ, ◌==◌, ◌&&◌, nat_le, nat_lt, if◌then◌else◌, Bool, false, List, [], ◌∷◌, length, Option, Some, None, option_map, ok_or, Result, Ok, Err, ℤ, pos}
use Rattle.std.specs.Ordering.{int_eq}
use Rattle.dlms_data.specs.Value.{Value, Values, array, structure, octet_string, integer, long_unsigned, none, cons}
use Rattle.dlms_state.specs.declared.event.TheConstants.{MOST_COLUMNS}
use Rattle.dlms_classes.specs.declared.access.AccessResult.{AccessResult}
use Rattle.dlms_classes.specs.declared.access.AccessResult.TheVariants.{TypeUnmatched, OtherReason}
use Rattle.dlms_classes.specs.Access.{◌>>=◌}
use Rattle.dlms_classes.specs.Table.{id_of, captured_attribute}

-- ---- types

abbrev pub four_of : Value → Result (Value × Value × Value × Value) AccessResult
four_of (structure (cons a (cons b (cons c (cons d none))))) = Ok (a, b, c, d)
four_of _ = Err TypeUnmatched

abbrev pub long_unsigned_of : Value → Result ℕ AccessResult
long_unsigned_of (long_unsigned n) = Ok n
long_unsigned_of _ = Err TypeUnmatched

abbrev pub octet_string_of : Value → Result (List ℕ) AccessResult
octet_string_of (octet_string bytes) = Ok bytes
octet_string_of _ = Err TypeUnmatched

abbrev pub integer_of : Value → Result ℤ AccessResult
integer_of (integer z) = Ok z
integer_of _ = Err TypeUnmatched

-- ---- one column

-- a structure of class, name, attribute and data index: the id of the column that it names, if it names one
abbrev pub column_named : Value → Result (Option ℕ) AccessResult
column_named v =
    four_of v >>= λ fields.
    long_unsigned_of fields.0 >>= λ class.
    octet_string_of fields.1 >>= λ name.
    integer_of fields.2 >>= λ attribute.
    long_unsigned_of fields.3 >>= λ index.
    Ok (if int_eq attribute (pos captured_attribute) && (index == 0) then id_of class name
    else None)

-- ---- columns

-- what each of some structures names
abbrev pub all_named : Values → Result (List (Option ℕ)) AccessResult
all_named none = Ok []
all_named (cons v vs) = column_named v >>= λ id. all_named vs >>= λ ids. Ok (id ∷ ids)

-- the ids, if each structure names a column
abbrev pub known : List (Option ℕ) → Option (List ℕ)
known [] = Some []
known (None ∷ named) = None
known (Some id ∷ named) = option_map (λ ids. id ∷ ids) (known named)

-- they are no more than a row has columns
abbrev pub few : List ℕ → Result (List ℕ) AccessResult
few ids = if nat_le (length ids) MOST_COLUMNS then Ok ids else Err OtherReason

-- the ids of the columns that structures name, in their order
abbrev pub columns_named : Values → Result (List ℕ) AccessResult
columns_named vs = all_named vs >>= λ named. ok_or (known named) OtherReason >>= few

-- the same of an array of structures
abbrev pub columns_of : Value → Result (List ℕ) AccessResult
columns_of (array vs) = columns_named vs
columns_of _ = Err TypeUnmatched

-- the id is one, and there is room for it; for a private function alone
abbrev pub has_place : List ℕ → Option ℕ → Bool
has_place ids None = false
has_place ids (Some id) = nat_lt (length ids) MOST_COLUMNS
