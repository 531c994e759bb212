-- The parameters of selective access to a buffer (Blue Book 4.3.6).
use Rattle.std.specs.Prelude.{ℕ, List}
use Rattle.dlms_data.specs.Value.{Value, array, structure, double_long_unsigned, octet_string, integer, long_unsigned, none, cons}
use Rattle.dlms_buffer.specs.declared.column.Column.{Column}

abbrev pub restricting_object : Column → Value
restricting_object c =
    structure (cons (long_unsigned c.class) (cons (octet_string c.name) (cons (integer c.attribute)
    (cons (long_unsigned c.index) none))))

-- range_descriptor: the restricting object, the first and the last value, and all columns
abbrev pub range : Column → List ℕ → List ℕ → Value
range clock from to =
    structure (cons (restricting_object clock) (cons (octet_string from) (cons (octet_string to)
    (cons (array none) none))))

-- entry_descriptor: the first entry and the last one, or 0 for the last one there is; the first column, and 0 for the last one there is
abbrev pub entries : ℕ → ℕ → Value
entries from to =
    structure (cons (double_long_unsigned from) (cons (double_long_unsigned to) (cons
    (long_unsigned 1)
    (cons (long_unsigned 0) none))))
