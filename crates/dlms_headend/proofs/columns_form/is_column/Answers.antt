use Rattle.std.proofs.Common.{pos}
use Rattle.dlms_data.specs.Value.{integer, long_unsigned, octet_string}
use Rattle.dlms_headend.proofs.ColumnForms.{other_first, other_second, other_third, last_told}
use Rattle.dlms_headend.proofs.columns_form.is_column.Goals as goal

pub returns-then-not-is_long_unsigned : goal.returns-then-not-is_long_unsigned
returns-then-not-is_long_unsigned c = λ v h.
    let four = c.in-Some.ensures v h in
    other_first v _ _ _ _ four (long_unsigned c.args.class) (octet_string c.args.name.now) (integer (pos 2)) (long_unsigned 0) (c.if-not-is_long_unsigned.ensures four.first four.first_spelled)

pub returns-then-not-is_name : goal.returns-then-not-is_name
returns-then-not-is_name c = λ v h.
    let four = c.in-Some.ensures v h in
    other_second v _ _ _ _ four (long_unsigned c.args.class) (octet_string c.args.name.now) (integer (pos 2)) (long_unsigned 0) (c.if-not-is_name.ensures four.second four.second_spelled)

pub returns-then-not-is_value_attribute : goal.returns-then-not-is_value_attribute
returns-then-not-is_value_attribute c = λ v h.
    let four = c.in-Some.ensures v h in
    other_third v _ _ _ _ four (long_unsigned c.args.class) (octet_string c.args.name.now) (integer (pos 2)) (long_unsigned 0) (c.if-not-is_value_attribute.ensures four.third four.third_spelled)

pub returns : goal.returns
returns c = λ v h.
    let four = c.in-Some.ensures v h in
    last_told v _ _ _ _ four (long_unsigned c.args.class) (octet_string c.args.name.now) (integer (pos 2)) (long_unsigned 0)
    (c.if-not-is_long_unsigned.ensures four.first four.first_spelled) (c.if-not-is_name.ensures four.second four.second_spelled) (c.if-not-is_value_attribute.ensures four.third four.third_spelled)
    c.is_long_unsigned-2.result (c.is_long_unsigned-2.ensures four.fourth four.fourth_spelled)
