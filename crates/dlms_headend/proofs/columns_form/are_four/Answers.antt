use Rattle.dlms_data.specs.Value.{Values, structure, none, cons}
use Rattle.dlms_headend.specs.Columns.{clock_column, register_column}
use Rattle.dlms_headend.proofs.ColumnForms.{other_first, other_second, other_third, last_told, in_structure, array_told}
use Rattle.dlms_headend.proofs.columns_form.are_four.Goals as goal

abbrev four_columns : Values
four_columns = cons clock_column (cons (register_column 1) (cons (register_column 2) (cons (register_column 3) none)))

pub returns-then-not-is_column : goal.returns-then-not-is_column
returns-then-not-is_column c = λ vs stand e.
    let four = c.in-Some.ensures vs stand in
    other_first (structure vs) _ _ _ _ four clock_column (register_column 1) (register_column 2) (register_column 3) (c.if-not-is_column.ensures four.first four.first_spelled) (in_structure vs four_columns e)

pub returns-then-not-is_column-2 : goal.returns-then-not-is_column-2
returns-then-not-is_column-2 c = λ vs stand e.
    let four = c.in-Some.ensures vs stand in
    other_second (structure vs) _ _ _ _ four clock_column (register_column 1) (register_column 2) (register_column 3) (c.if-not-is_column-2.ensures four.second four.second_spelled) (in_structure vs four_columns e)

pub returns-then-not-is_column-3 : goal.returns-then-not-is_column-3
returns-then-not-is_column-3 c = λ vs stand e.
    let four = c.in-Some.ensures vs stand in
    other_third (structure vs) _ _ _ _ four clock_column (register_column 1) (register_column 2) (register_column 3) (c.if-not-is_column-3.ensures four.third four.third_spelled) (in_structure vs four_columns e)

pub returns : goal.returns
returns c = λ vs stand.
    let four = c.in-Some.ensures vs stand in
    array_told vs four_columns c.is_column-4.result
    (last_told (structure vs) _ _ _ _ four clock_column (register_column 1) (register_column 2) (register_column 3)
    (c.if-not-is_column.ensures four.first four.first_spelled) (c.if-not-is_column-2.ensures four.second four.second_spelled) (c.if-not-is_column-3.ensures four.third four.third_spelled)
    c.is_column-4.result (c.is_column-4.ensures four.fourth four.fourth_spelled))
