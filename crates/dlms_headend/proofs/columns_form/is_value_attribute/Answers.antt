use Rattle.dlms_headend.proofs.ColumnForms.{two_told}
use Rattle.dlms_headend.proofs.columns_form.is_value_attribute.Goals as goal

pub returns : goal.returns
returns c = λ v h. two_told v c.args.bytes.now h c.are_same.result c.are_same.ensures
