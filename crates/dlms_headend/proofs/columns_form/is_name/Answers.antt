use Rattle.dlms_headend.proofs.ColumnForms.{name_told}
use Rattle.dlms_headend.proofs.columns_form.is_name.Goals as goal

pub returns : goal.returns
returns c = λ v h. name_told v _ c.args.name.now (c.in-Some.ensures v h) c.are_same.result c.are_same.ensures
