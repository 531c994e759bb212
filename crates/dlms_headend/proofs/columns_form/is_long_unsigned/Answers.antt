use Rattle.std.proofs.Common.{arith}
use Rattle.dlms_headend.proofs.ColumnForms.{small_told}
use Rattle.dlms_headend.proofs.columns_form.is_long_unsigned.Goals as goal

pub returns : goal.returns
returns c = λ v h. small_told c.args.number v c.args.bytes.now (omega (arith, c.ranges.number)) h c.are_same.result c.are_same.ensures
