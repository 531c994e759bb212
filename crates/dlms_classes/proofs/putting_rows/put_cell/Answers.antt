use Rattle.std.proofs.Common.{refl}
use Rattle.std.proofs.lemmas.Result.{on_ok_weaker}
use Rattle.dlms_data.specs.Value.{double_long_unsigned}
use Rattle.dlms_classes.proofs.putting_rows.put_cell.Goals as goal

pub returns-in-Number : goal.returns-in-Number
returns-in-Number g c = rw c.in-Number.is (on_ok_weaker c.put_number.result (λ is. (double_long_unsigned c.in-Number.number, refl, is)) c.put_number.ensures)
