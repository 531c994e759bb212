use Rattle.dlms_headend.proofs.Files.{only_rows}
use Rattle.dlms_headend.proofs.readings.Readings.open.Goals as goal

pub returns-clause-only : goal.returns-clause-only
returns-clause-only g c = λ rows h. only_rows c.args.text.now c.read.result (rw c.as_bytes.ensures.value at c.read.ensures) rows h
