use Rattle.dlms_acse.proofs.Apdus.{aarq_told, aarq_told_only}
use Rattle.dlms_acse.proofs.reading.read_aarq.Goals as goal

pub returns-clause-found : goal.returns-clause-found
returns-clause-found c = aarq_told c.args.bytes.now c.said.result c.said.ensures

pub returns-clause-only : goal.returns-clause-only
returns-clause-only c = aarq_told_only c.args.bytes.now c.said.result c.said.ensures
