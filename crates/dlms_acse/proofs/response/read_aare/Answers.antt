use Rattle.std.proofs.Common.{◌∙◌}
use Rattle.dlms_acse.proofs.Apdus.{aare_told, aare_only}
use Rattle.dlms_acse.proofs.response.read_aare.Goals as goal

pub returns-clause-found : goal.returns-clause-found
returns-clause-found c = aare_told c.args.bytes.now c.said.result c.said.ensures

pub returns-clause-only : goal.returns-clause-only
returns-clause-only c v s = c.said.ensures ∙ aare_only c.args.bytes.now v s
