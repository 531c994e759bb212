use Rattle.dlms_dissect.proofs.WalkLemmas.{list-none}
use Rattle.dlms_dissect.proofs.walk.read_list.Goals as goal

pub returns-in_err-length-clause-next : goal.returns-in_err-length-clause-next
returns-in_err-length-clause-next c =
    rw c.from_residual.ensures (list-none c.args.field c.args.steps.now c.args.bytes.now c.length_at.result c.length_at.ensures.exact c.in_err-length.was)
