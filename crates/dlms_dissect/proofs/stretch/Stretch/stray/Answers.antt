use Rattle.std.proofs.Common.{length, ap, arith}
use Rattle.dlms_dissect.proofs.StretchLemmas.{untold}
use Rattle.dlms_dissect.proofs.stretch.Stretch.stray.Goals as goal

pub returns-clause-bytes : goal.returns-clause-bytes
returns-clause-bytes g c =
    rw c.deref.ensures.value
    (untold c.args.self.now.kept.items c.args.self.now.told c.args.before c.min-before.result c.min-told.result (omega (arith, ap length c.deref.ensures.value)) c.min-told.ensures)
