use Rattle.std.proofs.Common.{refl}
use Rattle.dlms_ends.proofs.MomentLemmas.{adds_none}
use Rattle.dlms_filing.proofs.DiskLemmas.{called_more}
use Rattle.dlms_lines.proofs.SharedLemmas.{sees_nothing}
use Rattle.dlms_lines.specs.Watching.{error_in}
use Rattle.dlms_polling.specs.Doing.{Guarded, Unguarded}
use Rattle.dlms_polling.proofs.routed.poll_secured.Goals as goal

pub returns-in-Err-clause-does : goal.returns-in-Err-clause-does
returns-in-Err-clause-does g c =
    Unguarded c.in-Err.fault c.in-Err.ensures (adds_none (g.S.End.past c.args.line.now)) (sees_nothing (g.T.Timer.seen c.args.timer.now)) refl

pub returns-clause-does : goal.returns-clause-does
returns-clause-does g c =
    Guarded c.in-Ok.guard.value c.poll_over-told.new.accepted (error_in c.keep-kept.result)
    (called_more (g.G.Guards.given c.args.guards.now) (g.G.Guards.given c.guard.new.self) (g.G.Guards.given c.keep-kept.new.self) _ _ c.in-Ok.ensures c.keep-kept.ensures)
    c.poll_over-told.result c.poll_over-told.ensures.does c.kept_so.ensures
