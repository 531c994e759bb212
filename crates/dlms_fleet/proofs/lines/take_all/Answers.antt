use Rattle.std.proofs.Common.{arith, refl, false, true, ◌≡◌}
use Rattle.dlms_fleet.proofs.Serving.{is_full, rests, taken_more, taken_none}
use Rattle.dlms_fleet.proofs.lines.take_all.Goals as goal

pub loop-taken-init : goal.loop-taken-init
loop-taken-init g c = taken_none g.T.Job.steps _ _

pub loop-taken-preserved : goal.loop-taken-preserved
loop-taken-preserved g c =
    taken_more g.T.Job.steps c.loop-taken._taken (g.L.Lines.past c.args.lines.now) (g.L.Lines.past c.loop-taken.lines) (g.L.Lines.past c.take_one.new.lines)
    c.args.fleet.now c.loop-taken.fleet c.take_one.new.fleet true refl c.loop-taken.invariant c.if-not-take_one.ensures

pub returns-then-not-take_one : goal.returns-then-not-take_one
returns-then-not-take_one g c =
    rests g.T.Job.steps c.loop-taken._taken c.args.most (g.L.Lines.past c.args.lines.now) (g.L.Lines.past c.loop-taken.lines) (g.L.Lines.past c.take_one.new.lines)
    c.args.fleet.now c.loop-taken.fleet c.take_one.new.fleet false refl c.loop-taken.invariant c.if-not-take_one.ensures

pub returns : goal.returns
returns g c =
    let all : c.loop-taken._taken ≡ c.args.most = omega (arith, c.loop-taken-test.false, c.loop-taken.auto._taken-end) in
    is_full g.T.Job.steps c.loop-taken._taken c.args.most _ _ _ _ all c.loop-taken.invariant
