use Rattle.std.proofs.Common.{refl, subst, List, Option, Ok}
use Rattle.std.specs.Prelude.{IfSome}
use Rattle.dlms_polling.specs.Guards.{watch}
use Rattle.dlms_polling.specs.Ways.{IsDoneBy, way_of}
use Rattle.dlms_polling.specs.declared.way.DonePoll.{DonePoll}
use Rattle.dlms_polling.specs.Calling.{Calls, Misjudged, NotCalled, TooLate, aim_of}
use Rattle.dlms_headend.specs.declared.row.Row.{Row}
use Rattle.dlms_polling.specs.Clocks.{Refuses}
use Rattle.dlms_polling.proofs.polling.call_meter.Goals as goal

pub returns-in-Ok-clause-done : goal.returns-in-Ok-clause-done
returns-in-Ok-clause-done g c = subst (λ (found : Option DonePoll). IfSome found (IsDoneBy (way_of c.args.way.now))) c.in-Ok-Some.field-0-is c.in-Ok-Some.ensures.done

pub returns-in-Err-clause-fails : goal.returns-in-Err-clause-fails
returns-in-Err-clause-fails g c = NotCalled c.in-Err.ensures.calls

pub returns-in-Ok-None-clause-fails : goal.returns-in-Ok-None-clause-fails
returns-in-Ok-None-clause-fails g c =
    TooLate (refl, refl)
    (subst (λ (found : Option DonePoll). Calls (aim_of c.args.polling.now (way_of c.args.way.now)) (g.L.End.past c.args.line.now) (g.L.End.past c.call-called.new.line) (watch (g.D.Timer.seen c.args.inputs.now) (g.G.Guards.given c.args.guards.now)) (watch (g.D.Timer.seen c.call-called.new.inputs) (g.G.Guards.given c.call-called.new.guards)) (Ok found)) c.in-Ok-None.field-0-is c.in-Ok-None.ensures.calls)

pub returns-clause-fails : goal.returns-clause-fails
returns-clause-fails g c =
    Misjudged c.in-Err-judge.fault c.in-Ok-Some.done (refl, refl)
    (subst (λ (found : Option DonePoll). Calls (aim_of c.args.polling.now (way_of c.args.way.now)) (g.L.End.past c.args.line.now) (g.L.End.past c.call-called.new.line) (watch (g.D.Timer.seen c.args.inputs.now) (g.G.Guards.given c.args.guards.now)) (watch (g.D.Timer.seen c.call-called.new.inputs) (g.G.Guards.given c.call-called.new.guards)) (Ok found)) c.in-Ok-Some.field-0-is c.in-Ok-Some.ensures.calls)
    (subst (λ (rows : List Row). Refuses c.args.polling.now.strict c.args.limit rows c.in-Err-judge.fault) c.rows.ensures.rows c.in-Err-judge.ensures)
