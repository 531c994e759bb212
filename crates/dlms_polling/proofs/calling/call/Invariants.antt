use Rattle.dlms_polling.specs.Calling.{Tried, aim_of}
use Rattle.dlms_polling.specs.Guards.{watch}
use Rattle.dlms_polling.specs.Ways.{way_of}
use Rattle.dlms_polling.proofs.calling.call.Given as goal

abbrev pub invariant-attempts : goal.invariant-attempts
invariant-attempts g l = Tried (aim_of l.fn.polling (way_of l.fn.way)) (g.L.End.past l.fn.line) (watch (g.D.Timer.seen l.fn.inputs) (g.G.Guards.given l.fn.guards)) l._attempt l.connected (g.L.End.past l.line) (watch (g.D.Timer.seen l.inputs) (g.G.Guards.given l.guards))
