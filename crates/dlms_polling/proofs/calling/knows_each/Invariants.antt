use Rattle.std.proofs.Common.{take}
use Rattle.dlms_polling.specs.Calling.{KnowsEach, aim_of}
use Rattle.dlms_polling.specs.Ways.{way_of}
use Rattle.dlms_polling.proofs.calling.knows_each.Given as goal

abbrev pub invariant-loop-one : goal.invariant-loop-one
invariant-loop-one g l = KnowsEach (aim_of l.fn.polling (way_of l.fn.way)) (g.L.End.past l.fn.line) (g.D.Timer.seen l.fn.inputs) (take l.one-index l.fn.polling.expected.now) (g.L.End.past l.line) (g.D.Timer.seen l.inputs)
