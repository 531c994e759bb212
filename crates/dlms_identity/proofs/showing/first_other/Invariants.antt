use Rattle.std.proofs.Common.{take}
use Rattle.dlms_client.specs.Plan.{plan_of}
use Rattle.dlms_identity.specs.Showing.{ShowAll}
use Rattle.dlms_identity.proofs.showing.first_other.Given as goal

abbrev pub invariant-loop-one : goal.invariant-loop-one
invariant-loop-one g l = ShowAll (g.S.End.past l.fn.line) (plan_of l.plan) (take l.one-index l.expected) (g.S.End.past l.line)
