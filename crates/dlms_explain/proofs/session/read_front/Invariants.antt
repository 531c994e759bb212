use Rattle.std.proofs.Common.{◌≤◌, length}
use Rattle.dlms_explain.proofs.session.read_front.Given as goal

abbrev pub invariant-loop : goal.invariant-loop
invariant-loop g l = l.count ≤ length l.room
