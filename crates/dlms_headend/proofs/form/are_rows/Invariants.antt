use Rattle.std.proofs.Common.{length}
use Rattle.dlms_data.specs.Value.{Values}
use Rattle.dlms_headend.specs.Form.{StandIn}
use Rattle.dlms_headend.proofs.Forms.{Walked}
use Rattle.dlms_headend.proofs.form.are_rows.Given as goal

abbrev pub invariant-loop-rest : goal.invariant-loop-rest
invariant-loop-rest l = (vs : Values) → StandIn l.initial.bytes vs → Walked vs l.rest

abbrev pub decreases-loop-rest : goal.decreases-loop-rest
decreases-loop-rest l = length l.rest
