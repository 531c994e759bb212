use Rattle.dlms_data.specs.View.{value_of}
use Rattle.dlms_headend.proofs.Values.{no_second_named}
use Rattle.dlms_headend.proofs.buffer.row.Goals as goal

pub returns-in_err-clock-clause-none : goal.returns-in_err-clock-clause-none
returns-in_err-clock-clause-none g c =
    rw c.from_residual-in_err-clock.ensures (no_second_named (value_of c.args.value.now) c.in_ok-time.time.now c.in_ok-time.registers c.in_ok-time.ensures c.in_err-clock.ensures.none)
