use Rattle.dlms_checkpoint.specs.Layouts.{as_present}
use Rattle.dlms_checkpoint.proofs.Filled.{one_state}
use Rattle.dlms_checkpoint.proofs.laws.bytes_tell_one_state.Goals as goal

pub returns : goal.returns
returns c = record { present = one_state; version = λ version bytes ring s t. one_state (record { bytes = as_present version bytes; ring = ring }) s t }
