use Rattle.dlms_meter.proofs.Given.{blocks_join, no_block_unasked}
use Rattle.dlms_meter.proofs.InTurn.{in_turn}
use Rattle.dlms_meter.proofs.laws.blocks_join.Goals as goal

pub returns-clause-turns : goal.returns-clause-turns
returns-clause-turns c = in_turn

pub returns-clause-joined : goal.returns-clause-joined
returns-clause-joined c = blocks_join

pub returns-clause-unasked : goal.returns-clause-unasked
returns-clause-unasked c = no_block_unasked
