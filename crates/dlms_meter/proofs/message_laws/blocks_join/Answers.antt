use Rattle.dlms_meter.proofs.HistoryOwn.{all_blocks_join, all_in_turn, none_unasked}
use Rattle.dlms_meter.proofs.message_laws.blocks_join.Goals as goal

pub returns-clause-turns : goal.returns-clause-turns
returns-clause-turns c = all_in_turn

pub returns-clause-joined : goal.returns-clause-joined
returns-clause-joined c = all_blocks_join

pub returns-clause-unasked : goal.returns-clause-unasked
returns-clause-unasked c = none_unasked
