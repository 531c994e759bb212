use Rattle.dlms_blocks.proofs.CallLemmas.{give_the_blocks, join_to_the_value, give_each_in_order}
use Rattle.dlms_blocks.proofs.laws.calls_give_the_value.Goals as goal

pub returns-clause-blocks : goal.returns-clause-blocks
returns-clause-blocks c = give_the_blocks

pub returns-clause-joined : goal.returns-clause-joined
returns-clause-joined c = join_to_the_value

pub returns-clause-in_order : goal.returns-clause-in_order
returns-clause-in_order c = give_each_in_order
