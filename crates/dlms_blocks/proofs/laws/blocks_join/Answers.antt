use Rattle.dlms_blocks.proofs.BlockLemmas.{beginning_of, whole_of}
use Rattle.dlms_blocks.proofs.laws.blocks_join.Goals as goal

pub returns-clause-beginning : goal.returns-clause-beginning
returns-clause-beginning c = beginning_of

pub returns-clause-whole : goal.returns-clause-whole
returns-clause-whole c = whole_of
