-- The contract's view of a block.
use Rattle.dlms_blocks.specs.Block.{BlockValue}
use Rattle.dlms_blocks.specs.declared.block.Block.{Block}

abbrev pub view_of : Block → BlockValue
view_of b = record { last = b.last; number = b.number; bytes = b.bytes.items }
