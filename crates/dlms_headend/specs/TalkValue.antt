-- The contract's view of the answers of a poll.
use Rattle.std.specs.Prelude.{List}
use Rattle.dlms_blocks.specs.Joining.{Joining}
use Rattle.dlms_headend.specs.declared.row.Row.{Row}
use Rattle.dlms_headend.specs.declared.stage.Stage.{Stage}

pub record TalkValue : Type 0 where
  pub stage : Stage
  pub blocks : Joining
  pub rows : List Row
