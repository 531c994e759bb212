-- The transfers of a talk.
use Rattle.std.specs.Prelude.{Option}
use Rattle.dlms_blocks.specs.Coming.{Coming}
use Rattle.dlms_blocks.specs.Joining.{Joining}
use Rattle.dlms_dissect.specs.declared.named.Asked.{Asked}

-- the value that is read, and the one that is set or the parameter; and for each the object of its first block, if that is known
pub record TwoTransfers : Type 0 where
  pub got : Joining
  pub got_of : Option Asked
  pub put : Coming
  pub put_of : Option Asked
