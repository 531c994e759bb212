use Rattle.dlms_world.proofs.Between.{still_unset, still_apart}
use Rattle.dlms_world.proofs.laws.columns_stand_still.Goals as goal

pub returns : goal.returns
returns c = record { unset = still_unset; apart = still_apart }
