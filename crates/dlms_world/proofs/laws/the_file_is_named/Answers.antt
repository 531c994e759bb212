use Rattle.dlms_world.proofs.Between.{readings_are_named}
use Rattle.dlms_world.proofs.laws.the_file_is_named.Goals as goal

pub returns : goal.returns
returns c = readings_are_named
