use Rattle.std.proofs.Common.{ap}
use Rattle.dlms_data.specs.Writing.{canonical, short_length}
use Rattle.dlms_classes.proofs.laws.the_partners_of_the_reader.Goals as goal

pub returns : goal.returns
unfolding short_length
returns c = λ s d p v h. ap canonical h
