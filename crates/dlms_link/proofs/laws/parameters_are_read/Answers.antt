use Rattle.dlms_link.proofs.ParameterLaws.{size_of-information, size_of-found}
use Rattle.dlms_link.proofs.laws.parameters_are_read.Goals as goal

pub returns : goal.returns
returns c = record { read = size_of-information; found = size_of-found }
