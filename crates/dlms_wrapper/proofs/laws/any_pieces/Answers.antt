use Rattle.dlms_wrapper.proofs.StreamLemmas.{any_run}
use Rattle.dlms_wrapper.proofs.laws.any_pieces.Goals as goal

pub returns : goal.returns
returns c = λ limit calls new fed. any_run limit calls new fed
