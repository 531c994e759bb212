use Rattle.dlms_serving.proofs.GuessLemmas.{one_a_second}
use Rattle.dlms_serving.proofs.guess_laws.at_most_one_a_second.Goals as goal

pub returns : goal.returns
returns c = one_a_second
