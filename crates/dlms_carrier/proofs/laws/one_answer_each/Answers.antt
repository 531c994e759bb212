use Rattle.dlms_carrier.proofs.RunLemmas.{one_each}
use Rattle.dlms_carrier.proofs.laws.one_answer_each.Goals as goal

pub returns : goal.returns
returns c = λ own server calls new run. one_each own server calls new run
