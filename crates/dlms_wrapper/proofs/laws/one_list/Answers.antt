use Rattle.dlms_wrapper.proofs.StreamLemmas.{one_list}
use Rattle.dlms_wrapper.proofs.laws.one_list.Goals as goal

pub returns : goal.returns
returns c = λ limit stream ms ns rest left a b. one_list limit stream ms ns rest left a b
