use Rattle.dlms_wrapper.proofs.HeaderLemmas.{one_message}
use Rattle.dlms_wrapper.proofs.laws.one_spelling.Goals as goal

pub returns : goal.returns
returns c = λ m n after rest e. one_message m n after rest e
