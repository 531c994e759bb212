use Rattle.dlms_wrapper.proofs.StreamLemmas.{written_again}
use Rattle.dlms_wrapper.proofs.laws.written_is_read.Goals as goal

pub returns : goal.returns
returns c = λ limit ms calls new each fed e. written_again limit ms calls new each fed e
