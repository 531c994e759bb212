use Rattle.dlms_serving.proofs.GuessLemmas.{waited_for}
use Rattle.dlms_serving.proofs.guess_laws.a_refusal_is_waited_for.Goals as goal

pub returns : goal.returns
returns c = waited_for
