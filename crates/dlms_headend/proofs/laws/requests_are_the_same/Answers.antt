use Rattle.dlms_headend.proofs.DueLemmas.{asks_the_same}
use Rattle.dlms_headend.proofs.laws.requests_are_the_same.Goals as goal

pub returns : goal.returns
returns c = asks_the_same
