use Rattle.dlms_security.proofs.OpeningLemmas.{opened_exactly}
use Rattle.dlms_security.proofs.laws.opening_is_exact.Goals as goal

pub returns : goal.returns
returns c = opened_exactly
