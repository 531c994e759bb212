use Rattle.dlms_security.proofs.EncodingLemmas.{read_exactly}
use Rattle.dlms_security.proofs.laws.reading.Goals as goal

pub returns : goal.returns
returns c = read_exactly
