use Rattle.dlms_cipher.proofs.BlockLemmas.{poly_filled}
use Rattle.dlms_cipher.proofs.LawLemmas.{block_back}
use Rattle.dlms_cipher.proofs.laws.block_polynomial.Goals as goal

pub returns-clause-determined : goal.returns-clause-determined
returns-clause-determined c = block_back

pub returns-clause-padded : goal.returns-clause-padded
returns-clause-padded c = poly_filled
