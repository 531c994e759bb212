use Rattle.dlms_cipher.proofs.FieldLemmas.{product-xor}
use Rattle.dlms_cipher.proofs.PowerLemmas.{product_one, product_comm, product_assoc}
use Rattle.dlms_cipher.proofs.laws.block_ring.Goals as goal

pub returns-clause-one : goal.returns-clause-one
returns-clause-one c = product_one

pub returns-clause-commutes : goal.returns-clause-commutes
returns-clause-commutes c = product_comm

pub returns-clause-associates : goal.returns-clause-associates
returns-clause-associates c = product_assoc

pub returns-clause-distributes : goal.returns-clause-distributes
returns-clause-distributes c = product-xor
