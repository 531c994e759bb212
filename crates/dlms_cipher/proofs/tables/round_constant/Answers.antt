use Rattle.dlms_cipher.proofs.BoxLemmas.{constant_at}
use Rattle.dlms_cipher.proofs.tables.round_constant.Goals as goal

pub returns : goal.returns
returns c = constant_at c.args.round c.requires
