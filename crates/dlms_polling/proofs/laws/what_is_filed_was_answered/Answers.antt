use Rattle.dlms_polling.proofs.RiserLemmas.{files_some}
use Rattle.dlms_polling.proofs.laws.what_is_filed_was_answered.Goals as goal

pub returns : goal.returns
returns c = files_some
