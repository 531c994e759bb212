use Rattle.dlms_telegram.proofs.CutLemmas.{calls_complete}
use Rattle.dlms_telegram.proofs.laws.telegrams.Goals as goal

pub returns : goal.returns
returns c start last calls fed_by = calls_complete calls start last fed_by
