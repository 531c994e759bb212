use Rattle.dlms_dissect.proofs.HistoryLemmas.{kept}
use Rattle.dlms_dissect.proofs.laws.only_what_was_asked.Goals as goal

pub returns : goal.returns
returns g c = λ steps a k. kept c.args._talk.now steps a k
