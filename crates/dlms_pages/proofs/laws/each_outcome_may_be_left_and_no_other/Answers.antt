use Rattle.dlms_pages.proofs.Outcomes.{each_outcome}
use Rattle.dlms_pages.proofs.laws.each_outcome_may_be_left_and_no_other.Goals as goal

pub returns : goal.returns
returns c = λ memory index old new there calls. each_outcome memory index old new there calls
