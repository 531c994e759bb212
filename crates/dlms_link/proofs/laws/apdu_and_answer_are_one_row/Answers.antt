use Rattle.dlms_link.proofs.OneRow.{one_row}
use Rattle.dlms_link.proofs.laws.apdu_and_answer_are_one_row.Goals as goal

pub returns : goal.returns
returns c = one_row
