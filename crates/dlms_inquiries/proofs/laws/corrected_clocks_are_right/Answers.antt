use Rattle.dlms_inquiries.proofs.ClockLemmas.{sets_right, shifts_right}
use Rattle.dlms_inquiries.proofs.laws.corrected_clocks_are_right.Goals as goal

pub returns-clause-shifted : goal.returns-clause-shifted
returns-clause-shifted c = shifts_right

pub returns-clause-set : goal.returns-clause-set
returns-clause-set c = sets_right
