use Rattle.dlms_telegram.proofs.DivisionLemmas.{some_left, check_is_left}
use Rattle.dlms_telegram.proofs.laws.division.Goals as goal

pub returns : goal.returns
returns c = record { some = some_left; check = check_is_left }
