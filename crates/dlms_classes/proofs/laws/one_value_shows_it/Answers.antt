use Rattle.dlms_classes.proofs.OneValue.{one_value}
use Rattle.dlms_classes.proofs.laws.one_value_shows_it.Goals as goal

pub returns : goal.returns
returns c = one_value
