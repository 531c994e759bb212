use Rattle.std.proofs.Common.{ap}
use Rattle.dlms_classes.specs.Shown.{as_table}
use Rattle.dlms_classes.proofs.Matching.{all_cut}
use Rattle.dlms_classes.proofs.laws.a_cut_may_be_all.Goals as goal

pub returns : goal.returns
returns c = λ columns rows. ap as_table (all_cut columns rows)
