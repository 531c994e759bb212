use Rattle.dlms_fleet.proofs.Example.{example_is_run}
use Rattle.dlms_fleet.proofs.Numbers.{one_is_done}
use Rattle.dlms_fleet.proofs.laws.runs_exist.Goals as goal

pub returns-clause-run : goal.returns-clause-run
returns-clause-run c = example_is_run

pub returns-clause-numbered : goal.returns-clause-numbered
returns-clause-numbered c = one_is_done
