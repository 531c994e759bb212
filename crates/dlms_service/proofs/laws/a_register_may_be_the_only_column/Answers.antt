use Rattle.dlms_service.proofs.OneColumn.{set_served, capture_served, read_served}
use Rattle.dlms_service.proofs.laws.a_register_may_be_the_only_column.Goals as goal

pub returns-clause-set : goal.returns-clause-set
returns-clause-set c = set_served

pub returns-clause-capture : goal.returns-clause-capture
returns-clause-capture c = capture_served

pub returns-clause-read : goal.returns-clause-read
returns-clause-read c = read_served
