use Rattle.dlms_classes.proofs.Naming.{set_as_read}
use Rattle.dlms_classes.proofs.laws.capture_objects_are_set_as_they_are_read.Goals as goal

pub returns : goal.returns
returns c = set_as_read
