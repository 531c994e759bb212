use Rattle.dlms_classes.proofs.Sendable.{can_be_sent}
use Rattle.dlms_classes.proofs.laws.what_is_shown_can_be_sent.Goals as goal

pub returns : goal.returns
returns c = can_be_sent
