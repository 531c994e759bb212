use Rattle.dlms_meter.proofs.LifeLaw.{recovers_in_lives}
use Rattle.dlms_meter.proofs.laws.recovers_in_lives.Goals as goal

pub returns : goal.returns
returns c = recovers_in_lives
