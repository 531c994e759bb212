use Rattle.dlms_world.proofs.OverCarrier.{polls_hold}
use Rattle.dlms_world.proofs.laws.a_poll_over_a_carrier.Goals as goal

pub returns : goal.returns
returns g c = polls_hold _ c.args.meter.now
