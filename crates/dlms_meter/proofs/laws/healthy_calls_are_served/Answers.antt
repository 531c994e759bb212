use Rattle.dlms_meter.proofs.HealthLaw.{go_well}
use Rattle.dlms_meter.proofs.laws.healthy_calls_are_served.Goals as goal

pub returns : goal.returns
returns g c calls w made healthy stands = go_well calls c.args._old.now c.args._new.now w made healthy stands
