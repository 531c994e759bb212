use Rattle.dlms_serving.proofs.TickLemmas.{adds_up, counts}
use Rattle.dlms_serving.proofs.laws.pulses_add_up.Goals as goal

pub returns : goal.returns
returns c = record { pulses = adds_up; seconds = counts }
