use Rattle.dlms_counters.proofs.RunLemmas.{nothing_is_lowered}
use Rattle.dlms_counters.proofs.laws.nothing_is_lowered.Goals as goal

pub returns : goal.returns
returns c = nothing_is_lowered
