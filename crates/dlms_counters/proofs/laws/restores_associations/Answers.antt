use Rattle.dlms_counters.proofs.RunLemmas.{restores_associations}
use Rattle.dlms_counters.proofs.laws.restores_associations.Goals as goal

pub returns : goal.returns
returns c = restores_associations
