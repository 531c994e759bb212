use Rattle.dlms_program.proofs.OutcomeLemmas.{one_outcome_of}
use Rattle.dlms_program.proofs.laws.one_outcome.Goals as goal

pub returns : goal.returns
returns c = one_outcome_of
