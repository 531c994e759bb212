use Rattle.dlms_program.proofs.OutcomeLemmas.{healthy_outcome_of}
use Rattle.dlms_program.proofs.laws.one_outcome_without_a_fault.Goals as goal

pub returns : goal.returns
returns c = healthy_outcome_of
