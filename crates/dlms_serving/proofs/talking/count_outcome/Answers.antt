use Rattle.dlms_serving.proofs.talking.count_outcome.Goals as goal

pub returns : goal.returns
returns c = (c.outcome_in.result, c.outcome_in.ensures, c.behind_outcome.ensures)
