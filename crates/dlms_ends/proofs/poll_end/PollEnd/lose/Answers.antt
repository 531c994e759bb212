use Rattle.std.proofs.Common.{◌∙◌, ap}
use Rattle.dlms_ends.specs.PollEnds.{PollEndValue}
use Rattle.dlms_ends.proofs.PollEndLemmas.{lost_as}
use Rattle.dlms_ends.proofs.poll_end.PollEnd.lose.Goals as goal

pub returns-clause-lost : goal.returns-clause-lost
returns-clause-lost g c =
    lost_as _ _ _ _ _ _ (c.deref_mut.ensures.value ∙ ap (λ (t : PollEndValue). t.poll) c.self.view_is) c.wait-told.ensures c.outcome_of_loss.ensures
