use Rattle.std.proofs.Common.{◌∙◌, ap}
use Rattle.dlms_ends.specs.PollEnds.{PollEndValue}
use Rattle.dlms_ends.proofs.PollEndLemmas.{timeout_breaks, timeout_enough, timeout_fault, timeout_told}
use Rattle.dlms_ends.proofs.poll_end.PollEnd.repeat.Goals as goal

pub returns-in-Err-clause-told : goal.returns-in-Err-clause-told
returns-in-Err-clause-told g c =
    timeout_fault _ _ _ _ c.in-Err.fault c.cause.result (c.deref_mut.ensures.value ∙ ap (λ (t : PollEndValue). t.poll) c.self.view_is) c.cause.ensures c.in-Err.ensures

pub returns-in-Ok-Done-clause-told : goal.returns-in-Ok-Done-clause-told
returns-in-Ok-Done-clause-told g c =
    timeout_enough _ _ _ _ c.in-Ok-Done.field-0 c.in-Ok-Done.field-0-is (c.deref_mut.ensures.value ∙ ap (λ (t : PollEndValue). t.poll) c.self.view_is) c.in-Ok-Done.ensures

pub returns-in-Ok-clause-told : goal.returns-in-Ok-clause-told
returns-in-Ok-clause-told g c =
    timeout_told _ _ _ _ _ _ c.in-Ok-Nothing.field-0 c.in-Ok-Nothing.field-0-is (c.deref_mut.ensures.value ∙ ap (λ (t : PollEndValue). t.poll) c.self.view_is) (ap (λ (t : PollEndValue). t.poll) c.in-Ok.ensures.same) c.in-Ok-Nothing.ensures c.in-Ok.ensures.goes

pub returns-in-Err-send-clause-told : goal.returns-in-Err-send-clause-told
returns-in-Err-send-clause-told g c =
    timeout_breaks _ _ _ _ _ _ c.in-Ok-Nothing.field-0 c.in-Err-send.fault c.in-Ok-Nothing.field-0-is (c.deref_mut.ensures.value ∙ ap (λ (t : PollEndValue). t.poll) c.self.view_is) (ap (λ (t : PollEndValue). t.poll) c.in-Err-send.ensures.same) c.in-Ok-Nothing.ensures c.in-Err-send.ensures.goes
