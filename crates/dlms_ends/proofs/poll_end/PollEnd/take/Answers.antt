use Rattle.std.proofs.Common.{rules, ap, refl, ◌∙◌}
use Rattle.dlms_ends.specs.PollEnds.{PollEndValue}
use Rattle.dlms_ends.proofs.PollEndLemmas.{all_is_read, breaks_at, done_with, ends_with, none_yet, one_more}
use Rattle.dlms_ends.proofs.poll_end.PollEnd.take.Goals as goal

pub calls-init : goal.calls-init
calls-init g c = (none_yet _ _ _, refl)

pub returns-in-Err-clause-piece : goal.returns-in-Err-clause-piece
returns-in-Err-clause-piece g c = ends_with _ _ _ _ _ _ _ _ c.in-Err.fault _ c.in-Err.is c.calls.invariant.0 c.read-count.ensures.reads

pub returns-in-Ok-Done-clause-piece : goal.returns-in-Ok-Done-clause-piece
returns-in-Ok-Done-clause-piece g c = done_with _ _ _ _ _ _ _ _ _ (search rules) c.calls.invariant.0 c.read-count.ensures.reads

pub returns-in-Err-send-clause-piece : goal.returns-in-Err-send-clause-piece
returns-in-Err-send-clause-piece g c =
    breaks_at _ _ _ _ _ _ _ _ _ _ c.in-Err-send.fault _ (search rules) c.calls.invariant.0 c.read-count.ensures.reads c.in-Err-send.ensures.goes (ap (λ (t : PollEndValue). t.poll) c.in-Err-send.ensures.same)

pub calls-preserved : goal.calls-preserved
calls-preserved g c = (
  one_more _ _ _ _ _ _ _ _ _ _ _ (search rules) c.calls.invariant.0 c.read-count.ensures.reads c.in-Ok.ensures.goes (ap (λ (t : PollEndValue). t.poll) c.in-Ok.ensures.same),
  ap (λ (t : PollEndValue). t.left) c.in-Ok.ensures.same ∙ c.read-count.ensures.left ∙ c.calls.invariant.1,
)

pub returns-clause-piece : goal.returns-clause-piece
returns-clause-piece g c = all_is_read _ _ _ _ _ _ c.calls.invariant.0 (search rules)
