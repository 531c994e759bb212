use Rattle.std.proofs.Common.{rules, refl, ◌∙◌}
use Rattle.dlms_jobs.proofs.JobLemmas.{all_is_read, done_with, ends_with, none_yet, one_more, withheld_at}
use Rattle.dlms_jobs.proofs.poll_job.PollJob.read_piece.Goals as goal

pub calls-init : goal.calls-init
calls-init c = (none_yet _ _ _, refl)

pub returns-in-Err-clause-piece : goal.returns-in-Err-clause-piece
returns-in-Err-clause-piece c = ends_with _ _ _ _ _ _ _ _ c.in-Err.fault _ c.in-Err.is c.calls.invariant.0 c.read_once-count.ensures.reads

pub returns-in-Ok-Done-clause-piece : goal.returns-in-Ok-Done-clause-piece
returns-in-Ok-Done-clause-piece c = done_with _ _ _ _ _ _ _ _ _ (search rules) c.calls.invariant.0 c.read_once-count.ensures.reads

pub returns-in-Err-collect-clause-piece : goal.returns-in-Err-collect-clause-piece
returns-in-Err-collect-clause-piece c =
    withheld_at _ _ _ _ _ _ _ _ _ c.in-Err-collect.fault _ (search rules) c.calls.invariant.0 c.read_once-count.ensures.reads c.in-Err-collect.ensures

pub calls-preserved : goal.calls-preserved
calls-preserved c = (
  one_more _ _ _ _ _ _ _ _ _ _ _ (search rules) c.calls.invariant.0 c.read_once-count.ensures.reads c.in-Ok.ensures,
  c.read_once-count.ensures.left ∙ c.calls.invariant.1,
)

pub returns-clause-piece : goal.returns-clause-piece
returns-clause-piece c = all_is_read _ _ _ _ _ _ c.calls.invariant.0 (search rules)
