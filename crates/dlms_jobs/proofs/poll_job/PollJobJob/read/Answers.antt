use Rattle.std.proofs.Common.{ℕ, List, [], subst, sym}
use Rattle.dlms_ends.specs.PollEnds.{PollEndValue}
use Rattle.dlms_jobs.specs.PollJobs.{ReadsBytes}
use Rattle.dlms_jobs.proofs.poll_job.PollJobJob.read.Goals as goal

pub returns : goal.returns
returns c = record {
  octets = c.take-result.new.out.items;
  result = c.take-result.result;
  calls = subst (λ (job : PollEndValue). ReadsBytes [] c.take-result.new.out.items c.args.self.now c.args.bytes.now c.take-result.result job) (sym c.remember_first.ensures)
      (subst (λ (old : List ℕ). ReadsBytes old c.take-result.new.out.items c.args.self.now c.args.bytes.now c.take-result.result c.take-result.new.self) c.new-out.ensures.items c.take-result.ensures);
  step_is = c.step_for.ensures;
}
