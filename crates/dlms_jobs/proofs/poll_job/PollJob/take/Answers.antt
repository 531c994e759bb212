use Rattle.dlms_jobs.proofs.JobLemmas.{came_in}
use Rattle.dlms_jobs.proofs.poll_job.PollJob.take.Goals as goal

pub returns : goal.returns
returns c =
    let counted = c.counts.ensures.counted c.if-not-counts.false in
    came_in _ _ _ _ _ _ _ counted.0 counted.1 c.read_piece.ensures.left c.read_piece.ensures.piece
