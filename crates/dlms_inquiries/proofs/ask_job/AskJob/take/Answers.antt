use Rattle.dlms_inquiries.proofs.AskLemmas.{took}
use Rattle.dlms_inquiries.proofs.ask_job.AskJob.take.Goals as goal

pub returns : goal.returns
returns g c =
    let counted = c.counts.ensures.counted c.if-not-counts.false in
    took g.S.Script.follows _ _ _ _ _ _ _ counted.0 counted.1 c.read_piece.ensures
