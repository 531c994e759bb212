use Rattle.std.proofs.Common.{ap, Some, None}
use Rattle.dlms_inquiries.specs.Inquiries.{answer_in}
use Rattle.dlms_inquiries.proofs.AskLemmas.{followed}
use Rattle.dlms_inquiries.proofs.ask_job.AskJob.follow.Goals as goal

pub returns-in-Associated : goal.returns-in-Associated
returns-in-Associated g c = followed g.S.Script.follows _ _ _ _ c.args.outcome None _ (ap answer_in c.in-Associated.is) c.go_on.ensures

pub returns-in-Answered : goal.returns-in-Answered
returns-in-Answered g c =
    followed g.S.Script.follows _ _ _ _ c.args.outcome (Some c.in-Answered.answer) _ (ap answer_in c.in-Answered.is) c.go_on-in-Answered.ensures
