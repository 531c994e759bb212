use Rattle.std.proofs.Common.{refl}
use Rattle.dlms_inquiries.proofs.AskLemmas.{read_so}
use Rattle.dlms_inquiries.proofs.ask_job.AskJob.read_once.Goals as goal

pub returns-in-Ok-collect-clause-reads : goal.returns-in-Ok-collect-clause-reads
returns-in-Ok-collect-clause-reads g c =
    read_so g.S.Script.follows _ _ _ _ _ _ _ _ _ _ c.in-Ok.outcome _ c.in-Ok-collect.field-0 _ c.self.view_is c.in-Ok.is c.feed-heard.ensures.feeds refl c.in-Ok-collect.is c.collect.ensures c.follow.ensures
