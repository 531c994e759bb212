use Rattle.std.proofs.Common.{refl}
use Rattle.dlms_inquiries.proofs.AskLemmas.{waited}
use Rattle.dlms_inquiries.proofs.ask_job.AskJob.repeat.Goals as goal

pub returns-in-Ok : goal.returns-in-Ok
returns-in-Ok g c = waited g.S.Script.follows _ _ _ _ _ _ c.in-Ok.field-0 _ c.self.view_is c.in-Ok.is c.wait.ensures refl c.collect.ensures
