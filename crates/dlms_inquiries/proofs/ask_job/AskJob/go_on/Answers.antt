use Rattle.std.proofs.Common.{rules, refl}
use Rattle.dlms_inquiries.proofs.AskLemmas.{goes_on}
use Rattle.dlms_inquiries.proofs.ask_job.AskJob.go_on.Goals as goal

pub returns-in-Ok-Waits : goal.returns-in-Ok-Waits
returns-in-Ok-Waits g c =
    goes_on g.S.Script.follows _ _ _ _ _ _ _ _ _ c.in-Ok.next _ _ c.self.view_is c.value.ensures c.in-Ok.is c.next.ensures refl (search rules) c.make.ensures c.collect.ensures
