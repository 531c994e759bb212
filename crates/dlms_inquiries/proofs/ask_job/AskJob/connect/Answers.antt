use Rattle.std.proofs.Common.{rules, refl}
use Rattle.dlms_inquiries.proofs.AskLemmas.{connected}
use Rattle.dlms_inquiries.proofs.ask_job.AskJob.connect.Goals as goal

pub returns : goal.returns
returns g c = connected g.S.Script.follows _ _ _ _ _ _ c.self.view_is (search rules) c.begin.ensures refl c.collect.ensures
