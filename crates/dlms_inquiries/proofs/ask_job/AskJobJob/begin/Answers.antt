use Rattle.dlms_fleet.specs.Inputs.Input.{Begins}
use Rattle.dlms_inquiries.proofs.AskLemmas.{stepped}
use Rattle.dlms_inquiries.proofs.ask_job.AskJobJob.begin.Goals as goal

pub returns : goal.returns
returns g c = stepped g.S.Script.follows Begins _ _ _ _ _ _ c.new-out.ensures.items c.connect-told.ensures c.step_for.ensures
