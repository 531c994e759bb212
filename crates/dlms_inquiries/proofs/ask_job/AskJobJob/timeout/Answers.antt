use Rattle.dlms_fleet.specs.Inputs.Input.{TimesOut}
use Rattle.dlms_inquiries.proofs.AskLemmas.{stepped}
use Rattle.dlms_inquiries.proofs.ask_job.AskJobJob.timeout.Goals as goal

pub returns : goal.returns
returns g c = stepped g.S.Script.follows TimesOut _ _ _ _ _ _ c.new-out.ensures.items c.repeat-told.ensures c.step_for.ensures
