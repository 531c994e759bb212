use Rattle.dlms_fleet.specs.Inputs.Input.{Reads}
use Rattle.dlms_inquiries.proofs.AskLemmas.{settled_so}
use Rattle.dlms_inquiries.proofs.ask_job.AskJobJob.read.Goals as goal

pub returns : goal.returns
returns g c =
    settled_so g.S.Script.follows (Reads c.args.bytes.now) _ _ _ _ _ _ _ _ c.new-out.ensures.items c.take-told.ensures c.remember_first.ensures c.settled.ensures c.step_for.ensures
