use Rattle.dlms_secured.proofs.Sharing.{runs_lead}
use Rattle.dlms_secured.proofs.laws.runs_lead.Goals as goal

pub returns : goal.returns
returns g c = runs_lead _
