use Rattle.dlms_client.proofs.Running.{runs_lead}
use Rattle.dlms_client.proofs.laws.runs_lead.Goals as goal

pub returns : goal.returns
returns g c = runs_lead _
