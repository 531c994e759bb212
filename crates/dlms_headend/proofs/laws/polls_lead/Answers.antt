use Rattle.dlms_headend.proofs.CarrierRunning.{polls_lead}
use Rattle.dlms_headend.proofs.laws.polls_lead.Goals as goal

pub returns : goal.returns
returns g c = polls_lead _
