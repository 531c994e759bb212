use Rattle.dlms_client.proofs.Running.{answers_are_said}
use Rattle.dlms_client.proofs.laws.answers_are_said.Goals as goal

pub returns : goal.returns
returns g c = answers_are_said c.answers_are_said.ensures _
