use Rattle.dlms_client.proofs.Running.{blocks_are_of_the_request}
use Rattle.dlms_client.proofs.laws.blocks_are_of_the_request.Goals as goal

pub returns : goal.returns
returns g c = blocks_are_of_the_request c.blocks_are_of_the_request.ensures _
