use Rattle.dlms_apdu.proofs.WholeLaws.{tells_beginnings_of_responses}
use Rattle.dlms_apdu.proofs.laws.tells_beginnings_of_responses.Goals as goal

pub returns : goal.returns
returns c = tells_beginnings_of_responses
