use Rattle.dlms_apdu.proofs.WholeLaws.{tells_what_follows_a_request}
use Rattle.dlms_apdu.proofs.laws.tells_what_follows_a_request.Goals as goal

pub returns : goal.returns
returns c = tells_what_follows_a_request
