use Rattle.dlms_apdu.proofs.WholeLaws.{tells_what_follows_a_response}
use Rattle.dlms_apdu.proofs.laws.tells_what_follows_a_response.Goals as goal

pub returns : goal.returns
returns c = tells_what_follows_a_response
