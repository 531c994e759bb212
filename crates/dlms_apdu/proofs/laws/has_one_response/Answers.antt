use Rattle.dlms_apdu.proofs.WholeLaws.{has_one_response}
use Rattle.dlms_apdu.proofs.laws.has_one_response.Goals as goal

pub returns : goal.returns
returns c = has_one_response
