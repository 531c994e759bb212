use Rattle.dlms_apdu.proofs.WholeLaws.{has_one_request}
use Rattle.dlms_apdu.proofs.laws.has_one_request.Goals as goal

pub returns : goal.returns
returns c = has_one_request
