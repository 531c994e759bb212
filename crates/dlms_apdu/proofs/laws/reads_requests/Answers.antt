use Rattle.dlms_apdu.proofs.WholeLaws.{reads_requests}
use Rattle.dlms_apdu.proofs.laws.reads_requests.Goals as goal

pub returns : goal.returns
returns c = reads_requests
