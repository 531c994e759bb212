use Rattle.dlms_acse.proofs.Again.{written_requests_read}
use Rattle.dlms_acse.proofs.laws.written_requests_are_read.Goals as goal

pub returns : goal.returns
returns c = written_requests_read
