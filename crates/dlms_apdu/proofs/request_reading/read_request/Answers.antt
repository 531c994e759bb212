use Rattle.std.proofs.lemmas.Result.{IfOk-weaker}
use Rattle.dlms_apdu.specs.Reading.{HoldsValue, request_at}
use Rattle.dlms_apdu.specs.View.{request_of}
use Rattle.dlms_apdu.proofs.Forms.{answered_found, answered_only}
use Rattle.dlms_apdu.proofs.Requests.{request_found, request_again}
use Rattle.dlms_apdu.proofs.request_reading.read_request.Goals as goal

pub returns-clause-found : goal.returns-clause-found
returns-clause-found g c =
    IfOk-weaker c.request.result _ _ (λ r e. request_found c.args.bytes.now (request_of r) e) (answered_found request_of HoldsValue c.request.result (request_at c.args.bytes.now) c.request.ensures)

pub returns-clause-only : goal.returns-clause-only
returns-clause-only g c =
    λ r h. answered_only request_of HoldsValue c.request.result (request_at c.args.bytes.now) c.request.ensures r (request_again c.args.bytes.now r h)
