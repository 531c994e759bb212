use Rattle.std.proofs.lemmas.Result.{IfOk-weaker}
use Rattle.dlms_apdu.specs.Reading.{HoldsData, response_at}
use Rattle.dlms_apdu.specs.View.{response_of}
use Rattle.dlms_apdu.proofs.Forms.{answered_found, answered_only}
use Rattle.dlms_apdu.proofs.Responses.{response_found, response_again}
use Rattle.dlms_apdu.proofs.response_reading.read_response.Goals as goal

pub returns-clause-found : goal.returns-clause-found
returns-clause-found g c =
    IfOk-weaker c.response.result _ _ (λ r e. response_found c.args.bytes.now (response_of r) e) (answered_found response_of HoldsData c.response.result (response_at c.args.bytes.now) c.response.ensures)

pub returns-clause-only : goal.returns-clause-only
returns-clause-only g c =
    λ r h. answered_only response_of HoldsData c.response.result (response_at c.args.bytes.now) c.response.ensures r (response_again c.args.bytes.now r h)
