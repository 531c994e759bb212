use Rattle.dlms_apdu.specs.View.{request_of}
use Rattle.dlms_apdu.proofs.Written.{request_was}
use Rattle.dlms_apdu.proofs.request_writing.write_request.Goals as goal

pub returns-clause-spelled : goal.returns-clause-spelled
returns-clause-spelled g c = request_was (λ out. out.items) (request_of c.args.request.now) c.text.result c.requires c.text.ensures.canonical c.text.ensures.in_range
