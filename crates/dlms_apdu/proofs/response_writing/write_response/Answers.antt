use Rattle.dlms_apdu.specs.View.{response_of}
use Rattle.dlms_apdu.proofs.Written.{response_was}
use Rattle.dlms_apdu.proofs.response_writing.write_response.Goals as goal

pub returns-clause-spelled : goal.returns-clause-spelled
returns-clause-spelled g c = response_was (λ out. out.items) (response_of c.args.response.now) c.text.result c.requires c.text.ensures.canonical c.text.ensures.in_range
