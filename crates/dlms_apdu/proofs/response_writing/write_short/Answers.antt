use Rattle.dlms_apdu.specs.View.{response_of}
use Rattle.dlms_apdu.proofs.Written.{short_was}
use Rattle.dlms_apdu.proofs.response_writing.write_short.Goals as goal

pub returns-clause-spelled : goal.returns-clause-spelled
returns-clause-spelled g c = short_was c.in-Some.text.items (response_of c.args.response.now) c.requires c.in-Some.ensures.canonical c.in-Some.ensures.in_range
