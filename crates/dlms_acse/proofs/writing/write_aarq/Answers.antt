use Rattle.dlms_acse.proofs.Again.{aarq_again}
use Rattle.dlms_acse.proofs.writing.write_aarq.Goals as goal

pub returns-clause-read_again : goal.returns-clause-read_again
returns-clause-read_again c =
    aarq_again c.args.client c.request_text.result.items c.args.secret.now c.args.conformance.0 c.args.size c.request_text.ensures c.requires
