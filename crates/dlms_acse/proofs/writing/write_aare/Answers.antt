use Rattle.dlms_acse.proofs.Again.{aare_again}
use Rattle.dlms_acse.proofs.writing.write_aare.Goals as goal

pub returns-clause-read_again : goal.returns-clause-read_again
returns-clause-read_again c = aare_again c.response_text.result.items c.args.verdict.now c.response_text.ensures
