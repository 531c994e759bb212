use Rattle.dlms_filing.proofs.FilingLemmas.{put_is_printed}
use Rattle.dlms_filing.proofs.laws.what_is_put_was_printed.Goals as goal

pub returns : goal.returns
returns c = put_is_printed
