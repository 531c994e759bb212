use Rattle.dlms_inquiries.proofs.MeterJobLemmas.{done_polled}
use Rattle.dlms_inquiries.proofs.laws.done_is_a_poll.Goals as goal

pub returns : goal.returns
returns c = done_polled c.done_is_a_poll.ensures
