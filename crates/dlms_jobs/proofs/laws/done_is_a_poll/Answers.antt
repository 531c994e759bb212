use Rattle.dlms_headend.proofs.CarrierRunning.{polls_lead}
use Rattle.dlms_ends.specs.PollEnds.{means}
use Rattle.dlms_jobs.proofs.DoneLemmas.{done_polled}
use Rattle.dlms_jobs.proofs.laws.done_is_a_poll.Goals as goal

pub returns : goal.returns
returns c = done_polled (polls_lead means)
