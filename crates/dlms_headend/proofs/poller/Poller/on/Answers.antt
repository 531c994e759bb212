use Rattle.dlms_headend.proofs.PollLemmas.{done_where}
use Rattle.dlms_headend.proofs.poller.Poller.on.Goals as goal

pub returns-clause-is_done : goal.returns-clause-is_done
returns-clause-is_done g c = λ apdus rows h running k e. done_where c.args.self.now c.turn.new.self c.turn.result c.args.frame.now apdus rows (c.turn.ensures.polls apdus h) h running k e
