use Rattle.std.proofs.Common.{ap, sym, ◌∙◌}
use Rattle.dlms_headend.specs.PollerValue.{PollerValue}
use Rattle.dlms_headend.proofs.PollLemmas.{done_told}
use Rattle.dlms_headend.proofs.poller.Poller.turn.Goals as goal

pub returns-in-Running-clause-done : goal.returns-in-Running-clause-done
returns-in-Running-clause-done g c = λ apdus h e. done_told c.args.self.now c.running.new.self c.running.result c.args.frame.now apdus (c.running.ensures.polls apdus) (ap (λ (p : PollerValue). p.course) (sym c.self.view_is) ∙ c.in-Running.is) h e
