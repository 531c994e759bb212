use Rattle.dlms_headend.proofs.Running.{calls_are_a_poll, done_is_told}
use Rattle.dlms_headend.proofs.laws.calls_are_a_poll.Goals as goal

pub returns-clause-run : goal.returns-clause-run
returns-clause-run c = calls_are_a_poll

pub returns-clause-done : goal.returns-clause-done
returns-clause-done c = done_is_told
