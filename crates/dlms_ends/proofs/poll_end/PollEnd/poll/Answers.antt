use Rattle.std.proofs.Common.{arith, ◌≡◌, refl, subst, ℕ}
use Rattle.dlms_headend.proofs.CarrierRunning.{polls_lead}
use Rattle.dlms_headend.specs.declared.step.PollOutcome.TheVariants.{Nothing, Done}
use Rattle.dlms_ends.specs.PollEnds.{means}
use Rattle.dlms_ends.specs.PollEnds.PollsOver.{DialsInVain}
use Rattle.dlms_ends.specs.declared.poll_end.TheConstants.{MOST_READS}
use Rattle.dlms_ends.proofs.PollEndLemmas.{Dialled, dialled_first, heard_as, listened, one_read, polled, tired}
use Rattle.dlms_ends.proofs.poll_end.PollEnd.poll.Goals as goal

pub returns-in-Err-clause-polls : goal.returns-in-Err-clause-polls
returns-in-Err-clause-polls g c = DialsInVain c.in-Err.fault c.in-Err.ensures refl

pub reads-init : goal.reads-init
reads-init g c = dialled_first _ _ _ _ _ c.in-Ok.ensures

pub reads-preserved : goal.reads-preserved
reads-preserved g c = one_read _ _ _ _ _ _ _ c.reads.invariant (heard_as _ _ _ _ c.in-Ok-Nothing.field-0 Nothing c.in-Ok-Nothing.field-0-is c.in-Ok-Nothing.ensures)

pub returns-in-Ok-Done-clause-polls : goal.returns-in-Ok-Done-clause-polls
returns-in-Ok-Done-clause-polls g c = listened _ _ _ _ _ _ _ _ _ c.reads.invariant (heard_as _ _ _ _ c.in-Ok-Done.field-0 Done c.in-Ok-Done.field-0-is c.in-Ok-Done.ensures) refl

pub returns-in-Ok-Done-clause-done : goal.returns-in-Ok-Done-clause-done
returns-in-Ok-Done-clause-done g c = λ route terms guard is.
    polled (polls_lead means) route terms guard _ _ _ _ tt is (listened _ _ _ _ _ _ _ _ _ c.reads.invariant (heard_as _ _ _ _ c.in-Ok-Done.field-0 Done c.in-Ok-Done.field-0-is c.in-Ok-Done.ensures) refl)

pub returns-in-Err-listen-clause-polls : goal.returns-in-Err-listen-clause-polls
returns-in-Err-listen-clause-polls g c = listened _ _ _ _ _ _ _ _ _ c.reads.invariant c.in-Err-listen.ensures refl

pub returns-clause-polls : goal.returns-clause-polls
returns-clause-polls g c =
    let all : c.reads._read ≡ MOST_READS = omega (arith, c.reads-test.false, c.reads.auto._read-end) in
    tired _ _ _ _ _ c.reads.invariant all
