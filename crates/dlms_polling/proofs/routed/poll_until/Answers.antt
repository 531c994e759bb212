use Rattle.std.proofs.Common.{arith, sym, subst, ◌≡◌, ◌+◌, ℕ, true, Option, Ok, Err, refl}
use Rattle.dlms_headend.specs.declared.step.PollOutcome.TheVariants.{Nothing, Done}
use Rattle.dlms_ends.proofs.PollEndLemmas.{heard_as}
use Rattle.dlms_lines.proofs.SharedLemmas.{is_false, is_true, sees_nothing}
use Rattle.dlms_polling.proofs.RoutedLemmas.{Reading, clock_stops, ends_at, has_dialled, has_tired, overdue, reads_on}
use Rattle.dlms_polling.specs.Doing.{DialsInVain, PollsUntil}
use Rattle.dlms_polling.specs.declared.routed.TheConstants.{READS}
use Rattle.dlms_polling.proofs.routed.poll_until.Goals as goal

pub returns-in-Err : goal.returns-in-Err
returns-in-Err g c = DialsInVain c.in-Err.fault c.in-Err.ensures (sees_nothing (g.T.Timer.seen c.args.timer.now)) refl refl

pub reads-init : goal.reads-init
reads-init g c = has_dialled c.args.seconds _ _ _ _ _ _ c.in-Ok.ensures

pub returns-in_err-time : goal.returns-in_err-time
returns-in_err-time g c = clock_stops c.args.seconds _ _ _ _ _ _ _ _ _ c.in_err-time.field-0.0 c.from_residual.result c.from_residual.ensures.1 c.reads.invariant c.in_err-time.ensures

pub returns-then-has_to_end : goal.returns-then-has_to_end
returns-then-has_to_end g c = overdue c.args.seconds _ _ _ _ _ _ _ _ c.in_ok-time.time _ c.reads.invariant c.in_ok-time.ensures (is_true c.has_to_end.result c.if-has_to_end.true c.has_to_end.ensures)

pub reads-preserved : goal.reads-preserved
reads-preserved g c =
    subst (λ (oldest : Option ℕ). Reading c.args.seconds (g.S.End.past c.args.line.now) (g.S.End.past c.hear.new.line) (g.T.Timer.seen c.args.timer.now) (g.T.Timer.seen c.seconds.new.self) c.args.poll.now (c.reads._read + 1) oldest c.hear.new.poll) (sym c.hear.ensures.oldest)
    (reads_on c.args.seconds _ _ _ _ _ _ _ _ _ _ c.in_ok-time.time _ c.reads.invariant c.in_ok-time.ensures (is_false c.has_to_end.result c.if-has_to_end.false c.has_to_end.ensures)
    (heard_as _ _ _ _ c.in-Ok-Nothing.field-0 Nothing c.in-Ok-Nothing.field-0-is c.in-Ok-Nothing.ensures.listens))

pub returns-in-Ok-Done : goal.returns-in-Ok-Done
returns-in-Ok-Done g c =
    subst (λ (oldest : Option ℕ). PollsUntil c.args.seconds (g.S.End.past c.args.line.now) (g.S.End.past c.hear.new.line) (g.T.Timer.seen c.args.timer.now) (g.T.Timer.seen c.seconds.new.self) c.args.poll.now (Ok true) oldest c.hear.new.poll) (sym c.hear.ensures.oldest)
    (ends_at c.args.seconds _ _ _ _ _ _ _ _ _ _ c.in_ok-time.time _ _ _ c.reads.invariant c.in_ok-time.ensures (is_false c.has_to_end.result c.if-has_to_end.false c.has_to_end.ensures)
    (heard_as _ _ _ _ c.in-Ok-Done.field-0 Done c.in-Ok-Done.field-0-is c.in-Ok-Done.ensures.listens) refl)

pub returns-in-Err-hear : goal.returns-in-Err-hear
returns-in-Err-hear g c =
    subst (λ (oldest : Option ℕ). PollsUntil c.args.seconds (g.S.End.past c.args.line.now) (g.S.End.past c.hear.new.line) (g.T.Timer.seen c.args.timer.now) (g.T.Timer.seen c.seconds.new.self) c.args.poll.now (Err c.in-Err-hear.fault) oldest c.hear.new.poll) (sym c.hear.ensures.oldest)
    (ends_at c.args.seconds _ _ _ _ _ _ _ _ _ _ c.in_ok-time.time _ _ _ c.reads.invariant c.in_ok-time.ensures (is_false c.has_to_end.result c.if-has_to_end.false c.has_to_end.ensures) c.in-Err-hear.ensures.listens refl)

pub returns : goal.returns
returns g c =
    let all : c.reads._read ≡ READS = omega (arith, c.reads-test.false, c.reads.auto._read-end) in
    has_tired c.args.seconds _ _ _ _ _ _ _ _ all c.reads.invariant
