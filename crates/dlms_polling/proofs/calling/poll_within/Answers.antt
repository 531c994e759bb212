use Rattle.std.proofs.Common.{arith, refl, subst, ◌≡◌}
use Rattle.std.specs.Prelude.{Some}
use Rattle.std.specs.declared.io.Error.{Error}
use Rattle.dlms_headend.specs.PollRun.{IsCall}
use Rattle.dlms_headend.specs.PollRun.Call.{Next}
use Rattle.dlms_headend.specs.PollerValue.{PollerValue}
use Rattle.dlms_ends.specs.declared.polling.TheConstants.{TURNS}
use Rattle.dlms_ends.proofs.PollLemmas.{done_poll, side_begins, side_done, side_fails, side_sends, takes_as}
use Rattle.dlms_polling.proofs.PollingLemmas.{clock_fails, has_tired, head_fails, is_done, is_late, looks_more, looks_none, unbegun}
use Rattle.dlms_lines.proofs.SharedLemmas.{is_false, is_true}
use Rattle.dlms_polling.proofs.calling.poll_within.Goals as goal

pub returns-in_err-dial-clause-does : goal.returns-in_err-dial-clause-does
returns-in_err-dial-clause-does g c =
    let b = c.in_err-dial.ensures in
    unbegun c.args.seconds (g.S.End.past c.args.line.now) (g.S.End.past c.dial.new.end) (g.T.Timer.seen c.args.timer.now) c.args.poller c.in_err-dial.field-0.0 c.from_residual.result c.from_residual.ensures.1 b.0 c.dial.new.poller (subst (λ (p : PollerValue). IsCall p (Next (Some b.0)) c.dial.new.poller) c.of-head_end.ensures.poller b.1) b.2

pub turns-init : goal.turns-init
turns-init g c = record {
  side = side_begins Error (g.S.End.past c.args.line.now) (g.S.End.past c.dial.new.end) c.args.poller _ (c.in_ok-dial.ensures.0, c.dial.new.poller, subst (λ (p : PollerValue). IsCall p (Next c.in_ok-dial.ensures.0) c.dial.new.poller) c.of-head_end.ensures.poller c.in_ok-dial.ensures.1, c.in_ok-dial.ensures.2, record { at = record { holds = c.of-head_end.ensures.stands.at.holds; poller = refl }; taken = c.of-head_end.ensures.stands.taken });
  looks = looks_none c.args.seconds (g.T.Timer.seen c.args.timer.now);
}

pub returns-in_err-time-clause-does : goal.returns-in_err-time-clause-does
returns-in_err-time-clause-does g c =
    clock_fails c.args.seconds (g.S.End.past c.args.line.now) (g.S.End.past c.turns.line) (g.T.Timer.seen c.args.timer.now) (g.T.Timer.seen c.turns.timer) (g.T.Timer.seen c.seconds.new.self) c.args.poller c.turns.head_end c.turns._turn c.in_err-time.field-0.0 c.from_residual-in_err-time.result c.from_residual-in_err-time.ensures.1 c.turns.invariant c.in_err-time.ensures

pub returns-then-has_to_end-clause-does : goal.returns-then-has_to_end-clause-does
returns-then-has_to_end-clause-does g c =
    is_late c.args.seconds (g.S.End.past c.args.line.now) (g.S.End.past c.turns.line) (g.T.Timer.seen c.args.timer.now) (g.T.Timer.seen c.turns.timer) (g.T.Timer.seen c.seconds.new.self) c.args.poller c.turns.head_end c.turns._turn c.in_ok-time.time c.turns.invariant c.in_ok-time.ensures (is_true c.has_to_end.result c.if-has_to_end.true c.has_to_end.ensures)

pub returns-in_err-turn-clause-does : goal.returns-in_err-turn-clause-does
returns-in_err-turn-clause-does g c =
    let s = c.turns.invariant.side in
    head_fails c.args.seconds (g.S.End.past c.args.line.now) (g.S.End.past c.turn.new.end) (g.T.Timer.seen c.args.timer.now) (g.T.Timer.seen c.turns.timer) (g.T.Timer.seen c.seconds.new.self) c.args.poller c.turns._turn c.in_ok-time.time c.in_err-turn.field-0.0 c.from_residual-in_err-turn.result c.from_residual-in_err-turn.ensures.1 c.turns.invariant.looks c.in_ok-time.ensures (is_false c.has_to_end.result c.if-has_to_end.false c.has_to_end.ensures)
    (side_fails (g.S.End.past c.args.line.now) (g.S.End.past c.turns.line) (g.S.End.past c.turn.new.end) c.args.poller c.turns.head_end c.turn.new.self c.turns._turn c.in_err-turn.field-0.0 s (c.in_err-turn.ensures s.world s.stands))

pub returns-in-Done-clause-does : goal.returns-in-Done-clause-does
returns-in-Done-clause-does g c =
    let s = c.turns.invariant.side in
    is_done c.args.seconds (g.S.End.past c.args.line.now) (g.S.End.past c.turn.new.end) (g.T.Timer.seen c.args.timer.now) (g.T.Timer.seen c.turns.timer) (g.T.Timer.seen c.seconds.new.self) c.args.poller c.turn.new.self.poller c.turns._turn c.in_ok-time.time c.turns.invariant.looks c.in_ok-time.ensures (is_false c.has_to_end.result c.if-has_to_end.false c.has_to_end.ensures)
    (side_done (g.S.End.past c.args.line.now) (g.S.End.past c.turns.line) (g.S.End.past c.turn.new.end) c.args.poller c.turn.new.self.poller c.turns.head_end c.turn.new.self c.turns._turn s (takes_as _ _ s.world _ _ _ c.in-Done.is (c.in_ok-turn.ensures s.world s.stands)) refl)

pub returns-in-Done-clause-done : goal.returns-in-Done-clause-done
returns-in-Done-clause-done g c = λ plan fresh.
    let s = c.turns.invariant.side in
    done_poll (g.S.End.past c.args.line.now) (g.S.End.past c.turn.new.end) plan c.args.poller c.turn.new.self.poller fresh
    (side_done (g.S.End.past c.args.line.now) (g.S.End.past c.turns.line) (g.S.End.past c.turn.new.end) c.args.poller c.turn.new.self.poller c.turns.head_end c.turn.new.self c.turns._turn s (takes_as _ _ s.world _ _ _ c.in-Done.is (c.in_ok-turn.ensures s.world s.stands)) refl)

pub turns-preserved : goal.turns-preserved
turns-preserved g c =
    let s = c.turns.invariant.side in
    record {
      side = side_sends (g.S.End.past c.args.line.now) (g.S.End.past c.turns.line) (g.S.End.past c.turn.new.end) c.args.poller c.turns.head_end c.turn.new.self c.turns._turn s (takes_as _ _ s.world _ _ _ c.in-Sent.is (c.in_ok-turn.ensures s.world s.stands));
      looks = looks_more c.args.seconds (g.T.Timer.seen c.args.timer.now) (g.T.Timer.seen c.turns.timer) (g.T.Timer.seen c.seconds.new.self) c.turns._turn c.in_ok-time.time c.turns.invariant.looks c.in_ok-time.ensures (is_false c.has_to_end.result c.if-has_to_end.false c.has_to_end.ensures);
    }

pub returns-clause-does : goal.returns-clause-does
returns-clause-does g c =
    let all : c.turns._turn ≡ TURNS = omega (arith, c.turns-test.false, c.turns.auto._turn-end) in
    has_tired c.args.seconds (g.S.End.past c.args.line.now) (g.S.End.past c.turns.line) (g.T.Timer.seen c.args.timer.now) (g.T.Timer.seen c.turns.timer) c.args.poller c.turns.head_end c.turns._turn all c.turns.invariant
