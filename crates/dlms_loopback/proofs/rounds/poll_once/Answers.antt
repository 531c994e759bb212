use Rattle.std.proofs.Common.{ap, ◌∙◌, ◌≡◌, ℕ, List, subst}
use Rattle.std.specs.Prelude.{Option, Ok}
use Rattle.dlms_headend.specs.Merged.{last_clock}
use Rattle.dlms_headend.specs.PollerValue.{PollerValue}
use Rattle.dlms_headend.specs.Polling.{fresh_poll}
use Rattle.dlms_headend.specs.declared.row.Row.{Row}
use Rattle.dlms_ends.specs.BothEnds.{Polls}
use Rattle.dlms_filing.specs.Filing.{KeepsRows}
use Rattle.dlms_loopback.specs.Rounds.{plan_from}
use Rattle.dlms_loopback.specs.declared.rounds.TheConstants.{SECRET}
use Rattle.dlms_loopback.proofs.rounds.poll_once.Goals as goal

pub returns-in-Ok : goal.returns-in-Ok
returns-in-Ok g c =
    let before = c.args.readings.now in
    let done = c.in-Ok.done in
    let is : c.managements_poller-poller.result ≡ fresh_poll (plan_from SECRET.now (last_clock before)) =
    c.managements_poller-poller.ensures ∙ ap (λ (after : Option ℕ). fresh_poll (plan_from SECRET.now after)) c.last.ensures.last in
    record {
      polled = Ok done;
      ends = λ w stands.
          subst (λ (p : PollerValue). Polls (g.S.End.past c.args.line.now.head) (g.S.End.past c.poll.new.head) (g.S.End.past c.args.line.now.tail) (g.S.End.past c.poll.new.tail) p w c.args.meter.now c.poll.new.meter (Ok done)) is
          (c.in-Ok.ensures.ends w stands);
      done = c.in-Ok.ensures.done (plan_from SECRET.now (last_clock before)) is;
      kept = (
        c.keep_rows.result,
        subst (λ (rows : List Row). KeepsRows (g.F.Filing.asked c.args.place.now) (g.F.Filing.asked c.keep_rows.new.place) before rows c.keep_rows.result c.keep_rows.new.readings) c.rows.ensures.rows c.keep_rows.ensures,
        c.filing_result.ensures,
      );
    }
