use Rattle.std.proofs.Common.{◌≡◌, ◌∙◌, sym, ap, subst, true, false, [], is_some, if◌then◌else◌}
use Rattle.dlms_service.specs.Session.{Outcome, SessionValue, outcome_of, listed}
use Rattle.dlms_service.specs.Stake.{is_success}
use Rattle.dlms_store.proofs.Going.{none}
use Rattle.dlms_meter.specs.Run.{Served, DeviceFails, Does, events_in}
use Rattle.dlms_meter.proofs.RunLemmas.{state_known, uncalled, settling, wants}
use Rattle.dlms_meter.proofs.Settling.{settled_ok, settled_err}
use Rattle.dlms_meter.proofs.connection.respond.Goals as goal

pub returns-in_default-clause-responds : goal.returns-in_default-clause-responds
returns-in_default-clause-responds g c before knows =
    let store = c.args.store.now in
    let of = state_known before store c.state.result.now knows c.state.ensures.after in
    let told = c.serve-event.ensures.serves (events_in before) of in
    let o = outcome_of c.serve-event.new.self c.serve-event.new.answer.items c.serve-event.result.event in
    let quiet : is_success o.answer ≡ false = sym c.serve-event.ensures.stake ∙ ap is_some c.in_default.is in
    record {
      choice = Served told.0;
      accepted = o.accepted;
      steps = [];
      now = before;
      does = told.1;
      stored = uncalled (is_success o.answer) o.accepted quiet (c.serve-event.ensures.alone (events_in before) of c.in_default.is);
      may = tt;
      goes = none before store (λ h. g.met.P.Pages.rules store.device h) knows;
    }

pub returns-then-is_ok-clause-responds : goal.returns-then-is_ok-clause-responds
returns-then-is_ok-clause-responds g c before knows =
    let store = c.args.store.now in
    let new = c.settle.new.store in
    let of = state_known before store c.state.result.now knows c.state.ensures.after in
    let told = c.serve-event.ensures.serves (events_in before) of in
    let o = outcome_of c.serve-event.new.self c.serve-event.new.answer.items c.serve-event.result.event in
    let says : is_success o.answer ≡ true = sym c.serve-event.ensures.stake ∙ ap is_some c.in-Some.is in
    let settled = settled_ok c.settle.result before (listed c.serve-event.result.event) store new (sym c.is_ok.ensures.value ∙ c.if-is_ok.true) (c.settle.ensures.settled before knows) in
    record {
      choice = Served told.0;
      accepted = o.accepted;
      steps = settled.0;
      now = settled.1;
      does = told.1;
      stored = settling (is_success o.answer) o.accepted settled.0 says settled.2;
      may = tt;
      goes = settled.3;
    }

pub returns-clause-responds : goal.returns-clause-responds
returns-clause-responds g c before knows =
    let store = c.args.store.now in
    let new = c.settle.new.store in
    let s : SessionValue = c.args.session.now in
    let apdu = c.args.apdu.now in
    let event = listed c.serve-event.result.event in
    let of = state_known before store c.state.result.now knows c.state.ensures.after in
    let settled = settled_err c.settle.result before event store new (sym c.is_ok.ensures.value ∙ c.if-is_ok.false) (c.settle.ensures.settled before knows) in
    let kept = settled.0 in
    let told = wants kept (events_in before) s c.serve-event.new.self apdu c.in-Some.stake event (c.serve-event.ensures.fails c.in-Some.stake c.in-Some.is (events_in before) of true) in
    let same = ap (λ (x : Outcome). record x { accepted = if kept then event else [] }) c.fail.ensures in
    record {
      choice = DeviceFails kept event;
      accepted = if kept then event else [];
      steps = settled.1;
      now = settled.2;
      does = subst (λ (x : Outcome). Does (DeviceFails kept event) (events_in before) s apdu x) (sym same) told;
      stored = settled.3;
      may = settled.5;
      goes = settled.4;
    }
