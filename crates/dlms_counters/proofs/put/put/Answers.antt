use Rattle.std.proofs.Common.{◌∙◌, rules}
use Rattle.std.proofs.lemmas.Result.{on_ok_weaker}
use Rattle.dlms_pages.proofs.Moments.{one_call, then_also}
use Rattle.dlms_pages.specs.Device.{Outcome, Image}
use Rattle.dlms_counters.proofs.put.put.Goals as goal

pub returns-in_err-write-clause-puts : goal.returns-in_err-write-clause-puts
returns-in_err-write-clause-puts g c honest =
    let w = c.write.ensures.written honest in
    let at_first = g.met.P.Pages.rules c.args.device.now honest in
    record {
      any_moment = one_call _ _ _ (λ i old. Outcome.Old old) at_first w.time w.crash;
      after = w.crash;
      at_last = search rules;
    }

pub returns-clause-puts : goal.returns-clause-puts
returns-clause-puts g c honest =
    let w = c.in_ok-write.ensures.written honest in
    let still = c.in_ok-write.ensures.goes.honest ∙ honest in
    let s = c.sync.ensures.synced still in
    let view = g.P.Pages.view in
    let P = Outcome c.args.index c.args.bytes.now (view c.args.device.now).may_leave in
    let crash = λ (i : Image) (left : (view c.sync.new.self).may_leave i). w.crash i (s.crash i left) in
    let first = one_call (view c.args.device.now) (view c.write.new.self) P (λ i old. Outcome.Old old) (g.met.P.Pages.rules c.args.device.now honest) w.time w.crash in
    let second = one_call (view c.write.new.self) (view c.sync.new.self) P w.crash (g.met.P.Pages.rules c.write.new.self still) s.time crash in
    record {
      any_moment = then_also _ _ _ _ first second;
      after = crash;
      at_last = on_ok_weaker c.sync.result (λ d. λ i left. d i left ∙ w.written) s.durable;
    }
