use Rattle.std.proofs.Common.{refl, ap, option_map, Ok, Err}
use Rattle.dlms_serving.specs.declared.watch.Peer.{Peer}
use Rattle.dlms_lines.specs.declared.fault.FieldFault.TheVariants.{Other, System}
use Rattle.dlms_serving.proofs.CallLemmas.{joined, look_made}
use Rattle.dlms_serving.proofs.ServeLemmas.{has_passed, no_look, none_came, one_came, port_fails}
use Rattle.dlms_lines.proofs.SharedLemmas.{is_false, is_true}
use Rattle.dlms_serving.proofs.serving.serve_next.Goals as goal

pub returns-in-Err-clause-serves : goal.returns-in-Err-clause-serves
returns-in-Err-clause-serves g c = no_look c.args.rules (g.W.Watch.seen c.args.server.now.watch) (g.W.Watch.seen c.look.new.self.watch) c.args.meter.now c.look.new.meter c.args.server.now.ticks c.look.new.self.ticks c.in-Err.fault (Other c.in-Err.fault) refl c.in-Err.ensures

pub returns-in-Err-clause-calls : goal.returns-in-Err-clause-calls
returns-in-Err-clause-calls g c = look_made c.args.rules.carrier _ _ _ _ _ _ _ _ c.look.ensures

pub returns-then-not-passes-clause-serves : goal.returns-then-not-passes-clause-serves
returns-then-not-passes-clause-serves g c = port_fails c.args.rules (g.W.Watch.seen c.args.server.now.watch) (g.W.Watch.seen c.look.new.self.watch) (g.W.Watch.seen c.next.new.self) c.args.meter.now c.look.new.meter c.args.server.now.ticks c.look.new.self.ticks c.in-Ok.now c.in-Err-next.error (System c.args.address c.in-Err-next.error) c.in-Ok.ensures c.in-Err-next.ensures (is_false c.passes.result c.if-not-passes.true c.passes.ensures) refl

pub returns-then-not-passes-clause-calls : goal.returns-then-not-passes-clause-calls
returns-then-not-passes-clause-calls g c = look_made c.args.rules.carrier _ _ _ _ _ _ _ _ c.look.ensures

pub returns-in-Ok-serve_one-clause-serves : goal.returns-in-Ok-serve_one-clause-serves
returns-in-Ok-serve_one-clause-serves g c = one_came c.args.rules (g.W.Watch.seen c.args.server.now.watch) (g.W.Watch.seen c.look.new.self.watch) (g.W.Watch.seen c.next.new.self) (g.W.Watch.seen c.serve_one.new.server.watch) c.args.meter.now c.look.new.meter c.serve_one.new.meter c.args.server.now.ticks c.look.new.self.ticks c.serve_one.new.server.ticks c.in-Ok.now c.in-Ok-Some.peer.address (option_map (λ (p : Peer _). p.address) c.in-Ok-Some.field-0) (Ok tt) (Ok tt) c.in-Ok.ensures c.in-Ok-Some.ensures (ap (option_map (λ (p : Peer _). p.address)) c.in-Ok-Some.field-0-is) c.in-Ok-serve_one.ensures.serves refl

pub returns-in-Ok-serve_one-clause-calls : goal.returns-in-Ok-serve_one-clause-calls
returns-in-Ok-serve_one-clause-calls g c = joined c.args.rules.carrier _ _ _ (look_made c.args.rules.carrier _ _ _ _ _ _ _ _ c.look.ensures) c.serve_one.ensures.calls

pub returns-in-Err-serve_one-clause-serves : goal.returns-in-Err-serve_one-clause-serves
returns-in-Err-serve_one-clause-serves g c = one_came c.args.rules (g.W.Watch.seen c.args.server.now.watch) (g.W.Watch.seen c.look.new.self.watch) (g.W.Watch.seen c.next.new.self) (g.W.Watch.seen c.serve_one.new.server.watch) c.args.meter.now c.look.new.meter c.serve_one.new.meter c.args.server.now.ticks c.look.new.self.ticks c.serve_one.new.server.ticks c.in-Ok.now c.in-Ok-Some.peer.address (option_map (λ (p : Peer _). p.address) c.in-Ok-Some.field-0) (Err c.in-Err-serve_one.fault) (Err (Other c.in-Err-serve_one.fault)) c.in-Ok.ensures c.in-Ok-Some.ensures (ap (option_map (λ (p : Peer _). p.address)) c.in-Ok-Some.field-0-is) c.in-Err-serve_one.ensures.serves refl

pub returns-in-Err-serve_one-clause-calls : goal.returns-in-Err-serve_one-clause-calls
returns-in-Err-serve_one-clause-calls g c = joined c.args.rules.carrier _ _ _ (look_made c.args.rules.carrier _ _ _ _ _ _ _ _ c.look.ensures) c.serve_one.ensures.calls

pub returns-in-Ok-None-clause-serves : goal.returns-in-Ok-None-clause-serves
returns-in-Ok-None-clause-serves g c = none_came c.args.rules (g.W.Watch.seen c.args.server.now.watch) (g.W.Watch.seen c.look.new.self.watch) (g.W.Watch.seen c.next.new.self) c.args.meter.now c.look.new.meter c.args.server.now.ticks c.look.new.self.ticks c.in-Ok.now (option_map (λ (p : Peer _). p.address) c.in-Ok-None.field-0) c.in-Ok.ensures c.in-Ok-None.ensures (ap (option_map (λ (p : Peer _). p.address)) c.in-Ok-None.field-0-is)

pub returns-in-Ok-None-clause-calls : goal.returns-in-Ok-None-clause-calls
returns-in-Ok-None-clause-calls g c = look_made c.args.rules.carrier _ _ _ _ _ _ _ _ c.look.ensures

pub returns-else-not-passes-clause-serves : goal.returns-else-not-passes-clause-serves
returns-else-not-passes-clause-serves g c = has_passed c.args.rules (g.W.Watch.seen c.args.server.now.watch) (g.W.Watch.seen c.look.new.self.watch) (g.W.Watch.seen c.next.new.self) (g.W.Watch.seen c.pause.new.self) c.args.meter.now c.look.new.meter c.args.server.now.ticks c.look.new.self.ticks c.stumble.new.server.ticks c.in-Ok.now c.in-Err-next.error c.in-Ok.ensures c.in-Err-next.ensures c.stumble.ensures.ticks (g.W.Watch.seen c.stumble.new.server.watch) (ap g.W.Watch.seen c.stumble.ensures.watch) c.pause.ensures (is_true c.passes.result c.if-not-passes.false c.passes.ensures)

pub returns-else-not-passes-clause-calls : goal.returns-else-not-passes-clause-calls
returns-else-not-passes-clause-calls g c = look_made c.args.rules.carrier _ _ _ _ _ _ _ _ c.look.ensures
