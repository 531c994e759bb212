use Rattle.std.proofs.Common.{refl}
use Rattle.dlms_ends.specs.declared.fault.RunFault.TheVariants.{Add}
use Rattle.dlms_store.specs.declared.fault.AddFault.TheVariants.{Exhausted, Device, Stopped}
use Rattle.dlms_serving.proofs.TalkLemmas.{no_clock, no_store}
use Rattle.dlms_serving.proofs.talking.Server.look.Goals as goal

pub returns-in_err-now : goal.returns-in_err-now
returns-in_err-now g c =
    no_clock c.args.step (g.W.Watch.seen c.args.self.now.watch) (g.W.Watch.seen c.seconds.new.self) c.args.meter.now c.args.self.now.ticks c.in_err-now.field-0.0 c.from_residual.result c.from_residual.ensures.1
    c.in_err-now.ensures

pub returns-in-Err-Exhausted : goal.returns-in-Err-Exhausted
returns-in-Err-Exhausted g c =
    no_store c.args.step c.in_ok-now.now c.due.result (g.W.Watch.seen c.args.self.now.watch) (g.W.Watch.seen c.seconds.new.self) c.args.meter.now c.look.new.meter c.args.self.now.ticks c.look.new.ticks c.in-Err-Exhausted.field-0
    Exhausted (Add Exhausted) c.in-Err-Exhausted.field-0-is refl c.in_ok-now.ensures c.due.ensures c.in-Err-Exhausted.ensures

pub returns-in-Err-Device : goal.returns-in-Err-Device
returns-in-Err-Device g c =
    no_store c.args.step c.in_ok-now.now c.due.result (g.W.Watch.seen c.args.self.now.watch) (g.W.Watch.seen c.seconds.new.self) c.args.meter.now c.look.new.meter c.args.self.now.ticks c.look.new.ticks c.in-Err-Device.field-0
    Device (Add Device) c.in-Err-Device.field-0-is refl c.in_ok-now.ensures c.due.ensures c.in-Err-Device.ensures

pub returns-in-Err-Stopped : goal.returns-in-Err-Stopped
returns-in-Err-Stopped g c =
    no_store c.args.step c.in_ok-now.now c.due.result (g.W.Watch.seen c.args.self.now.watch) (g.W.Watch.seen c.seconds.new.self) c.args.meter.now c.look.new.meter c.args.self.now.ticks c.look.new.ticks c.in-Err-Stopped.field-0
    Stopped (Add Device) c.in-Err-Stopped.field-0-is refl c.in_ok-now.ensures c.due.ensures c.in-Err-Stopped.ensures
