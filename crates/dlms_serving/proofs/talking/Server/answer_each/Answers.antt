use Rattle.std.proofs.Common.{◌<◌, length}
use Rattle.std.specs.declared.io.Error.{Error}
use Rattle.dlms_serving.proofs.ConnectionLemmas.{at, giving_ends, goes_answering, goes_nothing, look_fails_behind, over_behind, some_left}
use Rattle.dlms_serving.proofs.talking.Server.answer_each.Goals as goal

pub loop-rest-init : goal.loop-rest-init
loop-rest-init g c = λ reads. goes_nothing _ _ _ _

pub returns-in-Err : goal.returns-in-Err
returns-in-Err g c = λ reads.
    let some : 0 < length c.loop-rest.rest.now = some_left c.loop-rest.rest.now c.is_empty.result c.is_empty.ensures c.loop-rest-test.true in
    (giving_ends c.args.rules (g.T.End.past c.args.stream.now) (g.T.End.past c.loop-rest.stream) (g.T.End.past c.answer_by.new.end) (g.W.Watch.seen c.args.self.now.watch) (g.W.Watch.seen c.loop-rest.self.watch) (at c.args.meter.now c.args.self.now.ticks c.args.bytes.now c.args.state.now reads) c.loop-rest.meter c.answer_by.new.meter c.loop-rest.self.ticks c.loop-rest.rest.now c.loop-rest.state c.answer_by.new.state reads c.in-Err.ending some (c.loop-rest.invariant reads) c.in-Err.ensures)

pub returns-in-Ok-Some : goal.returns-in-Ok-Some
returns-in-Ok-Some g c = λ reads.
    let some : 0 < length c.loop-rest.rest.now = some_left c.loop-rest.rest.now c.is_empty.result c.is_empty.ensures c.loop-rest-test.true in
    over_behind {E = Error} c.args.rules (g.T.End.past c.args.stream.now) (g.T.End.past c.loop-rest.stream) (g.T.End.past c.answer_by.new.end) (g.W.Watch.seen c.args.self.now.watch) (g.W.Watch.seen c.loop-rest.self.watch) (g.W.Watch.seen c.check.new.self.watch) (at c.args.meter.now c.args.self.now.ticks c.args.bytes.now c.args.state.now reads) c.loop-rest.meter c.answer_by.new.meter c.check.new.meter c.loop-rest.self.ticks c.check.new.self.ticks c.loop-rest.rest.now c.bytes_behind-rest.result.now c.loop-rest.state c.check.new.state reads c.answer_by.new.state c.in-Ok.taken c.in-Ok-Some.field-0 c.in-Ok-Some.over some c.bytes_behind-rest.ensures (c.loop-rest.invariant reads) c.in-Ok.ensures c.in-Ok-Some.field-0-is (c.in-Ok-Some.ensures c.bytes_behind-rest.result.now reads)

pub returns-in-Err-check : goal.returns-in-Err-check
returns-in-Err-check g c = λ reads.
    let some : 0 < length c.loop-rest.rest.now = some_left c.loop-rest.rest.now c.is_empty.result c.is_empty.ensures c.loop-rest-test.true in
    look_fails_behind {E = Error} c.args.rules (g.T.End.past c.args.stream.now) (g.T.End.past c.loop-rest.stream) (g.T.End.past c.answer_by.new.end) (g.W.Watch.seen c.args.self.now.watch) (g.W.Watch.seen c.loop-rest.self.watch) (g.W.Watch.seen c.check.new.self.watch) (at c.args.meter.now c.args.self.now.ticks c.args.bytes.now c.args.state.now reads) c.loop-rest.meter c.answer_by.new.meter c.check.new.meter c.loop-rest.self.ticks c.check.new.self.ticks c.loop-rest.rest.now c.bytes_behind-rest.result.now c.loop-rest.state c.check.new.state reads c.answer_by.new.state c.in-Ok.taken c.in-Err-check.fault some c.bytes_behind-rest.ensures (c.loop-rest.invariant reads) c.in-Ok.ensures (c.in-Err-check.ensures c.bytes_behind-rest.result.now reads)

pub loop-rest-preserved : goal.loop-rest-preserved
loop-rest-preserved g c = λ reads.
    let some : 0 < length c.loop-rest.rest.now = some_left c.loop-rest.rest.now c.is_empty.result c.is_empty.ensures c.loop-rest-test.true in
    goes_answering {E = Error} c.args.rules (g.T.End.past c.args.stream.now) (g.T.End.past c.loop-rest.stream) (g.T.End.past c.answer_by.new.end) (g.W.Watch.seen c.args.self.now.watch) (g.W.Watch.seen c.loop-rest.self.watch) (g.W.Watch.seen c.check.new.self.watch) (at c.args.meter.now c.args.self.now.ticks c.args.bytes.now c.args.state.now reads) c.loop-rest.meter c.answer_by.new.meter c.check.new.meter c.loop-rest.self.ticks c.check.new.self.ticks c.loop-rest.rest.now c.bytes_behind-rest.result.now c.loop-rest.state c.check.new.state reads c.answer_by.new.state c.in-Ok.taken c.in-Ok-None.field-0 some c.bytes_behind-rest.ensures (c.loop-rest.invariant reads) c.in-Ok.ensures c.in-Ok-None.field-0-is (c.in-Ok-None.ensures c.bytes_behind-rest.result.now reads)
