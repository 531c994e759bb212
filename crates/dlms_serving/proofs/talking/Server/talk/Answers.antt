use Rattle.std.proofs.Common.{arith, [], ◌+◌, Ok, Err}
use Rattle.dlms_ends.specs.declared.fault.RunFault.TheVariants.{Io}
use Rattle.dlms_serving.specs.Connection.{begins}
use Rattle.dlms_serving.specs.declared.talking.Ending.TheVariants.{Over}
use Rattle.dlms_serving.proofs.ConnectionLemmas.{at, each_ends, each_goes, ends_behind, goes_nothing, goes_on, goes_reading, look_fails_at_read, over_at_read, read_breaks, tires, unbegun, under_begins, under_ends, under_goes}
use Rattle.dlms_serving.proofs.talking.Server.talk.Goals as goal

pub returns-in-Err : goal.returns-in-Err
returns-in-Err g c = unbegun c.args.rules (g.T.End.past c.args.stream.now) (g.W.Watch.seen c.args.self.now.watch) (g.W.Watch.seen c.look.new.self.watch) c.args.meter.now c.look.new.meter c.args.self.now.ticks c.look.new.self.ticks c.in-Err.fault c.in-Err.ensures

pub rounds-init : goal.rounds-init
rounds-init g c = under_begins c.args.rules (g.T.End.past c.args.stream.now) (g.W.Watch.seen c.args.self.now.watch) (g.W.Watch.seen c.look.new.self.watch) c.args.meter.now c.look.new.meter c.args.self.now.ticks c.look.new.self.ticks c.in-Ok.first c.begins-state.result c.in-Ok.ensures c.begins-state.ensures

pub returns-in-Ok-Some : goal.returns-in-Ok-Some
returns-in-Ok-Some g c =
    let u = c.rounds.invariant in
    under_ends c.args.rules (g.T.End.past c.args.stream.now) (g.T.End.past c.rounds.stream) (g.T.End.past c.rounds.stream) (g.W.Watch.seen c.args.self.now.watch) (g.W.Watch.seen c.rounds.self.watch) (g.W.Watch.seen c.check.new.self.watch) c.args.meter.now c.rounds.meter c.check.new.meter c.args.self.now.ticks c.rounds.self.ticks c.check.new.self.ticks c.rounds.state c.rounds._round (Ok (Over c.in-Ok-Some.over)) c.rounds.invariant
    (over_at_read c.args.rules (g.T.End.past c.args.stream.now) (g.T.End.past c.rounds.stream) u.seen (g.W.Watch.seen c.rounds.self.watch) (g.W.Watch.seen c.check.new.self.watch) (begins c.rounds.invariant.begun c.rounds.invariant.first) c.rounds.meter c.check.new.meter c.rounds.self.ticks c.check.new.self.ticks c.rounds.state c.check.new.state c.rounds._round c.in-Ok-Some.field-0 c.in-Ok-Some.over u.goes c.in-Ok-Some.field-0-is (c.in-Ok-Some.ensures [] c.rounds._round))

pub returns-in-Err-check : goal.returns-in-Err-check
returns-in-Err-check g c =
    let u = c.rounds.invariant in
    under_ends c.args.rules (g.T.End.past c.args.stream.now) (g.T.End.past c.rounds.stream) (g.T.End.past c.rounds.stream) (g.W.Watch.seen c.args.self.now.watch) (g.W.Watch.seen c.rounds.self.watch) (g.W.Watch.seen c.check.new.self.watch) c.args.meter.now c.rounds.meter c.check.new.meter c.args.self.now.ticks c.rounds.self.ticks c.check.new.self.ticks c.rounds.state c.rounds._round (Err c.in-Err-check.fault) c.rounds.invariant
    (look_fails_at_read c.args.rules (g.T.End.past c.args.stream.now) (g.T.End.past c.rounds.stream) u.seen (g.W.Watch.seen c.rounds.self.watch) (g.W.Watch.seen c.check.new.self.watch) (begins c.rounds.invariant.begun c.rounds.invariant.first) c.rounds.meter c.check.new.meter c.rounds.self.ticks c.check.new.self.ticks c.rounds.state c.check.new.state c.rounds._round c.in-Err-check.fault u.goes (c.in-Err-check.ensures [] c.rounds._round))

pub returns-in-Err-read_piece : goal.returns-in-Err-read_piece
returns-in-Err-read_piece g c =
    let u = c.rounds.invariant in
    under_ends c.args.rules (g.T.End.past c.args.stream.now) (g.T.End.past c.rounds.stream) (g.T.End.past c.read_piece.new.stream) (g.W.Watch.seen c.args.self.now.watch) (g.W.Watch.seen c.rounds.self.watch) (g.W.Watch.seen c.check.new.self.watch) c.args.meter.now c.rounds.meter c.check.new.meter c.args.self.now.ticks c.rounds.self.ticks c.check.new.self.ticks c.rounds.state c.rounds._round (Ok c.ending_of.result) c.rounds.invariant
    (read_breaks c.args.rules (g.T.End.past c.args.stream.now) (g.T.End.past c.rounds.stream) (g.T.End.past c.read_piece.new.stream) u.seen (g.W.Watch.seen c.rounds.self.watch) (g.W.Watch.seen c.check.new.self.watch) (begins c.rounds.invariant.begun c.rounds.invariant.first) c.rounds.meter c.check.new.meter c.rounds.self.ticks c.check.new.self.ticks c.rounds.state c.check.new.state c.rounds._round c.in-Ok-None.field-0 c.in-Err-read_piece.error c.ending_of.result u.goes c.in-Ok-None.field-0-is (c.in-Ok-None.ensures [] c.rounds._round) c.in-Err-read_piece.ensures.reads c.ending_of.ensures)

pub returns-in-Ok-Some-answer_each : goal.returns-in-Ok-Some-answer_each
returns-in-Ok-Some-answer_each g c =
    let u = c.rounds.invariant in
    let read = goes_reading c.args.rules (g.T.End.past c.rounds.stream) (g.T.End.past c.rounds.stream) (g.T.End.past c.read_piece.new.stream) (g.W.Watch.seen c.rounds.self.watch) (g.W.Watch.seen c.rounds.self.watch) (g.W.Watch.seen c.check.new.self.watch) (at c.rounds.meter c.rounds.self.ticks [] c.rounds.state c.rounds._round) c.rounds.meter c.check.new.meter c.rounds.self.ticks c.check.new.self.ticks c.rounds.state c.check.new.state c.rounds._round c.in-Ok-None.field-0 c.read_piece.new.piece c.bytes_of-bytes.result.now c.in-Ok-read_piece.count (goes_nothing c.args.rules (g.T.End.past c.rounds.stream) (g.W.Watch.seen c.rounds.self.watch) (at c.rounds.meter c.rounds.self.ticks [] c.rounds.state c.rounds._round)) c.in-Ok-None.field-0-is (c.in-Ok-None.ensures [] c.rounds._round) c.bytes_of-bytes.ensures c.in-Ok-read_piece.ensures.reads in
    let each = each_ends c.args.rules (g.T.End.past c.read_piece.new.stream) (g.T.End.past c.answer_each.new.stream) (g.W.Watch.seen c.check.new.self.watch) (g.W.Watch.seen c.answer_each.new.self.watch) (at c.check.new.meter c.check.new.self.ticks c.bytes_of-bytes.result.now c.check.new.state (c.rounds._round + 1)) c.answer_each.new.meter c.answer_each.new.self.ticks c.answer_each.new.state c.in-Ok-Some-answer_each.field-0 c.in-Ok-Some-answer_each.ending c.in-Ok-Some-answer_each.field-0-is (c.in-Ok-Some-answer_each.ensures (c.rounds._round + 1)) in
    under_ends c.args.rules (g.T.End.past c.args.stream.now) (g.T.End.past c.rounds.stream) (g.T.End.past c.answer_each.new.stream) (g.W.Watch.seen c.args.self.now.watch) (g.W.Watch.seen c.rounds.self.watch) (g.W.Watch.seen c.answer_each.new.self.watch) c.args.meter.now c.rounds.meter c.answer_each.new.meter c.args.self.now.ticks c.rounds.self.ticks c.answer_each.new.self.ticks c.rounds.state c.rounds._round (Ok c.in-Ok-Some-answer_each.ending) c.rounds.invariant
    (ends_behind c.args.rules (g.T.End.past c.args.stream.now) (g.T.End.past c.read_piece.new.stream) (g.T.End.past c.answer_each.new.stream) u.seen (g.W.Watch.seen c.check.new.self.watch) (g.W.Watch.seen c.answer_each.new.self.watch) (begins c.rounds.invariant.begun c.rounds.invariant.first) (at c.check.new.meter c.check.new.self.ticks c.bytes_of-bytes.result.now c.check.new.state (c.rounds._round + 1)) (Ok c.in-Ok-Some-answer_each.ending) c.answer_each.new.meter c.answer_each.new.self.ticks (goes_on c.args.rules (g.T.End.past c.args.stream.now) (g.T.End.past c.rounds.stream) (g.T.End.past c.read_piece.new.stream) u.seen (g.W.Watch.seen c.rounds.self.watch) (g.W.Watch.seen c.check.new.self.watch) (begins c.rounds.invariant.begun c.rounds.invariant.first) (at c.rounds.meter c.rounds.self.ticks [] c.rounds.state c.rounds._round) (at c.check.new.meter c.check.new.self.ticks c.bytes_of-bytes.result.now c.check.new.state (c.rounds._round + 1)) u.goes read) each)

pub returns-in-Err-answer_each : goal.returns-in-Err-answer_each
returns-in-Err-answer_each g c =
    let u = c.rounds.invariant in
    let read = goes_reading c.args.rules (g.T.End.past c.rounds.stream) (g.T.End.past c.rounds.stream) (g.T.End.past c.read_piece.new.stream) (g.W.Watch.seen c.rounds.self.watch) (g.W.Watch.seen c.rounds.self.watch) (g.W.Watch.seen c.check.new.self.watch) (at c.rounds.meter c.rounds.self.ticks [] c.rounds.state c.rounds._round) c.rounds.meter c.check.new.meter c.rounds.self.ticks c.check.new.self.ticks c.rounds.state c.check.new.state c.rounds._round c.in-Ok-None.field-0 c.read_piece.new.piece c.bytes_of-bytes.result.now c.in-Ok-read_piece.count (goes_nothing c.args.rules (g.T.End.past c.rounds.stream) (g.W.Watch.seen c.rounds.self.watch) (at c.rounds.meter c.rounds.self.ticks [] c.rounds.state c.rounds._round)) c.in-Ok-None.field-0-is (c.in-Ok-None.ensures [] c.rounds._round) c.bytes_of-bytes.ensures c.in-Ok-read_piece.ensures.reads in
    under_ends c.args.rules (g.T.End.past c.args.stream.now) (g.T.End.past c.rounds.stream) (g.T.End.past c.answer_each.new.stream) (g.W.Watch.seen c.args.self.now.watch) (g.W.Watch.seen c.rounds.self.watch) (g.W.Watch.seen c.answer_each.new.self.watch) c.args.meter.now c.rounds.meter c.answer_each.new.meter c.args.self.now.ticks c.rounds.self.ticks c.answer_each.new.self.ticks c.rounds.state c.rounds._round (Err c.in-Err-answer_each.fault) c.rounds.invariant
    (ends_behind c.args.rules (g.T.End.past c.args.stream.now) (g.T.End.past c.read_piece.new.stream) (g.T.End.past c.answer_each.new.stream) u.seen (g.W.Watch.seen c.check.new.self.watch) (g.W.Watch.seen c.answer_each.new.self.watch) (begins c.rounds.invariant.begun c.rounds.invariant.first) (at c.check.new.meter c.check.new.self.ticks c.bytes_of-bytes.result.now c.check.new.state (c.rounds._round + 1)) (Err c.in-Err-answer_each.fault) c.answer_each.new.meter c.answer_each.new.self.ticks (goes_on c.args.rules (g.T.End.past c.args.stream.now) (g.T.End.past c.rounds.stream) (g.T.End.past c.read_piece.new.stream) u.seen (g.W.Watch.seen c.rounds.self.watch) (g.W.Watch.seen c.check.new.self.watch) (begins c.rounds.invariant.begun c.rounds.invariant.first) (at c.rounds.meter c.rounds.self.ticks [] c.rounds.state c.rounds._round) (at c.check.new.meter c.check.new.self.ticks c.bytes_of-bytes.result.now c.check.new.state (c.rounds._round + 1)) u.goes read) (c.in-Err-answer_each.ensures (c.rounds._round + 1)))

pub rounds-preserved : goal.rounds-preserved
rounds-preserved g c =
    let read = goes_reading c.args.rules (g.T.End.past c.rounds.stream) (g.T.End.past c.rounds.stream) (g.T.End.past c.read_piece.new.stream) (g.W.Watch.seen c.rounds.self.watch) (g.W.Watch.seen c.rounds.self.watch) (g.W.Watch.seen c.check.new.self.watch) (at c.rounds.meter c.rounds.self.ticks [] c.rounds.state c.rounds._round) c.rounds.meter c.check.new.meter c.rounds.self.ticks c.check.new.self.ticks c.rounds.state c.check.new.state c.rounds._round c.in-Ok-None.field-0 c.read_piece.new.piece c.bytes_of-bytes.result.now c.in-Ok-read_piece.count (goes_nothing c.args.rules (g.T.End.past c.rounds.stream) (g.W.Watch.seen c.rounds.self.watch) (at c.rounds.meter c.rounds.self.ticks [] c.rounds.state c.rounds._round)) c.in-Ok-None.field-0-is (c.in-Ok-None.ensures [] c.rounds._round) c.bytes_of-bytes.ensures c.in-Ok-read_piece.ensures.reads in
    let each = each_goes c.args.rules (g.T.End.past c.read_piece.new.stream) (g.T.End.past c.answer_each.new.stream) (g.W.Watch.seen c.check.new.self.watch) (g.W.Watch.seen c.answer_each.new.self.watch) (at c.check.new.meter c.check.new.self.ticks c.bytes_of-bytes.result.now c.check.new.state (c.rounds._round + 1)) c.answer_each.new.meter c.answer_each.new.self.ticks c.answer_each.new.state c.in-Ok-None-answer_each.field-0 c.in-Ok-None-answer_each.field-0-is (c.in-Ok-None-answer_each.ensures (c.rounds._round + 1)) in
    under_goes c.args.rules (g.T.End.past c.args.stream.now) (g.T.End.past c.rounds.stream) (g.T.End.past c.answer_each.new.stream) (g.W.Watch.seen c.args.self.now.watch) (g.W.Watch.seen c.rounds.self.watch) (g.W.Watch.seen c.answer_each.new.self.watch) c.args.meter.now c.rounds.meter c.answer_each.new.meter c.args.self.now.ticks c.rounds.self.ticks c.answer_each.new.self.ticks c.rounds.state c.answer_each.new.state c.rounds._round (c.rounds._round + 1) c.rounds.invariant
    (goes_on c.args.rules (g.T.End.past c.rounds.stream) (g.T.End.past c.read_piece.new.stream) (g.T.End.past c.answer_each.new.stream) (g.W.Watch.seen c.rounds.self.watch) (g.W.Watch.seen c.check.new.self.watch) (g.W.Watch.seen c.answer_each.new.self.watch) (at c.rounds.meter c.rounds.self.ticks [] c.rounds.state c.rounds._round) (at c.check.new.meter c.check.new.self.ticks c.bytes_of-bytes.result.now c.check.new.state (c.rounds._round + 1)) (at c.answer_each.new.meter c.answer_each.new.self.ticks [] c.answer_each.new.state (c.rounds._round + 1)) read each)

pub returns : goal.returns
returns g c =
    let u = c.rounds.invariant in
    under_ends c.args.rules (g.T.End.past c.args.stream.now) (g.T.End.past c.rounds.stream) (g.T.End.past c.rounds.stream) (g.W.Watch.seen c.args.self.now.watch) (g.W.Watch.seen c.rounds.self.watch) (g.W.Watch.seen c.rounds.self.watch) c.args.meter.now c.rounds.meter c.rounds.meter c.args.self.now.ticks c.rounds.self.ticks c.rounds.self.ticks c.rounds.state c.rounds._round (Err Io) c.rounds.invariant
    (tires c.args.rules (g.T.End.past c.args.stream.now) (g.T.End.past c.rounds.stream) u.seen (g.W.Watch.seen c.rounds.self.watch) (begins c.rounds.invariant.begun c.rounds.invariant.first) c.rounds.meter c.rounds.self.ticks c.rounds.state c.rounds._round (omega (arith, c.rounds-test.false, c.rounds.auto._round-end)) u.goes)
