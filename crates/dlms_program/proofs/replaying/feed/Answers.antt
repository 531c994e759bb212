use Rattle.std.proofs.Common.{rules}
use Rattle.dlms_program.proofs.CallLemmas.{called_failed, fails_behind, passes_more, passes_none}
use Rattle.dlms_program.proofs.PutLemmas.{taken_and_left}
use Rattle.dlms_program.proofs.ReplayLemmas.{fed_start, fed_call, fed_all, fed_part, was_err}
use Rattle.dlms_program.proofs.replaying.feed.Goals as goal

pub frames-init : goal.frames-init
frames-init g c = (fed_start _ _ _, passes_none _)

pub frames-preserved : goal.frames-preserved
frames-preserved g c = (
  fed_call (g.W.Sink.contents c.args.writer.now) (g.W.Sink.contents c.frames.writer) (g.W.Sink.contents c.write_answer.new.writer)
      c.args.meter.now c.frames.meter c.feed-taken.new.self c.args.bytes.now c.frames.rest.now _ _ _
      (taken_and_left c.feed-taken.result.0 c.frames.rest.now) c.frames.invariant.0 (c.feed-taken.ensures.feeds, c.feed-taken.ensures.later) c.in_ok-write_answer.ensures.bytes,
  passes_more 0 0 0 (g.W.Sink.calls c.args.writer.now) (g.W.Sink.calls c.frames.writer) (g.W.Sink.calls c.write_answer.new.writer) c.frames.invariant.1 c.in_ok-write_answer.ensures.calls (search rules),
)

pub returns : goal.returns
returns g c = record {
  lines = fed_all (g.W.Sink.contents c.args.writer.now) (g.W.Sink.contents c.frames.writer) c.args.meter.now c.frames.meter c.args.bytes.now c.frames.rest.now (search rules) c.frames.invariant.0;
  calls = c.frames.invariant.1;
}

pub returns-in_err-write_answer : goal.returns-in_err-write_answer
returns-in_err-write_answer g c = record {
  lines = λ honest w at.
      was_err _ c.from_residual.result c.from_residual.ensures.0
      (fed_part (g.W.Sink.contents c.args.writer.now) (g.W.Sink.contents c.frames.writer) (g.W.Sink.contents c.write_answer.new.writer)
      c.args.meter.now c.frames.meter c.feed-taken.new.self c.args.bytes.now c.frames.rest.now _ _ _
      (taken_and_left c.feed-taken.result.0 c.frames.rest.now) c.frames.invariant.0 (c.feed-taken.ensures.feeds, c.feed-taken.ensures.later) c.in_err-write_answer.ensures.bytes honest w at);
  calls =
      called_failed 0 (g.W.Sink.calls c.args.writer.now) (g.W.Sink.calls c.write_answer.new.writer) c.from_residual.result c.from_residual.ensures.0
      (fails_behind 0 (g.W.Sink.calls c.args.writer.now) (g.W.Sink.calls c.frames.writer) (g.W.Sink.calls c.write_answer.new.writer) c.frames.invariant.1 c.in_err-write_answer.ensures.calls);
}
