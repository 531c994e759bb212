use Rattle.std.proofs.Common.{arith, refl, ◌≡◌, ◌≤◌, ◌-◌, ◌^◌}
use Rattle.std.specs.IoError.{error_kind}
use Rattle.std.specs.declared.io.ErrorKind.TheVariants.{Interrupted}
use Rattle.dlms_program.proofs.CallLemmas.{passes_call, passes_more, passes_interrupted, fails_call}
use Rattle.dlms_program.proofs.PutLemmas.{put_kept, put_more, taken_and_left}
use Rattle.dlms_program.proofs.printing.put.Goals as goal
use Rattle.dlms_program.proofs.printing.put.Goals.{then-tries-gt0+else-is_interrupted, else-tries-gt0}

pub writing-preserved-in-Ok : goal.writing-preserved-in-Ok
writing-preserved-in-Ok g c =
    let contents = g.W.Sink.contents in
    let calls = g.W.Sink.calls in (
      put_more (contents c.args.writer.now) (contents c.writing.writer) (contents c.take_some.new.self) c.args.bytes.now c.writing.rest.now _ _
          (taken_and_left c.in-Ok.count c.writing.rest.now) c.writing.invariant.0 c.in-Ok.ensures.bytes,
      passes_more (2 ^ 64 - 1 - c.writing.tries) 1 (2 ^ 64 - 1 - c.writing.tries) (calls c.args.writer.now) (calls c.writing.writer) (calls c.take_some.new.self) c.writing.invariant.1
          (passes_call (calls c.writing.writer) (calls c.take_some.new.self) c.in-Ok.ensures.call) (omega arith),
    )

pub writing-preserved : goal.writing-preserved
writing-preserved g c =
    let contents = g.W.Sink.contents in
    let calls = g.W.Sink.calls in (
      put_kept (contents c.args.writer.now) (contents c.writing.writer) (contents c.take_some.new.self) c.args.bytes.now c.writing.rest.now c.writing.invariant.0 c.in-Err.ensures.bytes,
      passes_more (2 ^ 64 - 1 - c.writing.tries) 1 (2 ^ 64 - 1 - (c.writing.tries - 1)) (calls c.args.writer.now) (calls c.writing.writer) (calls c.take_some.new.self) c.writing.invariant.1
          (passes_interrupted (calls c.writing.writer) (calls c.take_some.new.self) (error_kind c.in-Err.e) (c.if-is_interrupted.ensures.0 refl) c.in-Err.ensures.call) (omega arith),
    )

pub returns-in-Err-2-clause-calls : goal.returns-in-Err-2-clause-calls
returns-in-Err-2-clause-calls g c =
    let calls = g.W.Sink.calls in
    let tried : error_kind c.in-Err.e ≡ Interrupted → 2 ^ 64 - 1 ≤ 2 ^ 64 - 1 - c.writing.tries =
    elim c.if-tries-gt0.branch [
      | then-tries-gt0+else-is_interrupted w ↦ λ is. absurd (cc (w.if-is_interrupted.ensures.1 is))
      | else-tries-gt0 w ↦ λ is. omega (arith, w.if-tries-gt0.false)
    ] in
    fails_call (2 ^ 64 - 1 - c.writing.tries) (calls c.args.writer.now) (calls c.writing.writer) (calls c.take_some.new.self) (error_kind c.in-Err.e) c.writing.invariant.1 tried c.in-Err.ensures.call
