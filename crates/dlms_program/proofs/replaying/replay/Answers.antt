use Rattle.std.proofs.Common.{arith, sym, subst, inl, inr, ◌+◌, ◌-◌, ◌^◌, ℕ, List}
use Rattle.dlms_program.specs.Lines.{LosesLine, TakesLine}
use Rattle.dlms_program.specs.declared.lines.Taken.{Taken}
use Rattle.std.proofs.lemmas.Result.{err_from_is_err_and}
use Rattle.dlms_program.proofs.CallLemmas.{fails_behind, passes_least, passes_more, passes_none}
use Rattle.dlms_program.proofs.ReplayLemmas.{replay_cut, replay_fault, replay_used, replay_line, replay_end, replay_bad, replay_start, unknown_first, long_first}
use Rattle.dlms_program.proofs.replaying.replay.Goals as goal

pub lines-init : goal.lines-init
lines-init g c = (
  replay_start (g.W.Sink.contents c.args.writer.now) c.args.meter.now (g.R.Source.remaining c.args.reader.now),
  c.requires,
  passes_none (g.R.Source.calls c.args.reader.now),
  passes_none (g.W.Sink.calls c.args.writer.now),
)

pub returns-in-End : goal.returns-in-End
returns-in-End g c honest w at =
    let taken = subst (λ (t : Taken). TakesLine (g.R.Source.remaining c.lines.reader) (g.R.Source.remaining c.take_line.new.source) c.take_line.new.line.items 8192 t) c.in-End.is c.in_ok-take_line.ensures.line in
    let read = passes_more (c.lines.number - 1) 1 0 (g.R.Source.calls c.args.reader.now) (g.R.Source.calls c.lines.reader) (g.R.Source.calls c.take_line.new.source) c.lines.invariant.2 c.in_ok-take_line.ensures.calls (omega arith) in (
      read,
      c.lines.invariant.3,
      replay_end (g.W.Sink.contents c.args.writer.now) (g.W.Sink.contents c.lines.writer) c.args.meter.now c.lines.meter
          (g.R.Source.remaining c.args.reader.now) (g.R.Source.remaining c.lines.reader) c.lines.number c.lines.invariant.0 taken honest w at,
    )

pub returns-in-Long : goal.returns-in-Long
returns-in-Long g c honest w at =
    let taken = subst (λ (t : Taken). TakesLine (g.R.Source.remaining c.lines.reader) (g.R.Source.remaining c.take_line.new.source) c.take_line.new.line.items 8192 t) c.in-Long.is c.in_ok-take_line.ensures.line in
    let read = passes_more (c.lines.number - 1) 1 0 (g.R.Source.calls c.args.reader.now) (g.R.Source.calls c.lines.reader) (g.R.Source.calls c.take_line.new.source) c.lines.invariant.2 c.in_ok-take_line.ensures.calls (omega arith) in (
      read,
      c.lines.invariant.3,
      replay_bad (g.W.Sink.contents c.args.writer.now) (g.W.Sink.contents c.lines.writer) c.args.meter.now c.lines.meter
          (g.R.Source.remaining c.args.reader.now) (g.R.Source.remaining c.lines.reader) c.lines.number c.lines.invariant.0 (long_first (g.R.Source.remaining c.lines.reader) taken) honest w at,
    )

pub returns-in_default : goal.returns-in_default
returns-in_default g c honest w at =
    let taken = subst (λ (t : Taken). TakesLine (g.R.Source.remaining c.lines.reader) (g.R.Source.remaining c.take_line.new.source) c.take_line.new.line.items 8192 t) c.in-Whole.is c.in_ok-take_line.ensures.line in
    let loses = subst (λ (line : List ℕ). LosesLine (g.R.Source.remaining c.lines.reader) (g.R.Source.remaining c.take_line.new.source) line) (sym c.as_slice.ensures.value) taken in
    let read = passes_more (c.lines.number - 1) 1 0 (g.R.Source.calls c.args.reader.now) (g.R.Source.calls c.lines.reader) (g.R.Source.calls c.take_line.new.source) c.lines.invariant.2 c.in_ok-take_line.ensures.calls (omega arith) in (
      read,
      c.lines.invariant.3,
      replay_bad (g.W.Sink.contents c.args.writer.now) (g.W.Sink.contents c.lines.writer) c.args.meter.now c.lines.meter
          (g.R.Source.remaining c.args.reader.now) (g.R.Source.remaining c.lines.reader) c.lines.number c.lines.invariant.0
          (unknown_first (g.R.Source.remaining c.lines.reader) (g.R.Source.remaining c.take_line.new.source) c.as_slice.result.now loses c.in_default.ensures.none) honest w at,
    )

pub lines-preserved : goal.lines-preserved
lines-preserved g c =
    let taken = subst (λ (t : Taken). TakesLine (g.R.Source.remaining c.lines.reader) (g.R.Source.remaining c.take_line.new.source) c.take_line.new.line.items 8192 t) c.in-Whole.is c.in_ok-take_line.ensures.line in
    let loses = subst (λ (line : List ℕ). LosesLine (g.R.Source.remaining c.lines.reader) (g.R.Source.remaining c.take_line.new.source) line) (sym c.as_slice.ensures.value) taken in
    let so_far =
    replay_line (g.W.Sink.contents c.args.writer.now) (g.W.Sink.contents c.lines.writer) (g.W.Sink.contents c.follow.new.writer)
    c.args.meter.now c.lines.meter c.follow.new.meter (g.R.Source.remaining c.args.reader.now) (g.R.Source.remaining c.lines.reader) (g.R.Source.remaining c.take_line.new.source)
    c.as_slice.result.now c.order_of.new.bytes c.in-Some.order c.lines.number c.lines.invariant.0 loses
    c.as_slice.ensures.fits c.in-Some.ensures.some c.in_ok-follow.ensures.lines in
    let read = passes_more (c.lines.number - 1) 1 (c.lines.number + 1 - 1) (g.R.Source.calls c.args.reader.now) (g.R.Source.calls c.lines.reader) (g.R.Source.calls c.take_line.new.source) c.lines.invariant.2 c.in_ok-take_line.ensures.calls (omega arith) in
    let wrote = passes_more 0 0 0 (g.W.Sink.calls c.args.writer.now) (g.W.Sink.calls c.lines.writer) (g.W.Sink.calls c.follow.new.writer) c.lines.invariant.3 c.in_ok-follow.ensures.calls (omega arith) in
    (so_far, c.in_ok-follow.ensures.there, read, wrote)

pub returns-in_err-follow : goal.returns-in_err-follow
returns-in_err-follow g c =
    let taken = subst (λ (t : Taken). TakesLine (g.R.Source.remaining c.lines.reader) (g.R.Source.remaining c.take_line.new.source) c.take_line.new.line.items 8192 t) c.in-Whole.is c.in_ok-take_line.ensures.line in
    let loses = subst (λ (line : List ℕ). LosesLine (g.R.Source.remaining c.lines.reader) (g.R.Source.remaining c.take_line.new.source) line) (sym c.as_slice.ensures.value) taken in
    let read = passes_more (c.lines.number - 1) 1 0 (g.R.Source.calls c.args.reader.now) (g.R.Source.calls c.lines.reader) (g.R.Source.calls c.take_line.new.source) c.lines.invariant.2 c.in_ok-take_line.ensures.calls (omega arith) in
    let p = err_from_is_err_and c.from_residual-in_err-follow.result c.from_residual-in_err-follow.ensures.1 in
    rw (p.1, p.2)
    (replay_fault (g.R.Source.calls c.args.reader.now) (g.R.Source.calls c.take_line.new.source) (g.W.Sink.calls c.args.writer.now) (g.W.Sink.calls c.lines.writer) (g.W.Sink.calls c.follow.new.writer)
    (g.W.Sink.contents c.args.writer.now) (g.W.Sink.contents c.lines.writer) (g.W.Sink.contents c.follow.new.writer)
    c.args.meter.now c.lines.meter c.follow.new.meter (g.R.Source.remaining c.args.reader.now) (g.R.Source.remaining c.lines.reader) (g.R.Source.remaining c.take_line.new.source)
    c.as_slice.result.now c.order_of.new.bytes c.in-Some.order c.lines.number c.in_err-follow.field-0.0 read c.lines.invariant.3 c.in_err-follow.ensures.calls
    c.lines.invariant.0 loses c.as_slice.ensures.fits c.in-Some.ensures.some c.in_err-follow.ensures.lines)

pub returns-in_err-take_line : goal.returns-in_err-take_line
returns-in_err-take_line g c honest w at =
    let p = err_from_is_err_and c.from_residual.result c.from_residual.ensures.1 in
    let failed = fails_behind (c.lines.number - 1) (g.R.Source.calls c.args.reader.now) (g.R.Source.calls c.lines.reader) (g.R.Source.calls c.take_line.new.source) c.lines.invariant.2 c.in_err-take_line.ensures.calls in
    let cut = replay_cut (g.W.Sink.contents c.args.writer.now) (g.W.Sink.contents c.lines.writer) c.args.meter.now c.lines.meter
    (g.R.Source.remaining c.args.reader.now) (g.R.Source.remaining c.lines.reader) (g.R.Source.remaining c.take_line.new.source) c.take_line.new.line.items c.lines.number c.lines.invariant.0 c.in_err-take_line.ensures.part honest w at in
    rw (p.1, p.2, c.in_err-take_line.ensures.fault)
    (inl (failed, c.lines.invariant.3, cut))

pub returns : goal.returns
returns g c honest w at =
    let read = passes_least (2 ^ 32 - 1) (c.lines.number - 1) (g.R.Source.calls c.args.reader.now) (g.R.Source.calls c.lines.reader) (omega arith) c.lines.invariant.2 in
    let cut = replay_used (g.W.Sink.contents c.args.writer.now) (g.W.Sink.contents c.lines.writer) c.args.meter.now c.lines.meter
    (g.R.Source.remaining c.args.reader.now) (g.R.Source.remaining c.lines.reader) c.lines.number c.lines.invariant.0 (omega arith) honest w at in
    inr (inr (read, c.lines.invariant.3, cut))

pub returns-in_ok-follow : goal.returns-in_ok-follow
returns-in_ok-follow g c honest w at =
    let taken = subst (λ (t : Taken). TakesLine (g.R.Source.remaining c.lines.reader) (g.R.Source.remaining c.take_line.new.source) c.take_line.new.line.items 8192 t) c.in-Whole.is c.in_ok-take_line.ensures.line in
    let loses = subst (λ (line : List ℕ). LosesLine (g.R.Source.remaining c.lines.reader) (g.R.Source.remaining c.take_line.new.source) line) (sym c.as_slice.ensures.value) taken in
    let so_far =
    replay_line (g.W.Sink.contents c.args.writer.now) (g.W.Sink.contents c.lines.writer) (g.W.Sink.contents c.follow.new.writer)
    c.args.meter.now c.lines.meter c.follow.new.meter (g.R.Source.remaining c.args.reader.now) (g.R.Source.remaining c.lines.reader) (g.R.Source.remaining c.take_line.new.source)
    c.as_slice.result.now c.order_of.new.bytes c.in-Some.order c.lines.number c.lines.invariant.0 loses
    c.as_slice.ensures.fits c.in-Some.ensures.some c.in_ok-follow.ensures.lines in
    let read = passes_more (c.lines.number - 1) 1 (2 ^ 32 - 1) (g.R.Source.calls c.args.reader.now) (g.R.Source.calls c.lines.reader) (g.R.Source.calls c.take_line.new.source) c.lines.invariant.2 c.in_ok-take_line.ensures.calls (omega arith) in
    let wrote = passes_more 0 0 0 (g.W.Sink.calls c.args.writer.now) (g.W.Sink.calls c.lines.writer) (g.W.Sink.calls c.follow.new.writer) c.lines.invariant.3 c.in_ok-follow.ensures.calls (omega arith) in
    let cut =
    replay_used (g.W.Sink.contents c.args.writer.now) (g.W.Sink.contents c.follow.new.writer) c.args.meter.now c.follow.new.meter
    (g.R.Source.remaining c.args.reader.now) (g.R.Source.remaining c.take_line.new.source) (c.lines.number + 1) so_far (omega arith) honest w at in
    inr (inr (read, wrote, cut))
