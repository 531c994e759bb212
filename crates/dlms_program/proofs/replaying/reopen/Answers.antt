use Rattle.std.proofs.Common.{rules, refl, inl, inr, subst, List, ℕ}
use Rattle.std.specs.Io.KnownBytes.{Appends}
use Rattle.dlms_program.specs.Written.{AppendsPart}
use Rattle.std.proofs.lemmas.Result.{err_from_is_err_and}
use Rattle.dlms_program.specs.Health.{IsClosed, IsMade}
use Rattle.dlms_program.proofs.PutLemmas.{part_line}
use Rattle.dlms_program.proofs.ReplayLemmas.{open_told, open_part, gone_told, refused_for}
use Rattle.dlms_program.proofs.replaying.reopen.Goals as goal

pub returns-in-Ok : goal.returns-in-Ok
returns-in-Ok g c =
    let x = c.close.ensures in
    let y = c.in-Ok.ensures in
    let closed : IsClosed c.in-Some.running c.close.result = record { run = x.run; settles = x.settles; later = x.later; from = x.from } in
    let made : IsMade c.close.result c.in-Ok.recovered = record { opens = y.opens; stands = y.stands; exact = y.exact; later = y.later } in
    record {
      there = refl;
      lines =
          open_told c.in-Some.running c.close.result (g.W.Sink.contents c.args.writer.now) (g.W.Sink.contents c.write_open.new.writer) c.args.meter.now c.in-Ok.recovered (search rules)
          closed x.settles made y.opened y.stands c.in_ok-write_open-in-Ok.ensures.bytes;
      calls = c.in_ok-write_open-in-Ok.ensures.calls;
    }

pub returns-in_err-write_open-in-Ok-clause-lines : goal.returns-in_err-write_open-in-Ok-clause-lines
returns-in_err-write_open-in-Ok-clause-lines g c honest w bytes left =
    let p = err_from_is_err_and c.from_residual.result c.from_residual.ensures.1 in
    let x = c.close.ensures in
    let y = c.in-Ok.ensures in
    let closed : IsClosed c.in-Some.running c.close.result = record { run = x.run; settles = x.settles; later = x.later; from = x.from } in
    let made : IsMade c.close.result c.in-Ok.recovered = record { opens = y.opens; stands = y.stands; exact = y.exact; later = y.later } in
    rw (p.1, p.2)
    (inl (open_part c.in-Some.running c.close.result (g.W.Sink.contents c.args.writer.now) (g.W.Sink.contents c.write_open.new.writer) c.args.meter.now c.in-Ok.recovered (search rules)
    closed x.settles made y.opened y.stands c.in_err-write_open-in-Ok.ensures.bytes honest w bytes left))

pub returns-in_err-tell-in-Err-clause-lines : goal.returns-in_err-tell-in-Err-clause-lines
returns-in_err-tell-in-Err-clause-lines g c honest w bytes left =
    let p = err_from_is_err_and c.from_residual-in_err-tell-in-Err.result c.from_residual-in_err-tell-in-Err.ensures.1 in
    let x = c.close.ensures in
    let y = c.in-Err.ensures in
    let closed : IsClosed c.in-Some.running c.close.result = record { run = x.run; settles = x.settles; later = x.later; from = x.from } in
    rw (p.1, p.2)
    (inr (gone_told c.in-Some.running c.close.result (AppendsPart (g.W.Sink.contents c.args.writer.now) (g.W.Sink.contents c.tell.new.writer)) c.args.meter.now c.take.new.self c.in-Err.fault _ (search rules) c.take.ensures.after
    closed y.gives_back (refused_for _ _ c.in-Err.fault y.exact y.device y.size y.later) (part_line _ _ _ _ c.open_fault_text.ensures c.in_err-tell-in-Err.ensures.bytes) honest w left))

pub returns-clause-lines : goal.returns-clause-lines
returns-clause-lines g c honest w bytes left =
    let x = c.close.ensures in
    let y = c.in-Err.ensures in
    let closed : IsClosed c.in-Some.running c.close.result = record { run = x.run; settles = x.settles; later = x.later; from = x.from } in
    let told = subst (λ (t : List ℕ). Appends (g.W.Sink.contents c.args.writer.now) (g.W.Sink.contents c.tell.new.writer) t) c.open_fault_text.ensures c.in_ok-tell-in-Err.ensures.bytes in
    gone_told c.in-Some.running c.close.result (Appends (g.W.Sink.contents c.args.writer.now) (g.W.Sink.contents c.tell.new.writer)) c.args.meter.now c.take.new.self c.in-Err.fault _ (search rules) c.take.ensures.after
    closed y.gives_back (refused_for _ _ c.in-Err.fault y.exact y.device y.size y.later) told honest w left
