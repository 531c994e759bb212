use Rattle.std.proofs.Common.{arith, refl, subst, ◌∙◌, ◌≡◌, ◌≤◌, ◌-◌, ◌^◌, List, ℕ}
use Rattle.std.specs.IoError.{error_kind}
use Rattle.std.specs.declared.io.ErrorKind.TheVariants.{Interrupted}
use Rattle.dlms_program.specs.Lines.{TakesPiece}
use Rattle.dlms_program.proofs.CallLemmas.{fails_call, passes_call, passes_interrupted, passes_more}
use Rattle.dlms_program.proofs.LineLemmas.{keeps_still}
use Rattle.dlms_program.proofs.PieceLemmas.{keeps_piece}
use Rattle.dlms_program.proofs.lines.next_piece.Goals as goal

pub returns-in-Ok-clause-piece : goal.returns-in-Ok-clause-piece
returns-in-Ok-clause-piece g c =
    let remaining = g.S.Source.remaining in
    keeps_piece (remaining c.args.source.now) (remaining c.reading.source) (remaining c.take_piece.new.self) c.args.line.now.items c.take_piece.new.line.items c.in-Ok.piece c.reading.invariant.0
    (subst (λ (before : List ℕ). TakesPiece (remaining c.reading.source) (remaining c.take_piece.new.self) before c.take_piece.new.line.items c.in-Ok.piece) c.reading.invariant.1 c.in-Ok.ensures.piece)

pub returns-in-Ok-clause-calls : goal.returns-in-Ok-clause-calls
returns-in-Ok-clause-calls g c =
    let calls = g.S.Source.calls in
    passes_more (2 ^ 64 - 1 - c.reading.tries) 1 1 (calls c.args.source.now) (calls c.reading.source) (calls c.take_piece.new.self) c.reading.invariant.2
    (passes_call (calls c.reading.source) (calls c.take_piece.new.self) c.in-Ok.ensures.call) (omega arith)

pub reading-preserved : goal.reading-preserved
reading-preserved g c =
    let calls = g.S.Source.calls in
    let remaining = g.S.Source.remaining in (
      keeps_still (remaining c.args.source.now) (remaining c.reading.source) (remaining c.take_piece.new.self) c.reading.invariant.0 c.in-Err.ensures.none,
      c.in-Err.ensures.kept ∙ c.reading.invariant.1,
      passes_more (2 ^ 64 - 1 - c.reading.tries) 1 (2 ^ 64 - 1 - (c.reading.tries - 1)) (calls c.args.source.now) (calls c.reading.source) (calls c.take_piece.new.self) c.reading.invariant.2
          (passes_interrupted (calls c.reading.source) (calls c.take_piece.new.self) (error_kind c.in-Err.e) (c.if-is_interrupted.ensures.0 refl) c.in-Err.ensures.call) (omega arith),
    )

pub returns-in-Err-2-clause-kept : goal.returns-in-Err-2-clause-kept
returns-in-Err-2-clause-kept g c = c.in-Err.ensures.kept ∙ c.reading.invariant.1

pub returns-in-Err-2-2-clause-kept : goal.returns-in-Err-2-2-clause-kept
returns-in-Err-2-2-clause-kept g c = c.in-Err.ensures.kept ∙ c.reading.invariant.1

pub returns-in-Err-2-clause-calls : goal.returns-in-Err-2-clause-calls
returns-in-Err-2-clause-calls g c =
    let calls = g.S.Source.calls in
    let tried : error_kind c.in-Err.e ≡ Interrupted → 2 ^ 64 - 1 ≤ 2 ^ 64 - 1 - c.reading.tries = λ is. absurd (cc (c.if-is_interrupted.ensures.1 is)) in
    fails_call (2 ^ 64 - 1 - c.reading.tries) (calls c.args.source.now) (calls c.reading.source) (calls c.take_piece.new.self) (error_kind c.in-Err.e) c.reading.invariant.2 tried c.in-Err.ensures.call

pub returns-in-Err-2-2-clause-calls : goal.returns-in-Err-2-2-clause-calls
returns-in-Err-2-2-clause-calls g c =
    let calls = g.S.Source.calls in
    let tried : error_kind c.in-Err.e ≡ Interrupted → 2 ^ 64 - 1 ≤ 2 ^ 64 - 1 - c.reading.tries = λ is. omega (arith, c.if-tries-gt0.false) in
    fails_call (2 ^ 64 - 1 - c.reading.tries) (calls c.args.source.now) (calls c.reading.source) (calls c.take_piece.new.self) (error_kind c.in-Err.e) c.reading.invariant.2 tried c.in-Err.ensures.call
