use Rattle.std.proofs.Common.{rules, arith, subst, ap, ◌≡◌, ℕ, length, take}
use Rattle.std.specs.Io.KnownBytes.{Consumes}
use Rattle.dlms_program.proofs.PieceLemmas.{adds_some, shown_taken}
use Rattle.dlms_program.proofs.streams.AnySource.take_piece.Goals as goal

pub returns-in_default-clause-piece : goal.returns-in_default-clause-piece
returns-in_default-clause-piece g c =
    let remaining = g.R.Read.remaining in
    let byte = c.read.new.buf in
    let one : length byte ≡ 1 = search rules in
    let some = adds_some byte c.args.line.now.items c.add.new.line.items c.add.result.0 c.add.result.1 (omega (arith, one)) c.add.ensures.within c.add.ensures.piece in
    let same : c.in_ok-read.field-0 ≡ c.add.result.0 = omega (arith, some, one, c.add.ensures.within, c.in_ok-read.ensures.bound) in
    let taken = subst (λ (k : ℕ). Consumes (remaining c.args.self.now) (remaining c.read.new.self) (take k byte)) same c.in_ok-read.ensures.bytes.0 in
    shown_taken (remaining c.args.self.now) (remaining c.read.new.self) byte c.args.line.now.items c.add.new.line.items c.add.result.0 c.add.result.1
    taken (λ none. absurd (omega (arith, one, ap length none))) c.add.ensures.piece
