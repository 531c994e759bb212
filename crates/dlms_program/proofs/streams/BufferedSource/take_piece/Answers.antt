use Rattle.std.proofs.Common.{ap, subst, ◌≡◌, List, ℕ, length, []}
use Rattle.std.specs.Prelude.{Option, Some, None, IfSome}
use Rattle.std.specs.Io.KnownBytes.{IsAtEnd}
use Rattle.std.specs.Io.BufRead.{FillKeeps}
use Rattle.std.proofs.BufReadLemmas.{Consumes_shown}
use Rattle.dlms_program.proofs.PieceLemmas.{shown_taken}
use Rattle.dlms_program.proofs.streams.BufferedSource.take_piece.Goals as goal

at_end : (old : Option (List ℕ)) (shown : List ℕ) → IfSome old (λ xs. length shown ≡ 0 → xs ≡ []) → shown ≡ [] → IsAtEnd old
at_end None shown h none = tt
at_end (Some xs) shown h none = h (ap length none)

pub returns-clause-piece : goal.returns-clause-piece
returns-clause-piece g c =
    let remaining = g.R.Read.remaining in
    let shown = c.in_ok-shown.shown.now in
    let count = c.add-count.result.0 in
    let rested = c.fill_buf.follows.lender-at-none in
    let filled = subst (FillKeeps _ (remaining rested) (g.R.BufRead.consumable_len rested)) c.in_ok-shown.was c.fill_buf.follows.holds-at-none in
    let moved = Consumes_shown _ _ _ _ shown count c.add-count.ensures.within c.in_ok-shown.ensures.front c.in_ok-shown.ensures.end filled.0 filled.1 c.consume.ensures.bytes in
    shown_taken (remaining c.args.self.now.reader) (remaining c.consume.new.self) shown c.args.line.now.items c.add-count.new.line.items count c.add-count.result.1
    moved.0 (at_end (remaining c.args.self.now.reader) shown c.in_ok-shown.ensures.end) c.add-count.ensures.piece
