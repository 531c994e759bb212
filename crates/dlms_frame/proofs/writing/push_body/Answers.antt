use Rattle.std.proofs.Common.{◌≡◌, ℕ, List, ◌∷◌, ◌++◌, length, arith, rules, ap, sym, ◌∙◌, eqb, false, length-append}
use Rattle.dlms_frame.specs.Frame.{checked, header_bytes}
use Rattle.dlms_frame.proofs.FrameLemmas.{length-checked, tail_some, body_some}
use Rattle.dlms_frame.proofs.writing.push_body.Goals as goal

pub append-requires : goal.append-requires
append-requires g c =
    let some : eqb (length c.args.info.now) 0 ≡ false = sym c.is_empty.ensures ∙ c.if-not-is_empty.true in (
      search rules,
      omega (
        arith,
        ap length (c.push_check.ensures (header_bytes c.args.header) c.push_header.ensures),
        length-checked (header_bytes c.args.header),
        c.requires.room,
        tail_some c.args.info.now some,
      ),
    )

pub push_check-requires-then-not-is_empty : goal.push_check-requires-then-not-is_empty
push_check-requires-then-not-is_empty g c =
    let some : eqb (length c.args.info.now) 0 ≡ false = sym c.is_empty.ensures ∙ c.if-not-is_empty.true in
    let long = ap length c.append.ensures ∙ length-append c.push_check.new.text.items c.args.info.now in
    let front = ap length (c.push_check.ensures (header_bytes c.args.header) c.push_header.ensures) in
    let tail = tail_some c.args.info.now some in (
      search rules,
      (
        omega (arith, long, front, length-checked (header_bytes c.args.header)),
        omega (arith, long, front, length-checked (header_bytes c.args.header), c.requires.room, tail),
      ),
    )

pub returns-then-not-is_empty : goal.returns-then-not-is_empty
returns-then-not-is_empty g c =
    let some : eqb (length c.args.info.now) 0 ≡ false = sym c.is_empty.ensures ∙ c.if-not-is_empty.true in
    c.push_check-then-not-is_empty.ensures (checked (header_bytes c.args.header) ++ c.args.info.now)
    (c.append.ensures ∙ ap (λ (t : List ℕ). t ++ c.args.info.now) (c.push_check.ensures (header_bytes c.args.header) c.push_header.ensures))
    ∙ ap (λ (t : List ℕ). 126 ∷ t) (sym (body_some (header_bytes c.args.header) c.args.info.now some))
