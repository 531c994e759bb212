use Rattle.std.proofs.Common.{◌≡◌, ℕ, ◌*◌, ◌-◌, ◌^◌, min, subst, ap, ◌∙◌, OnOk}
use Rattle.dlms_buffer.specs.CellTexts.{IsOctetsText}
use Rattle.dlms_buffer.specs.Texts.{GrewBy}
use Rattle.dlms_buffer.proofs.cell_text.append_cell.Goals as goal

pub returns-in-Octets : goal.returns-in-Octets
returns-in-Octets g c =
    let later : c.saturating_mul.result ≡ min (c.args.cell.now.age * c.args.period) (2 ^ 64 - 1) =
    c.saturating_mul.ensures ∙ ap (λ (n : ℕ). min (c.args.cell.now.age * n) (2 ^ 64 - 1)) c.from.ensures in
    rw c.in-Octets.is
    (subst (λ (n : ℕ). OnOk c.append_dated.result (GrewBy (IsOctetsText n c.in-Octets.octets.now) c.args.text.now.items c.append_dated.new.text.items)) later c.append_dated.ensures)
