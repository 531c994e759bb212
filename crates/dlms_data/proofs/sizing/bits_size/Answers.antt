use Rattle.std.proofs.Common.{ℕ, length, ap, arith}
use Rattle.dlms_data.specs.Writing.{short_length}
use Rattle.dlms_data.proofs.Sizes.{length_bits}
use Rattle.dlms_data.proofs.sizing.bits_size.Goals as goal

pub returns : goal.returns
returns g c =
    let head = ap (λ (n : ℕ). length (short_length n)) c.len.ensures in
    omega (arith, head, length_bits c.args.bits.now, c.head_size.ensures, c.as_bytes.ensures.0, c.saturating_add.ensures)
