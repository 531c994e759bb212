use Rattle.std.proofs.Common.{ap, ◌∙◌, arith}
use Rattle.std.specs.Int.{w32, to_be_bytes, rotate_right}
use Rattle.dlms_cipher.proofs.BoxLemmas.{column_is, mixed_0, mixed_1, mixed_2, mixed_3}
use Rattle.dlms_cipher.proofs.columns.mixed_column.Goals as goal

pub returns : goal.returns
returns c =
    column_is _ _ _ _ c.args.key _ _ _ _
    (ap (to_be_bytes w32) c.mixed_octet.ensures ∙ mixed_0 c.args.a (omega (arith, c.ranges.a)))
    (ap (to_be_bytes w32) (c.rotate_right.ensures ∙ ap (λ n. rotate_right w32 n 8) c.mixed_octet-2.ensures) ∙ mixed_1 c.args.b (omega (arith, c.ranges.b)))
    (ap (to_be_bytes w32) (c.rotate_right-2.ensures ∙ ap (λ n. rotate_right w32 n 16) c.mixed_octet-3.ensures) ∙ mixed_2 c.args.c (omega (arith, c.ranges.c)))
    (ap (to_be_bytes w32) (c.rotate_right-3.ensures ∙ ap (λ n. rotate_right w32 n 24) c.mixed_octet-4.ensures) ∙ mixed_3 c.args.d (omega (arith, c.ranges.d)))
