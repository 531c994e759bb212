use Rattle.std.proofs.Common.{◌≡◌, ◌∷◌, [], ap, ◌∙◌, refl, arith}
use Rattle.std.specs.Int.{w32, to_be_bytes}
use Rattle.dlms_cipher.specs.Aes.{xor_octets, sbox}
use Rattle.dlms_cipher.proofs.BoxLemmas.{four_octets, octets-xor}
use Rattle.dlms_cipher.proofs.columns.plain_column.Goals as goal

pub returns : goal.returns
returns c =
    let same : (c.substitute.result ∷ c.substitute-2.result ∷ c.substitute-3.result ∷ c.substitute-4.result ∷ []) ≡ sbox c.args.a ∷ sbox c.args.b ∷ sbox c.args.c ∷ sbox c.args.d ∷ [] =
    rw (c.substitute.ensures, c.substitute-2.ensures, c.substitute-3.ensures, c.substitute-4.ensures) refl in
    octets-xor c.from_be_bytes.result c.args.key
    ∙ ap (λ l. xor_octets l (to_be_bytes w32 c.args.key))
    (four_octets c.from_be_bytes.result c.substitute.result c.substitute-2.result c.substitute-3.result c.substitute-4.result
    (omega (arith, c.substitute.type_inv)) (omega (arith, c.substitute-2.type_inv)) (omega (arith, c.substitute-3.type_inv)) (omega (arith, c.substitute-4.type_inv))
    c.from_be_bytes.ensures ∙ same)
