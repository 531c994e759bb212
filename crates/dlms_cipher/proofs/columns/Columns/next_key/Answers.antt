use Rattle.std.proofs.Common.{◌≡◌, ◌∷◌, [], ◌∙◌, refl, arith}
use Rattle.std.proofs.lemmas.Nat.{xor_of_8}
use lib.Bits.{bit_xor}
use Rattle.dlms_cipher.specs.Aes.{schedule_word}
use Rattle.dlms_cipher.specs.Columns.{octets_of}
use Rattle.dlms_cipher.proofs.BoxLemmas.{next_is, four_octets}
use Rattle.dlms_cipher.proofs.columns.Columns.next_key.Goals as goal

pub returns : goal.returns
returns c =
    let a = c.args.self in
    let t = c.from_be_bytes-turned.result in
    let k = c.args.constant in
    let same : (bit_xor c.substitute.result k ∷ c.substitute-2.result ∷ c.substitute-3.result ∷ c.substitute-4.result ∷ []) ≡ schedule_word (octets_of a) k =
    rw (c.substitute.ensures, c.substitute-2.ensures, c.substitute-3.ensures, c.substitute-4.ensures, c.to_be_bytes.ensures) refl in
    next_is a.first a.second a.third a.fourth t (schedule_word (octets_of a) k)
    (four_octets t (bit_xor c.substitute.result k) c.substitute-2.result c.substitute-3.result c.substitute-4.result
    (xor_of_8 c.substitute.result k (omega (arith, c.substitute.type_inv)) (omega (arith, c.ranges.constant)))
    (omega (arith, c.substitute-2.type_inv)) (omega (arith, c.substitute-3.type_inv)) (omega (arith, c.substitute-4.type_inv))
    c.from_be_bytes-turned.ensures ∙ same)
