use Rattle.std.proofs.Common.{◌≡◌, ℕ, ◌-◌, ◌*◌, ◌/◌, ◌%◌, ◌^◌, ◌<◌, bit_and, get_or, ap, ◌∙◌, arith, rules}
use Rattle.std.proofs.lemmas.Nat.{and_mask}
use lib.Bits.{bit_xor}
use Rattle.dlms_cipher.specs.Field.{part_product}
use Rattle.dlms_cipher.proofs.FieldLemmas.{times_none, times_more, times_all}
use Rattle.dlms_cipher.proofs.ghash.HashKey.times.Goals as goal

pub loop-i-init : goal.loop-i-init
loop-i-init c = times_none _ c.args.self.now.h

pub loop-i-preserved : goal.loop-i-preserved
loop-i-preserved c =
    let multiples = c.args.self.now.multiples in
    let low = bit_and (c.args.a / 2 ^ (124 - 4 * c.loop-i.i)) 15 in
    let table : (k : ℕ) → k < 16 → get_or c.args.self.now.multiples k 0 ≡ part_product 4 k c.args.self.now.h = search rules in
    let masked : bit_and (c.args.a / 2 ^ (124 - 4 * c.loop-i.i)) 15 ≡ c.args.a / 2 ^ (124 - 4 * c.loop-i.i) % 2 ^ 4 = and_mask (c.args.a / 2 ^ (124 - 4 * c.loop-i.i)) 4 in
    ap (λ (x : ℕ). bit_xor (bit_xor (c.loop-i.product * 16 % 2 ^ 128) x) (get_or multiples low 0)) c.reduction.ensures
    ∙ times_more c.loop-i.product c.args.a c.args.self.now.h c.loop-i.i (get_or multiples low 0) c.loop-i-test.true
    (omega (arith, c.loop-i.auto.product-fits)) c.loop-i.invariant (table low (omega arith))

pub returns : goal.returns
returns c = times_all c.loop-i.product c.args.a c.args.self.now.h c.loop-i.i (omega (arith, c.loop-i-test.false, c.loop-i.auto.i-end)) c.loop-i.invariant
