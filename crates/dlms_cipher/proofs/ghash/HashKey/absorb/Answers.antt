use Rattle.std.proofs.Common.{ℕ, ap, ◌∙◌, drop, arith}
use lib.Bits.{bit_xor}
use Rattle.dlms_cipher.specs.Field.{block_product}
use Rattle.dlms_cipher.specs.Gcm.{ghash_from, blocks}
use Rattle.dlms_cipher.proofs.BlockLemmas.{absorb_more, absorb_all}
use Rattle.dlms_cipher.proofs.ghash.HashKey.absorb.Goals as goal

pub loop-at-preserved : goal.loop-at-preserved
loop-at-preserved c =
    let h = c.args.self.now.h in
    let octets = c.args.octets.now in
    record {
      within = omega (arith, c.min-end.ensures);
      same =
          ap (λ (s : ℕ). ghash_from h s (blocks (drop c.min-end.result octets))) (c.times-sum.ensures ∙ ap (λ (p : ℕ). block_product (bit_xor c.loop-at.sum p) h) c.load.ensures)
          ∙ absorb_more h c.loop-at.sum c.args.start c.loop-at.at c.min-end.result octets c.loop-at-test.true c.min-end.ensures c.loop-at.invariant.same;
    }

pub returns : goal.returns
returns c = absorb_all c.args.self.now.h c.loop-at.sum c.args.start c.loop-at.at c.args.octets.now c.loop-at-test.false c.loop-at.invariant.same
