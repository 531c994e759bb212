use Rattle.std.proofs.Common.{◌≡◌, ℕ, List, [], ◌∷◌, ◌++◌, take, replicate, length, ap, ◌∙◌, arith, rules}
use Rattle.dlms_cipher.specs.Gcm.{tag_of, hash_key, block_of, poly_of, lengths, blocks, ghash_from, ghash}
use Rattle.dlms_cipher.specs.Field.{block_product}
use Rattle.dlms_cipher.specs.Aes.{aes, xor_octets}
use lib.Bits.{bit_xor}
use Rattle.dlms_cipher.proofs.PowerLemmas.{block_lt, small_polys}
use Rattle.dlms_cipher.proofs.GcmLemmas.{tag_is, hash_is, aes_short}
use Rattle.dlms_cipher.proofs.gcm.Gcm.tag.Goals as goal

pub returns : goal.returns
unfolding tag_of
returns c =
    let key = c.args.self.now.cipher.key in
    let aad = c.args.head.now ++ c.args.rest.now in
    let text = c.args.ciphertext.now in
    let ls : length c.store-sum.result ≡ 16 = search rules in
    let lm : length c.octets-mask.result ≡ 16 = search rules in
    let tied : c.args.self.now.hash.h ≡ hash_key c.args.self.now.cipher.key = search rules in
    tag_is c.store-sum.result c.octets-mask.result (omega arith) (omega arith)
    ∙ ap (λ (l : List ℕ). take 12 (xor_octets l c.octets-mask.result))
    (c.store-sum.ensures
    ∙ ap (block_of 16)
    (hash_is (hash_key key) c.absorb_head-absorbed_head.result c.absorb-absorbed_text.result c.last_block.result c.times-hash.result (poly_of (lengths aad text)) (blocks aad) (blocks text)
    (block_lt (aes key (replicate 16 0)) (aes_short key (replicate 16 0))) (block_lt (lengths aad text) (omega arith)) (small_polys _ aad) (small_polys _ text)
    c.absorb_head-absorbed_head.ensures
    (c.absorb-absorbed_text.ensures ∙ ap (λ (h : ℕ). ghash_from h c.absorb_head-absorbed_head.result (blocks text)) tied)
    c.last_block.ensures
    (c.times-hash.ensures ∙ ap (λ (h : ℕ). block_product (bit_xor c.absorb-absorbed_text.result c.last_block.result) h) tied)))
    ∙ ap (λ (l : List ℕ). take 12 (xor_octets (block_of 16 (ghash (hash_key key) (blocks aad ++ blocks text ++ poly_of (lengths aad text) ∷ []))) l))
    (c.octets-mask.ensures ∙ c.encrypt.ensures ∙ ap (aes key) c.counter_block.ensures)
