use Rattle.std.proofs.Common.{◌≡◌, ℕ, List, ◌+◌, ◌++◌, length, take, get_or, refl, ap, ◌∙◌, arith, rules}
use Rattle.dlms_cipher.specs.Gcm.{ghash_from, blocks, hash_key}
use Rattle.dlms_cipher.proofs.GcmLemmas.{absorbed_head, copied_is}
use Rattle.std.proofs.lemmas.List.{take_rest}
use Rattle.dlms_cipher.proofs.gcm.Gcm.absorb_head.Goals as goal

pub returns : goal.returns
returns c =
    let wide : length c.args.head.now ≡ 17 = search rules in
    let tied : c.args.self.now.hash.h ≡ hash_key c.args.self.now.cipher.key = search rules in
    let after : c.copy_from_slice.new.self ≡ take c.min-filling.result c.args.rest.now = c.copy_from_slice.ensures.after in
    absorbed_head c.args.self.now.hash.h c.absorb-first.result c.absorb-sum.result c.absorb.result c.args.head.now c.args.rest.now _ c.min-filling.result wide c.min-filling.ensures
    c.absorb-first.ensures
    (copied_is (get_or c.args.head.now 16 0) c.min-filling.result (1 + c.min-filling.result) c.copy_from_slice.new.self c.args.rest.now _ refl (omega (arith, c.min-filling.ensures)) after)
    c.absorb-sum.ensures
    (c.absorb.ensures ∙ ap (λ (l : List ℕ). ghash_from c.args.self.now.hash.h c.absorb-sum.result (blocks l)) (take_rest c.args.rest.now c.min-filling.result))
    ∙ ap (λ (h : ℕ). ghash_from h 0 (blocks (c.args.head.now ++ c.args.rest.now))) tied
