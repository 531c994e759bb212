use Rattle.std.proofs.Common.{◌≡◌, ◌-◌, length, take, drop, refl, ap, ◌∙◌, arith, rules}
use Rattle.std.proofs.lemmas.Slice.{take-put_mid, drop-put_mid}
use Rattle.dlms_cipher.specs.Aes.{aes}
use Rattle.dlms_cipher.proofs.GcmLemmas.{apply_more, apply_all, length-xor_octets}
use Rattle.std.proofs.lemmas.List.{length-take, length-drop}
use borrow.Rule.Slice.PartMut.{put_mid}
use Rattle.dlms_cipher.proofs.gcm.Gcm.apply.Goals as goal

pub loop-at-preserved : goal.loop-at-preserved
loop-at-preserved c =
    let key = c.args.self.now.cipher.key in
    let nonce = c.args.nonce.now in
    let text = c.loop-at.text in
    let at = c.loop-at.at in
    let end = c.min-end.result in
    let part = c.add.new.part in
    let wide : length c.octets-pad.result ≡ 16 = search rules in
    let kept : length c.add.new.part ≡ c.min-end.result - c.loop-at.at =
    ap length c.add.ensures
    ∙ omega (arith, length-xor_octets (take (c.min-end.result - c.loop-at.at) (drop c.loop-at.at c.loop-at.text)) c.octets-pad.result, length-take (c.min-end.result - c.loop-at.at) (drop c.loop-at.at c.loop-at.text), length-drop c.loop-at.at c.loop-at.text, wide, c.min-end.ensures, c.loop-at-test.true) in
    let size : length (put_mid c.loop-at.at (c.min-end.result - c.loop-at.at) c.loop-at.text c.add.new.part) ≡ length c.args.text.now = search rules in
    record {
      size = size;
      within = omega (arith, size, c.loop-at.invariant.size, c.min-end.ensures);
      same =
          apply_more key nonce text _ c.octets-pad.result part _ c.loop-at.counter _ at end c.loop-at-test.true c.min-end.ensures
          (c.octets-pad.ensures ∙ c.encrypt.ensures ∙ ap (aes key) c.counter_block.ensures)
          refl
          c.add.ensures
          (take-put_mid at (end - at) text part end (omega (arith, c.min-end.ensures)) (omega (arith, c.loop-at-test.true)))
          (drop-put_mid at (end - at) text part end (omega (arith, c.min-end.ensures)) (omega (arith, c.loop-at-test.true)) kept)
          c.loop-at.invariant.same;
    }

pub returns : goal.returns
returns c = apply_all _ _ c.loop-at.text _ c.loop-at.counter c.loop-at.at c.loop-at-test.false c.loop-at.invariant.same
