use Rattle.std.proofs.Common.{refl, ◌∙◌, replicate}
use Rattle.std.proofs.lemmas.List.{length-set}
use Rattle.dlms_cipher.proofs.KeyLemmas.{key_more, key_none}
use Rattle.dlms_cipher.proofs.aes.Aes.new.Goals as goal

pub loop-i-init : goal.loop-i-init
loop-i-init c = record { all = refl; made = key_none c.args.key (replicate 11 c.load-round_keys.result) c.load-round_keys.ensures }

pub loop-i-preserved : goal.loop-i-preserved
loop-i-preserved c = record {
  all = length-set c.loop-i.round_keys _ _ ∙ c.loop-i.invariant.all;
  made = key_more c.args.key c.loop-i.round_keys c.next_key.result _ c.loop-i.i c.round_constant.result c.loop-i.invariant.all c.loop-i-test.true c.loop-i.invariant.made c.round_constant.ensures c.next_key.ensures;
}
