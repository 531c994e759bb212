use Rattle.std.proofs.Common.{◌∙◌, sym, ap, map, take}
use Rattle.std.proofs.lemmas.List.{take_more}
use Rattle.clap.specs.Words.{rule_of}
use Rattle.dlms_words.specs.Grammar.{rule_for}
use Rattle.dlms_words.proofs.ArgumentLemmas.{local_more, maps_more}
use Rattle.dlms_words.proofs.arguments.arguments.Goals as goal

pub loop-one-preserved : goal.loop-one-preserved
loop-one-preserved c = rw (c.in_ok-push.ensures.items) (
  maps_more rule_of rule_for c.loop-one.arguments.items c.argument_for.result (take c.loop-one.one-index c.args.given.now) _ c.loop-one.invariant.0 c.argument_for.ensures.rule
      ∙ sym (ap (map rule_for) (take_more c.args.given.now c.loop-one.one-index _ c.loop-one-test.true)),
  local_more c.loop-one.arguments.items c.argument_for.result c.loop-one.invariant.1 c.argument_for.ensures.local,
)
