use Rattle.std.proofs.Common.{◌∙◌, sym, ap, map, take}
use Rattle.std.proofs.lemmas.List.{take_more}
use Rattle.clap.specs.Words.{app_of}
use Rattle.dlms_words.specs.Grammar.{app_for}
use Rattle.dlms_words.proofs.ArgumentLemmas.{all_local_more, maps_more}
use Rattle.dlms_words.proofs.grammar.commands.Goals as goal

pub loop-words-preserved : goal.loop-words-preserved
loop-words-preserved c = rw (c.in_ok-push.ensures.items) (
  maps_more app_of app_for c.loop-words.commands.items c.in_ok-command.command (take c.loop-words.words-index c.args.table.now) _ c.loop-words.invariant.0 c.in_ok-command.ensures.shape
      ∙ sym (ap (map app_for) (take_more c.args.table.now c.loop-words.words-index _ c.loop-words-test.true)),
  all_local_more c.loop-words.commands.items c.in_ok-command.command c.loop-words.invariant.1 c.in_ok-command.ensures.local,
)
