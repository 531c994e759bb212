use Rattle.std.proofs.Common.{◌≡◌, map, take}
use Rattle.clap.specs.Words.{app_of}
use Rattle.dlms_words.specs.Grammar.{AreAllLocal, app_for}
use Rattle.dlms_words.proofs.grammar.commands.Given as goal

abbrev pub invariant-loop-words : goal.invariant-loop-words
invariant-loop-words l = (map app_of l.commands.items ≡ map app_for (take l.words-index l.table)) × AreAllLocal l.commands.items
