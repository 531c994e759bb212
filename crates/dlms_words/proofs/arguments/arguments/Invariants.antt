use Rattle.std.proofs.Common.{◌≡◌, map, take}
use Rattle.clap.specs.Words.{rule_of}
use Rattle.dlms_words.specs.Grammar.{AreLocal, rule_for}
use Rattle.dlms_words.proofs.arguments.arguments.Given as goal

abbrev pub invariant-loop-one : goal.invariant-loop-one
invariant-loop-one l = (map rule_of l.arguments.items ≡ map rule_for (take l.one-index l.given)) × AreLocal l.arguments.items
