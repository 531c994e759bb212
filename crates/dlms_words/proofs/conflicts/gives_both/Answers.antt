use Rattle.std.proofs.Common.{rules, Option, subst}
use Rattle.clap.specs.Words.{Text, subcommand_rows_of}
use Rattle.dlms_words.specs.Words.{IsSaid}
use Rattle.dlms_words.proofs.WordLemmas.{met_named}
use Rattle.dlms_words.proofs.conflicts.gives_both.Goals as goal

pub returns-then-is_first : goal.returns-then-is_first
returns-then-is_first c =
    let named = met_named c.args.command.now (subcommand_rows_of c.args.matches.now) (search rules) in (
      λ reader. (
        named.0,
        named.1,
        (subst (λ (said : Option Text). IsSaid said c.is_given-is_first.result) (c.value_for.ensures named.0 named.1) c.is_given-is_first.ensures).0 c.if-is_first.true,
        (subst (λ (said : Option Text). IsSaid said c.is_given-is_second.result) (c.value_for-2.ensures named.0 named.1) c.is_given-is_second.ensures).0 reader,
      ),
      λ asks. (subst (λ (said : Option Text). IsSaid said c.is_given-is_second.result) (c.value_for-2.ensures asks.0 asks.1) c.is_given-is_second.ensures).1 asks.3,
    )
