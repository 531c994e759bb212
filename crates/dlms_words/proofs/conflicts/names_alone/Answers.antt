use Rattle.std.proofs.Common.{rules, Option, Bool, IsTrue, subst}
use Rattle.clap.specs.Words.{Text, subcommand_rows_of}
use Rattle.dlms_words.specs.Words.{IsSaid}
use Rattle.dlms_words.proofs.WordLemmas.{met_named, not_both, untrue}
use Rattle.dlms_words.proofs.conflicts.names_alone.Goals as goal

pub returns-then-is_option : goal.returns-then-is_option
returns-then-is_option c =
    let named = met_named c.args.command.now (subcommand_rows_of c.args.matches.now) (search rules) in (
      λ alone. (
        named.0,
        named.1,
        subst (λ (b : Bool). IsTrue b) (c.is_named-is_option.ensures named.0 named.1) c.if-is_option.true,
        λ given. not_both c.is_given-is_flag.result alone ((subst (λ (said : Option Text). IsSaid said c.is_given-is_flag.result) (c.value_for.ensures named.0 named.1) c.is_given-is_flag.ensures).1 given),
      ),
      λ alone. untrue c.is_given-is_flag.result (λ is. alone.3 ((subst (λ (said : Option Text). IsSaid said c.is_given-is_flag.result) (c.value_for.ensures alone.0 alone.1) c.is_given-is_flag.ensures).0 is)),
    )
