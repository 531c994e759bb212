use Rattle.std.proofs.Common.{rules, Option, subst}
use Rattle.clap.specs.Words.{Text, subcommand_rows_of}
use Rattle.dlms_words.specs.Words.{IsSaid}
use Rattle.dlms_words.proofs.WordLemmas.{met_named, not_both, untrue}
use Rattle.dlms_words.proofs.conflicts.gives_alone.Goals as goal

pub returns-then-is_flag : goal.returns-then-is_flag
returns-then-is_flag c =
    let named = met_named c.args.command.now (subcommand_rows_of c.args.matches.now) (search rules) in (
      λ alone. (
        named.0,
        named.1,
        (subst (λ (said : Option Text). IsSaid said c.is_given-is_flag.result) (c.value_for.ensures named.0 named.1) c.is_given-is_flag.ensures).0 c.if-is_flag.true,
        λ given. not_both c.is_given-is_other.result alone ((subst (λ (said : Option Text). IsSaid said c.is_given-is_other.result) (c.value_for-2.ensures named.0 named.1) c.is_given-is_other.ensures).1 given),
      ),
      λ alone. untrue c.is_given-is_other.result (λ is. alone.3 ((subst (λ (said : Option Text). IsSaid said c.is_given-is_other.result) (c.value_for-2.ensures alone.0 alone.1) c.is_given-is_other.ensures).0 is)),
    )
