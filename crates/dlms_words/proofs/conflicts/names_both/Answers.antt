use Rattle.std.proofs.Common.{rules, sym, Bool, IsTrue, subst}
use Rattle.clap.specs.Words.{subcommand_rows_of}
use Rattle.dlms_words.proofs.WordLemmas.{met_named}
use Rattle.dlms_words.proofs.conflicts.names_both.Goals as goal

pub returns-then-has_first : goal.returns-then-has_first
returns-then-has_first c =
    let named = met_named c.args.command.now (subcommand_rows_of c.args.matches.now) (search rules) in (
      λ second. (
        named.0,
        named.1,
        subst (λ (b : Bool). IsTrue b) (c.is_named-has_first.ensures named.0 named.1) c.if-has_first.true,
        subst (λ (b : Bool). IsTrue b) (c.is_named-has_second.ensures named.0 named.1) second,
      ),
      λ both. subst (λ (b : Bool). IsTrue b) (sym (c.is_named-has_second.ensures both.0 both.1)) both.3,
    )
