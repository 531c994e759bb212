use Rattle.std.proofs.Common.{rules, sym, Bool, IsTrue, codes, subst}
use Rattle.clap.specs.Words.{subcommand_rows_of}
use Rattle.dlms_words.proofs.WordLemmas.{met_named}
use Rattle.dlms_words.proofs.conflicts.collects_both.Goals as goal

pub returns-then-polls : goal.returns-then-polls
returns-then-polls c =
    let named = met_named (codes "collect") (subcommand_rows_of c.args.matches.now) (search rules) in (
      λ gets. (
        named.0,
        named.1,
        subst (λ (b : Bool). IsTrue b) (c.is_named-polls.ensures named.0 named.1) c.if-polls.true,
        subst (λ (b : Bool). IsTrue b) (c.is_named-gets.ensures named.0 named.1) gets,
      ),
      λ both. subst (λ (b : Bool). IsTrue b) (sym (c.is_named-gets.ensures both.0 both.1)) both.3,
    )
