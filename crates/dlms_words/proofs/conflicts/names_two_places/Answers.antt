use Rattle.std.proofs.Common.{rules, sym, Bool, IsTrue, codes, subst}
use Rattle.clap.specs.Words.{subcommand_rows_of}
use Rattle.dlms_words.proofs.WordLemmas.{met_named}
use Rattle.dlms_words.proofs.conflicts.names_two_places.Goals as goal

pub returns-then-listen : goal.returns-then-listen
returns-then-listen c =
    let named = met_named (codes "serve") (subcommand_rows_of c.args.matches.now) (search rules) in (
      λ line. (
        named.0,
        named.1,
        subst (λ (b : Bool). IsTrue b) (c.is_named-listen.ensures named.0 named.1) c.if-listen.true,
        subst (λ (b : Bool). IsTrue b) (c.is_named-line.ensures named.0 named.1) line,
      ),
      λ both. subst (λ (b : Bool). IsTrue b) (sym (c.is_named-line.ensures both.0 both.1)) both.3,
    )
