use Rattle.std.proofs.Common.{rules, ◌∙◌, sym, List, Bool, IsTrue, is_some, codes, subst}
use Rattle.clap.specs.Words.{Row, Text, first_of, subcommand_rows_of}
use Rattle.dlms_words.proofs.WordLemmas.{met_named, same_some}
use Rattle.dlms_words.proofs.conflicts.shows_secret.Goals as goal

pub returns-then-is_protected : goal.returns-then-is_protected
returns-then-is_protected c =
    let named = met_named c.in-Some.command.now (subcommand_rows_of c.args.matches.now) (search rules) in
    let has = c.is_named-has_secret.ensures named.0 named.1 in (
      λ secret. (
        c.in-Some.command.now,
        named.0,
        named.1,
        subst (λ (b : Bool). IsTrue b) (c.is_named-is_protected.ensures named.0 named.1) c.if-is_protected.true,
        subst (λ (b : Bool). IsTrue b) has secret,
      ),
      λ shows. subst (λ (b : Bool). IsTrue b) (sym has) (subst (λ (met : Text × List Row). IsTrue (is_some (first_of (codes "secret-file") met.1))) (same_some (sym shows.2 ∙ named.1)) shows.4),
    )

pub returns-else-is_protected : goal.returns-else-is_protected
returns-else-is_protected c =
    let named = met_named c.in-Some.command.now (subcommand_rows_of c.args.matches.now) (search rules) in
    let is = c.is_named-is_protected.ensures named.0 named.1 in (
      λ secret. cc,
      λ shows. subst (λ (b : Bool). IsTrue b) (sym is) (subst (λ (met : Text × List Row). IsTrue (is_some (first_of (codes "security") met.1))) (same_some (sym shows.2 ∙ named.1)) shows.3),
    )
