use Rattle.std.proofs.Common.{rules, ◌≡◌, ◌∙◌, sym, List, Option, Some, codes, subst}
use Rattle.clap.specs.Words.{Row, Text, first_of, subcommand_rows_of}
use Rattle.dlms_words.specs.Words.{IsSaid}
use Rattle.dlms_words.proofs.WordLemmas.{met_named, same_some}
use Rattle.dlms_words.proofs.conflicts.widens_port.Goals as goal

pub returns-then-is_wide : goal.returns-then-is_wide
returns-then-is_wide c =
    let named = met_named c.in-Some.command.now (subcommand_rows_of c.args.matches.now) (search rules) in
    let wrapped = subst (λ (said : Option Text). IsSaid said c.is_given-is_wrapped.result) (c.value_for-2.ensures named.0 named.1) c.is_given-is_wrapped.ensures in (
      λ given. (
        c.in-Some.command.now,
        named.0,
        named.1,
        (subst (λ (said : Option Text). IsSaid said c.is_given-is_wide.result) (c.value_for.ensures named.0 named.1) c.is_given-is_wide.ensures).0 c.if-is_wide.true,
        wrapped.0 given,
      ),
      λ widens. wrapped.1 (subst (λ (met : Text × List Row). first_of (codes "wrapper") met.1 ≡ Some (codes "true")) (same_some (sym widens.2 ∙ named.1)) widens.4),
    )
