use Rattle.std.proofs.Common.{rules, ◌≡◌, ◌∙◌, sym, List, Option, Some, Bool, IsTrue, is_some, codes, subst}
use Rattle.clap.specs.Words.{Row, Text, first_of, subcommand_rows_of}
use Rattle.dlms_words.specs.Words.{IsSaid}
use Rattle.dlms_words.proofs.WordLemmas.{met_named, same_some}
use Rattle.dlms_words.proofs.conflicts.sizes_messages.Goals as goal

pub returns-then-is_sized : goal.returns-then-is_sized
returns-then-is_sized c =
    let named = met_named c.in-Some.command.now (subcommand_rows_of c.args.matches.now) (search rules) in
    let wrapped = subst (λ (said : Option Text). IsSaid said c.is_given-is_wrapped.result) (c.value_for.ensures named.0 named.1) c.is_given-is_wrapped.ensures in (
      λ given. (
        c.in-Some.command.now,
        named.0,
        named.1,
        subst (λ (b : Bool). IsTrue b) (c.is_named-is_sized.ensures named.0 named.1) c.if-is_sized.true,
        wrapped.0 given,
      ),
      λ sizes. wrapped.1 (subst (λ (met : Text × List Row). first_of (codes "wrapper") met.1 ≡ Some (codes "true")) (same_some (sym sizes.2 ∙ named.1)) sizes.4),
    )

pub returns-else-is_sized : goal.returns-else-is_sized
returns-else-is_sized c =
    let named = met_named c.in-Some.command.now (subcommand_rows_of c.args.matches.now) (search rules) in
    let is = c.is_named-is_sized.ensures named.0 named.1 in (
      λ sized. cc,
      λ sizes. subst (λ (b : Bool). IsTrue b) (sym is) (subst (λ (met : Text × List Row). IsTrue (is_some (first_of (codes "information") met.1))) (same_some (sym sizes.2 ∙ named.1)) sizes.3),
    )
