use Rattle.std.proofs.Common.{rules, ◌∙◌, sym, ap, List, Option, Bool, IsTrue, is_some, codes, not, subst}
use Rattle.clap.specs.Words.{Row, Text, first_of, subcommand_rows_of}
use Rattle.dlms_words.proofs.WordLemmas.{met_named, none_if_not_some, same_some}
use Rattle.dlms_words.proofs.conflicts.pages_nothing.Goals as goal

pub returns-then-has_page : goal.returns-then-has_page
returns-then-has_page c =
    let named = met_named (codes "explain") (subcommand_rows_of c.args.matches.now) (search rules) in
    let has = c.is_named-has_report.ensures named.0 named.1 in (
      λ none. (
        named.0,
        named.1,
        subst (λ (b : Bool). IsTrue b) (c.is_named-has_page.ensures named.0 named.1) c.if-has_page.true,
        none_if_not_some (first_of (codes "html") named.0) (subst (λ (b : Bool). IsTrue (not b)) has none),
      ),
      λ pages. subst (λ (b : Bool). IsTrue (not b)) (sym has) (subst (λ (o : Option Text). IsTrue (not (is_some o))) (sym (ap (λ (met : Text × List Row). first_of (codes "html") met.1) (same_some (sym named.1 ∙ pages.1)) ∙ pages.3)) (search rules)),
    )

pub returns-else-has_page : goal.returns-else-has_page
returns-else-has_page c =
    let named = met_named (codes "explain") (subcommand_rows_of c.args.matches.now) (search rules) in
    let is = c.is_named-has_page.ensures named.0 named.1 in (
      λ none. cc,
      λ pages. subst (λ (b : Bool). IsTrue b) (sym is) (subst (λ (met : Text × List Row). IsTrue (is_some (first_of (codes "page") met.1))) (same_some (sym pages.1 ∙ named.1)) pages.2),
    )
