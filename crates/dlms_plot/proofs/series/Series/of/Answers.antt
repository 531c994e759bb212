use Rattle.std.proofs.Common.{◌≡◌, ◌∙◌, ℕ, Option, [], ap, rules, sym, subst}
use Rattle.std.specs.Prelude.{MatchOption}
use Rattle.std.proofs.lemmas.List.{nil_from_length}
use Rattle.dlms_plot.specs.Series.{periods_of}
use Rattle.dlms_plot.specs.Steps.{steps_of, IsUsual}
use Rattle.dlms_plot.proofs.UsualLemmas.{same_usual}
use Rattle.dlms_plot.proofs.series.Series.of.Goals as goal

pub returns-then-is_empty-clause-found : goal.returns-then-is_empty-clause-found
returns-then-is_empty-clause-found g c = λ usual is.
    let ours : IsUsual (steps_of c.args.samples.now) c.in-Some.usual =
    subst (λ (found : Option ℕ). MatchOption found (steps_of c.args.samples.now ≡ []) (IsUsual (steps_of c.args.samples.now))) c.in-Some.is c.in_ok-usual.ensures.usual in
    let none : c.in_ok-periods.periods.items ≡ [] = nil_from_length _ (search rules) in
    ap (λ (u : ℕ). periods_of u c.args.samples.now) (same_usual _ usual c.in-Some.usual is ours) ∙ (sym c.in_ok-periods.ensures ∙ none)
