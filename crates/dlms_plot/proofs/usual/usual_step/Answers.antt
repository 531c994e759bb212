use Rattle.std.proofs.Common.{◌≡◌, ℕ, List, [], sym, subst}
use Rattle.std.specs.Prelude.{MatchOption}
use Rattle.std.specs.List.Sorted.{IsNonDecreasing}
use Rattle.std.proofs.lemmas.List.Sorted.{IsNonDecreasingBy-from_sort}
use Rattle.dlms_plot.specs.Steps.{IsUsual}
use Rattle.dlms_plot.proofs.UsualLemmas.{found_in}
use Rattle.dlms_plot.proofs.usual.usual_step.Goals as goal

pub most_often-requires : goal.most_often-requires
most_often-requires g c = subst IsNonDecreasing (sym c.deref.ensures.value) (IsNonDecreasingBy-from_sort (λ (x : ℕ). x) _ c.in_ok-sort.ensures.sorted)

pub returns-clause-usual : goal.returns-clause-usual
returns-clause-usual g c =
    let sorted = subst (λ (ys : List ℕ). MatchOption c.most_often.result (ys ≡ []) (IsUsual ys)) c.deref.ensures.value c.most_often.ensures in
    subst (λ (xs : List ℕ). MatchOption c.most_often.result (xs ≡ []) (IsUsual xs)) c.in_ok-steps.ensures (found_in _ _ c.most_often.result c.in_ok-sort.ensures.permutation sorted)
