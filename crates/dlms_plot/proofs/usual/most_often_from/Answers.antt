use Rattle.std.proofs.Common.{◌≡◌, ◌∙◌, ◌≤◌, ℕ, List, [], ◌∷◌, ◌++◌, sym, subst, take, get_or}
use Rattle.dlms_plot.specs.Steps.{times}
use Rattle.dlms_plot.proofs.UsualLemmas.{IsSoFar, get_next, last_up, next_other, next_same, seen_next, so_far_better, so_far_same}
use Rattle.dlms_plot.proofs.usual.most_often_from.Goals as goal
use Rattle.dlms_plot.proofs.usual.most_often_from.Goals.{then-number-last, else-number-last, then-most-count, else-most-count}

pub loop-number-preserved : goal.loop-number-preserved
loop-number-preserved c =
    let first = c.args.first in
    let rest = c.args.rest.now in
    let i = c.loop-number.number-index in
    let x : ℕ = get_or rest i 0 in
    let seen : List ℕ = first ∷ take i rest in
    let before = c.loop-number.invariant.0 in
    let count = c.if-number-last.count in
    let up : c.loop-number.last ≤ x = last_up first rest i c.loop-number.last c.loop-number-test.true c.requires c.loop-number.invariant.1 in
    let counted : count ≡ times x (seen ++ x ∷ []) = elim c.if-number-last.branch [
      | then-number-last w ↦ w.count-is ∙ next_same seen c.loop-number.last c.loop-number.count c.loop-number.best c.loop-number.most x before w.if-number-last.true
      | else-number-last w ↦ w.count-is ∙ next_other seen c.loop-number.last c.loop-number.count c.loop-number.best c.loop-number.most x before up w.if-number-last.false
    ] in
    let after : IsSoFar (seen ++ x ∷ []) x count c.if-most-count.best c.if-most-count.most = elim c.if-most-count.branch [
      | then-most-count w ↦ rw (w.best-is, w.most-is) (so_far_better seen c.loop-number.last c.loop-number.count c.loop-number.best c.loop-number.most x count before up counted w.if-most-count.true)
      | else-most-count w ↦ rw (w.best-is, w.most-is) (so_far_same seen c.loop-number.last c.loop-number.count c.loop-number.best c.loop-number.most x count before up counted w.if-most-count.false)
    ] in
    (subst (λ (s : List ℕ). IsSoFar s x count c.if-most-count.best c.if-most-count.most) (sym (seen_next first rest i c.loop-number-test.true)) after, get_next first rest i)
