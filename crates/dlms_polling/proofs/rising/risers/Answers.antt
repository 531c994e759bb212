use Rattle.std.proofs.Common.{refl, ◌∙◌, ap, sym, subst, take, Option, ℕ, ◌+◌}
use Rattle.std.proofs.lemmas.List.{take_all}
use Rattle.dlms_polling.proofs.RiserLemmas.{IsLatest, step_kept, step_same}
use Rattle.dlms_polling.specs.Risers.{risers}
use Rattle.dlms_polling.proofs.rising.risers.Goals as goal
use Rattle.dlms_polling.proofs.rising.risers.Goals.{then-is_later+in_ok-push, else-is_later}

pub loop-row-init : goal.loop-row-init
loop-row-init c = record { kept = c.new-kept.ensures.items; latest = λ y. refl }

pub loop-row-preserved : goal.loop-row-preserved
loop-row-preserved c = elim c.if-is_later.branch [
  | then-is_later+in_ok-push w ↦
      let step = step_kept c.args.rows.now c.loop-row.row-index _ c.loop-row.latest c.loop-row.kept.items c.loop-row-test.true c.loop-row.invariant.kept c.loop-row.invariant.latest (sym c.is_later.ensures ∙ w.if-is_later.true) in
      record {
        kept = ap (λ v. v.items) w.kept-is ∙ w.in_ok-push.ensures.items ∙ step.0;
        latest = subst (λ (l : Option ℕ). IsLatest l (take (c.loop-row.row-index + 1) c.args.rows.now)) (sym w.latest-is) step.1;
      }
  | else-is_later w ↦
      let step = step_same c.args.rows.now c.loop-row.row-index _ c.loop-row.latest c.loop-row.kept.items c.loop-row-test.true c.loop-row.invariant.kept c.loop-row.invariant.latest (sym c.is_later.ensures ∙ w.if-is_later.false) in
      record {
        kept = ap (λ v. v.items) w.kept-is ∙ step.0;
        latest = subst (λ (l : Option ℕ). IsLatest l (take (c.loop-row.row-index + 1) c.args.rows.now)) (sym w.latest-is) step.1;
      }
]

pub returns-clause-rows : goal.returns-clause-rows
returns-clause-rows c = c.loop-row.invariant.kept ∙ ap risers (take_all c.loop-row.row-index c.args.rows.now c.loop-row-test.false)
