use Rattle.std.proofs.Common.{arith, sym, subst, ◌≡◌, ◌∙◌, ◌<◌, ◌++◌, ℕ, List, length, filter}
use Rattle.std.proofs.lemmas.Grind.{common_steps}
use Rattle.dlms_headend.proofs.Files.{added_are, passes_some, on_err}
use Rattle.dlms_headend.specs.Merged.{is_added}
use Rattle.dlms_headend.specs.declared.row.Row.{Row}
use Rattle.dlms_headend.proofs.readings.append.Goals as goal

pub returns-clause-ok : goal.returns-clause-ok
returns-clause-ok g c = subst (λ (rows : List Row). c.loop-row.rows.items ≡ c.args.rows.now.items ++ rows) (added_are c.args.last c.args.given.now) (grind (arith, common_steps))

pub returns-in_err-keep-clause-memory : goal.returns-in_err-keep-clause-memory
returns-in_err-keep-clause-memory g c =
    on_err c.from_residual.result _
    (subst (λ (rows : List Row). 0 < length rows) (added_are c.args.last c.args.given.now)
    (passes_some (is_added c.args.last) c.args.given.now c.loop-row.row-index _ c.loop-row-test.true (sym c.is_added.ensures ∙ c.if-is_added.true)))
