use Rattle.std.proofs.Common.{◌<◌, ◌≡◌, ◌^◌, All, length}
use Rattle.std.proofs.lemmas.List.Elements.{All-more}
use Rattle.dlms_headend.specs.declared.row.Row.{Row}
use Rattle.dlms_headend.proofs.readings.have_registers.Goals as goal

pub loop-row-preserved : goal.loop-row-preserved
loop-row-preserved c =
    All-more (λ (row : Row). (length row.registers ≡ 3) × All (λ register. register < 2 ^ 32) row.registers) c.args.rows.now c.loop-row.row-index _ c.loop-row-test.true c.loop-row.invariant (c.are_three.ensures.count, c.are_three.ensures.fit)
