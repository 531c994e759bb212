use Rattle.std.proofs.Common.{List, ◌<◌, length, subst}
use Rattle.dlms_headend.specs.declared.row.Row.{Row as RowOf}
use Rattle.dlms_plot.specs.Curve.{IsPlotOf}
use Rattle.dlms_plot.proofs.readings.Curve.of.Goals as goal

pub returns-in-Ok-clause-found : goal.returns-in-Ok-clause-found
returns-in-Ok-clause-found g c = (
  c.in_ok-readings.readings,
  c.in_ok-readings.ensures.found,
  subst (λ (rows : List RowOf). IsPlotOf rows c.in-Ok.found) c.rows.ensures c.in-Ok.ensures.found,
)

pub returns-clause-fault : goal.returns-clause-fault
returns-clause-fault g c = (
  c.in_ok-readings.readings,
  c.in_ok-readings.ensures.found,
  subst (λ (rows : List RowOf). 0 < length rows) c.rows.ensures c.in-Err.ensures.memory,
)
