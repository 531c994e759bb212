-- The curve of the rows of a readings file.
use Rattle.std.specs.Prelude.{◌≡◌, List, Option, MatchOption}
use Rattle.dlms_headend.specs.declared.row.Row.{Row}
use Rattle.dlms_plot.specs.Rows.{counted_of, samples_in}
use Rattle.dlms_plot.specs.Series.{HasNoSeries, IsSeriesOf}
use Rattle.dlms_plot.specs.declared.readings.Curve.{Curve}

-- the register that counts, and the periods of its captures in all rows
pub record IsCurveOf {A : Type 0} (rows : List Row) (curve : Curve A) : Type 0 where
  pub quantity : curve.quantity ≡ counted_of rows
  pub series : IsSeriesOf (samples_in rows) curve.series

-- the curve of rows, if there is a period between two captures
abbrev pub IsPlotOf : {A : Type 0} → List Row → Option (Curve A) → Type 0
IsPlotOf rows found = MatchOption found (HasNoSeries (samples_in rows)) (IsCurveOf rows)
