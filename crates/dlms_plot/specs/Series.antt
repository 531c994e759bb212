-- The periods of a register's captures.
use Rattle.std.specs.Prelude.{◌≡◌, ◌≢◌, ℕ, ◌-◌, ◌&&◌, [], List, Option, Some, None, if◌then◌else◌, is_some, map, nat_lt, nat_le, min, max, not, unwrap_or}
use Rattle.std.specs.List.{filter_map, reduce}
use Rattle.dlms_plot.specs.Power.{period_of}
use Rattle.dlms_plot.specs.Steps.{neighbors, steps_of, IsUsual}
use Rattle.dlms_plot.specs.declared.captures.Sample.{Sample}
use Rattle.dlms_plot.specs.declared.captures.Period.{Period}
use Rattle.dlms_plot.specs.declared.captures.Gap.{Gap}

-- the period from one capture to the next one, if they are no further apart than this
abbrev pub period_within : ℕ → Sample × Sample → Option Period
period_within usual (before, after) = if nat_le (after.clock - before.clock) usual
    then period_of before after else None

abbrev pub periods_of : ℕ → List Sample → List Period
periods_of usual samples = filter_map (period_within usual) (neighbors samples)

-- Captures are missing from one to the next one: the clock went on, and there is no period between them.
abbrev pub gap_between : ℕ → Sample × Sample → Option Gap
gap_between usual (before, after) =
    if nat_lt before.clock after.clock && not (is_some (period_within usual (before, after)))
    then Some (record { from = before.clock; to = after.clock }) else None

abbrev pub gaps_of : ℕ → List Sample → List Gap
gaps_of usual samples = filter_map (gap_between usual) (neighbors samples)

-- the least and the greatest of numbers; 0 of none
abbrev pub least : List ℕ → ℕ
least numbers = unwrap_or (reduce min numbers) 0

abbrev pub greatest : List ℕ → ℕ
greatest numbers = unwrap_or (reduce max numbers) 0

-- what a contract sees of a series
pub record SeriesValue : Type 0 where
  pub periods : List Period
  pub gaps : List Gap
  pub usual : ℕ
  pub begin : ℕ
  pub end : ℕ

-- the usual period, all periods that are no longer, one at least, the gaps, and the earliest and the latest capture
pub record IsSeriesOf (samples : List Sample) (series : SeriesValue) : Type 0 where
  pub begin : series.begin ≡ least (map (λ sample. sample.clock) samples)
  pub end : series.end ≡ greatest (map (λ sample. sample.clock) samples)
  pub usual : IsUsual (steps_of samples) series.usual
  pub periods : series.periods ≡ periods_of series.usual samples
  pub gaps : series.gaps ≡ gaps_of series.usual samples
  pub some : series.periods ≢ []

-- no neighboring captures have a period that is no longer than the usual one
abbrev pub HasNoSeries : List Sample → Type 0
HasNoSeries samples = (usual : ℕ) → IsUsual (steps_of samples) usual → periods_of usual samples ≡ []
