-- The rows of a readings file as captures of a register.
use Rattle.std.specs.Prelude.{ℕ, ◌==◌, ◌-◌, List, Bool, false, not, unwrap_or, find, map, Option, Some, length, slice_index}
use Rattle.std.specs.List.{slice_get}
use Rattle.dlms_headend.specs.declared.row.Row.{Row}
use Rattle.dlms_plot.specs.Quantity.{quantities}
use Rattle.dlms_plot.specs.declared.captures.Sample.{Sample}
use Rattle.dlms_plot.specs.declared.quantity.Quantity.{Quantity}
use Rattle.dlms_plot.specs.declared.quantity.Quantity.TheVariants.{Import, Export, Reactive}

-- what a register showed in a row
abbrev pub value_in : Quantity → Row → ℕ
value_in Import row = slice_index row.registers 0
value_in Export row = slice_index row.registers 1
value_in Reactive row = slice_index row.registers 2

abbrev pub sample_of : Quantity → Row → Sample
sample_of quantity row = record { clock = row.clock; value = value_in quantity row }

-- two rows say different values of a register
abbrev pub differ : Quantity → Option Row → Option Row → Bool
differ quantity (Some first) (Some last) = not (value_in quantity first == value_in quantity last)
differ quantity first last = false

-- the first row and the last one do
abbrev pub differs : List Row → Quantity → Bool
differs rows quantity = differ quantity (slice_get rows 0) (slice_get rows (length rows - 1))

-- the first register that differs, or that of the import
abbrev pub counted_of : List Row → Quantity
counted_of rows = unwrap_or (find (differs rows) quantities) Import

-- the captures of that register
abbrev pub samples_in : List Row → List Sample
samples_in rows = map (sample_of (counted_of rows)) rows
