-- The quantity that a register counts.
use Rattle.std.specs.Prelude.{ℕ, [], ◌∷◌, List, Option}
use Rattle.std.specs.List.{slice_get}
use Rattle.dlms_plot.specs.declared.quantity.Quantity.{Quantity}
use Rattle.dlms_plot.specs.declared.quantity.Quantity.TheVariants.{Import, Export, Reactive}

-- the registers of the channels 0, 1 and 2
abbrev pub quantities : List Quantity
quantities = Import ∷ Export ∷ Reactive ∷ []

abbrev pub quantity_at : ℕ → Option Quantity
quantity_at channel = slice_get quantities channel
