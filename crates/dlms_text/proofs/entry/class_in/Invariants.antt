use Rattle.std.proofs.Common.{take}
use Rattle.std.specs.Prelude.{All, map}
use Rattle.dlms_data.specs.View.{value_of}
use Rattle.dlms_data.specs.Value.{Value}
use Rattle.dlms_text.specs.Entries.{HasName}
use Rattle.dlms_text.proofs.entry.class_in.Given as goal

abbrev pub invariant-elements : goal.invariant-elements
invariant-elements g l = All (λ (v : Value). HasName l.name v → ⊥) (map value_of (take l.value-index l.list))
