-- The contract's view of a class.
use Rattle.std.specs.Prelude.{map}
use Rattle.dlms_names.specs.Classes.{Names}
use Rattle.dlms_names.specs.declared.class.Class.{Class}

abbrev pub names_of : Class → Names
names_of c = record {
  class = c.name.now;
  attributes = map (λ name. name.now) c.attributes.now;
  methods = map (λ name. name.now) c.methods.now;
}
