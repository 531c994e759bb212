-- What memory is needed for: values that hold octets, bits or other values, unless they hold none.
use Rattle.std.specs.Prelude.{ℕ, ◌<◌, length, List}
use Rattle.dlms_data.specs.Value.{Value, Values, array, structure, bit_string, octet_string, visible_string, utf8_string, count}

abbrev pub NeedsMemory : Value → Type 0
NeedsMemory (array vs) = 0 < count vs
NeedsMemory (structure vs) = 0 < count vs
NeedsMemory (bit_string bits) = 0 < length bits
NeedsMemory (octet_string b) = 0 < length b
NeedsMemory (visible_string b) = 0 < length b
NeedsMemory (utf8_string b) = 0 < length b
NeedsMemory _ = ⊥

-- the same of a value and what follows it, of values, of octets and of bits
abbrev pub NeedsFirst : {R : Type 0} → Value × R → Type 0
NeedsFirst x = NeedsMemory x.0

abbrev pub AreSome : Values × List ℕ → Type 0
AreSome x = 0 < count x.0

abbrev pub HasSome : {X : Type 0} → List X × List ℕ → Type 0
HasSome x = 0 < length x.0
