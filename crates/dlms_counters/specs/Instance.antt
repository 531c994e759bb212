-- The contents after the calls of the instance: three writes, 1,000 reserved counters, and counter
-- 7 of one peer.
use Rattle.std.specs.Prelude.{List, ℕ, [], ◌∷◌}
use Rattle.dlms_counters.specs.Slot.{CounterState}

abbrev pub instance_of : (own fingerprint peer : List ℕ) → CounterState
instance_of own fingerprint peer = record {
  sequence = 3;
  own = own;
  fingerprint = fingerprint;
  reserved = 1000;
  peers = record { title = peer; counter = 7 } ∷ [];
}
