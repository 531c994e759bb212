-- The last accepted counters of the peers.
use Rattle.std.specs.Prelude.{ℕ, Bool, false, nat_le, List, [], ◌∷◌, Option, Some, None, if◌then◌else◌}
use Rattle.std.specs.Str.{bytes_eq}
use Rattle.dlms_counters.specs.declared.counters.Peer.{Peer}

-- the last accepted counter of the peer with this title
abbrev pub last_of : List Peer → List ℕ → Option ℕ
last_of [] title = None
last_of (p ∷ ps) title = if bytes_eq p.title title then Some p.counter else last_of ps title

-- the peers, with this counter of the one with this title
abbrev pub with_counter : List ℕ → ℕ → List Peer → List Peer
with_counter title counter [] = record { title = title; counter = counter } ∷ []
with_counter title counter (p ∷ ps) = if bytes_eq p.title title
    then record { title = title; counter = counter } ∷ ps
    else p ∷ with_counter title counter ps

-- the counter is not above the last accepted one
abbrev pub is_known : Option ℕ → ℕ → Bool
is_known None counter = false
is_known (Some last) counter = nat_le counter last

-- there is no room for this peer
abbrev pub is_full : Option ℕ → Bool → Bool
is_full None full = full
is_full (Some last) full = false
