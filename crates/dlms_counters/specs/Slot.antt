-- The layout of a slot. Numbers have their highest byte first.
--
--   0  format     2 bytes
--   2  peers      2, the number of them
--   4  sequence   8
--  12  own title  8
--  20  fingerprint of the key 16
--  36  reserved   4, the end of the reservation
--  40  the peers, 12 each: title 8, counter 4
use Rattle.std.specs.Prelude.{◌*◌, ◌==◌, ◌&&◌, ◌++◌, ℕ, zero, suc, nat_le, Bool, List, [], ◌∷◌, length, take, drop, Option, Some, None, if◌then◌else◌}
use Rattle.byteorder.specs.Endian.{big_bytes, big_number}
use Rattle.dlms_counters.specs.declared.counters.Peer.{Peer}
use Rattle.dlms_counters.specs.declared.counters.TheConstants.{MOST_PEERS}
use Rattle.dlms_counters.specs.declared.slot.TheConstants.{FORMAT}

-- What a slot contains: one more than in the slot that was written before; the own system title;
-- what identifies the key; the end of the reservation; the last accepted counter of each peer.
pub record CounterState : Type 0 where
  pub sequence : ℕ
  pub own : List ℕ
  pub fingerprint : List ℕ
  pub reserved : ℕ
  pub peers : List Peer

-- the first contents of a file
abbrev pub first_of : (own fingerprint : List ℕ) → ℕ → CounterState
first_of own fingerprint reserved = record {
  sequence = 1;
  own = own;
  fingerprint = fingerprint;
  reserved = reserved;
  peers = [];
}

abbrev pub peer_at : List ℕ → Peer
peer_at bytes = record { title = take 8 bytes; counter = big_number 4 (drop 8 bytes) }

-- the first peers in these bytes
abbrev pub peers_in : ℕ → List ℕ → List Peer
peers_in zero bytes = []
peers_in (suc n) bytes = peers_in n bytes ++ peer_at (drop (12 * n) bytes) ∷ []

abbrev pub is_slot : List ℕ → Bool
is_slot page = (big_number 2 page == FORMAT) && nat_le (big_number 2 (drop 2 page)) MOST_PEERS

abbrev pub fields_in : List ℕ → CounterState
fields_in page = record {
  sequence = big_number 8 (drop 4 page);
  own = take 8 (drop 12 page);
  fingerprint = take 16 (drop 20 page);
  reserved = big_number 4 (drop 36 page);
  peers = peers_in (big_number 2 (drop 2 page)) (drop 40 page);
}

-- what a page says, if it is a slot
abbrev pub counters_in : List ℕ → Option CounterState
counters_in page = if is_slot page then Some (fields_in page) else None

-- the bytes in front of the peers
abbrev pub head_of : CounterState → List ℕ
head_of c = big_bytes 2 FORMAT ++ (big_bytes 2 (length c.peers) ++ (big_bytes 8 c.sequence
    ++ (c.own ++ (c.fingerprint ++ big_bytes 4 c.reserved))))
