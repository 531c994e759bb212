-- What slots in memory hold: for each slot the content that a read returns, the content when it last became durable, and the
-- content last written.
use Rattle.std.specs.Prelude.{◌≡◌, ◌<◌, ◌^◌, ℕ, true, List, [], length, Some, slice_index_or}
use Rattle.dlms_pages.specs.declared.asking.SlotCall.{SlotCall}
use Rattle.dlms_pages.specs.Slots.{Slot, IsTorn, Leaves, newest, standing}

-- Each of these may be left by a stop, and so may each tear of the write between them; a read returns the newest if the slot is
-- sure, and if it is synced all three are the same.
pub record IsHeld (first : List Slot) (calls : List SlotCall) (k : ℕ) (reads kept last : List ℕ)
    : Type 0 where
  pub left : Leaves first calls k (Some reads)
  pub sure : (standing calls k).sure ≡ true → newest first calls k ≡ Some reads
  pub whole : (standing calls k).sure ≡ true → last ≡ reads
  pub stays : Leaves first calls k (Some kept)
  pub torn : (bytes : List ℕ) → IsTorn k (Some kept) last (Some bytes)
      → Leaves first calls k (Some bytes)
  pub settled : (standing calls k).synced ≡ true → (kept ≡ reads) × (last ≡ reads)

pub record AreHeld (first : List Slot) (calls : List SlotCall) (reads kept last : List (List ℕ))
    : Type 0 where
  pub counted : length first ≡ length reads
  pub kept_too : length kept ≡ length reads
  pub last_too : length last ≡ length reads
  pub small : length reads < 2 ^ 16
  pub each : (k : ℕ) → k < length reads
      → IsHeld first calls k (slice_index_or reads k []) (slice_index_or kept k [])
      (slice_index_or last k [])

-- each slot is what is left of a write with the new octets over the old ones
abbrev pub AreTorn : (olds news slots : List (List ℕ)) → Type 0
AreTorn olds news slots = (length slots ≡ length olds)
    × ((k : ℕ) → k < length slots
    → IsTorn k (Some (slice_index_or olds k [])) (slice_index_or news k [])
    (Some (slice_index_or slots k [])))
