-- The layout of a page on the meter's medium: 16 bytes of head and 496 bytes of payload. Numbers stand with their highest
-- byte first.
use Rattle.std.specs.Prelude.{◌≡◌, ◌-◌, ◌==◌, ℕ, List, ◌∷◌, ◌++◌, length, take, drop, replicate, slice_index, nat_le, Option, Some, None, if◌then◌else◌}
use Rattle.byteorder.specs.Endian.{big_from}
use Rattle.dlms_journal.specs.declared.kind.PageKind.{PageKind}
use Rattle.dlms_journal.specs.declared.kind.PageKind.TheVariants.{Empty, OpenGate, ClosedGate, Body, Journal, Ring}
use Rattle.dlms_journal.specs.declared.page.TheConstants.{MOST_PAYLOAD, VERSION}

abbrev pub number_of : PageKind → ℕ
number_of Empty = 0
number_of OpenGate = 1
number_of ClosedGate = 2
number_of Body = 3
number_of Journal = 4
number_of Ring = 5

abbrev pub kind_named : ℕ → Option PageKind
kind_named n =
    if n == 0 then Some Empty
    else if n == 1 then Some OpenGate
    else if n == 2 then Some ClosedGate
    else if n == 3 then Some Body
    else if n == 4 then Some Journal
    else if n == 5 then Some Ring
    else None

-- what a head says: the number of the kind, the version of the whole layout, the place within kind and slot, the generation,
-- and how many bytes of payload count
pub record Head : Type 0 where
  pub kind : ℕ
  pub version : ℕ
  pub index : ℕ
  pub generation : ℕ
  pub payload : ℕ

-- The layout: kind (1 byte), version (1), index (2), generation (8), length of the payload (2), two bytes that mean nothing.
abbrev pub head_of : List ℕ → Head
head_of page = record {
  kind = slice_index page 0;
  version = slice_index page 1;
  index = big_from 2 2 page;
  generation = big_from 4 8 page;
  payload = big_from 12 2 page;
}

-- the payload that a head counts, if it fits after the head
abbrev pub payload_at : List ℕ → Option (List ℕ)
payload_at page = if nat_le (head_of page).payload MOST_PAYLOAD
    then Some (take (head_of page).payload (drop 16 page)) else None

-- A page as it is written: its head, zeros in the two unused bytes, the payload, and zeros after it.
pub record IsPage (page : List ℕ) (kind : PageKind) (index generation : ℕ) (payload : List ℕ)
    : Type 0 where
  pub bytes : length page ≡ 512
  pub head : head_of page ≡ record {
    kind = number_of kind;
    version = VERSION;
    index = index;
    generation = generation;
    payload = length payload;
  }
  pub behind : drop 14 page ≡ 0 ∷ 0 ∷ (payload ++ replicate (MOST_PAYLOAD - length payload) 0)
