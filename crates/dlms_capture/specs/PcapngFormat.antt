-- The file format pcapng (draft-ietf-opsawg-pcapng): sections of blocks.
use Rattle.std.specs.Prelude.{ℕ, zero, suc, ◌+◌, ◌-◌, ◌*◌, ◌/◌, ◌%◌, ◌^◌, ◌==◌, min, Bool, false, List, [], ◌∷◌, length, take, drop, slice_get, Option, Some, None, unwrap_or, nat_lt, if◌then◌else◌}
use Rattle.std.specs.Option.{option_map_or}
use Rattle.std.specs.List.{filter_map}
use Rattle.dlms_capture.specs.Numbers.{◌>>=◌, number_at, rest_at, part_at}
use Rattle.dlms_capture.specs.Captured.{Captured, captured_of}
use Rattle.dlms_capture.specs.declared.interface.Endian.{Endian}
use Rattle.dlms_capture.specs.declared.interface.Endian.TheVariants.{Big, Little}
use Rattle.dlms_capture.specs.declared.interface.Stamp.{Stamp}
use Rattle.dlms_capture.specs.declared.pcapng.Interface.{Interface}
use Rattle.dlms_capture.specs.declared.pcapng.Block.{Block}
use Rattle.dlms_capture.specs.declared.pcapng.Block.TheVariants as found

-- the number is there, and is this one
abbrev pub is_number : ℕ → Option ℕ → Bool
is_number n number = option_map_or (λ m. m == n) number false

-- ---- sections (section 4.1)

-- a section begins with the block type 0x0A0D0D0A, which reads the same in either byte order
unfoldable pub begins_section : List ℕ → Bool
begins_section octets = is_number 168627466 (number_at Big 4 0 octets)

-- its byte order is the one in which the number at 8 is 0x1A2B3C4D
unfoldable pub section_endian : List ℕ → Option Endian
section_endian octets =
    if is_number 439041101 (number_at Big 4 8 octets) then Some Big
    else (if is_number 439041101 (number_at Little 4 8 octets) then Some Little else None)

-- ---- options (section 3.5)

-- the octets that the value of an option fills: up to a multiple of four
abbrev pub padded : ℕ → ℕ
padded n = (n + 3) / 4 * 4

-- the first option: its number, its value, and the octets after it; none at opt_endofopt (0) and if no option begins
unfoldable pub option_at : Endian → List ℕ → Option (ℕ × List ℕ × List ℕ)
option_at endian octets = do
  code ← number_at endian 2 0 octets
  len ← number_at endian 2 2 octets
  if code == 0 then None else Some (code, take len (drop 4 octets), drop (4 + padded len) octets)

-- the first n options, each with its number and its value
unfoldable pub options_in : ℕ → Endian → List ℕ → List (ℕ × List ℕ)
options_in zero endian octets = []
options_in (suc n) endian octets =
    option_map_or (λ o. (o.0, o.1) ∷ options_in n endian o.2) (option_at endian octets) []

-- ---- interfaces (section 4.2)

-- the value of an option if_tsresol (9)
abbrev pub resolution_in : ℕ × List ℕ → Option ℕ
resolution_in o = if o.0 == 9 then slice_get o.1 0 else None

-- the unit of the timestamps of an interface with these options: 6, microseconds, if no if_tsresol gives another
unfoldable pub resolution_by : List (ℕ × List ℕ) → ℕ
resolution_by options = unwrap_or (slice_get (filter_map resolution_in options) 0) 6

-- the interface of an interface description block. The length that ends the block is no option with a value.
unfoldable pub interface_at : Endian → List ℕ → Option Interface
interface_at endian block = do
  link ← number_at endian 2 8 block
  options ← rest_at 16 block
  Some (record {
    link = link;
    resolution = resolution_by
        (options_in (length options) endian options);
  })

-- ---- timestamps (section 4.2, if_tsresol)

-- how many units a second has: a power of 10, or with the high bit set of 2; the code stops at 10^19 and 2^63
abbrev pub units_of : ℕ → ℕ
units_of resolution = if nat_lt resolution 128 then 10 ^ min resolution 19
    else 2 ^ min (resolution - 128) 63

-- the time that is so many units after 1970-01-01 00:00:00 UTC
abbrev pub stamp_by : ℕ → ℕ → Stamp
stamp_by units count = record {
  seconds = count / units;
  nanoseconds = count % units * 1000000000 / units;
}

-- ---- packets

-- the packet of an enhanced packet block (section 4.3), or of an obsolete packet block, whose interface is a number of two octets
unfoldable pub packet_at : Endian → List Interface → ℕ → List ℕ → Option Captured
packet_at endian interfaces size block = do
  number ← number_at endian size 8 block
  interface ← slice_get interfaces number
  high ← number_at endian 4 12 block
  low ← number_at endian 4 16 block
  len ← number_at endian 4 20 block
  bytes ← part_at 28 len block
  Some (record {
    stamp = Some (stamp_by (units_of interface.resolution) (high * 4294967296 + low));
    link = interface.link;
    octets = bytes;
  })

-- the packet of a simple packet block (section 4.4), of the first interface: up to its length, or cut off before the length that ends the block
unfoldable pub simple_packet_at : Endian → List Interface → List ℕ → Option Captured
simple_packet_at endian interfaces block = do
  interface ← slice_get interfaces 0
  len ← number_at endian 4 8 block
  data_and_end ← rest_at 12 block
  if nat_lt (length data_and_end) 4 then None
      else Some (record {
        stamp = None;
        link = interface.link;
        octets = take len (take (length data_and_end - 4) data_and_end);
      })

-- ---- what a block is

pub data Content : Type 0 where
  interface : Interface → Content
  packet : Captured → Content
  other : Content

abbrev pub content_of : Block → Content
content_of (found.Interface i) = interface i
content_of (found.Packet p) = packet (captured_of p)
content_of found.Other = other

abbrev pub interface_or_other : Option Interface → Content
interface_or_other i = option_map_or interface i other

abbrev pub packet_or_other : Option Captured → Content
packet_or_other p = option_map_or packet p other

-- by the type of the block: an interface description (1), an enhanced packet (6), an obsolete packet (2), a simple packet (3)
abbrev pub content_by : ℕ → Endian → List Interface → List ℕ → Content
content_by type endian interfaces block =
    if type == 1 then interface_or_other (interface_at endian block)
    else (if type == 6 then packet_or_other (packet_at endian interfaces 4 block)
    else (if type == 2 then packet_or_other (packet_at endian interfaces 2 block)
    else (if type == 3 then packet_or_other (simple_packet_at endian interfaces block) else other)))

unfoldable pub content_at : Endian → List Interface → List ℕ → Content
content_at endian interfaces block =
    option_map_or (λ type. content_by type endian interfaces block)
    (number_at endian 4 0 block) other
