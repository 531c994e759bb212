-- The contents of a packet of a capture: the ends and octets of a TCP segment or a UDP datagram.
use Rattle.std.specs.Prelude.{ℕ, zero, suc, ◌+◌, ◌-◌, ◌*◌, ◌/◌, ◌%◌, ◌==◌, ◌||◌, Bool, not, List, take, slice_get, bit_and, Option, Some, None, option_map, nat_lt, if◌then◌else◌}
use Rattle.dlms_capture.specs.Numbers.{◌>>=◌, number_at, rest_at, part_at}
use Rattle.dlms_capture.specs.Captured.{Captured}
use Rattle.dlms_capture.specs.declared.interface.Endian.TheVariants.{Big}
use Rattle.dlms_capture.specs.declared.packet.Address.{Address}
use Rattle.dlms_capture.specs.declared.packet.Address.TheVariants.{Four, Six}
use Rattle.dlms_capture.specs.declared.packet.Ends.{Ends}
use Rattle.dlms_capture.specs.declared.packet.Transport.{Transport}
use Rattle.dlms_capture.specs.declared.packet.Transport.TheVariants.{Tcp, Udp}
use Rattle.dlms_capture.specs.declared.packet.Segment.{Segment}
use Rattle.dlms_capture.specs.declared.packet.Carried.{Carried}

-- a segment or a datagram, without where its octets are in memory
pub record SegmentForm : Type 0 where
  pub ends : Ends
  pub transport : Transport
  pub octets : List ℕ

abbrev pub segment_form : Segment → SegmentForm
segment_form s = record { ends = s.ends; transport = s.transport; octets = s.octets.now }

-- what a packet of IP carries
pub record CarriedForm : Type 0 where
  pub from : Address
  pub to : Address
  pub protocol : ℕ
  pub octets : List ℕ

abbrev pub carried_form : Carried → CarriedForm
carried_form c = record { from = c.from; to = c.to; protocol = c.protocol; octets = c.octets.now }

-- ---- the link layer (the registry of LINKTYPE values)

-- a type of Ethernet that is IP, of version 4 or 6
abbrev pub is_network : ℕ → Bool
is_network type = (type == 2048) || (type == 34525)

-- a type of Ethernet that is a tag of a virtual network (IEEE 802.1Q)
abbrev pub is_tag : ℕ → Bool
is_tag type = (type == 33024) || (type == 34984)

-- the packet of IP after the type at this place
unfoldable pub after_type : ℕ → List ℕ → Option (List ℕ)
after_type at octets = do
  type ← number_at Big 2 at octets
  if is_network type then rest_at (at + 2) octets else None

-- the same, after so many tags at most
abbrev pub after_tags : ℕ → ℕ → List ℕ → Option (List ℕ)
after_tags zero at octets = after_type at octets
after_tags (suc n) at octets = do
  type ← number_at Big 2 at octets
  if is_tag type then after_tags n (at + 4) octets else after_type at octets

-- the packet of IP after the header of a Linux cooked capture of version 2, which begins with the type
abbrev pub after_cooked : List ℕ → Option (List ℕ)
after_cooked octets = do
  type ← number_at Big 2 0 octets
  if is_network type then rest_at 20 octets else None

-- the packet of IP in a packet: Ethernet (1), null and loop (0, 108), raw IP (101, 228, 229), Linux cooked captures (113, 276)
unfoldable pub network_at : ℕ → List ℕ → Option (List ℕ)
network_at link octets =
    if link == 1 then after_tags 2 12 octets
    else (if (link == 0) || (link == 108) then rest_at 4 octets
    else (if (link == 101) || (link == 228) || (link == 229) then Some octets
    else (if link == 113 then after_type 14 octets
    else (if link == 276 then after_cooked octets else None))))

-- ---- the network layer

abbrev pub four_at : ℕ → List ℕ → Option Address
four_at at octets = option_map Four (part_at at 4 octets)

abbrev pub six_at : ℕ → List ℕ → Option Address
six_at at octets = option_map Six (part_at at 16 octets)

-- the octets up to a stated length, which is 0 if a network card was still to write it
abbrev pub cut_at : ℕ → List ℕ → List ℕ
cut_at len octets = if len == 0 then octets else take len octets

-- IP of version 4 (RFC 791, 3.1), if its header has 20 octets or more and it is no fragment: no More Fragments, no offset
unfoldable pub carried_by_four : List ℕ → Option CarriedForm
carried_by_four octets = do
  first ← slice_get octets 0
  len ← number_at Big 2 2 octets
  fragment ← number_at Big 2 6 octets
  from ← four_at 12 octets
  to ← four_at 16 octets
  protocol ← slice_get octets 9
  carried ← rest_at (first % 16 * 4) (cut_at len octets)
  if nat_lt (first % 16 * 4) 20 || not (fragment % 16384 == 0) then None
      else Some (record { from = from; to = to; protocol = protocol; octets = carried })

-- an extension header that is passed over (RFC 8200, 4): hop-by-hop options, routing, destination options
abbrev pub is_extension : ℕ → Bool
is_extension protocol = (protocol == 0) || (protocol == 43) || (protocol == 60)

-- the number of the next header, and the octets after an extension header: its second octet counts units of 8 octets after the
-- first
unfoldable pub extension_at : List ℕ → Option (ℕ × List ℕ)
extension_at octets = do
  following ← slice_get octets 0
  len ← slice_get octets 1
  rest ← rest_at ((len + 1) * 8) octets
  Some (following, rest)

-- what is after fewer than n extension headers, and its number
unfoldable pub after_extensions : ℕ → ℕ → List ℕ → Option (ℕ × List ℕ)
after_extensions zero protocol octets = None
after_extensions (suc n) protocol octets =
    if is_extension protocol then
    (extension_at octets >>= λ header. after_extensions n header.0 header.1)
    else Some (protocol, octets)

-- IP of version 6 (RFC 8200, 3)
unfoldable pub carried_by_six : List ℕ → Option CarriedForm
carried_by_six octets = do
  len ← number_at Big 2 4 octets
  payload ← rest_at 40 octets
  protocol ← slice_get octets 6
  carried ← after_extensions 8 protocol (cut_at len payload)
  from ← six_at 8 octets
  to ← six_at 24 octets
  Some (record { from = from; to = to; protocol = carried.0; octets = carried.1 })

-- IP of either version
unfoldable pub carried_at : List ℕ → Option CarriedForm
carried_at octets = do
  first ← slice_get octets 0
  if first / 16 == 4 then carried_by_four octets
      else (if first / 16 == 6 then carried_by_six octets else None)

-- ---- the transport layer

-- the ends, by the two ports that TCP and UDP begin with
unfoldable pub ends_at : CarriedForm → Option Ends
ends_at carried = do
  from ← number_at Big 2 0 carried.octets
  to ← number_at Big 2 2 carried.octets
  Some (record {
    from = record { address = carried.from; port = from };
    to = record { address = carried.to; port = to };
  })

-- TCP (RFC 9293, 3.1), if its header has 20 octets or more: SYN (0x02) opens, ACK (0x10) answers
unfoldable pub tcp_at : CarriedForm → Option SegmentForm
tcp_at carried = do
  sequence ← number_at Big 4 4 carried.octets
  awaited ← number_at Big 4 8 carried.octets
  offset ← slice_get carried.octets 12
  flags ← slice_get carried.octets 13
  ends ← ends_at carried
  octets ← rest_at (offset / 16 * 4) carried.octets
  if nat_lt (offset / 16 * 4) 20 then None
      else Some (record {
        ends = ends;
        transport = Tcp sequence awaited (not (bit_and flags 2 == 0))
            (not (bit_and flags 16 == 0));
        octets = octets;
      })

-- UDP (RFC 768): its length counts its header of 8 octets
unfoldable pub udp_at : CarriedForm → Option SegmentForm
udp_at carried = do
  len ← number_at Big 2 4 carried.octets
  octets ← rest_at 8 carried.octets
  ends ← ends_at carried
  Some (record { ends = ends; transport = Udp; octets = take (len - 8) octets })

-- the segment or datagram of a packet: TCP (6) or UDP (17)
unfoldable pub segment_at : Captured → Option SegmentForm
segment_at packet = do
  network ← network_at packet.link packet.octets
  carried ← carried_at network
  if carried.protocol == 6 then tcp_at carried
      else (if carried.protocol == 17 then udp_at carried else None)
