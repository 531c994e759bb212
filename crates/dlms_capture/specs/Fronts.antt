-- The beginning of a capture file's octets. A record or block of more than 16 MiB, and one shorter than its own header, does not
-- belong to a capture.
use Rattle.std.specs.Prelude.{ℕ, ◌<◌, ◌≤◌, ⊤, List, length, Option, Some, None, is_some, nat_lt, if◌then◌else◌}
use Rattle.std.specs.Option.{option_map_or}
use Rattle.dlms_capture.specs.Numbers.{number_at}
use Rattle.dlms_capture.specs.PcapFormat.{kind_at, head_at, record_length_at}
use Rattle.dlms_capture.specs.PcapngFormat.{begins_section, section_endian}
use Rattle.dlms_capture.specs.declared.interface.Endian.{Endian}
use Rattle.dlms_capture.specs.declared.pcap.Head.{Head}
use Rattle.dlms_capture.specs.declared.front.Form.{Form}
use Rattle.dlms_capture.specs.declared.front.Form.TheVariants as form
use Rattle.dlms_capture.specs.declared.front.Extent.{Extent}
use Rattle.dlms_capture.specs.declared.front.Extent.TheVariants as extent
use Rattle.dlms_capture.specs.declared.front.Front.{Front}
use Rattle.dlms_capture.specs.declared.front.Front.TheVariants as front

-- the extent of a record or block of at least `least` octets, if `have` octets have come and this length is stated
abbrev pub extent_at : ℕ → ℕ → Option ℕ → Extent
extent_at least have None = extent.Part
extent_at least have (Some len) =
    if nat_lt len least then extent.Broken
    else (if nat_lt 16777216 len then extent.Broken
    else (if nat_lt have len then extent.Part else extent.Whole len))

-- the front that has a whole record or block as f makes it
abbrev pub front_by : (ℕ → Front) → Extent → Front
front_by f extent.Part = front.Part
front_by f extent.Broken = front.Broken
front_by f (extent.Whole len) = f len

-- a packet record of a pcap file
unfoldable pub record_front : Head → List ℕ → Front
record_front head octets = front_by front.Whole
    (extent_at 16 (length octets) (record_length_at head octets))

-- the block that begins a section, whose byte order its first 12 octets state
unfoldable pub section_front : List ℕ → Front
section_front octets =
    if nat_lt (length octets) 12 then front.Part
    else option_map_or (λ endian. front_by (front.Section endian)
    (extent_at 12 (length octets) (number_at endian 4 4 octets)))
    (section_endian octets) front.Broken

-- a block of a section, or the block that begins the next one
unfoldable pub block_front : Endian → List ℕ → Front
block_front endian octets =
    if begins_section octets then section_front octets
    else front_by front.Whole (extent_at 12 (length octets) (number_at endian 4 4 octets))

-- the beginning of a file: of a section, or the header of a pcap file
unfoldable pub first_front : List ℕ → Front
first_front octets =
    if nat_lt (length octets) 4 then front.Part
    else (if begins_section octets then section_front octets
    else (if is_some (kind_at octets) then option_map_or front.Header (head_at octets) front.Part
    else front.Broken))

unfoldable pub front_at : Form → List ℕ → Front
front_at form.Begins octets = first_front octets
front_at (form.Pcap head) octets = record_front head octets
front_at (form.PcapNg endian) octets = block_front endian octets
front_at form.Broken octets = front.Broken

-- what is whole has some octets, and all of them have come
abbrev pub HasCome : ℕ → List ℕ → Type 0
HasCome len octets = (0 < len) × (len ≤ length octets)

abbrev pub FrontHasCome : Front → List ℕ → Type 0
FrontHasCome front.Part octets = ⊤
FrontHasCome front.Broken octets = ⊤
FrontHasCome (front.Header head) octets = HasCome 24 octets
FrontHasCome (front.Section endian len) octets = HasCome len octets
FrontHasCome (front.Whole len) octets = HasCome len octets
