-- The file format pcap (draft-ietf-opsawg-pcap): a file header of 24 octets, then packet records.
use Rattle.std.specs.Prelude.{ℕ, ◌+◌, ◌*◌, ◌%◌, ◌==◌, List, Option, Some, None, option_map, if◌then◌else◌}
use Rattle.std.specs.Option.{option_or}
use Rattle.dlms_capture.specs.Numbers.{◌>>=◌, number_at, rest_at}
use Rattle.dlms_capture.specs.Captured.{Captured}
use Rattle.dlms_capture.specs.declared.interface.Endian.{Endian}
use Rattle.dlms_capture.specs.declared.interface.Endian.TheVariants.{Big, Little}
use Rattle.dlms_capture.specs.declared.pcap.Fraction.{Fraction}
use Rattle.dlms_capture.specs.declared.pcap.Fraction.TheVariants.{Microseconds, Nanoseconds}
use Rattle.dlms_capture.specs.declared.pcap.Head.{Head}

-- ---- the file header (section 4)

-- what fractions of a second count, by the magic number: 0xA1B2C3D4 or 0xA1B23C4D
abbrev pub fraction_by : ℕ → Option Fraction
fraction_by magic = if magic == 2712847316 then Some Microseconds
    else (if magic == 2712812621 then Some Nanoseconds else None)

-- what the fractions of a file in this byte order count, if its first number is a magic number in that order
unfoldable pub fraction_in : Endian → List ℕ → Option Fraction
fraction_in endian octets = number_at endian 4 0 octets >>= fraction_by

-- the byte order of a file, and what its fractions count
unfoldable pub kind_at : List ℕ → Option (Endian × Fraction)
kind_at octets = option_or (option_map (λ f. (Big, f)) (fraction_in Big octets))
    (option_map (λ f. (Little, f)) (fraction_in Little octets))

-- the header of a file, once it is whole: the link type is the low half of the number at 20
unfoldable pub head_at : List ℕ → Option Head
head_at octets = do
  kind ← kind_at octets
  link ← number_at kind.0 4 20 octets
  Some (record { endian = kind.0; fraction = kind.1; link = link % 65536 })

-- ---- packet records (section 5)

-- the nanoseconds of a fraction; of a greater number than a second has, the part below a second
abbrev pub nanoseconds_of : Fraction → ℕ → ℕ
nanoseconds_of Microseconds n = n % 1000000 * 1000
nanoseconds_of Nanoseconds n = n % 1000000000

-- the length of a packet record, once its header of 16 octets is whole
unfoldable pub record_length_at : Head → List ℕ → Option ℕ
record_length_at head octets = do
  captured ← number_at head.endian 4 8 octets
  original ← number_at head.endian 4 12 octets
  Some (16 + captured)

-- the packet of a whole packet record
unfoldable pub packet_at : Head → List ℕ → Option Captured
packet_at head octets = do
  seconds ← number_at head.endian 4 0 octets
  fraction ← number_at head.endian 4 4 octets
  bytes ← rest_at 16 octets
  Some (record {
    stamp = Some (record {
      seconds = seconds;
      nanoseconds = nanoseconds_of head.fraction fraction;
    });
    link = head.link;
    octets = bytes;
  })
