-- What bytes a frame is (IEC 62056-46, 6.4.1, HDLC frame format type 3, and 6.4.2, addressing; there is no byte stuffing).
use Rattle.std.specs.Prelude.{◌≡◌, ℕ, ◌+◌, ◌*◌, ◌/◌, ◌%◌, ◌^◌, ◌<◌, ◌≤◌, Bool, true, false, List, [], ◌∷◌, ◌++◌, length}
use Rattle.dlms_frame.specs.declared.frame.Address.{Address}
use Rattle.dlms_frame.specs.declared.frame.Address.TheVariants.{One, Two, Four}
use Rattle.dlms_frame.specs.declared.frame.Header.{Header}
use Rattle.dlms_frame.specs.Check.{check_of}
use Rattle.dlms_frame.specs.declared.reading.TheConstants.{FLAG}

-- what a frame says
pub record Parts : Type 0 where
  pub segmented : Bool
  pub dest : Address
  pub src : Address
  pub control : ℕ
  pub info : List ℕ

-- seven bits a byte, high part first; only the last byte has the low bit 1
abbrev pub address_bytes : Address → List ℕ
address_bytes (One part) = (2 * part + 1) ∷ []
address_bytes (Two high low) = 2 * high ∷ (2 * low + 1) ∷ []
address_bytes (Four high low) = 2 * (high / 128) ∷ 2 * (high % 128) ∷ 2 * (low / 128)
    ∷ (2 * (low % 128) + 1) ∷ []

-- each part has its bits
abbrev pub IsAddress : Address → Type 0
IsAddress (One part) = part < 128
IsAddress (Two high low) = (high < 128) × (low < 128)
IsAddress (Four high low) = (high < 2 ^ 14) × (low < 2 ^ 14)

-- the bytes before the information, without a check
abbrev pub header_len : Parts → ℕ
header_len f = 3 + length (address_bytes f.dest) + length (address_bytes f.src)

-- the header's check, the information and the last check, or the last check alone
abbrev pub tail_len : List ℕ → ℕ
tail_len [] = 2
tail_len (x ∷ xs) = 5 + length xs

-- all bytes between the flags
abbrev pub frame_len : Parts → ℕ
frame_len f = header_len f + tail_len f.info

abbrev pub segment_bit : Bool → ℕ
segment_bit false = 0
segment_bit true = 8

-- 1010, the segmentation bit and 11 bits of length, the addresses and the control byte
abbrev pub header_bytes : Header → List ℕ
header_bytes h = (0xA0 + segment_bit h.segmented + h.len / 256) ∷ h.len % 256
    ∷ (address_bytes h.dest ++ (address_bytes h.src ++ h.control ∷ []))

abbrev pub header_of : Parts → Header
header_of f = record {
  segmented = f.segmented;
  len = frame_len f;
  dest = f.dest;
  src = f.src;
  control = f.control;
}

-- what a header keeps to
pub record IsHeader (h : Header) : Type 0 where
  pub dest : IsAddress h.dest
  pub src : IsAddress h.src
  pub len : h.len ≤ 2047

-- the bytes, followed by their check
unfoldable pub checked : List ℕ → List ℕ
checked bytes = bytes ++ (check_of bytes % 256 ∷ check_of bytes / 256 ∷ [])

-- the information, if any, follows the checked header and is followed by a check
abbrev pub body_with : List ℕ → List ℕ → List ℕ
body_with front [] = checked front
body_with front (x ∷ xs) = checked (checked front ++ x ∷ xs)

-- the bytes between the flags
abbrev pub body : Parts → List ℕ
body f = body_with (header_bytes (header_of f)) f.info

abbrev pub spelling : Parts → List ℕ
spelling f = FLAG ∷ (body f ++ FLAG ∷ [])

-- what a frame keeps to
pub record IsFrame (f : Parts) : Type 0 where
  pub dest : IsAddress f.dest
  pub src : IsAddress f.src
  pub len : frame_len f ≤ 2047

-- the bytes are the frame, flags included
pub record FrameSpelling (bytes : List ℕ) (f : Parts) : Type 0 where
  pub fits : IsFrame f
  pub text : bytes ≡ spelling f
