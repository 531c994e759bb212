-- The place of a frame in a caller's octets, and its content (IEC 62056-46, 6.4.1).
use Rattle.std.specs.Prelude.{◌≡◌, ℕ, ◌-◌, List, length, take, drop}
use Rattle.dlms_frame.specs.Frame.{Parts}
use Rattle.dlms_frame.specs.Stream.{IsNext}
use Rattle.dlms_frame.specs.declared.frame.Address.{Address}
use Rattle.dlms_frame.specs.declared.frame.Address.TheVariants.{One, Two, Four}
use Rattle.dlms_c.specs.declared.octets.FrameAddress.{FrameAddress}
use Rattle.dlms_c.specs.declared.octets.FramePlace.{FramePlace}

-- an address by its count of octets and its parts
abbrev pub address_of : Address → FrameAddress
address_of (One upper) = record { octets = 1; upper = upper; lower = 0 }
address_of (Two upper lower) = record { octets = 2; upper = upper; lower = lower }
address_of (Four upper lower) = record { octets = 4; upper = upper; lower = lower }

-- The frame is the first of the octets, and this is its place and its content.
pub record IsFirst (octets : List ℕ) (place : FramePlace) (f : Parts) : Type 0 where
  pub next : IsNext octets 0 place.start (place.«end» - 1) f
  pub information : take place.information_length (drop place.information octets) ≡ f.info
  pub length : place.information_length ≡ length f.info
  pub destination : place.destination ≡ address_of f.dest
  pub source : place.source ≡ address_of f.src
  pub control : place.control ≡ f.control
  pub segmented : place.is_segmented ≡ f.segmented
