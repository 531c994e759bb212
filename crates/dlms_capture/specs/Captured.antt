-- The data that a capture gives for a packet.
use Rattle.std.specs.Prelude.{ℕ, Option, List}
use Rattle.dlms_capture.specs.declared.interface.Stamp.{Stamp}
use Rattle.dlms_capture.specs.declared.interface.Packet.{Packet}

-- a packet, without where its octets are in memory
pub record Captured : Type 0 where
  pub stamp : Option Stamp
  pub link : ℕ
  pub octets : List ℕ

abbrev pub captured_of : Packet → Captured
captured_of packet = record { stamp = packet.stamp; link = packet.link; octets = packet.octets.now }
