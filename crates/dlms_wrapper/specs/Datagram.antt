-- One datagram, which is one message or is refused.
use Rattle.std.specs.Prelude.{◌≡◌, ◌≢◌, ℕ, ◌+◌, ◌<◌, List, length}
use Rattle.dlms_wrapper.specs.declared.fault.DatagramFault.{DatagramFault}
use Rattle.dlms_wrapper.specs.declared.fault.DatagramFault.TheVariants as fault
use Rattle.dlms_wrapper.specs.declared.header.Header.{Header}
use Rattle.dlms_wrapper.specs.Message.{Begins, IsAccepted, IsMessage, Parts, message_bytes}
use Rattle.dlms_wrapper.specs.Stream.{IsRefusedFor}

-- the datagram is this message, and nothing else
pub record IsDatagram (limit : ℕ) (bytes : List ℕ) (m : Parts) : Type 0 where
  pub text : bytes ≡ message_bytes m
  pub fits : IsMessage limit m

-- the datagram begins with an accepted header, which announces `len` octets, but another number of octets follows
pub record HasOtherLength (limit : ℕ) (bytes : List ℕ) (len found : ℕ) : Type 0 where
  pub header : Header
  pub begins : Begins bytes header
  pub accepted : IsAccepted limit header
  pub announced : len ≡ header.len
  pub follows : length bytes ≡ 8 + found
  pub other : len ≢ found

-- why the datagram is no message: the first of these causes
abbrev pub RefusesDatagram : ℕ → List ℕ → DatagramFault → Type 0
RefusesDatagram limit bytes (fault.Short count) = (count ≡ length bytes) × (length bytes < 8)
RefusesDatagram limit bytes (fault.Header why) = IsRefusedFor limit bytes why
RefusesDatagram limit bytes (fault.Length len found) = HasOtherLength limit bytes len found
