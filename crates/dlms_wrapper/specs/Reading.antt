-- The value of a reader, by its fields.
use Rattle.std.specs.Prelude.{ℕ, ◌≤◌, List, [], drop, Option, Some, None, option_map}
use Rattle.dlms_wrapper.specs.declared.header.Header.{Header}
use Rattle.dlms_wrapper.specs.declared.reader.MessageReader.TheInside.{Inside}
use Rattle.dlms_wrapper.specs.declared.message.TheConstants.{MOST_APDU}
use Rattle.dlms_wrapper.specs.Message.{Parts}
use Rattle.dlms_wrapper.specs.Stream.{HasNoMessage, IsWhole, Kept}

-- the message with this header
abbrev pub parts_in : List ℕ → Header → Parts
parts_in bytes h = record { source = h.source; dest = h.dest; apdu = drop 8 bytes }

-- the octets of a message that is not whole yet: none if it is
abbrev pub left_of : List ℕ → Option Header → List ℕ
left_of bytes None = bytes
left_of bytes (Some h) = []

-- the value of a reader
abbrev pub kept_of : Inside → Kept
kept_of r = record { limit = r.limit; bytes = left_of r.kept.items r.found; message = option_map (parts_in r.kept.items) r.found }

-- the octets are the whole message that was found, or begin with no message
abbrev pub Agrees : ℕ → List ℕ → Option Header → Type 0
Agrees limit bytes None = HasNoMessage limit bytes
Agrees limit bytes (Some h) = IsWhole limit bytes h

-- the reader's invariant
pub record IsInOrder (r : Inside) : Type 0 where
  pub limit : r.limit ≤ MOST_APDU
  pub agrees : Agrees r.limit r.kept.items r.found
