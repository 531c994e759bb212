-- What may happen at a port.
use Rattle.std.specs.Prelude.{◌<◌, ◌≤◌}
use Rattle.dlms_pushes.specs.declared.port.Arrival.{Arrival}
use Rattle.dlms_pushes.specs.declared.port.Arrival.TheVariants.{Opened, Octets, Closed}
use Rattle.dlms_pushes.specs.declared.port.TheConstants.{MOST_SEATS, PIECE}

-- it is of one of the seats, and octets are at least one and fit the piece
abbrev pub IsWithin : Arrival → Type 0
IsWithin (Opened at address) = at < MOST_SEATS
IsWithin (Octets at count) = (at < MOST_SEATS) × (0 < count) × (count ≤ PIECE)
IsWithin (Closed at) = at < MOST_SEATS
