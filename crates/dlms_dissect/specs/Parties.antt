-- The sender and the receiver of a frame: by the forms of its addresses, by the meter's management address, and by the frame's
-- content (IEC 62056-46, 6.4.2, addresses, 6.4.3, control fields, and section 5, the LLC). Which of these comes first is this
-- project's own choice.
use Rattle.std.specs.Prelude.{ℕ, ◌==◌, if◌then◌else◌, List, ◌∷◌, Option, Some, None}
use Rattle.dlms_frame.specs.Frame.{Parts}
use Rattle.dlms_frame.specs.declared.frame.Address.{Address}
use Rattle.dlms_frame.specs.declared.frame.Address.TheVariants.{One, Two, Four}
use Rattle.dlms_dissect.specs.declared.control.Control.{Control}
use Rattle.dlms_dissect.specs.declared.control.Control.TheVariants.{Snrm, Disc, Ua, Dm, Frmr}
use Rattle.dlms_dissect.specs.declared.parties.Parties.{Parties}
use Rattle.dlms_dissect.specs.declared.parties.Side.{Side}
use Rattle.dlms_dissect.specs.declared.parties.Side.TheVariants.{Client, Meter}
use Rattle.dlms_dissect.specs.Control.{control_of}

-- ---- addresses

abbrev pub upper : Address → ℕ
upper (One part) = part
upper (Two high low) = high
upper (Four high low) = high

abbrev pub lower : Address → Option ℕ
lower (One part) = None
lower (Two high low) = Some low
lower (Four high low) = Some low

-- ---- the sender

abbrev pub first_of : Option Side → Option Side → Option Side
first_of (Some side) other = Some side
first_of None other = other

-- a client's address has no lower part, and a meter's may have one
abbrev pub side_by_lower : Option ℕ → Option ℕ → Option Side
side_by_lower None None = None
side_by_lower None (Some src) = Some Meter
side_by_lower (Some dest) None = Some Client
side_by_lower (Some dest) (Some src) = None

-- the meter's management has the number 1
abbrev pub side_by_number : ℕ → ℕ → Option Side
side_by_number dest src =
    if dest == 1 then (if src == 1 then None else Some Client)
    else if src == 1 then Some Meter
    else None

-- the client sends SNRM and DISC, the meter UA, DM and FRMR
abbrev pub side_by_control : Control → Option Side
side_by_control Snrm = Some Client
side_by_control Disc = Some Client
side_by_control Ua = Some Meter
side_by_control Dm = Some Meter
side_by_control Frmr = Some Meter
side_by_control _ = None

-- 0xE6 is second in the client's LLC, 0xE7 in the meter's, and 0x00 follows it
abbrev pub side_by_llc : List ℕ → Option Side
side_by_llc (x ∷ y ∷ z ∷ apdu) =
    if z == 0 then (if y == 0xE6 then Some Client else if y == 0xE7 then Some Meter else None)
    else None
side_by_llc _ = None

abbrev pub side_by_form : Parts → Option Side
side_by_form f = side_by_lower (lower f.dest) (lower f.src)

abbrev pub side_by_management : Parts → Option Side
side_by_management f = side_by_number (upper f.dest) (upper f.src)

abbrev pub side_by_content : Parts → Option Side
side_by_content f = first_of (side_by_control (control_of f.control)) (side_by_llc f.info)

-- the side that the line says, or else the first that the frame tells
abbrev pub side_of : Option Side → Parts → Option Side
side_of said f = first_of (first_of (first_of said (side_by_form f)) (side_by_management f))
    (side_by_content f)

-- ---- the ends

-- The sender is the client, the other end the meter; of a frame that the meter sends the other way round.
abbrev pub parties_of : Option Side → Parts → Parties
parties_of (Some Meter) f = record {
  client = upper f.dest;
  meter = upper f.src;
  lower = lower f.src;
}
parties_of (Some Client) f = record {
  client = upper f.src;
  meter = upper f.dest;
  lower = lower f.dest;
}
parties_of None f = record { client = upper f.src; meter = upper f.dest; lower = lower f.dest }
