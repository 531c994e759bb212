-- The control field of a frame (IEC 62056-46, 6.4.3), whether or not its poll bit is set.
use Rattle.std.specs.Prelude.{ℕ, ◌/◌, ◌%◌, ◌==◌, ◌||◌, if◌then◌else◌, Bool}
use Rattle.dlms_dissect.specs.declared.control.Control.{Control}
use Rattle.dlms_dissect.specs.declared.control.Control.TheVariants.{Snrm, Disc, Ua, Dm, Frmr, Ui, Information, Ready, NotReady, Other}

-- the fifth bit is the poll bit, or of the meter's frames the final bit
abbrev pub has_poll : ℕ → Bool
has_poll octet = octet / 16 % 2 == 1

-- the frames without numbers, each without its poll bit and with it
abbrev pub is_either : ℕ → ℕ → ℕ → Bool
is_either octet without with_it = (octet == without) || (octet == with_it)

abbrev pub unnumbered_of : ℕ → Control
unnumbered_of octet =
    if is_either octet 0x83 0x93 then Snrm
    else (if is_either octet 0x43 0x53 then Disc
    else (if is_either octet 0x63 0x73 then Ua
    else (if is_either octet 0x0f 0x1f then Dm
    else (if is_either octet 0x87 0x97 then Frmr
    else (if is_either octet 0x03 0x13 then Ui
    else Other)))))

-- I has its low bit 0, RR and RNR have the low half 1 and 5; their numbers are in the high three bits, and for I in the three after
-- the lowest
abbrev pub control_of : ℕ → Control
control_of octet =
    if octet % 2 == 0 then Information (octet / 2 % 8) (octet / 32)
    else (if octet % 16 == 1 then Ready (octet / 32)
    else (if octet % 16 == 5 then NotReady (octet / 32)
    else unnumbered_of octet))
