-- OBIS codes and what they name (IEC 62056-6-1).
use Rattle.std.specs.Prelude.{ℕ, ◌+◌, ◌*◌, ◌==◌, ◌&&◌, if◌then◌else◌, List, [], ◌∷◌, Option, Some, None, codes}
use Rattle.dlms_names.specs.Rows.{Rows, name_in}

-- the number that the six octets of a code are, the first one highest
abbrev pub code : ℕ → ℕ → ℕ → ℕ → ℕ → ℕ → ℕ
code a b c d e f = ((((a * 256 + b) * 256 + c) * 256 + d) * 256 + e) * 256 + f

-- objects that a meter of any medium has, and those of electricity that are no quantity
abbrev pub objects : Rows
objects =
    (code 0 0 1 0 0 255, codes "clock")
    ∷ (code 0 0 10 0 0 255, codes "global meter reset")
    ∷ (code 0 0 13 0 0 255, codes "activity calendar")
    ∷ (code 0 0 15 0 0 255, codes "end of billing period")
    ∷ (code 0 0 22 0 0 255, codes "IEC HDLC setup")
    ∷ (code 0 0 25 0 0 255, codes "TCP-UDP setup")
    ∷ (code 0 0 40 0 0 255, codes "current association")
    ∷ (code 0 0 41 0 0 255, codes "SAP assignment")
    ∷ (code 0 0 42 0 0 255, codes "COSEM logical device name")
    ∷ (code 0 0 43 0 0 255, codes "security setup")
    ∷ (code 0 0 44 0 0 255, codes "image transfer")
    ∷ (code 0 0 96 1 0 255, codes "device ID 1")
    ∷ (code 0 0 96 1 1 255, codes "device ID 2")
    ∷ (code 0 0 96 1 2 255, codes "device ID 3")
    ∷ (code 0 0 96 3 10 255, codes "disconnect control")
    ∷ (code 0 0 97 97 0 255, codes "error")
    ∷ (code 0 0 97 98 0 255, codes "alarm")
    ∷ (code 0 0 99 98 0 255, codes "event log")
    ∷ (code 1 0 0 2 0 255, codes "active firmware identifier")
    ∷ (code 1 0 98 1 0 255, codes "data of billing period 1")
    ∷ (code 1 0 99 1 0 255, codes "load profile with recording period 1")
    ∷ (code 1 0 99 2 0 255, codes "load profile with recording period 2")
    ∷ []

-- value group C of electricity: the quantity summed over all time (value group D is 8)
abbrev pub energies : Rows
energies =
    (1, codes "active energy import")
    ∷ (2, codes "active energy export")
    ∷ (3, codes "reactive energy import")
    ∷ (4, codes "reactive energy export")
    ∷ (5, codes "reactive energy QI")
    ∷ (6, codes "reactive energy QII")
    ∷ (7, codes "reactive energy QIII")
    ∷ (8, codes "reactive energy QIV")
    ∷ (9, codes "apparent energy import")
    ∷ (10, codes "apparent energy export")
    ∷ []

-- the same now (value group D is 7)
abbrev pub powers : Rows
powers =
    (1, codes "active power import")
    ∷ (2, codes "active power export")
    ∷ (3, codes "reactive power import")
    ∷ (4, codes "reactive power export")
    ∷ (5, codes "reactive power QI")
    ∷ (6, codes "reactive power QII")
    ∷ (7, codes "reactive power QIII")
    ∷ (8, codes "reactive power QIV")
    ∷ (9, codes "apparent power import")
    ∷ (10, codes "apparent power export")
    ∷ []

-- what a quantity is called under this value group D
abbrev pub quantity : ℕ → ℕ → Option (List ℕ)
quantity c d = if d == 8 then name_in energies c else (if d == 7 then name_in powers c else None)

-- the first if there is one, otherwise the second
abbrev pub or_else : Option (List ℕ) → Option (List ℕ) → Option (List ℕ)
or_else (Some name) other = Some name
or_else None other = other

-- The name of a code: for electricity, in any channel, for all tariffs and without a billing period, its quantity; otherwise the
-- object.
abbrev pub code_name : List ℕ → Option (List ℕ)
code_name (a ∷ b ∷ c ∷ d ∷ e ∷ f ∷ []) =
    if (a == 1) && ((e == 0) && (f == 255))
    then or_else (quantity c d) (name_in objects (code a b c d e f))
    else name_in objects (code a b c d e f)
code_name _ = None
