-- The value groups of OBIS codes (IEC 62056-6-1).
use Rattle.std.specs.Prelude.{ℕ, ◌+◌, ◌-◌, ◌/◌, ◌%◌, ◌==◌, nat_le, if◌then◌else◌, List, [], ◌∷◌, Option, Some, None, codes}
use Rattle.dlms_names.specs.Rows.{Rows, name_in}

-- value group A
abbrev pub media : Rows
media =
    (0, codes "abstract")
    ∷ (1, codes "electricity")
    ∷ (4, codes "heat cost allocator")
    ∷ (5, codes "cooling")
    ∷ (6, codes "heat")
    ∷ (7, codes "gas")
    ∷ (8, codes "cold water")
    ∷ (9, codes "hot water")
    ∷ (15, codes "other medium")
    ∷ []

-- value group C of electricity, where A is 1: these of all phases together; 20 further on of L1, 40 of L2, 60 of L3
abbrev pub phase_quantities : Rows
phase_quantities =
    (1, codes "active power+")
    ∷ (2, codes "active power-")
    ∷ (3, codes "reactive power+")
    ∷ (4, codes "reactive power-")
    ∷ (5, codes "reactive power QI")
    ∷ (6, codes "reactive power QII")
    ∷ (7, codes "reactive power QIII")
    ∷ (8, codes "reactive power QIV")
    ∷ (9, codes "apparent power+")
    ∷ (10, codes "apparent power-")
    ∷ (11, codes "current")
    ∷ (12, codes "voltage")
    ∷ (13, codes "power factor")
    ∷ (14, codes "supply frequency")
    ∷ (15, codes "active power |QI+QIV|+|QII+QIII|")
    ∷ (16, codes "active power |QI+QIV|-|QII+QIII|")
    ∷ (17, codes "active power QI")
    ∷ (18, codes "active power QII")
    ∷ (19, codes "active power QIII")
    ∷ (20, codes "active power QIV")
    ∷ []

abbrev pub phases : Rows
phases =
    (1, codes "L1")
    ∷ (2, codes "L2")
    ∷ (3, codes "L3")
    ∷ []

abbrev pub other_quantities : Rows
other_quantities =
    (81, codes "angles")
    ∷ (82, codes "unitless quantity")
    ∷ (83, codes "losses")
    ∷ (88, codes "ampere-squared hours")
    ∷ (89, codes "volt-squared hours")
    ∷ (90, codes "current, sum of phases")
    ∷ (91, codes "current in neutral")
    ∷ (92, codes "voltage in neutral")
    ∷ []

abbrev pub quantity : ℕ → Option (List ℕ)
quantity c =
    if c == 0 then None
    else if nat_le c 80 then name_in phase_quantities ((c - 1) % 20 + 1)
    else name_in other_quantities c

abbrev pub phase : ℕ → Option (List ℕ)
phase c = if c == 0 then None else if nat_le c 80 then name_in phases ((c - 1) / 20) else None

-- value group D of electricity
abbrev pub processings : Rows
processings =
    (0, codes "billing period average")
    ∷ (1, codes "cumulative minimum 1")
    ∷ (2, codes "cumulative maximum 1")
    ∷ (3, codes "minimum 1")
    ∷ (4, codes "current average 1")
    ∷ (5, codes "last average 1")
    ∷ (6, codes "maximum 1")
    ∷ (7, codes "instantaneous value")
    ∷ (8, codes "time integral 1")
    ∷ (9, codes "time integral 2")
    ∷ (10, codes "time integral 3")
    ∷ (11, codes "cumulative minimum 2")
    ∷ (12, codes "cumulative maximum 2")
    ∷ (13, codes "minimum 2")
    ∷ (14, codes "current average 2")
    ∷ (15, codes "last average 2")
    ∷ (16, codes "maximum 2")
    ∷ (21, codes "cumulative minimum 3")
    ∷ (22, codes "cumulative maximum 3")
    ∷ (23, codes "minimum 3")
    ∷ (24, codes "current average 3")
    ∷ (25, codes "last average 3")
    ∷ (26, codes "maximum 3")
    ∷ (27, codes "current average 5")
    ∷ (28, codes "current average 6")
    ∷ (29, codes "time integral 5")
    ∷ (30, codes "time integral 6")
    ∷ (31, codes "under limit threshold")
    ∷ (32, codes "under limit occurrence counter")
    ∷ (33, codes "under limit duration")
    ∷ (34, codes "under limit magnitude")
    ∷ (35, codes "over limit threshold")
    ∷ (36, codes "over limit occurrence counter")
    ∷ (37, codes "over limit duration")
    ∷ (38, codes "over limit magnitude")
    ∷ (39, codes "missing threshold")
    ∷ (40, codes "missing occurrence counter")
    ∷ (41, codes "missing duration")
    ∷ (42, codes "missing magnitude")
    ∷ (55, codes "test average")
    ∷ (58, codes "time integral 4")
    ∷ []
