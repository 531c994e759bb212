-- Units (the Blue Book, IEC 62056-6-2, enumerated values for physical units).
use Rattle.std.specs.Prelude.{ℕ, List, [], ◌∷◌, Option, codes}
use Rattle.dlms_names.specs.Codes.{or_else}
use Rattle.dlms_names.specs.Rows.{Rows, name_in}

-- time, length, volume, mass, force, heat
abbrev pub mechanic_units : Rows
mechanic_units =
    (1, codes "a")
    ∷ (2, codes "mo")
    ∷ (3, codes "wk")
    ∷ (4, codes "d")
    ∷ (5, codes "h")
    ∷ (6, codes "min")
    ∷ (7, codes "s")
    ∷ (8, codes "degree")
    ∷ (9, codes "degree Celsius")
    ∷ (10, codes "currency")
    ∷ (11, codes "m")
    ∷ (12, codes "m/s")
    ∷ (13, codes "m3")
    ∷ (14, codes "m3 corrected")
    ∷ (15, codes "m3/h")
    ∷ (16, codes "m3/h corrected")
    ∷ (17, codes "m3/d")
    ∷ (18, codes "m3/d corrected")
    ∷ (19, codes "l")
    ∷ (20, codes "kg")
    ∷ (21, codes "N")
    ∷ (22, codes "Nm")
    ∷ (23, codes "Pa")
    ∷ (24, codes "bar")
    ∷ (25, codes "J")
    ∷ (26, codes "J/h")
    ∷ []

-- electricity, and a share of a whole
abbrev pub electric_units : Rows
electric_units =
    (27, codes "W")
    ∷ (28, codes "VA")
    ∷ (29, codes "var")
    ∷ (30, codes "Wh")
    ∷ (31, codes "VAh")
    ∷ (32, codes "varh")
    ∷ (33, codes "A")
    ∷ (34, codes "C")
    ∷ (35, codes "V")
    ∷ (36, codes "V/m")
    ∷ (37, codes "F")
    ∷ (38, codes "ohm")
    ∷ (39, codes "ohm m2/m")
    ∷ (40, codes "Wb")
    ∷ (41, codes "T")
    ∷ (42, codes "A/m")
    ∷ (43, codes "H")
    ∷ (44, codes "Hz")
    ∷ (45, codes "1/Wh")
    ∷ (46, codes "1/varh")
    ∷ (47, codes "1/VAh")
    ∷ (48, codes "V2h")
    ∷ (49, codes "A2h")
    ∷ (50, codes "kg/s")
    ∷ (51, codes "S")
    ∷ (52, codes "K")
    ∷ (53, codes "1/V2h")
    ∷ (54, codes "1/A2h")
    ∷ (55, codes "1/m3")
    ∷ (56, codes "%")
    ∷ (57, codes "Ah")
    ∷ []

-- others
abbrev pub other_units : Rows
other_units =
    (60, codes "Wh/m3")
    ∷ (61, codes "J/m3")
    ∷ (62, codes "mol %")
    ∷ (63, codes "g/m3")
    ∷ (64, codes "Pa s")
    ∷ (65, codes "J/kg")
    ∷ (66, codes "g/cm2")
    ∷ (67, codes "atm")
    ∷ (70, codes "dBm")
    ∷ (71, codes "dBuV")
    ∷ (72, codes "dB")
    ∷ (254, codes "another unit")
    ∷ (255, codes "count")
    ∷ []

-- unit, the second element of a scaler_unit
abbrev pub unit : ℕ → Option (List ℕ)
unit number = or_else (or_else (name_in mechanic_units number) (name_in electric_units number))
    (name_in other_units number)
