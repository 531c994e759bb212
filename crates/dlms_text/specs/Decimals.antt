-- Numbers with a scaler (IEC 62056-6-2, Blue Book 4.3.2, scaler_unit): a number times a power of ten, in decimal digits.
use Rattle.std.specs.Prelude.{ℕ, ℤ, pos, negsuc, suc, ◌-◌, ◌++◌, ◌==◌, List, [], ◌∷◌, length, take, drop, replicate, nat_lt, if◌then◌else◌, decimal, Bool, true, false}

-- this many of the digits after a point, with zeros before them if they are fewer
abbrev pub with_point : List ℕ → ℕ → List ℕ
with_point digits places =
    if nat_lt places (length digits)
    then take (length digits - places) digits ++ 46 ∷ drop (length digits - places) digits
    else 48 ∷ 46 ∷ replicate (places - length digits) 48 ++ digits

-- zeros after the digits of a number, but none after those of 0
abbrev pub with_zeros : ℕ → ℕ → List ℕ
with_zeros number zeros = decimal number ++ (if number == 0 then [] else replicate zeros 48)

abbrev pub unsigned_scaled : ℕ → ℤ → List ℕ
unsigned_scaled number (pos zeros) = with_zeros number zeros
unsigned_scaled number (negsuc less) = with_point (decimal number) (suc less)

-- a minus before them if the number is below 0
abbrev pub scaled : Bool → ℕ → ℤ → List ℕ
scaled true number power = 45 ∷ unsigned_scaled number power
scaled false number power = unsigned_scaled number power
