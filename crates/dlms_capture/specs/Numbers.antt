-- Numbers and parts of a list of octets, in either byte order.
use Rattle.std.specs.Prelude.{ℕ, ◌+◌, List, length, take, drop, Option, Some, None, option_and_then, nat_le, if◌then◌else◌}
use Rattle.byteorder.specs.Endian.{big_number, little_number}
use Rattle.dlms_capture.specs.declared.interface.Endian.{Endian}
use Rattle.dlms_capture.specs.declared.interface.Endian.TheVariants.{Big, Little}

infixl 10 ◌>>=◌
abbrev pub ◌>>=◌ : {A B : Type 0} → Option A → (A → Option B) → Option B
o >>= f = option_and_then f o

-- the number of the first n octets
abbrev pub number : Endian → ℕ → List ℕ → ℕ
number Big n octets = big_number n octets
number Little n octets = little_number n octets

-- the number of n octets from this place on, if the list has them
unfoldable pub number_at : Endian → ℕ → ℕ → List ℕ → Option ℕ
number_at endian n at octets = if nat_le (at + n) (length octets)
    then Some (number endian n (drop at octets)) else None

-- the octets from this place on, if the list reaches it
unfoldable pub rest_at : ℕ → List ℕ → Option (List ℕ)
rest_at at octets = if nat_le at (length octets) then Some (drop at octets) else None

-- n octets from this place on, if the list has them
unfoldable pub part_at : ℕ → ℕ → List ℕ → Option (List ℕ)
part_at at n octets = if nat_le (at + n) (length octets) then Some (take n (drop at octets))
    else None
