-- The names of the meters of a list.
use Rattle.std.specs.Prelude.{nat_eq, ◌&&◌, ◌||◌, ℕ, Bool, false, not, List, [], ◌∷◌}
use Rattle.std.specs.Char.{is_ascii_alphanumeric}
use Rattle.std.specs.List.{list_all}

-- a low line or a hyphen
abbrev pub is_mark : ℕ → Bool
is_mark byte = nat_eq byte 95 || nat_eq byte 45

-- a letter, a digit, a full stop or such a mark
abbrev pub is_name_byte : ℕ → Bool
is_name_byte byte = (is_ascii_alphanumeric byte || nat_eq byte 46) || is_mark byte

-- any byte but a full stop comes first
abbrev pub begins_name : List ℕ → Bool
begins_name [] = false
begins_name (first ∷ rest) = not (nat_eq first 46)

-- a name of such bytes that does not begin with a full stop
abbrev pub is_name : List ℕ → Bool
is_name word = begins_name word && list_all is_name_byte word
