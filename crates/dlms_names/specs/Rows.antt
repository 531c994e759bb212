-- Tables of numbers and names.
use Rattle.std.specs.Prelude.{ℕ, ◌==◌, ◌-◌, if◌then◌else◌, List, [], ◌∷◌, Option, Some, None, slice_get}

-- rows of a number and its name, in octets
abbrev pub Rows : Type 0
Rows = List (ℕ × List ℕ)

-- the name of the row with this number, if there is one
abbrev pub name_in : Rows → ℕ → Option (List ℕ)
name_in [] number = None
name_in (row ∷ rows) number = if number == row.0 then Some row.1 else name_in rows number

-- the name with this number, the first one being number 1
abbrev pub numbered : List (List ℕ) → ℕ → Option (List ℕ)
numbered names number = if number == 0 then None else slice_get names (number - 1)
