-- The name of a file beside another.
use Rattle.std.proofs.Common.{ap, ◌≡◌, ℕ, List, [], ◌++◌, ◌-◌, ◌^◌, length, false}
use Rattle.std.specs.Prelude.{replicate}
use Rattle.std.specs.Fmt.{char_count, format_spec, padded_integral}
use Rattle.std.proofs.lemmas.List.{append-nil}
use native.Mathlib.Numerals.{unary_clauses}

-- the text of a number that is written in 16 digits
pub sixteen_digits : (shown : List ℕ) → padded_integral (format_spec 32 0 4 16 (2 ^ 64 - 1)) false [] shown ≡ replicate (16 - length shown) 0x30 ++ shown
unfolding padded_integral char_count
sixteen_digits shown = simp unary_clauses (ap (λ (t : List ℕ). replicate (16 - length shown) 0x30 ++ t) (append-nil shown))
