-- The first bytes of a file.
use Rattle.std.specs.Prelude.{◌≡◌, ◌<◌, ℕ, List, [], ◌∷◌, Option, Some, None, Result, Ok, Err, IfSome, take}
use Rattle.std.specs.Io.KnownBytes.{Consumes, IsAtEnd, Keeps}
use Rattle.std.specs.declared.io.Error.{Error}
use Rattle.dlms_polling.specs.declared.secret.TheConstants.{MOST_READ}

-- the byte of a read of one byte, or that there is none; an error is passed on
abbrev pub IsByte : Result ℕ Error → ℕ → Result (Option ℕ) Error → Type 0
IsByte (Ok count) byte result = (count ≡ 0 → result ≡ Ok None)
    × (0 < count → result ≡ Ok (Some byte))
IsByte (Err e) byte result = result ≡ Err e

-- the next byte of a reader, or none at its end
abbrev pub ReadsByte : {E : Type 0} → Option (List ℕ) → Option (List ℕ) → Result (Option ℕ) E
    → Type 0
ReadsByte old new (Ok None) = Keeps old new × IsAtEnd new
ReadsByte old new (Ok (Some byte)) = Consumes old new (byte ∷ [])
ReadsByte old new (Err e) = Keeps old new

-- these are the first bytes of a reader, or all if it has fewer
abbrev pub AreFirst : Option (List ℕ) → List ℕ → Type 0
AreFirst known bytes = IfSome known (λ all. bytes ≡ take MOST_READ all)
