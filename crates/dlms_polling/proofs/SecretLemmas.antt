-- The first bytes of a reader.
use Rattle.std.proofs.Common.{ap, sym, ◌∙◌, ◌≡◌, ℕ, List, ◌++◌, length, take}
use Rattle.std.specs.Prelude.{Option, Some, None}
use Rattle.std.specs.Io.KnownBytes.{Consumes}
use Rattle.std.proofs.Math.Seq.{take-append_seam}
use Rattle.dlms_polling.specs.FirstBytes.{AreFirst}
use Rattle.dlms_polling.specs.declared.secret.TheConstants.{MOST_READ}

-- the bytes read, this many, are the first ones
pub first_taken : (known rest : Option (List ℕ)) (bytes : List ℕ) → length bytes ≡ MOST_READ → Consumes known rest bytes → AreFirst known bytes
first_taken None rest bytes full consumes = tt
first_taken (Some all) None bytes full consumes = absurd consumes
first_taken (Some all) (Some rest) bytes full consumes =
    sym (ap (take MOST_READ) consumes ∙ ap (λ (n : ℕ). take n (bytes ++ rest)) (sym full) ∙ take-append_seam bytes rest)
