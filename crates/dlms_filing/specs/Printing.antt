-- Printed texts.
use Rattle.std.specs.Prelude.{◌≡◌, ◌⊎◌, ℕ, List, [], ◌∷◌, ◌++◌, Option, Result, Ok, Err, IfOk}
use Rattle.std.specs.Io.KnownBytes.{Appends, Keeps}
use Rattle.dlms_ends.specs.Moments.{Moment, Adds, Breaks}
use Rattle.dlms_ends.specs.Moments.Moment.{Went}

-- The moments of an output, one after another, and the part of them that was flushed; and the bytes that it has: each if it is
-- known.
pub record Printed : Type 0 where
  pub moments : Option (List Moment)
  pub flushed : Option (List Moment)
  pub bytes : Option (List ℕ)

-- all that went out was flushed
abbrev pub IsFlushed : Printed → Type 0
IsFlushed printed = printed.flushed ≡ printed.moments

-- these bytes went out
abbrev pub GoesOut : Printed → Printed → List ℕ → Type 0
GoesOut old new bytes = Adds old.moments new.moments (Went bytes ∷ [])
    × Appends old.bytes new.bytes bytes

-- the output failed after a part of them
abbrev pub GoesOutInPart : Printed → Printed → List ℕ → Type 0
GoesOutInPart old new bytes = Breaks old.moments new.moments bytes × (part : List ℕ)
    × (missing : List ℕ) × (part ++ missing ≡ bytes) × Appends old.bytes new.bytes part

-- these bytes went out, and were flushed
abbrev pub Prints : Printed → Printed → List ℕ → Type 0
Prints old new bytes = GoesOut old new bytes × IsFlushed new

-- nothing went out
abbrev pub PrintsNothing : Printed → Printed → Type 0
PrintsNothing old new = Adds old.moments new.moments [] × Keeps old.bytes new.bytes

-- the output failed after a part of them, or was not flushed
abbrev pub PrintsPart : Printed → Printed → List ℕ → Type 0
PrintsPart old new bytes = GoesOutInPart old new bytes ⊎ GoesOut old new bytes

-- what comes of bytes that are to go out
abbrev pub Outputs : {T E : Type 0} → Printed → Printed → List ℕ → Result T E → Type 0
Outputs old new bytes (Ok done) = GoesOut old new bytes
Outputs old new bytes (Err e) = GoesOutInPart old new bytes

-- nothing more goes out; what went out is flushed, or that failed
pub record Flushes {T E : Type 0} (old new : Printed) (result : Result T E) : Type 0 where
  pub moments : new.moments ≡ old.moments
  pub bytes : Keeps old.bytes new.bytes
  pub flushed : IfOk result (λ _. IsFlushed new)

-- what comes of bytes that are to be printed
abbrev pub PrintsAs : {T E : Type 0} → Printed → Printed → List ℕ → Result T E → Type 0
PrintsAs old new bytes (Ok done) = Prints old new bytes
PrintsAs old new bytes (Err e) = PrintsPart old new bytes
