-- What was tried on a meter, one thing after another. All of this is the project's own.
use Rattle.std.specs.Prelude.{◌≡◌, ◌+◌, ◌<◌, ◌≤◌, ℕ, Bool, true, false, List, [], ◌∷◌, length, All, Result, Ok}
use Rattle.std.specs.declared.alloc.AllocError.{AllocError}
use Rattle.dlms_serving.specs.Guesses.{Proves, Refuses, is_known, may_try, wait_behind}
use Rattle.dlms_serving.specs.declared.guesses.Guesses.{Guesses}
use Rattle.dlms_serving.specs.declared.guesses.Origin.{Origin}

-- The seconds at which addresses were refused that had proved no secret, the latest first. Each was served first, at a second at which it
-- might be, and refused at that second or later. Besides, addresses that had proved one were refused, and some proved one.
pub data Guessed (first : Guesses) : List ℕ → Guesses → Type 0 where
  Begins : Guessed first [] first
  Tries : (seconds : List ℕ) (old new : Guesses) (origin : Origin) (is_patient : Bool)
      (served now : ℕ) (outcome : Result (Unit {0}) AllocError) → Guessed first seconds old
      → may_try old origin is_patient served ≡ true
      → is_known old.proofs.items origin served ≡ false → served ≤ now
      → is_known old.proofs.items origin now ≡ false → Refuses old origin now outcome new
      → Guessed first (now ∷ seconds) new
  KnownTries : (seconds : List ℕ) (old new : Guesses) (origin : Origin) (now : ℕ)
      (outcome : Result (Unit {0}) AllocError) → Guessed first seconds old
      → is_known old.proofs.items origin now ≡ true → Refuses old origin now outcome new
      → Guessed first seconds new
  Knows : (seconds : List ℕ) (old new : Guesses) (origin : Origin) (now : ℕ)
      (outcome : Result (Unit {0}) AllocError) → Guessed first seconds old
      → Proves old origin now outcome new → Guessed first seconds new

-- Whatever addresses were used and whatever was forgotten of them: from any second on there are no more refusals than seconds up to the
-- latest of them.
abbrev pub OneASecond : Type 0
OneASecond = (first last : Guesses) (from latest : ℕ) (seconds : List ℕ)
    → Guessed first (latest ∷ seconds) last → All (λ second. from ≤ second) (latest ∷ seconds)
    → length (latest ∷ seconds) + from ≤ latest + 1

-- After a refusal that is kept an address waits for at least 10 seconds, and for twice as long as before if it is not the first one
-- within four hours, but for no more than 15 minutes: at each second before that it is not served, unless it has proved a secret or
-- is patient.
abbrev pub RefusalIsWaitedFor : Type 0
RefusalIsWaitedFor = (old new : Guesses) (origin : Origin) (now at : ℕ)
    → Refuses {E = AllocError} old origin now (Ok tt) new
    → is_known new.proofs.items origin at ≡ false
    → at < now + wait_behind old.marks.items origin now
    → wait_behind old.marks.items origin now ≤ 900
    → may_try new origin false at ≡ false
