-- A head end's line to a meter, which does not wait for ever.
use Rattle.std.specs.Prelude.{◌≡◌, ◌<◌, ◌||◌, ◌==◌, ℕ, Bool, true, false, nat_le, Option, Some, None, Result, Ok, Err, IsErrAnd, if◌then◌else◌}
use Rattle.std.specs.IoError.{error_kind}
use Rattle.std.specs.declared.io.Error.{Error}
use Rattle.std.specs.declared.io.ErrorKind.{ErrorKind}
use Rattle.std.specs.declared.io.ErrorKind.TheVariants.{Interrupted, TimedOut, UnexpectedEof, WouldBlock}
use Rattle.std.specs.declared.time.Instant.{Instant}
use Rattle.dlms_lines.specs.Deadline.{left_at}
use Rattle.dlms_lines.specs.Steady.{seconds_between}
use Rattle.dlms_lines.specs.declared.deadline.Deadline.{Deadline}

-- a deadline is over at a moment, if there is one
abbrev pub is_late : Option Deadline → Instant → Bool
is_late None now = false
is_late (Some deadline) now = left_at deadline now == 0

-- Nothing more is waited for at a moment: this many seconds have passed since something was sent, whatever has come since; or the
-- deadline is over.
abbrev pub is_silent : (sent : Instant) (wait : ℕ) (until : Option Deadline) (now : Instant) → Bool
is_silent sent wait until now = nat_le wait (seconds_between sent now) || is_late until now

-- what a read tells: a stream that has ended is an error
abbrev pub IsHeard : Result ℕ Error → Result ℕ Error → Type 0
IsHeard (Ok count) result = (count ≡ 0 → IsErrAnd result (λ e. error_kind e ≡ UnexpectedEof))
    × (0 < count → result ≡ Ok count)
IsHeard (Err e) result = result ≡ Err e

-- an error is why the line failed, unless a call would wait, or was interrupted
abbrev pub is_failure : ErrorKind → Bool
is_failure WouldBlock = false
is_failure TimedOut = false
is_failure Interrupted = false
is_failure _ = true

-- why the line failed, after a call
abbrev pub failure_behind : {T : Type 0} → Option Error → Result T Error → Option Error
failure_behind failure (Ok done) = failure
failure_behind failure (Err e) = if is_failure (error_kind e) then Some e else failure

-- A read at this time: if nothing more is waited for, it reports that, and the stream is not read; otherwise it is, and an error is
-- kept.
abbrev pub ReadsAt : {S : Type 0}
    → (sent : Instant) (wait : ℕ) (until : Option Deadline) (said : Result Instant Error)
    (stream : S)
    (failure : Option Error) → Result ℕ Error → (stream' : S) (failure' : Option Error) → Type 0
ReadsAt sent wait until (Ok now) stream failure result stream' failure' =
    (is_silent sent wait until now ≡ true
    → IsErrAnd result (λ e. error_kind e ≡ TimedOut) × (stream' ≡ stream)
    × (failure' ≡ failure))
    × (is_silent sent wait until now ≡ false → failure' ≡ failure_behind failure result)
ReadsAt sent wait until (Err e) stream failure result stream' failure' = (result ≡ Err e)
    × (stream' ≡ stream) × (failure' ≡ failure)

-- A write at this time: the time for an answer begins then, and an error is kept.
abbrev pub WritesAt : {S : Type 0}
    → (sent : Instant) (said : Result Instant Error) (stream : S) (failure : Option Error)
    → Result ℕ Error → (sent' : Instant) (stream' : S) (failure' : Option Error) → Type 0
WritesAt sent (Ok now) stream failure result sent' stream' failure' = (sent' ≡ now)
    × (failure' ≡ failure_behind failure result)
WritesAt sent (Err e) stream failure result sent' stream' failure' = (result ≡ Err e)
    × (sent' ≡ sent) × (stream' ≡ stream) × (failure' ≡ failure)
