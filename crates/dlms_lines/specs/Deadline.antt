-- The deadline of a poll.
use Rattle.std.specs.Prelude.{◌≡◌, ◌≤◌, ◌-◌, ◌==◌, ℕ, Bool, true, false, min, Option, Some, None, if◌then◌else◌}
use Rattle.std.specs.declared.time.Instant.{Instant}
use Rattle.dlms_lines.specs.Steady.{seconds_between}
use Rattle.dlms_lines.specs.declared.deadline.Deadline.{Deadline}
use Rattle.dlms_lines.specs.declared.meter_line.TheConstants.{CONNECT_SECONDS}

-- this many seconds have passed since the poll began, and it may take no longer
abbrev pub IsOver : (seconds elapsed : ℕ) → Type 0
IsOver seconds elapsed = seconds ≤ elapsed

-- the seconds that are left at a moment until a deadline
abbrev pub left_at : Deadline → Instant → ℕ
left_at deadline now = deadline.seconds - seconds_between deadline.start now

-- the seconds to wait for a connection if this many are left; none if none are
abbrev pub wait_within : ℕ → Option ℕ
wait_within left = if left == 0 then None else Some (min left CONNECT_SECONDS)

-- a line that has a deadline has one of this many seconds, and another line none
abbrev pub IsUntil : Bool → ℕ → Option Deadline → Type 0
IsUntil true seconds None = ⊥
IsUntil true seconds (Some deadline) = deadline.seconds ≡ seconds
IsUntil false seconds until = until ≡ None
