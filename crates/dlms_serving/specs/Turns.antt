-- When a connection's turn on the meter's line is over. The time without an answer is the inactivity time-out of the class IEC HDLC
-- setup (Blue Book 4.7.2); the others are this project's own, so that a client that waits after n others has the line within n
-- times the longest turn.
use Rattle.std.specs.Prelude.{◌≡◌, ◌+◌, ◌≤◌, ◌<◌, ℕ, Option, Some, None}
use Rattle.dlms_serving.specs.declared.talking.Rules.{Rules}
use Rattle.dlms_serving.specs.declared.turns.Turn.{Turn}
use Rattle.dlms_serving.specs.declared.turns.Over.{Over}
use Rattle.dlms_serving.specs.declared.turns.Over.TheVariants.{Refused, Inactive, Idle, Long}

-- another connection waits since this second
abbrev pub WaitsSince : Turn → ℕ → Type 0
WaitsSince turn since = turn.waited ≡ Some since

-- the turn is over at this second for this reason
abbrev pub IsOver : Rules → Turn → ℕ → Over → Type 0
IsOver rules turn now Refused = rules.refusals ≤ turn.tries.refusals
IsOver rules turn now Inactive = turn.answered + rules.times.inactivity ≤ now
IsOver rules turn now Idle = (since : ℕ) × WaitsSince turn since
    × (turn.held + rules.times.idle ≤ now)
IsOver rules turn now Long = (since : ℕ) × WaitsSince turn since
    × (since + rules.times.longest ≤ now)

-- the reasons in the order in which they are reported
abbrev pub place_of : Over → ℕ
place_of Refused = 0
place_of Inactive = 1
place_of Idle = 2
place_of Long = 3

-- the report on a turn at this second: the first reason for which it is over, and none only if it is over for no reason
abbrev pub Tells : Rules → Turn → ℕ → Option Over → Type 0
Tells rules turn now (Some why) = IsOver rules turn now why
    × ((other : Over) → place_of other < place_of why → IsOver rules turn now other → ⊥)
Tells rules turn now None = (why : Over) → IsOver rules turn now why → ⊥
