-- The guards of protected associations: each is asked for, and then what it has accepted from the meter is kept.
use Rattle.std.specs.Prelude.{◌≡◌, ℕ, List, Option, Some, None, Result, Ok, Err}
use Rattle.dlms_ends.specs.Carried.{accepted_by, peer_of}
use Rattle.dlms_ends.specs.PollEnds.{PollEndValue}
use Rattle.dlms_ends.specs.declared.fault.RunFault.{RunFault}
use Rattle.dlms_lines.specs.Watching.{Sight}
use Rattle.dlms_polling.specs.declared.guards.Accepted.{Accepted}
use Rattle.dlms_secured.specs.Guard.{GuardValue}

-- A guard was asked for, and this one was given, or none for this fault; or
-- what a guard had accepted was kept, or refused with this fault.
pub data Guarding : Type 0 where
  Gives : (guard : Result GuardValue RunFault) → Guarding
  Keeps : (accepted : Accepted) (fault : Option RunFault) → Guarding

abbrev pub guard_in : {G : Type 0} → Result G RunFault → (G → GuardValue)
    → Result GuardValue RunFault
guard_in (Ok guard) value = Ok (value guard)
guard_in (Err fault) value = Err fault

-- ---- what a guard accepted

-- nothing yet
abbrev pub nothing : Accepted
nothing = record { title = None; oldest = None; latest = None }

-- the counter that was accepted first, after another read: the same as before, if there was one
abbrev pub oldest_after : Option ℕ → PollEndValue → Option ℕ
oldest_after None t = accepted_by t.poll.carrier.guard
oldest_after (Some counter) t = Some counter

-- what the guard of a poll has accepted, if this counter was accepted first
abbrev pub accepted_of : Option ℕ → PollEndValue → Accepted
accepted_of oldest t = record {
  title = peer_of t.poll.carrier.guard;
  oldest = oldest;
  latest = accepted_by t.poll.carrier.guard;
}

-- ---- beside the other questions to the world

-- the known questions to the world, and to what gives the guards
pub record Watch : Type 0 where
  pub seen : Option (List Sight)
  pub given : Option (List Guarding)

abbrev pub watch : Option (List Sight) → Option (List Guarding) → Watch
watch seen given = record { seen = seen; given = given }

-- no guard was asked for, and none kept
abbrev pub AsksNoGuard : Watch → Watch → Type 0
AsksNoGuard before after = after.given ≡ before.given
