-- The clock of a state and of an outlook, and what one event does to it. Private functions alone speak of it.
use Rattle.std.specs.Prelude.{ℕ, ℤ, pos, ◌+ℤ◌, ◌≤ℤ◌}
use Rattle.dlms_state.specs.declared.clock.Clock.{Clock}
use Rattle.dlms_state.specs.declared.event.Event.{Event}
use Rattle.dlms_state.specs.declared.event.Event.TheVariants.{Moment}
use Rattle.dlms_state.specs.Events.{offset_by}
use Rattle.dlms_state.specs.declared.event.TheConstants.{LAST_SECOND}

-- it shows a second of its range
pub record IsInRange (last : ℕ) (offset : ℤ) : Type 0 where
  pub not_before : pos 0 ≤ℤ (pos last +ℤ offset)
  pub not_after : (pos last +ℤ offset) ≤ℤ pos LAST_SECOND

-- a moment is the last one then; the other events change what is added to it
abbrev pub clock_step : Event → Clock → Clock
clock_step (Moment t) c = record c { last = t }
clock_step e c = record c { offset = offset_by e c.last c.offset }
