-- A meter gets seconds.
use Rattle.std.specs.Prelude.{◌≡◌, ◌⊎◌, ◌<◌, ◌≤◌, ◌+◌, ◌^◌, ℕ, List, [], ◌∷◌, length, Result, Ok, Err, MatchResult}
use Rattle.dlms_serving.specs.Ticks.{AreNext}
use Rattle.dlms_serving.specs.declared.telling.TheConstants.{CATCH_UP}
use Rattle.dlms_serving.specs.declared.ticks.Second.{Second}
use Rattle.dlms_serving.specs.declared.ticks.Ticks.{Ticks}
use Rattle.dlms_meter.specs.declared.meter.Meter.{Meter}
use Rattle.dlms_meter.specs.Steps.{IsCall}
use Rattle.dlms_meter.specs.Steps.Call.{Told as ToldOf}
use Rattle.dlms_pages.specs.declared.device.Pages.{Ghosts}
use Rattle.dlms_state.specs.declared.event.Event.TheVariants.{Pulses, Moment}
use Rattle.dlms_store.specs.declared.fault.AddFault.{AddFault}
use Rattle.dlms_store.specs.declared.fault.AddFault.TheVariants.{Refused}

-- The meter gets the second's pulses on channel 0, and if they were accepted the second itself; if there are no pulses, only the
-- second.
abbrev pub Tells : {P A : Type 0} → {ghosts : Ghosts P} → Meter P A ghosts → Second
    → Result (Unit {0}) AddFault → Meter P A ghosts → Type 0
Tells {P} {A} {ghosts} old second outcome new =
    (second.pulses ≡ 0 → IsCall old (ToldOf (Moment second.moment) outcome) new)
    × (0 < second.pulses → (counted : Result (Unit {0}) AddFault) × (between : Meter P A ghosts)
    × IsCall old (ToldOf (Pulses 0 second.pulses) counted) between
    × MatchResult counted (λ _. IsCall between (ToldOf (Moment second.moment) outcome) new)
    (λ fault. (outcome ≡ Err fault) × (new ≡ between)))

-- the store goes on: the last second was taken, or the table refused it
abbrev pub GoesOn : Result (Unit {0}) AddFault → Type 0
GoesOn (Ok done) = Unit {0}
GoesOn (Err (Refused cause)) = Unit {0}
GoesOn (Err fault) = ⊥

-- The meter gets these seconds, one after another, each of them if its store goes on after the previous outcome. The last outcome
-- counts: that of the last second, or the previous one if there is no second.
abbrev pub TellsEach : {P A : Type 0} → {ghosts : Ghosts P} → Meter P A ghosts
    → Result (Unit {0}) AddFault → List Second → Result (Unit {0}) AddFault → Meter P A ghosts
    → Type 0
TellsEach old said [] outcome new = (new ≡ old) × (outcome ≡ said)
TellsEach {P} {A} {ghosts} old said (second ∷ seconds) outcome new =
    GoesOn said × (told : Result (Unit {0}) AddFault) × (between : Meter P A ghosts)
    × Tells old second told between × TellsEach between told seconds outcome new

-- these seconds came next, and the meter got each of them
pub record Told {P A : Type 0} {ghosts : Ghosts P} (count : ℕ) (before : Ticks)
    (old : Meter P A ghosts) (outcome : Result (Unit {0}) AddFault) (after : Ticks)
    (new : Meter P A ghosts) : Type 0 where
  pub seconds : List Second
  pub counted : length seconds ≡ count
  pub next : AreNext before seconds after
  pub each : TellsEach old (Ok tt) seconds outcome new

-- the meter got every second that has passed, or its running second is the last that there is
abbrev pub IsUpToDate : ℕ → Ticks → Type 0
IsUpToDate elapsed ticks = (elapsed ≤ ticks.told) ⊎ (ticks.first + ticks.told + 1 ≡ 2 ^ 32)

-- A look at the clock: the meter gets the next seconds, at most this many; fewer only if it is up to date then, or its store does
-- not go on.
abbrev pub Looks : {P A : Type 0} → {ghosts : Ghosts P} → ℕ → Ticks → Meter P A ghosts
    → Result (Unit {0}) AddFault → Ticks → Meter P A ghosts → Type 0
Looks elapsed before old outcome after new =
    (count : ℕ) × Told count before old outcome after new × (count ≤ CATCH_UP)
    × (GoesOn outcome → count < CATCH_UP → IsUpToDate elapsed after)
