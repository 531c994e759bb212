-- A meter's life: runs of calls, and stops of the power and recoveries between them.
use Rattle.std.specs.Prelude.{◌≡◌, ℕ, List, [], ◌∷◌, ◌++◌, take}
use Rattle.dlms_state.specs.declared.event.Event.{Event}
use Rattle.dlms_store.specs.World.{StoreWorld, StoreStep, StoreRun, IsQuiet, IsRecovered}
use Rattle.dlms_store.specs.World.StoreWorld.{Rests}
use Rattle.dlms_store.specs.World.StoreStep.{Stops, Opens}
use Rattle.dlms_meter.specs.Run.{MeterWorld, first_world, recovered}
use Rattle.dlms_meter.specs.Steps.{Step, Leads, Run}
use Rattle.dlms_meter.specs.Storing.{steps_in, store_steps}

-- A run of whole calls; how far the store came in the call that was cut off after them, if any; the stops, closes and failed
-- recoveries after it; and the events that a recovery finally found.
pub record Leg : Type 0 where
  pub steps : List Step
  pub cut : List StoreStep
  pub quiet : List StoreStep
  pub found : List Event

-- these are the first of the store's steps in a call from here
abbrev pub IsCutOff : MeterWorld → List StoreStep → Type 0
IsCutOff w cut = (step : Step) × (mid : MeterWorld) × (leads : Leads w step mid) × (count : ℕ)
    × (cut ≡ take count (steps_in w step mid leads))

pub record IsLeg (w : MeterWorld) (leg : Leg) : Type 0 where
  pub last : MeterWorld
  pub now : StoreWorld
  pub run : Run w leg.steps last
  pub cut_off : IsCutOff last leg.cut
  pub quiet : IsQuiet leg.quiet
  pub store : StoreRun last.store (leg.cut ++ leg.quiet ++ Opens leg.found ∷ []) now

-- one after another, each from what the recovery before it found
abbrev pub Lives : MeterWorld → List Leg → MeterWorld → Type 0
Lives w [] w' = w' ≡ w
Lives w (leg ∷ legs) w' = IsLeg w leg × Lives (recovered leg.found) legs w'

-- what the store did before a leg's recovery
abbrev pub before_recovery : (w : MeterWorld) (leg : Leg) → IsLeg w leg → List StoreStep
before_recovery w leg is = store_steps w leg.steps is.last is.run ++ leg.cut ++ leg.quiet

-- and in all legs
abbrev pub life_steps : (w : MeterWorld) (legs : List Leg) (w' : MeterWorld) → Lives w legs w'
    → List StoreStep
life_steps w [] w' lives = []
life_steps w (leg ∷ legs) w' (is, lives) = (before_recovery w leg is ++ Opens leg.found ∷ [])
    ++ life_steps (recovered leg.found) legs w' lives

-- Whatever came to a formatted meter, wherever the power stopped, also in a recovery: a recovery finds a beginning of the accepted
-- events, with every event that was settled before an answer, and at most one page of records less.
abbrev pub RecoversInLives : Type 0
RecoversInLives = (w : MeterWorld) (legs : List Leg) (lives : Lives first_world legs w) (leg : Leg)
    (is : IsLeg w leg)
    → IsRecovered (life_steps first_world legs w lives ++ before_recovery w leg is) leg.found

-- The first stop fixes what every later recovery finds, whatever stops, closes and faults come between.
abbrev pub NoFurtherStopInLives : Type 0
NoFurtherStopInLives = (w last : MeterWorld) (legs : List Leg) (steps : List Step)
    (cut quiet : List StoreStep) (at_stop now : StoreWorld) (found : List Event)
    → Lives first_world legs w → Run w steps last → IsCutOff last cut
    → StoreRun last.store (cut ++ Stops ∷ []) at_stop
    → IsQuiet quiet → StoreRun at_stop (quiet ++ Opens found ∷ []) now → at_stop ≡ Rests found
