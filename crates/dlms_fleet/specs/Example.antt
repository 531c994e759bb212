-- A run to which the laws apply: two jobs on two seats.
use Rattle.std.specs.Prelude.{◌≡◌, ℕ, List, [], ◌∷◌, Some, None, max}
use Rattle.dlms_fleet.specs.Alone.{ends, ticks}
use Rattle.dlms_fleet.specs.Inputs.{Input}
use Rattle.dlms_fleet.specs.Inputs.Input.{Begins, Reads, TimesOut}
use Rattle.dlms_fleet.specs.Runs.{Event, FleetRun, own}
use Rattle.dlms_fleet.specs.Runs.Event.{Moves, Starts}
use Rattle.dlms_fleet.specs.RunningJob.{new_running}
use Rattle.dlms_fleet.specs.RunningJob.MomentValue.{Connected, Came, Ticked}
use Rattle.dlms_fleet.specs.Seats.{FleetValue, empty_fleet}
use Rattle.dlms_fleet.specs.declared.fleet.FleetStep.TheVariants as told
use Rattle.dlms_fleet.specs.declared.job.JobStep.{JobStep}
use Rattle.dlms_fleet.specs.declared.job.JobStep.TheVariants as taken
use Rattle.dlms_fleet.specs.declared.running.Limits.{Limits}
use Rattle.dlms_fleet.specs.declared.running.Outcome.TheVariants as outcome

-- a job that is a number: it sends 7, and is done, as the first bytes arrive, with their first one
abbrev pub Asks : ℕ → Input → JobStep ℕ ℕ → ℕ → Type 0
Asks old Begins step new = (step ≡ taken.Sends 7) × (new ≡ old)
Asks old (Reads []) step new = (step ≡ taken.Nothing) × (new ≡ old)
Asks old (Reads (byte ∷ bytes)) step new = (step ≡ taken.Done) × (new ≡ byte)
Asks old TimesOut step new = (step ≡ taken.Nothing) × (new ≡ old)

abbrev pub two_ticks : Limits
two_ticks = record { deadline = 2; quiet = 0; answer = 1 }

-- two jobs start; the first sends, bytes arrive, and it is done; a third starts on its seat, and two ticks end the second
abbrev pub example : List (Event ℕ ℕ ℕ)
example =
    Starts 0 1 ∷ Starts 1 2 ∷ Moves 0 Connected (told.Sends 7)
    ∷ Moves 0 (Came (9 ∷ [])) (told.Ends outcome.Done 9) ∷ Starts 0 3 ∷ Moves 1 Ticked told.Nothing
    ∷ Moves 1 Ticked (told.Ends outcome.Late 2) ∷ []

abbrev pub example_end : FleetValue ℕ
example_end =
    record { limits = two_ticks; seats = Some (new_running two_ticks 3) ∷ None ∷ [] }

abbrev pub ExampleIsRun : Type 0
ExampleIsRun = FleetRun Asks (empty_fleet two_ticks 2) example example_end

-- on the first seat two jobs started and one ended; the second had its two ticks
abbrev pub ExampleEnds : Type 0
ExampleEnds = (ends (own 0 example) ≡ 1) × (ticks (own 1 example) ≡ max two_ticks.deadline 1)
    × (ends (own 1 example) ≡ 1)
