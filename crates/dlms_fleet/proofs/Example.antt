-- The example is a run.
use Rattle.std.proofs.Common.{ℕ, [], ◌∷◌, Option, Some, None, refl}
use Rattle.dlms_fleet.specs.Example.{ExampleIsRun, two_ticks}
use Rattle.dlms_fleet.specs.RunningJob.{new_running}
use Rattle.dlms_fleet.specs.Seats.{FleetValue}
use Rattle.dlms_fleet.specs.declared.job.JobStep.TheVariants as taken
use Rattle.dlms_fleet.specs.declared.running.Outcome.TheVariants as outcome
use Rattle.dlms_fleet.specs.declared.running.Phase.TheVariants.{Asking, Connecting}
use Rattle.dlms_fleet.specs.declared.running.Running.{Running}
use Rattle.dlms_fleet.specs.declared.running.Step.TheVariants as step

abbrev with_two : Option (Running ℕ) → Option (Running ℕ) → FleetValue ℕ
with_two first second = record { limits = two_ticks; seats = first ∷ second ∷ [] }

abbrev fresh : ℕ → Option (Running ℕ)
fresh job = Some (new_running two_ticks job)

abbrev asking : ℕ → Running ℕ
asking job = record { job = job; phase = Asking 1; left = 2 }

abbrev late : Running ℕ
late = record { job = 2; phase = Connecting; left = 1 }

pub example_is_run : ExampleIsRun
example_is_run = (
  with_two (fresh 1) None,
  (refl, refl),
  (
    with_two (fresh 1) (fresh 2),
    (refl, refl),
    (
      with_two (Some (asking 1)) (fresh 2),
      record {
        seat = Some (asking 1);
        own = record { made = step.Sends 7; running = asking 1; runs = record { own = taken.Sends 7; takes = (refl, refl); makes = (refl, refl); left = refl }; keeps = (refl, refl) };
        others = refl;
      },
      (
        with_two None (fresh 2),
        record {
          seat = None;
          own = record { made = step.Ends outcome.Done; running = asking 9; runs = record { own = taken.Done; takes = (refl, refl); makes = (refl, refl); left = refl }; keeps = (refl, refl) };
          others = refl;
        },
        (
          with_two (fresh 3) (fresh 2),
          (refl, refl),
          (
            with_two (fresh 3) (Some late),
            record {
              seat = Some late;
              own = record { made = step.Nothing; running = late; runs = (refl, refl); keeps = (refl, refl) };
              others = refl;
            },
            (
              with_two (fresh 3) None,
              record {
                seat = None;
                own = record { made = step.Ends outcome.Late; running = late; runs = (refl, refl); keeps = (refl, refl) };
                others = refl;
              },
              refl,
            ),
          ),
        ),
      ),
    ),
  ),
)
