-- A number is kept, and the example is a run.
use Rattle.std.proofs.Common.{◌≡◌, ◌∙◌, ap, refl, subst, ℕ, List, [], ◌∷◌, Option, Some, None}
use Rattle.dlms_fleet.specs.Alone.{JobRun, SeatRun}
use Rattle.dlms_fleet.specs.Example.{two_ticks}
use Rattle.dlms_fleet.specs.Inputs.{Input}
use Rattle.dlms_fleet.specs.Numbers.{KeepsNumbers, NumberedSteps, OneIsDone, numbered}
use Rattle.dlms_fleet.specs.Runs.{Own}
use Rattle.dlms_fleet.specs.Runs.Own.{Moved}
use Rattle.dlms_fleet.specs.RunningJob.{new_running}
use Rattle.dlms_fleet.specs.RunningJob.MomentValue.{Connected, Came}
use Rattle.dlms_fleet.specs.Seats.{FleetValue, seat_of}
use Rattle.dlms_fleet.specs.declared.fleet.FleetStep.TheVariants as told
use Rattle.dlms_fleet.specs.declared.job.JobStep.{JobStep}
use Rattle.dlms_fleet.specs.declared.job.JobStep.TheVariants as taken
use Rattle.dlms_fleet.specs.declared.numbered.Numbered.{Numbered}
use Rattle.dlms_fleet.specs.declared.running.Outcome.TheVariants as outcome
use Rattle.dlms_fleet.specs.declared.running.Phase.TheVariants.{Asking}
use Rattle.dlms_fleet.specs.declared.running.Running.{Running}
use Rattle.dlms_fleet.specs.declared.running.Step.TheVariants as step
use Rattle.dlms_fleet.proofs.Alone.{each_alone}
use Rattle.dlms_fleet.proofs.Ends.{ends_by_its_steps}

-- the job's own steps, and its number
own_run : {T M E : Type 0} (steps : T → Input → JobStep M E → T → Type 0) (job result : Numbered T) (all : List (Input × JobStep M E))
    → JobRun (NumberedSteps steps) job all result → (result.number ≡ job.number) × JobRun steps job.job all result.job
own_run {T} steps job result [] same = (ap (λ (n : Numbered T). n.number) same, ap (λ (n : Numbered T). n.job) same)
own_run steps job result (one ∷ all) (mid, takes, run) =
    let rest = own_run steps mid result all run in (rest.0 ∙ takes.1, (mid.job, takes.0, rest.1))

pub keeps_numbers : {T M E : Type 0} (steps : T → Input → JobStep M E → T → Type 0) → KeepsNumbers steps
keeps_numbers {T} {M} {E} steps old new events seat job result outcome run back =
    let alone = each_alone (NumberedSteps steps) old new events run seat in
    let mine = subst (λ (own : List (Own (Numbered T) M E)). SeatRun (NumberedSteps steps) old.limits (seat_of old.seats seat) own (seat_of new.seats seat)) back.on_seat alone in
    let led = ends_by_its_steps (NumberedSteps steps) old.limits (seat_of old.seats seat) (seat_of new.seats seat) back.before back.since back.after job back.at outcome result mine back.runs_on in
    let mine_alone = own_run steps job result led.0 led.1 in
    (mine_alone.0, (led.0, mine_alone.1, led.2))

-- ---- the example

abbrev with_two : Option (Running (Numbered ℕ)) → Option (Running (Numbered ℕ)) → FleetValue (Numbered ℕ)
with_two first second = record { limits = two_ticks; seats = first ∷ second ∷ [] }

abbrev fresh : ℕ → ℕ → Option (Running (Numbered ℕ))
fresh number job = Some (new_running two_ticks (numbered number job))

abbrev asking : ℕ → Running (Numbered ℕ)
asking job = record { job = numbered 6 job; phase = Asking 1; left = 2 }

pub one_is_done : OneIsDone
one_is_done = (
  with_two (fresh 5 1) None,
  (
    with_two (fresh 5 1) None,
    (refl, refl),
    (
      with_two (fresh 5 1) (fresh 6 2),
      (refl, refl),
      (
        with_two (fresh 5 1) (Some (asking 2)),
        record {
          seat = Some (asking 2);
          own = record { made = step.Sends 7; running = asking 2; runs = record { own = taken.Sends 7; takes = ((refl, refl), refl); makes = (refl, refl); left = refl }; keeps = (refl, refl) };
          others = refl;
        },
        (
          with_two (fresh 5 1) None,
          record {
            seat = None;
            own = record { made = step.Ends outcome.Done; running = asking 9; runs = record { own = taken.Done; takes = ((refl, refl), refl); makes = (refl, refl); left = refl }; keeps = (refl, refl) };
            others = refl;
          },
          refl,
        ),
      ),
    ),
  ),
  record { before = []; since = Moved Connected (told.Sends 7) ∷ []; at = Came (9 ∷ []); after = []; on_seat = refl; runs_on = refl },
)
