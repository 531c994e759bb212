-- Seats become free.
use Rattle.std.proofs.Common.{◌≡◌, Option, Some, None, arith, refl}
use Rattle.dlms_fleet.specs.Alone.{FreesSeats, jobs_on}
use Rattle.dlms_fleet.specs.Inputs.{Input}
use Rattle.dlms_fleet.specs.Runs.{own}
use Rattle.dlms_fleet.specs.Seats.{seat_of}
use Rattle.dlms_fleet.specs.declared.job.JobStep.{JobStep}
use Rattle.dlms_fleet.specs.declared.running.Running.{Running}
use Rattle.dlms_fleet.proofs.Alone.{each_alone}
use Rattle.dlms_fleet.proofs.Ends.{ends_once, in_time}

no_job : {T : Type 0} (seat : Option (Running T)) → jobs_on seat ≡ 0 → seat ≡ None
no_job None none = refl
no_job (Some running) none = absurd (omega (arith, none))

pub frees_seats : {T M E : Type 0} (steps : T → Input → JobStep M E → T → Type 0) → FreesSeats steps
frees_seats steps old new events run seat over =
    let alone = each_alone steps old new events run seat in
    let ended = in_time steps old.limits (seat_of old.seats seat) (seat_of new.seats seat) (own seat events) alone over in
    let once = ends_once steps old.limits (seat_of old.seats seat) (seat_of new.seats seat) (own seat events) alone in
    (ended, λ none. no_job (seat_of new.seats seat) (omega (arith, ended, once, none)))
