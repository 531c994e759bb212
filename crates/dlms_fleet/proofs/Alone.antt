-- On each seat there is a run of that seat alone.
use Rattle.std.proofs.Common.{◌≡◌, ◌≢◌, ◌⊎◌, inl, inr, ℕ, zero, suc, true, false, List, length, [], ◌∷◌, Option, Some, None, slice_set, refl, sym, ap, subst, ◌∙◌, eqb}
use Rattle.std.proofs.lemmas.Bool.Decides.{eqb_tells}
use Rattle.std.proofs.lemmas.List.{get_or-set_other, length-set}
use Rattle.dlms_fleet.specs.Alone.{IsAlone, KeepsSeats, SeatRun}
use Rattle.dlms_fleet.specs.Inputs.{Input}
use Rattle.dlms_fleet.specs.Runs.{Event, Own, own, own_of}
use Rattle.dlms_fleet.specs.RunningJob.{MomentValue, new_running}
use Rattle.dlms_fleet.specs.Seats.{FleetSteps, FleetValue, SeatSteps, is_free, seat_of, started}
use Rattle.dlms_fleet.specs.declared.fleet.FleetStep.{FleetStep}
use Rattle.dlms_fleet.specs.declared.job.JobStep.{JobStep}
use Rattle.dlms_fleet.specs.declared.running.Limits.{Limits}
use Rattle.dlms_fleet.specs.declared.running.Running.{Running}

abbrev Tells : ℕ → ℕ → Type 0
Tells a b = ((eqb a b ≡ true) × (a ≡ b)) ⊎ ((eqb a b ≡ false) × (a ≢ b))

-- ---- a start

free_seat : {T : Type 0} (seats : List (Option (Running T))) (n : ℕ) → is_free seats n ≡ true → seat_of seats n ≡ None
free_seat [] n free = refl
free_seat (None ∷ seats) zero free = refl
free_seat (Some running ∷ seats) zero free = absurd (cc free)
free_seat (first ∷ seats) (suc n) free = free_seat seats n free

taken_seat : {T : Type 0} (seats : List (Option (Running T))) (n : ℕ) (running : Running T) → is_free seats n ≡ true → seat_of (slice_set seats n (Some running)) n ≡ Some running
taken_seat [] n running free = absurd (cc free)
taken_seat (first ∷ seats) zero running free = refl
taken_seat (first ∷ seats) (suc n) running free = taken_seat seats n running free

at_starts : {T M E : Type 0} (steps : T → Input → JobStep M E → T → Type 0) (old mid : FleetValue T) (to : Option (Running T)) (number : ℕ) (job : T) (seat : ℕ) (rest : List (Own T M E))
    → is_free old.seats number ≡ true → mid ≡ started old number job → SeatRun steps mid.limits (seat_of mid.seats seat) rest to → Tells number seat
    → SeatRun steps old.limits (seat_of old.seats seat) (own_of seat (Event.Starts number job) rest) to
at_starts {T} steps old mid to number job seat rest free same run tells =
    let taken = subst (λ (f : FleetValue T). SeatRun steps f.limits (seat_of f.seats seat) rest to) same run in
    by_test taken tells
  where
    by_test : SeatRun steps old.limits (seat_of (slice_set old.seats number (Some (new_running old.limits job))) seat) rest to → Tells number seat
        → SeatRun steps old.limits (seat_of old.seats seat) (own_of seat (Event.Starts number job) rest) to
    by_test taken (inl (test, is)) =
        let there = subst (λ (n : ℕ). seat_of (slice_set old.seats number (Some (new_running old.limits job))) n ≡ Some (new_running old.limits job)) is (taken_seat old.seats number (new_running old.limits job) free) in
        rw test (
          subst (λ (n : ℕ). seat_of old.seats n ≡ None) is (free_seat old.seats number free),
          subst (λ (s : Option (Running T)). SeatRun steps old.limits s rest to) there taken,
        )
    by_test taken (inr (test, apart)) =
        rw test (subst (λ (s : Option (Running T)). SeatRun steps old.limits s rest to) (get_or-set_other old.seats number seat (Some (new_running old.limits job)) None (λ e. apart (sym e))) taken)

-- ---- a moment

-- a number past the end has a free seat, which stays free
past_stays : {T M E : Type 0} (steps : T → Input → JobStep M E → T → Type 0) (limits : Limits) (old : Option (Running T)) (at : MomentValue) (result : FleetStep T M E) (new : Option (Running T))
    → old ≡ None → SeatSteps steps limits old at result new → new ≡ None
past_stays steps limits None at result new e own = own.1
past_stays steps limits (Some running) at result new e own = absurd (cc e)

seat_set : {T : Type 0} (seats : List (Option (Running T))) (n : ℕ) (new : Option (Running T)) → (seat_of seats n ≡ None → new ≡ None) → seat_of (slice_set seats n new) n ≡ new
seat_set [] n new past = sym (past refl)
seat_set (first ∷ seats) zero new past = refl
seat_set (first ∷ seats) (suc n) new past = seat_set seats n new past

at_moves : {T M E : Type 0} (steps : T → Input → JobStep M E → T → Type 0) (old mid : FleetValue T) (to : Option (Running T)) (number : ℕ) (at : MomentValue) (result : FleetStep T M E) (seat : ℕ) (rest : List (Own T M E))
    → FleetSteps steps old number at result mid → SeatRun steps mid.limits (seat_of mid.seats seat) rest to → Tells number seat
    → SeatRun steps old.limits (seat_of old.seats seat) (own_of seat (Event.Moves number at result) rest) to
at_moves {T} steps old mid to number at result seat rest moves run tells =
    let left = subst (λ (f : FleetValue T). SeatRun steps f.limits (seat_of f.seats seat) rest to) moves.others run in
    by_test left tells
  where
    by_test : SeatRun steps old.limits (seat_of (slice_set old.seats number moves.seat) seat) rest to → Tells number seat
        → SeatRun steps old.limits (seat_of old.seats seat) (own_of seat (Event.Moves number at result) rest) to
    by_test left (inl (test, same)) =
        let own = subst (λ (n : ℕ). SeatSteps steps old.limits (seat_of old.seats n) at result moves.seat) same moves.own in
        let there = seat_set old.seats seat moves.seat (λ e. past_stays steps old.limits (seat_of old.seats seat) at result moves.seat e own) in
        rw test (moves.seat, own, subst (λ (s : Option (Running T)). SeatRun steps old.limits s rest to) (ap (λ (n : ℕ). seat_of (slice_set old.seats n moves.seat) seat) same ∙ there) left)
    by_test left (inr (test, apart)) =
        rw test (subst (λ (s : Option (Running T)). SeatRun steps old.limits s rest to) (get_or-set_other old.seats number seat moves.seat None (λ e. apart (sym e))) left)

pub each_alone : {T M E : Type 0} (steps : T → Input → JobStep M E → T → Type 0) → IsAlone steps
each_alone steps old new [] run seat = ap (λ f. seat_of f.seats seat) run
each_alone steps old new (Event.Starts number job ∷ events) (mid, starts, run) seat =
    at_starts steps old mid (seat_of new.seats seat) number job seat (own seat events) starts.0 starts.1 (each_alone steps mid new events run seat) (eqb_tells number seat)
each_alone steps old new (Event.Moves number at result ∷ events) (mid, moves, run) seat =
    at_moves steps old mid (seat_of new.seats seat) number at result seat (own seat events) moves (each_alone steps mid new events run seat) (eqb_tells number seat)

-- ---- the seats stay

pub keeps_seats : {T M E : Type 0} (steps : T → Input → JobStep M E → T → Type 0) → KeepsSeats steps
keeps_seats steps old new [] run = (ap (λ f. length f.seats) run, ap (λ f. f.limits) run)
keeps_seats {T} steps old new (Event.Starts number job ∷ events) (mid, starts, run) =
    let rest = keeps_seats steps mid new events run in (
      rest.0 ∙ ap (λ (f : FleetValue T). length f.seats) starts.1 ∙ length-set old.seats number (Some (new_running old.limits job)),
      rest.1 ∙ ap (λ (f : FleetValue T). f.limits) starts.1,
    )
keeps_seats {T} steps old new (Event.Moves number at result ∷ events) (mid, moves, run) =
    let rest = keeps_seats steps mid new events run in (
      rest.0 ∙ ap (λ (f : FleetValue T). length f.seats) moves.others ∙ length-set old.seats number moves.seat,
      rest.1 ∙ ap (λ (f : FleetValue T). f.limits) moves.others,
    )
