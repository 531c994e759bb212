-- Each job ends once, in time, and by its own steps.
use Rattle.std.proofs.Common.{◌≡◌, ◌≤◌, ◌+◌, ◌-◌, inl, inr, ℕ, Bool, true, false, List, [], ◌∷◌, ◌++◌, Option, Some, None, nat_lt, max, arith, refl, sym, ap, subst, ◌∙◌, append_assoc}
use Rattle.std.proofs.lemmas.Bool.Decides.{nat_tests}
use Rattle.dlms_fleet.specs.Alone.{AreGoing, EndsByItsSteps, EndsInTime, EndsOnce, JobRun, LeadTo, LedTo, SeatRun, due, end_by, ends, jobs_on, tick_by, ticks}
use Rattle.dlms_fleet.specs.Inputs.{Input}
use Rattle.dlms_fleet.specs.Inputs.Input.{Begins, Reads, TimesOut}
use Rattle.dlms_fleet.specs.Runs.{Own}
use Rattle.dlms_fleet.specs.Runs.Own.{Started, Moved}
use Rattle.dlms_fleet.specs.RunningJob.{Connects, Loses, Makes, MomentValue, RunningSteps, Stays, Takes, TakesBytes, TakesTick, When, new_running, outcome_of_loss}
use Rattle.dlms_fleet.specs.RunningJob.MomentValue.{Connected, Came, Lost, Ticked}
use Rattle.dlms_fleet.specs.Seats.{Keeps, SeatSteps}
use Rattle.dlms_fleet.specs.declared.fleet.FleetStep.{FleetStep}
use Rattle.dlms_fleet.specs.declared.fleet.FleetStep.TheVariants as told
use Rattle.dlms_fleet.specs.declared.job.JobStep.{JobStep}
use Rattle.dlms_fleet.specs.declared.job.JobStep.TheVariants as taken
use Rattle.dlms_fleet.specs.declared.running.Limits.{Limits}
use Rattle.dlms_fleet.specs.declared.running.Outcome.{Outcome}
use Rattle.dlms_fleet.specs.declared.running.Outcome.TheVariants as outcome
use Rattle.dlms_fleet.specs.declared.running.Phase.{Phase}
use Rattle.dlms_fleet.specs.declared.running.Phase.TheVariants.{Connecting, Quiet, Asking}
use Rattle.dlms_fleet.specs.declared.running.Running.{Running}
use Rattle.dlms_fleet.specs.declared.running.Step.{Step}
use Rattle.dlms_fleet.specs.declared.running.Step.TheVariants as step

-- ---- once

ended : {T M E : Type 0} (made : Step M E) (running : Running T) (result : FleetStep T M E) (new : Option (Running T)) → Keeps made running result new → end_by result + jobs_on new ≡ 1
ended step.Nothing running result new (a, n) = rw (a, n) refl
ended (step.Sends message) running result new (a, n) = rw (a, n) refl
ended (step.Ends outcome) running result new (a, n) = rw (a, n) refl

kept : {T M E : Type 0} (steps : T → Input → JobStep M E → T → Type 0) (limits : Limits) (old : Option (Running T)) (at : MomentValue) (result : FleetStep T M E) (new : Option (Running T))
    → SeatSteps steps limits old at result new → end_by result + jobs_on new ≡ jobs_on old
kept steps limits None at result new own = rw (own.0, own.1) refl
kept steps limits (Some running) at result new own = ended own.made own.running result new own.keeps

pub ends_once : {T M E : Type 0} (steps : T → Input → JobStep M E → T → Type 0) → EndsOnce steps
ends_once steps limits old new [] run = rw run refl
ends_once steps limits old new (Started job ∷ own) (free, run) = let e = ends_once steps limits _ new own run in rw free (omega (arith, e))
ends_once steps limits old new (Moved at result ∷ own) (mid, step, run) =
    omega (arith, ends_once steps limits mid new own run, kept steps limits old at result mid step)

-- ---- in time

left_seat : {T M E : Type 0} (made : Step M E) (running : Running T) (result : FleetStep T M E) (new : Option (Running T)) → Keeps made running result new → due new ≤ max running.left 1
left_seat step.Nothing running result new (a, n) = rw n (omega arith)
left_seat (step.Sends message) running result new (a, n) = rw n (omega arith)
left_seat (step.Ends outcome) running result new (a, n) = rw n (omega arith)

ended_seat : {T M E : Type 0} (made : Step M E) (outcome : Outcome E) (running : Running T) (result : FleetStep T M E) (new : Option (Running T)) → made ≡ step.Ends outcome → Keeps made running result new → new ≡ None
ended_seat step.Nothing outcome running result new e keeps = absurd (cc e)
ended_seat (step.Sends message) outcome running result new e keeps = absurd (cc e)
ended_seat (step.Ends other) outcome running result new e keeps = keeps.1

connects_left : {T M E : Type 0} (steps : T → Input → JobStep M E → T → Type 0) (limits : Limits) (phase : Phase) (old : Running T) (made : Step M E) (new : Running T)
    → Connects steps limits phase old made new → new.left ≡ old.left
connects_left {T} {M} {E} steps limits Connecting old made new h = by_test (nat_lt 0 limits.quiet) h
  where
    by_test : (b : Bool) → When b (Stays (record old { phase = Quiet limits.quiet }) made new) (Takes {M = M} {E = E} steps limits.answer old.left (Asking limits.answer) Begins old made new) → new.left ≡ old.left
    by_test true h = ap (λ f. f.left) h.1
    by_test false h = h.left
connects_left steps limits (Quiet ticks) old made new h = ap (λ f. f.left) h.1
connects_left steps limits (Asking ticks) old made new h = ap (λ f. f.left) h.1

reads_left : {T M E : Type 0} (steps : T → Input → JobStep M E → T → Type 0) (limits : Limits) (bytes : List ℕ) (phase : Phase) (old : Running T) (made : Step M E) (new : Running T)
    → TakesBytes steps limits bytes phase old made new → new.left ≡ old.left
reads_left steps limits bytes Connecting old made new h = ap (λ f. f.left) h.1
reads_left steps limits bytes (Quiet ticks) old made new h = ap (λ f. f.left) h.1
reads_left steps limits bytes (Asking ticks) old made new h = h.left

loses_seat : {T M E : Type 0} (steps : T → Input → JobStep M E → T → Type 0) (phase : Phase) (old : Running T) (made : Step M E) (running : Running T) (result : FleetStep T M E) (new : Option (Running T))
    → Loses steps phase old made running → Keeps made running result new → new ≡ None
loses_seat steps Connecting old made running result new h keeps = ended_seat made outcome.Lost running result new h.0 keeps
loses_seat steps (Quiet ticks) old made running result new h keeps = ended_seat made outcome.Lost running result new h.0 keeps
loses_seat steps (Asking ticks) old made running result new h keeps = ended_seat made (outcome_of_loss h.own) running result new h.ends keeps

ticks_left : {T M E : Type 0} (steps : T → Input → JobStep M E → T → Type 0) (limits : Limits) (phase : Phase) (old : Running T) (made : Step M E) (new : Running T)
    → TakesTick steps limits phase old made new → new.left ≡ old.left
ticks_left steps limits Connecting old made new h = ap (λ f. f.left) h.1
ticks_left {T} {M} {E} steps limits (Quiet ticks) old made new h = by_test (nat_lt 1 ticks) h
  where
    by_test : (b : Bool) → When b (Stays (record old { phase = Quiet (ticks - 1) }) made new) (Takes {M = M} {E = E} steps limits.answer old.left (Asking limits.answer) Begins old made new) → new.left ≡ old.left
    by_test true h = ap (λ f. f.left) h.1
    by_test false h = h.left
ticks_left {T} {M} {E} steps limits (Asking ticks) old made new h = by_test (nat_lt 1 ticks) h
  where
    by_test : (b : Bool) → When b (Stays (record old { phase = Asking (ticks - 1) }) made new) (Takes {M = M} {E = E} steps limits.answer old.left (Asking limits.answer) TimesOut old made new) → new.left ≡ old.left
    by_test true h = ap (λ f. f.left) h.1
    by_test false h = h.left

-- each tick leaves one less
spent : {T M E : Type 0} (steps : T → Input → JobStep M E → T → Type 0) (limits : Limits) (old : Running T) (at : MomentValue) (made : Step M E) (running : Running T) (result : FleetStep T M E) (new : Option (Running T))
    → RunningSteps steps limits old at made running → Keeps made running result new → due new + tick_by at ≤ max old.left 1
spent steps limits old Connected made running result new h keeps = omega (arith, left_seat made running result new keeps, connects_left steps limits old.phase old made running h)
spent steps limits old (Came bytes) made running result new h keeps = omega (arith, left_seat made running result new keeps, reads_left steps limits bytes old.phase old made running h)
spent steps limits old Lost made running result new h keeps = rw (loses_seat steps old.phase old made running result new h keeps) (omega arith)
spent {T} {M} {E} steps limits old Ticked made running result new h keeps = by_test (nat_lt 1 old.left) refl h
  where
    by_test : (b : Bool) → nat_lt 1 old.left ≡ b → When b (TakesTick steps limits old.phase (record old { left = old.left - 1 }) made running) ((made ≡ step.Ends outcome.Late) × (running ≡ old)) → due new + 1 ≤ max old.left 1
    by_test true e h =
        let spent = ticks_left steps limits old.phase (record old { left = old.left - 1 }) made running h in
        let more = left_seat made running result new keeps in
        grind (arith, nat_tests, e, spent, more)
    by_test false e h = rw (ended_seat made outcome.Late running result new h.0 keeps) (omega arith)

pub in_time : {T M E : Type 0} (steps : T → Input → JobStep M E → T → Type 0) (limits : Limits) (old new : Option (Running T)) (own : List (Own T M E)) → SeatRun steps limits old own new
    → due old ≤ ticks own → jobs_on old ≤ ends own
in_time steps limits None new own run over = omega arith
in_time steps limits (Some running) new [] run over = absurd (omega (arith, over))
in_time steps limits (Some running) new (Started job ∷ own) run over = absurd (cc run.0)
in_time steps limits (Some running) new (Moved at result ∷ own) (mid, own_step, run) over =
    let less = spent steps limits running at own_step.made own_step.running result mid own_step.runs own_step.keeps in
    let rest = in_time steps limits mid new own run (omega (arith, over, less)) in
    omega (arith, rest, ended own_step.made own_step.running result mid own_step.keeps)

-- the seat after the first of what happened on it
later : {T M E : Type 0} (steps : T → Input → JobStep M E → T → Type 0) (limits : Limits) (old new : Option (Running T)) (before rest : List (Own T M E)) → SeatRun steps limits old (before ++ rest) new
    → (mid : Option (Running T)) × SeatRun steps limits mid rest new
later steps limits old new [] rest run = (old, run)
later steps limits old new (Started job ∷ before) rest (free, run) = later steps limits (Some (new_running limits job)) new before rest run
later steps limits old new (Moved at result ∷ before) rest (mid, own, run) = later steps limits mid new before rest run

pub ends_in_time : {T M E : Type 0} (steps : T → Input → JobStep M E → T → Type 0) → EndsInTime steps
ends_in_time steps limits old new before own job run over =
    let from = later steps limits old new before (Started job ∷ own) run in
    in_time steps limits (Some (new_running limits job)) new own from.1.1 over

-- ---- by its own steps

runs_on : {T M E : Type 0} (steps : T → Input → JobStep M E → T → Type 0) (a b c : T) (all more : List (Input × JobStep M E)) → JobRun steps a all b → JobRun steps b more c → JobRun steps a (all ++ more) c
runs_on steps a b c [] more one other = subst (λ x. JobRun steps x more c) one other
runs_on steps a b c (first ∷ all) more (mid, own, one) other = (mid, own, runs_on steps mid b c all more one other)

-- the job's own steps for what the running job does
abbrev MadeBy : {M E : Type 0} → Step M E → List (Input × JobStep M E) → Type 0
MadeBy step.Nothing all = AreGoing all
MadeBy (step.Sends message) all = AreGoing all
MadeBy (step.Ends outcome) all = LeadTo outcome all

abbrev OwnSteps : {T M E : Type 0} → (T → Input → JobStep M E → T → Type 0) → T → Step M E → T → Type 0
OwnSteps {T} {M} {E} steps old made new = (all : List (Input × JobStep M E)) × JobRun steps old all new × MadeBy made all

made_by : {M E : Type 0} (answer : ℕ) (phase after : Phase) (at : Input) (own : JobStep M E) (made : Step M E) → Makes answer phase own made after → MadeBy made ((at, own) ∷ [])
made_by answer phase after at taken.Nothing made makes = rw makes.0 (tt, tt)
made_by answer phase after at (taken.Sends message) made makes = rw makes.0 (tt, tt)
made_by answer phase after at taken.Done made makes = rw makes.0 ([], at, tt, refl)
made_by answer phase after at (taken.Fails fault) made makes = rw makes.0 ([], at, tt, refl)

takes : {T M E : Type 0} (steps : T → Input → JobStep M E → T → Type 0) (answer ticks : ℕ) (phase : Phase) (at : Input) (old : Running T) (made : Step M E) (new : Running T)
    → Takes steps answer ticks phase at old made new → OwnSteps steps old.job made new.job
takes steps answer ticks phase at old made new h = ((at, h.own) ∷ [], (new.job, h.takes, refl), made_by answer phase new.phase at h.own made h.makes)

quiet : {T M E : Type 0} (steps : T → Input → JobStep M E → T → Type 0) (old new : T) (made : Step M E) → made ≡ step.Nothing → new ≡ old → OwnSteps steps old made new
quiet steps old new made e same = ([], same, rw e tt)

connects_own : {T M E : Type 0} (steps : T → Input → JobStep M E → T → Type 0) (limits : Limits) (phase : Phase) (old : Running T) (made : Step M E) (new : Running T)
    → Connects steps limits phase old made new → OwnSteps steps old.job made new.job
connects_own {T} {M} {E} steps limits Connecting old made new h = by_test (nat_lt 0 limits.quiet) h
  where
    by_test : (b : Bool) → When b (Stays (record old { phase = Quiet limits.quiet }) made new) (Takes {M = M} {E = E} steps limits.answer old.left (Asking limits.answer) Begins old made new) → OwnSteps steps old.job made new.job
    by_test true h = quiet steps old.job new.job made h.0 (ap (λ f. f.job) h.1)
    by_test false h = takes steps limits.answer old.left (Asking limits.answer) Begins old made new h
connects_own steps limits (Quiet ticks) old made new h = quiet steps old.job new.job made h.0 (ap (λ f. f.job) h.1)
connects_own steps limits (Asking ticks) old made new h = quiet steps old.job new.job made h.0 (ap (λ f. f.job) h.1)

reads_own : {T M E : Type 0} (steps : T → Input → JobStep M E → T → Type 0) (limits : Limits) (bytes : List ℕ) (phase : Phase) (old : Running T) (made : Step M E) (new : Running T)
    → TakesBytes steps limits bytes phase old made new → OwnSteps steps old.job made new.job
reads_own steps limits bytes Connecting old made new h = quiet steps old.job new.job made h.0 (ap (λ f. f.job) h.1)
reads_own steps limits bytes (Quiet ticks) old made new h = quiet steps old.job new.job made h.0 (ap (λ f. f.job) h.1)
reads_own steps limits bytes (Asking ticks) old made new h = takes steps limits.answer old.left old.phase (Reads bytes) old made new h

-- the outcome of a job whose line was lost, by its step for a timeout
loss_by : {M E : Type 0} (own : JobStep M E) → LeadTo (outcome_of_loss own) ((TimesOut, own) ∷ [])
loss_by taken.Nothing = inr ([], taken.Nothing, tt, tt, refl)
loss_by (taken.Sends message) = inr ([], taken.Sends message, tt, tt, refl)
loss_by taken.Done = ([], TimesOut, tt, refl)
loss_by (taken.Fails fault) = inr ([], taken.Fails fault, tt, tt, refl)

loses_own : {T M E : Type 0} (steps : T → Input → JobStep M E → T → Type 0) (phase : Phase) (old : Running T) (made : Step M E) (new : Running T)
    → Loses steps phase old made new → OwnSteps steps old.job made new.job
loses_own steps Connecting old made new h = ([], ap (λ f. f.job) h.1, rw h.0 (inl tt))
loses_own steps (Quiet ticks) old made new h = ([], ap (λ f. f.job) h.1, rw h.0 (inl tt))
loses_own steps (Asking ticks) old made new h = ((TimesOut, h.own) ∷ [], (new.job, h.takes, refl), rw h.ends (loss_by h.own))

ticks_own : {T M E : Type 0} (steps : T → Input → JobStep M E → T → Type 0) (limits : Limits) (phase : Phase) (old : Running T) (made : Step M E) (new : Running T)
    → TakesTick steps limits phase old made new → OwnSteps steps old.job made new.job
ticks_own steps limits Connecting old made new h = quiet steps old.job new.job made h.0 (ap (λ f. f.job) h.1)
ticks_own {T} {M} {E} steps limits (Quiet ticks) old made new h = by_test (nat_lt 1 ticks) h
  where
    by_test : (b : Bool) → When b (Stays (record old { phase = Quiet (ticks - 1) }) made new) (Takes {M = M} {E = E} steps limits.answer old.left (Asking limits.answer) Begins old made new) → OwnSteps steps old.job made new.job
    by_test true h = quiet steps old.job new.job made h.0 (ap (λ f. f.job) h.1)
    by_test false h = takes steps limits.answer old.left (Asking limits.answer) Begins old made new h
ticks_own {T} {M} {E} steps limits (Asking ticks) old made new h = by_test (nat_lt 1 ticks) h
  where
    by_test : (b : Bool) → When b (Stays (record old { phase = Asking (ticks - 1) }) made new) (Takes {M = M} {E = E} steps limits.answer old.left (Asking limits.answer) TimesOut old made new) → OwnSteps steps old.job made new.job
    by_test true h = quiet steps old.job new.job made h.0 (ap (λ f. f.job) h.1)
    by_test false h = takes steps limits.answer old.left (Asking limits.answer) TimesOut old made new h

running_own : {T M E : Type 0} (steps : T → Input → JobStep M E → T → Type 0) (limits : Limits) (old : Running T) (at : MomentValue) (made : Step M E) (new : Running T)
    → RunningSteps steps limits old at made new → OwnSteps steps old.job made new.job
running_own steps limits old Connected made new h = connects_own steps limits old.phase old made new h
running_own steps limits old (Came bytes) made new h = reads_own steps limits bytes old.phase old made new h
running_own steps limits old Lost made new h = loses_own steps old.phase old made new h
running_own {T} {M} {E} steps limits old Ticked made new h = by_test (nat_lt 1 old.left) h
  where
    by_test : (b : Bool) → When b (TakesTick steps limits old.phase (record old { left = old.left - 1 }) made new) ((made ≡ step.Ends outcome.Late) × (new ≡ old)) → OwnSteps steps old.job made new.job
    by_test true h = ticks_own steps limits old.phase (record old { left = old.left - 1 }) made new h
    by_test false h = ([], ap (λ f. f.job) h.1, rw h.0 tt)

-- the end that a seat reports is the running job's, and the job that it hands back is its job
same_end : {T M E : Type 0} (steps : T → Input → JobStep M E → T → Type 0) (from : T) (made : Step M E) (running : Running T) (outcome : Outcome E) (job : T) (new : Option (Running T))
    → Keeps made running (told.Ends outcome job) new → OwnSteps steps from made running.job → OwnSteps steps from (step.Ends outcome) job
same_end steps from step.Nothing running outcome job new keeps own = absurd (cc keeps.0)
same_end steps from (step.Sends message) running outcome job new keeps own = absurd (cc keeps.0)
same_end {T} {M} {E} steps from (step.Ends other) running outcome job new keeps own =
    let outcomes : outcome ≡ other = same_outcome outcome other job running.job _ _ refl refl keeps.0 in
    let jobs : job ≡ running.job = same_job outcome other job running.job _ _ refl refl keeps.0 in
    rw (outcomes, jobs) own
  where
    same_outcome : (a b : Outcome E) (x y : T) (p q : FleetStep T M E) → p ≡ told.Ends a x → q ≡ told.Ends b y → p ≡ q → a ≡ b
    same_outcome a b x y p q first second e = cc

    same_job : (a b : Outcome E) (x y : T) (p q : FleetStep T M E) → p ≡ told.Ends a x → q ≡ told.Ends b y → p ≡ q → x ≡ y
    same_job a b x y p q first second e = cc

-- after a moment at which no job ends, the job runs on
goes_on : {T M E : Type 0} (steps : T → Input → JobStep M E → T → Type 0) (from : T) (made : Step M E) (running : Running T) (result : FleetStep T M E) (new : Option (Running T))
    → end_by result ≡ 0 → Keeps made running result new → OwnSteps steps from made running.job → (new ≡ Some running) × ((all : List (Input × JobStep M E)) × JobRun steps from all running.job × AreGoing all)
goes_on steps from step.Nothing running result new none keeps own = (keeps.1, (own.0, own.1, own.2))
goes_on steps from (step.Sends message) running result new none keeps own = (keeps.1, (own.0, own.1, own.2))
goes_on steps from (step.Ends outcome) running result new none keeps own = absurd (grind (arith, none, ap end_by keeps.0))

both_going : {M E : Type 0} (front all : List (Input × JobStep M E)) → AreGoing front → AreGoing all → AreGoing (front ++ all)
both_going [] all one other = other
both_going (first ∷ front) all (goes, one) other = (goes, both_going front all one other)

leads_later : {M E : Type 0} (outcome : Outcome E) (front all : List (Input × JobStep M E)) → AreGoing front → LeadTo outcome all → LeadTo outcome (front ++ all)
leads_later outcome.Done front all going (before, at, goes, e) = (front ++ before, at, both_going front before going goes, ap (λ w. front ++ w) e ∙ sym (append_assoc front before _))
leads_later (outcome.Fails fault) front all going (before, at, goes, e) = (front ++ before, at, both_going front before going goes, ap (λ w. front ++ w) e ∙ sym (append_assoc front before _))
leads_later outcome.Lost front all going (inl on) = inl (both_going front all going on)
leads_later outcome.Lost front all going (inr (before, last, goes, other, e)) =
    inr (front ++ before, last, both_going front before going goes, other, ap (λ w. front ++ w) e ∙ sym (append_assoc front before _))
leads_later outcome.Late front all going on = both_going front all going on

-- from a running job to its end
by_own_steps : {T M E : Type 0} (steps : T → Input → JobStep M E → T → Type 0) (limits : Limits) (running : Running T) (new : Option (Running T)) (own after : List (Own T M E)) (at : MomentValue) (outcome : Outcome E) (result : T)
    → SeatRun steps limits (Some running) (own ++ Moved at (told.Ends outcome result) ∷ after) new → ends own ≡ 0 → LedTo steps running.job outcome result
by_own_steps steps limits running new [] after at outcome result (mid, own_step, run) none =
    same_end steps running.job own_step.made own_step.running outcome result mid own_step.keeps (running_own steps limits running at own_step.made own_step.running own_step.runs)
by_own_steps steps limits running new (Started other ∷ own) after at outcome result run none = absurd (cc run.0)
by_own_steps {T} {M} {E} steps limits running new (Moved first other ∷ own) after at outcome result (mid, own_step, run) none =
    let on = goes_on steps running.job own_step.made own_step.running other mid (omega (arith, none)) own_step.keeps (running_own steps limits running first own_step.made own_step.running own_step.runs) in
    let rest = by_own_steps steps limits own_step.running new own after at outcome result
    (subst (λ (s : Option (Running T)). SeatRun steps limits s (own ++ Moved at (told.Ends outcome result) ∷ after) new) on.0 run) (omega (arith, none)) in
    (on.1.0 ++ rest.0, runs_on steps running.job own_step.running.job result on.1.0 rest.0 on.1.1 rest.1, leads_later outcome on.1.0 rest.0 on.1.2 rest.2)

pub ends_by_its_steps : {T M E : Type 0} (steps : T → Input → JobStep M E → T → Type 0) → EndsByItsSteps steps
ends_by_its_steps steps limits old new before own after job at outcome result run none =
    let from = later steps limits old new before (Started job ∷ (own ++ Moved at (told.Ends outcome result) ∷ after)) run in
    by_own_steps steps limits (new_running limits job) new own after at outcome result from.1.1 none
