-- A job that is done polled its meter.
use Rattle.std.proofs.Common.{◌≡◌, refl, sym, ap, subst, inl, inr, ℕ, List, [], ◌∷◌, ◌++◌, Result, Ok, Err}
use Rattle.dlms_headend.specs.CarrierRun.{AreDone, Beside, Call, Begin, Feed, Wait, PollsLead, Runs}
use Rattle.dlms_headend.specs.declared.step.PollOutcome.{PollOutcome}
use Rattle.dlms_headend.specs.declared.step.PollOutcome.TheVariants.{Nothing, Done}
use Rattle.dlms_ends.specs.PollEnds.{AllRead, PollAt, PollEndValue, Reading, WaitsAt, means}
use Rattle.dlms_ends.specs.PollEnds.AllRead.{NoCall, OneCall}
use Rattle.dlms_ends.specs.declared.fault.RunFault.{RunFault}
use Rattle.dlms_fleet.specs.Alone.{AreGoing, IsGoing, JobRun, SeatRun}
use Rattle.dlms_fleet.specs.Inputs.{Input}
use Rattle.dlms_fleet.specs.Inputs.Input.{Begins as BeginsOf, Reads as ReadsOf, TimesOut}
use Rattle.dlms_fleet.specs.Runs.{Own}
use Rattle.dlms_fleet.specs.Seats.{seat_of}
use Rattle.dlms_fleet.specs.declared.job.JobStep.{JobStep}
use Rattle.dlms_fleet.specs.declared.job.JobStep.TheVariants as taken
use Rattle.dlms_fleet.specs.declared.running.Outcome.TheVariants as outcome
use Rattle.dlms_fleet.proofs.Alone.{each_alone}
use Rattle.dlms_fleet.proofs.Ends.{ends_by_its_steps}
use Rattle.dlms_jobs.specs.PollJobs.{BeginsPoll, Calls, IsStep, JobSteps, ReadsBytes, ReadsPiece, Sent, TakesTimeout}
use Rattle.dlms_jobs.specs.PollJobs.BeginsPoll.{HasBegun, IsTooLate}
use Rattle.dlms_jobs.specs.PollJobs.ReadsBytes.{Floods, HasCome}
use Rattle.dlms_jobs.specs.PollJobs.ReadsPiece.{Fails, IsDone, IsRead, IsWithheld}
use Rattle.dlms_jobs.specs.PollJobs.TakesTimeout.{HasFault, IsEnough, IsRepeated}
use Rattle.dlms_jobs.specs.Polled.{DoneIsAPoll, DoneOnASeat, steps_in}

-- ---- the calls of a poll

runs_append : (xs ys : List Call) (a b c : PollAt) → Runs means a xs b → Runs means b ys c → Runs means a (xs ++ ys) c
runs_append [] ys a b c h k = subst (λ (v : PollAt). Runs means v ys c) h k
runs_append (x ∷ xs) ys a b c h k = (h.0, h.1, runs_append xs ys h.0 b c h.2 k)

-- one of the later calls returned it
done_later : (xs ys : List Call) → AreDone ys → AreDone (xs ++ ys)
done_later [] ys h = h
done_later (x ∷ xs) ys h = inr (done_later xs ys h)

-- the calls that read a piece
read_runs : (p : PollAt) (octets : List ℕ) (calls : List Reading) (p' : PollAt) (rest : List ℕ) → AllRead p octets calls p' rest → (made : List Call) × Runs means p made p'
read_runs p octets calls p' rest NoCall = ([], refl)
read_runs p octets calls p' rest (OneCall front mid end left call all one) =
    let first = read_runs p octets front mid left all in
    (first.0 ++ Feed left call.count (Ok Nothing) ∷ [], runs_append first.0 (Feed left call.count (Ok Nothing) ∷ []) p mid end first.1 (end, one.feeds, refl))

-- calls that lead from here to there; one of them returned that the poll is done, if the outcome is that
record Made (p : PollAt) (outcome : PollOutcome) (p' : PollAt) : Type 0 where
  calls : List Call
  runs : Runs means p calls p'
  done : outcome ≡ Done → AreDone calls

made_as : (p p' : PollAt) (given outcome : PollOutcome) → given ≡ outcome → Made p given p' → Made p outcome p'
made_as p p' given outcome e h = subst (λ (o : PollOutcome). Made p o p') e h

waited : (p p' : PollAt) (outcome : PollOutcome) → WaitsAt p (Ok outcome) p' → Made p outcome p'
waited p p' Nothing h = record { calls = Wait (Ok Nothing) ∷ []; runs = (p', h, refl); done = λ e. absurd (cc) }
waited p p' Done h = record { calls = Wait (Ok Done) ∷ []; runs = (p', h, refl); done = λ e. inl tt }

-- ---- at each input

begun_made : (old new : List ℕ) (t t' : PollEndValue) (outcome : PollOutcome) → BeginsPoll old new t (Ok outcome) t' → Made t.poll outcome t'.poll
begun_made old new t t' Done (HasBegun can begins left collects) = absurd collects
begun_made old new t t' Nothing (HasBegun can begins left collects) =
    record { calls = Begin ∷ []; runs = (t'.poll, (can.ready, begins), refl); done = λ e. absurd (cc) }
begun_made old new t t' outcome (IsTooLate started told same) = absurd (cc)

piece_made : (old new : List ℕ) (p p' : PollAt) (bytes : List ℕ) (outcome : PollOutcome) → ReadsPiece old new p bytes (Ok outcome) p' → Made p outcome p'
piece_made old new p p' bytes outcome (IsRead calls all adds told) =
    let same : Nothing ≡ outcome = cc in
    let made = read_runs p bytes calls p' [] all in
    made_as p p' Nothing outcome same (record { calls = made.0; runs = made.1; done = λ e. absurd (cc) })
piece_made old new p p' bytes outcome (IsDone calls mid rest count all feeds told) =
    let same : Done ≡ outcome = cc in
    let made = read_runs p bytes calls mid rest all in
    let last : List Call = Feed rest count (Ok Done) ∷ [] in
    made_as p p' Done outcome same (record { calls = made.0 ++ last; runs = runs_append made.0 last p mid p' made.1 (p', feeds, refl); done = λ e. done_later made.0 last (inl tt) })
piece_made old new p p' bytes outcome (Fails calls mid rest count why all fails told) = absurd (cc)
piece_made old new p p' bytes outcome (IsWithheld calls mid rest count why all feeds withholds told) = absurd (cc)

bytes_made : (old new : List ℕ) (t t' : PollEndValue) (bytes : List ℕ) (outcome : PollOutcome) → ReadsBytes old new t bytes (Ok outcome) t' → Made t.poll outcome t'.poll
bytes_made old new t t' bytes outcome (HasCome may left piece) = piece_made old new t.poll t'.poll bytes outcome piece
bytes_made old new t t' bytes outcome (Floods more told same) = absurd (cc)

timeout_made : (old new : List ℕ) (p p' : PollAt) (outcome : PollOutcome) → TakesTimeout old new p (Ok outcome) p' → Made p outcome p'
timeout_made old new p p' Nothing (IsRepeated h collects) = waited p p' Nothing h
timeout_made old new p p' Done (IsRepeated h collects) = absurd collects
timeout_made old new p p' outcome (IsEnough h told) = let same : Done ≡ outcome = cc in made_as p p' Done outcome same (waited p p' Done h)
timeout_made old new p p' outcome (HasFault why h told) = absurd (cc)

calls_made : (at : Input) (octets : List ℕ) (t t' : PollEndValue) (outcome : PollOutcome) → Calls at octets t (Ok outcome) t' → Made t.poll outcome t'.poll
calls_made BeginsOf octets t t' outcome h = begun_made [] octets t t' outcome h
calls_made (ReadsOf bytes) octets t t' outcome h = bytes_made [] octets t t' bytes outcome h
calls_made TimesOut octets t t' outcome h = timeout_made [] octets t.poll t'.poll outcome h.0

-- ---- the steps of a job

no_more : (step : JobStep Sent RunFault) → step ≡ taken.Done → IsGoing step → ⊥
no_more step is goes = subst (λ (s : JobStep Sent RunFault). IsGoing s) is goes

not_failed : (step : JobStep Sent RunFault) (why : RunFault) → step ≡ taken.Fails why → IsGoing step → ⊥
not_failed step why is goes = subst (λ (s : JobStep Sent RunFault). IsGoing s) is goes

-- the calls of a step after which the job goes on
going_made : (at : Input) (octets : List ℕ) (t t' : PollEndValue) (result : Result PollOutcome RunFault) (step : JobStep Sent RunFault) → IsGoing step
    → Calls at octets t result t' → IsStep octets result step → (calls : List Call) × Runs means t.poll calls t'.poll
going_made at octets t t' (Ok Nothing) step goes calls is = let made = calls_made at octets t t' Nothing calls in (made.calls, made.runs)
going_made at octets t t' (Ok Done) step goes calls is = absurd (no_more step is goes)
going_made at octets t t' (Err why) step goes calls is = absurd (not_failed step why is goes)

done_made : (at : Input) (octets : List ℕ) (t t' : PollEndValue) (result : Result PollOutcome RunFault) → Calls at octets t result t' → IsStep octets result taken.Done → Made t.poll Done t'.poll
done_made at octets t t' (Ok Nothing) calls is = absurd is
done_made at octets t t' (Ok Done) calls is = calls_made at octets t t' Done calls
done_made at octets t t' (Err why) calls is = absurd (cc)

-- calls of a poll, one of which returned that it is done
abbrev Finished : PollAt → PollAt → Type 0
Finished p p' = (calls : List Call) × Runs means p calls p' × AreDone calls

run_made : (t t' : PollEndValue) (front : List (Input × JobStep Sent RunFault)) (at : Input) → AreGoing front → JobRun JobSteps t (front ++ (at, taken.Done) ∷ []) t' → Finished t.poll t'.poll
run_made t t' [] at going (mid, own, same) =
    let made = done_made at own.octets t mid own.result own.calls own.step_is in
    subst (λ (v : PollEndValue). Finished t.poll v.poll) (sym same) (made.calls, made.runs, made.done refl)
run_made t t' (one ∷ front) at (goes, going) (mid, own, rest) =
    let first = going_made one.0 own.octets t mid own.result one.1 goes own.calls own.step_is in
    let more = run_made mid t' front at going rest in
    (first.0 ++ more.0, runs_append first.0 more.0 t.poll mid.poll t'.poll first.1 more.1, done_later first.0 more.0 more.2)

-- ---- the laws

pub done_polled : PollsLead means → DoneIsAPoll
done_polled law route terms guard job result all is run (front, at, going, e) =
    let made = run_made job result front at going (subst (λ (steps : List (Input × JobStep Sent RunFault)). JobRun JobSteps job steps result) e run) in
    let beside : Beside means (record { carrier = is.carrier; guard = guard }) terms made.0 result.poll =
    law (record { carrier = is.carrier; guard = guard }) terms made.0 result.poll (subst (λ (v : PollAt). Runs means v made.0 result.poll) is.poll made.1) in
    record { carrier = is.carrier; fresh = is.fresh; calls = made.0; beside = beside; done = beside.told made.2 }

own_run : {T : Type 0} (value : T → PollEndValue) (job result : T) (all : List (Input × JobStep Sent RunFault)) → JobRun (steps_in value) job all result → JobRun JobSteps (value job) all (value result)
own_run value job result [] run = ap value run
own_run value job result (one ∷ all) (mid, own, run) = (value mid, own, own_run value mid result all run)

pub polled_on_a_seat : {T : Type 0} (value : T → PollEndValue) → PollsLead means → DoneOnASeat value
polled_on_a_seat {T} value law route terms guard old new events seat job result run is on =
    let alone = each_alone (steps_in value) old new events run seat in
    let mine = subst (λ (own : List (Own T Sent RunFault)). SeatRun (steps_in value) old.limits (seat_of old.seats seat) own (seat_of new.seats seat)) on.on_seat alone in
    let led = ends_by_its_steps (steps_in value) old.limits (seat_of old.seats seat) (seat_of new.seats seat) on.before on.since on.after job on.at outcome.Done result mine on.runs_on in
    done_polled law route terms guard (value job) (value result) led.0 is (own_run value job result led.0 led.1) led.2
