-- A meter's job that is a poll takes the poll's steps.
use Rattle.std.proofs.Common.{◌≡◌, refl, sym, ap, subst, Box, List, [], ◌∷◌, ◌++◌}
use Rattle.std.specs.declared.alloc.Global.{Global}
use Rattle.dlms_ends.specs.PollEnds.{PollEndValue}
use Rattle.dlms_ends.specs.declared.fault.RunFault.{RunFault}
use Rattle.dlms_fleet.specs.Alone.{AreGoing, EndsWith, IsGoing, JobRun}
use Rattle.dlms_fleet.specs.Inputs.{Input}
use Rattle.dlms_fleet.specs.declared.job.JobStep.{JobStep}
use Rattle.dlms_fleet.specs.declared.job.JobStep.TheVariants as taken
use Rattle.dlms_fleet.specs.declared.running.Outcome.TheVariants as outcome
use Rattle.dlms_fleet.proofs.Numbers.{keeps_numbers}
use Rattle.dlms_jobs.specs.PollJobs.{JobSteps as PollSteps}
use Rattle.dlms_jobs.specs.Polled.{DoneIsAPoll as DonePolls}
use Rattle.dlms_inquiries.specs.Inquiries.{Sent}
use Rattle.dlms_inquiries.specs.MeterJobs.{DoneIsAPoll, MeterSteps, of_poll, poll_of}
use Rattle.dlms_inquiries.specs.declared.meter_job.JobFault.{JobFault}
use Rattle.dlms_inquiries.specs.declared.meter_job.MeterJob.{MeterJob}
use Rattle.dlms_inquiries.specs.declared.meter_job.MeterJob.TheVariants.{Poll, Text, Values, Clock}

-- steps of a poll from here to there, the last of which is Done
record Polls (job result : Box PollEndValue Global) : Type 0 where
  steps : List (Input × JobStep Sent RunFault)
  run : JobRun PollSteps job.value steps result.value
  done : EndsWith steps taken.Done

going_too : (own : JobStep Sent RunFault) (step : JobStep Sent JobFault) → step ≡ of_poll own → IsGoing step → IsGoing own
going_too taken.Nothing step is goes = tt
going_too (taken.Sends message) step is goes = tt
going_too taken.Done step is goes = subst (λ (s : JobStep Sent JobFault). IsGoing s) is goes
going_too (taken.Fails why) step is goes = subst (λ (s : JobStep Sent JobFault). IsGoing s) is goes

done_too : (own : JobStep Sent RunFault) → taken.Done ≡ of_poll own → own ≡ taken.Done
done_too taken.Nothing is = absurd (cc is)
done_too (taken.Sends message) is = absurd (cc is)
done_too taken.Done is = refl
done_too (taken.Fails why) is = absurd (cc is)

last_step : (job result : Box PollEndValue Global) (at : Input) → MeterSteps (Poll job) at taken.Done (Poll result) → Polls job result
last_step job result at (own, takes, is) = record {
  steps = (at, taken.Done) ∷ [];
  run = (result.value, subst (λ (s : JobStep Sent RunFault). PollSteps job.value at s result.value) (done_too own is) takes, refl);
  done = ([], at, tt, refl);
}

one_before : (job result : Box PollEndValue Global) (one : Input × JobStep Sent JobFault) (mid : MeterJob) → IsGoing one.1 → MeterSteps (Poll job) one.0 one.1 mid
    → ((m : Box PollEndValue Global) → mid ≡ Poll m → Polls m result) → Polls job result
one_before job result one (Text m) goes takes more = absurd takes
one_before job result one (Values m) goes takes more = absurd takes
one_before job result one (Clock m) goes takes more = absurd takes
one_before job result one (Poll m) goes (own, takes, is) more =
    let rest = more m refl in
    let (front, at, going, e) = rest.done in record {
      steps = (one.0, own) ∷ rest.steps;
      run = (m.value, takes, rest.run);
      done = ((one.0, own) ∷ front, at, (going_too own one.1 is goes, going), ap (λ (l : List (Input × JobStep Sent RunFault)). (one.0, own) ∷ l) e);
    }

polls : (job result : Box PollEndValue Global) (front : List (Input × JobStep Sent JobFault)) (at : Input) → AreGoing front
    → JobRun MeterSteps (Poll job) (front ++ (at, taken.Done) ∷ []) (Poll result) → Polls job result
polls job result [] at going (mid, takes, same) = last_step job result at (subst (λ (m : MeterJob). MeterSteps (Poll job) at taken.Done m) (sym same) takes)
polls job result (one ∷ front) at (goes, going) (mid, takes, rest) =
    one_before job result one mid goes takes (λ m is. polls m result front at going (subst (λ (x : MeterJob). JobRun MeterSteps x (front ++ (at, taken.Done) ∷ []) (Poll result)) is rest))

pub done_polled : DonePolls → DoneIsAPoll
done_polled law route terms guard old new events seat number number' job result run is back =
    let kept = keeps_numbers MeterSteps old new events seat (poll_of number job) (poll_of number' result) outcome.Done run back in
    let (front, at, going, e) = kept.1.2 in
    let made = polls job result front at going (subst (λ (steps : List (Input × JobStep Sent JobFault)). JobRun MeterSteps (Poll job) steps (Poll result)) e kept.1.1) in
    (kept.0, law route terms guard job.value result.value made.steps is made.run made.done)
