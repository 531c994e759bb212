-- A new poll over the wrapper is started on a seat, gets its meter's answers, and is handed back as done.
use Rattle.std.proofs.Common.{arith, ◌≡◌, ◌∙◌, refl, sym, ap, subst, ℕ, ◌≤◌, ◌<◌, ◌-◌, lit<, lit≤, List, [], ◌∷◌, ◌++◌, append-nil, length, drop, inl, inr, Option, Some, None, Ok, Box, false, true}
use Rattle.std.proofs.lemmas.List.{take_all}
use Rattle.std.specs.Box.{with_value}
use Rattle.std.specs.declared.alloc.Global.{Global}
use Rattle.dlms_acse.specs.Writing.{release_request}
use Rattle.dlms_blocks.specs.Joining.{empty}
use Rattle.dlms_carrier.specs.Any.{AnyValue, IsFresh}
use Rattle.dlms_carrier.specs.Any.AnyValue.{Hdlc, Tcp}
use Rattle.dlms_carrier.specs.Carrying.{Feed}
use Rattle.dlms_carrier.specs.Tcp.{fresh, message_of}
use Rattle.dlms_carrier.specs.declared.event.Event.TheVariants as event
use Rattle.dlms_carrier.specs.declared.phase.Phase.{Phase as Standing}
use Rattle.dlms_carrier.specs.declared.phase.Phase.TheVariants.{Down, Idle, Waiting}
use Rattle.dlms_ends.specs.Carried.{CarriedValue, Steps, fault_of, out_of}
use Rattle.dlms_ends.specs.PollEnds.{AllRead, FeedsAt, IsNew, PollAt, PollEndValue, Reading}
use Rattle.dlms_ends.specs.PollEnds.AllRead.{NoCall, OneCall}
use Rattle.dlms_ends.specs.declared.head_end.TheConstants.{MOST_BYTES}
use Rattle.dlms_fleet.specs.Inputs.Input.{Begins as BeginsOf, Reads as ReadsOf}
use Rattle.dlms_fleet.specs.Numbers.{NumberedSteps}
use Rattle.dlms_fleet.specs.RunningJob.{MomentValue}
use Rattle.dlms_fleet.specs.RunningJob.MomentValue.{Connected, Came}
use Rattle.dlms_fleet.specs.Runs.{Event}
use Rattle.dlms_fleet.specs.Runs.Event.{Starts, Moves}
use Rattle.dlms_fleet.specs.Runs.Own.{Moved}
use Rattle.dlms_fleet.specs.Seats.{FleetSteps, FleetValue}
use Rattle.dlms_fleet.specs.declared.fleet.FleetStep.{FleetStep}
use Rattle.dlms_fleet.specs.declared.fleet.FleetStep.TheVariants as told
use Rattle.dlms_fleet.specs.declared.job.JobStep.TheVariants as taken
use Rattle.dlms_fleet.specs.declared.numbered.Numbered.{Numbered}
use Rattle.dlms_fleet.specs.declared.running.Limits.{Limits}
use Rattle.dlms_fleet.specs.declared.running.Outcome.TheVariants as ended
use Rattle.dlms_fleet.specs.declared.running.Phase.{Phase}
use Rattle.dlms_fleet.specs.declared.running.Phase.TheVariants.{Asking, Connecting}
use Rattle.dlms_fleet.specs.declared.running.Running.{Running}
use Rattle.dlms_fleet.specs.declared.running.Step.TheVariants as step
use Rattle.dlms_headend.specs.Asking.{IsBufferRequest, columns_bytes}
use Rattle.dlms_headend.specs.CarrierPolling.{Begins, fresh_over}
use Rattle.dlms_headend.specs.CarrierPolling.TakesOver.{IsTaken}
use Rattle.dlms_headend.specs.Columns.{TellsColumns}
use Rattle.dlms_headend.specs.Due.{association_with}
use Rattle.dlms_headend.specs.Due.AsksFor.{Names, Gets, Checks, Releases}
use Rattle.dlms_headend.specs.Poll.{Accepts, HasAccepted, HasBlocks, HasNamed, HasReleased, HasRows, Spells, is_release}
use Rattle.dlms_headend.specs.declared.plan.Columns.TheVariants.{Asked}
use Rattle.dlms_headend.specs.declared.row.Row.{Row}
use Rattle.dlms_headend.specs.declared.stage.PollCourse.{PollCourse}
use Rattle.dlms_headend.specs.declared.stage.PollCourse.TheVariants.{Ready, Running as Runs, Done}
use Rattle.dlms_headend.specs.declared.stage.Stage.{Stage}
use Rattle.dlms_headend.specs.declared.stage.Stage.TheVariants.{Associating, Naming, Getting, Checking, Releasing, Leaving}
use Rattle.dlms_headend.specs.declared.step.PollOutcome.TheVariants as outcome
use Rattle.dlms_headend.proofs.Requests.{request_is_short}
use Rattle.dlms_inquiries.specs.Inquiries.{Sent}
use Rattle.dlms_inquiries.specs.MeterJobs.{MeterSteps, poll_of}
use Rattle.dlms_inquiries.specs.declared.meter_job.JobFault.{JobFault}
use Rattle.dlms_inquiries.specs.declared.meter_job.MeterJob.{MeterJob}
use Rattle.dlms_jobs.specs.PollJobs.{JobSteps}
use Rattle.dlms_jobs.specs.PollJobs.BeginsPoll.{HasBegun}
use Rattle.dlms_jobs.specs.PollJobs.ReadsBytes.{HasCome}
use Rattle.dlms_jobs.specs.PollJobs.ReadsPiece.{IsRead, IsDone}
use Rattle.dlms_wrapper.specs.Message.{Parts}
use Rattle.dlms_wrapper.specs.declared.message.TheConstants.{MOST_APDU}
use Rattle.dlms_collecting.specs.OwnRun.{IsAnswer, OwnPollsExist, from_meter, the_route, the_terms, to_meter}

-- ---- the poll between its steps

abbrev pub carrier_at : Standing → Option Parts → List ℕ → CarriedValue
carrier_at phase found text = record {
  carrier = Tcp (record { own = 16; server = 1; phase = phase; reader = record { limit = MOST_APDU; bytes = []; message = found }; text = text });
  guard = None;
}

abbrev pub poll_at : PollCourse → Stage → List Row → CarriedValue → PollAt
poll_at course stage rows carrier = record {
  terms = the_terms;
  carrier = carrier;
  course = course;
  talk = record { stage = stage; blocks = empty; rows = rows };
}

abbrev pub end_at : PollAt → ℕ → PollEndValue
end_at poll left = record { poll = poll; left = left }

-- it has made this request, after this answer
abbrev pub asks_after : Stage → List Row → Option Parts → List ℕ → PollAt
asks_after stage rows found request = poll_at Runs stage rows (carrier_at Waiting found (to_meter request))

abbrev pub asks : Stage → List Row → List ℕ → List ℕ → PollAt
asks stage rows before request = asks_after stage rows (Some (message_of 1 16 before)) request

-- it is done
abbrev pub polls_done : List ℕ → List Row → PollAt
polls_done release rows = poll_at Done Leaving rows (carrier_at Down (Some (message_of 1 16 release)) [])

-- ---- a new poll, and its connection

abbrev pub polls_new : PollAt
polls_new = poll_at Ready Associating [] (carrier_at Down None [])

fresh_is : (carrier : AnyValue) → IsFresh the_route carrier → carrier ≡ Tcp (fresh 16 1)
fresh_is (Hdlc c) is = absurd is
fresh_is (Tcp c) is = ap Tcp is

over : AnyValue → PollAt
over carrier = let beside : CarriedValue = record { carrier = carrier; guard = None } in fresh_over beside the_terms

new_is : (t : PollEndValue) → IsNew the_route the_terms None t → t ≡ end_at polls_new MOST_BYTES
unfolding over
new_is t is =
    let poll : t.poll ≡ polls_new = is.poll ∙ ap over (fresh_is is.carrier is.fresh) in
    ap (λ (p : PollAt). end_at p t.left) poll ∙ ap (λ (n : ℕ). end_at polls_new n) is.left

pub begun : Begins Steps polls_new (asks_after Associating [] None (association_with None))
begun = record {
  event = event.Up;
  carrier = carrier_at Idle None [];
  begins = ((refl, refl, refl), refl);
  follows = record { event = event.Nothing; carrier = carrier_at Waiting None (to_meter (association_with None)); gives = ((refl, lit≤ tt, refl, refl), refl); after = refl };
}

-- ---- a message from the meter

hears : (found : Option Parts) (text apdu : List ℕ) → IsAnswer apdu
    → Steps (carrier_at Waiting found text) (Feed (from_meter apdu) (length (from_meter apdu))) event.Apdu (carrier_at Idle (Some (message_of 1 16 apdu)) [])
hears found text apdu is =
    let octets = from_meter apdu in (
      record {
        reader = record { limit = MOST_APDU; bytes = []; message = Some (message_of 1 16 apdu) };
        reads = λ up. record {
          limit = refl;
          takes = record {
            text = take_all (length octets) octets (omega arith) ∙ sym (append-nil octets);
            message = record { source = lit< tt; dest = lit< tt; short = is.short };
            rest = λ m after is same. cc same;
          };
        };
        drops = λ down. absurd (cc down);
        comes = ((refl, record { message = message_of 1 16 apdu; whole = refl; from = refl; to = refl; answers = is.answers }), (λ refused. absurd (cc refused.begins.text)), refl);
      },
      refl,
    )

-- ---- the answers

module _ (accept named answer again release get : List ℕ) (rows : List Row) (accepts : Accepts accept) (names : TellsColumns named) (spells : Spells 0 [] answer rows)
    (names_again : TellsColumns again) (ends : is_release release ≡ true) (wanted : IsBufferRequest None None get) where
  accepted_so : (apdus : List (List ℕ)) → apdus ≡ [] → HasAccepted (apdus ++ accept ∷ [])
  accepted_so apdus none = record { response = accept; are = ap (λ (a : List (List ℕ)). a ++ accept ∷ []) none; accepts = accepts }

  named_so : (apdus : List (List ℕ)) → HasAccepted apdus → HasBlocks Asked (apdus ++ named ∷ []) 0 []
  named_so apdus h = record {
    response = h.response;
    names = named ∷ [];
    blocks = [];
    are = ap (λ (a : List (List ℕ)). a ++ named ∷ []) h.are;
    accepts = h.accepts;
    named = (named, refl, names);
    come = (refl, refl);
  }

  rows_so : (apdus : List (List ℕ)) → HasBlocks Asked apdus 0 [] → HasRows Asked (apdus ++ answer ∷ []) rows
  rows_so apdus h = record { before = apdus; answer = answer; taken = 0; joined = []; are = refl; blocks = h; spelled = spells }

  again_so : (apdus : List (List ℕ)) → HasRows Asked apdus rows → HasNamed Asked (apdus ++ again ∷ []) rows
  again_so apdus h = record { before = apdus; names = again ∷ []; are = refl; polled = h; named = (again, refl, names_again) }

  pub accepted : IsAnswer accept → FeedsAt (asks_after Associating [] None (association_with None)) (from_meter accept) (length (from_meter accept)) (Ok outcome.Nothing) (asks Naming [] accept columns_bytes)
  accepted is = λ apdus fits. record {
    event = event.Apdu;
    carrier = carrier_at Idle (Some (message_of 1 16 accept)) [];
    feeds = hears None (to_meter (association_with None)) accept is;
    comes = IsTaken (record { stage = Naming; blocks = empty; rows = [] }) (record { running = refl; awaits = tt }) (λ odd. absurd (cc odd.releasing))
        (refl, accepted_so apdus fits.0, refl, refl)
        (inl (record {
          request = columns_bytes;
          event = event.Nothing;
          carrier = carrier_at Waiting (Some (message_of 1 16 accept)) (to_meter columns_bytes);
          awaits = tt;
          asks = Names refl (accepted_so apdus fits.0) refl;
          gives = ((refl, lit≤ tt, refl, refl), refl);
          answer = refl;
          after = refl;
        }));
  }

  pub told_columns : IsAnswer named → FeedsAt (asks Naming [] accept columns_bytes) (from_meter named) (length (from_meter named)) (Ok outcome.Nothing) (asks (Getting 0) [] named get)
  told_columns is = λ apdus fits. record {
    event = event.Apdu;
    carrier = carrier_at Idle (Some (message_of 1 16 named)) [];
    feeds = hears (Some (message_of 1 16 accept)) (to_meter columns_bytes) named is;
    comes = IsTaken (record { stage = Getting 0; blocks = empty; rows = [] }) (record { running = refl; awaits = tt }) (λ odd. absurd (cc odd.releasing))
        (named_so apdus fits.1, record { count = refl; open_end = refl }, refl)
        (inl (record {
          request = get;
          event = event.Nothing;
          carrier = carrier_at Waiting (Some (message_of 1 16 named)) (to_meter get);
          awaits = tt;
          asks = Gets [] (named_so apdus fits.1) wanted;
          gives = ((refl, omega (arith, request_is_short None None get wanted), refl, refl), refl);
          answer = refl;
          after = refl;
        }));
  }

  pub answered : IsAnswer answer → FeedsAt (asks (Getting 0) [] named get) (from_meter answer) (length (from_meter answer)) (Ok outcome.Nothing) (asks Checking rows answer columns_bytes)
  answered is = λ apdus fits. record {
    event = event.Apdu;
    carrier = carrier_at Idle (Some (message_of 1 16 answer)) [];
    feeds = hears (Some (message_of 1 16 named)) (to_meter get) answer is;
    comes = IsTaken (record { stage = Checking; blocks = empty; rows = rows }) (record { running = refl; awaits = tt }) (λ odd. absurd (cc odd.releasing))
        (refl, rows_so apdus fits.0)
        (inl (record {
          request = columns_bytes;
          event = event.Nothing;
          carrier = carrier_at Waiting (Some (message_of 1 16 answer)) (to_meter columns_bytes);
          awaits = tt;
          asks = Checks rows refl (rows_so apdus fits.0) refl;
          gives = ((refl, lit≤ tt, refl, refl), refl);
          answer = refl;
          after = refl;
        }));
  }

  pub told_again : IsAnswer again → FeedsAt (asks Checking rows answer columns_bytes) (from_meter again) (length (from_meter again)) (Ok outcome.Nothing) (asks Releasing rows again release_request)
  told_again is = λ apdus fits. record {
    event = event.Apdu;
    carrier = carrier_at Idle (Some (message_of 1 16 again)) [];
    feeds = hears (Some (message_of 1 16 answer)) (to_meter columns_bytes) again is;
    comes = IsTaken (record { stage = Releasing; blocks = empty; rows = rows }) (record { running = refl; awaits = tt }) (λ odd. absurd (cc odd.releasing))
        (again_so apdus fits.1)
        (inl (record {
          request = release_request;
          event = event.Nothing;
          carrier = carrier_at Waiting (Some (message_of 1 16 again)) (to_meter release_request);
          awaits = tt;
          asks = Releases rows (again_so apdus fits.1) refl;
          gives = ((refl, lit≤ tt, refl, refl), refl);
          answer = refl;
          after = refl;
        }));
  }

  pub released : IsAnswer release → FeedsAt (asks Releasing rows again release_request) (from_meter release) (length (from_meter release)) (Ok outcome.Done) (polls_done release rows)
  released is = λ apdus fits. record {
    event = event.Apdu;
    carrier = carrier_at Idle (Some (message_of 1 16 release)) [];
    feeds = hears (Some (message_of 1 16 again)) (to_meter release_request) release is;
    comes =
        let left : HasReleased Asked (apdus ++ release ∷ []) rows = record { before = apdus; answer = release; are = refl; polled = fits; released = ends } in
        IsTaken (record { stage = Leaving; blocks = empty; rows = rows }) (record { running = refl; awaits = tt }) (λ odd. absurd (let both : true ≡ false = sym ends ∙ odd.other in cc both))
        left
        (inr (record {
          event = event.Down;
          carrier = carrier_at Down (Some (message_of 1 16 release)) [];
          released = left;
          ends = ((refl, refl, refl), refl);
          leaves = record { answer = refl; after = refl };
        }));
  }

-- ---- one step of the job

drop_all : (xs : List ℕ) → drop (length xs) xs ≡ []
drop_all [] = refl
drop_all (x ∷ xs) = drop_all xs

-- the connection is up, and the association is requested
pub begins : (m : Sent) → m.items ≡ to_meter (association_with None) → JobSteps (end_at polls_new MOST_BYTES) BeginsOf (taken.Sends m) (end_at (asks_after Associating [] None (association_with None)) MOST_BYTES)
begins m holds = record {
  octets = to_meter (association_with None);
  result = Ok outcome.Nothing;
  calls = HasBegun (record { ready = refl; down = refl }) begun refl (refl, refl);
  step_is = (holds, omega arith);
}

-- a piece is read in one call, and a request is made
pub sends : (p p' : PollAt) (bytes : List ℕ) (left : ℕ) (m : Sent) → FeedsAt p bytes (length bytes) (Ok outcome.Nothing) p' → fault_of p'.carrier ≡ None
    → m.items ≡ out_of p'.carrier → 0 < length (out_of p'.carrier) → length bytes ≤ left
    → JobSteps (end_at p left) (ReadsOf bytes) (taken.Sends m) (end_at p' (left - length bytes))
sends p p' bytes left m feeds whole holds some few =
    let call : Reading = record { count = length bytes; out = out_of p'.carrier } in
    record {
      octets = out_of p'.carrier;
      result = Ok outcome.Nothing;
      calls = HasCome few refl (IsRead (call ∷ [])
          (subst (λ (rest : List ℕ). AllRead p bytes (call ∷ []) p' rest) (drop_all bytes) (OneCall [] p p' bytes call NoCall (record { feeds = feeds; whole = whole; out = refl })))
          (sym (append-nil (out_of p'.carrier))) refl);
      step_is = (holds, some);
    }

-- a piece is read in one call, after which the poll is done
pub ends : (p p' : PollAt) (bytes : List ℕ) (left : ℕ) → FeedsAt p bytes (length bytes) (Ok outcome.Done) p' → length bytes ≤ left
    → JobSteps (end_at p left) (ReadsOf bytes) taken.Done (end_at p' (left - length bytes))
ends p p' bytes left feeds few = record {
  octets = [];
  result = Ok outcome.Done;
  calls = HasCome few refl (IsDone [] p bytes (length bytes) NoCall feeds refl);
  step_is = refl;
}

-- ---- a fleet of one seat

abbrev the_limits : Limits
the_limits = record { deadline = 9; quiet = 0; answer = 3 }

abbrev Seat : Type 0
Seat = Option (Running (Numbered MeterJob))

abbrev with_seat : Seat → FleetValue (Numbered MeterJob)
with_seat seat = record { limits = the_limits; seats = seat ∷ [] }

abbrev runs_at : ℕ → Phase → Box PollEndValue Global → Running (Numbered MeterJob)
runs_at number phase poll = record { job = poll_of number poll; phase = phase; left = 9 }

abbrev Moving : FleetValue (Numbered MeterJob) → MomentValue → FleetStep (Numbered MeterJob) Sent JobFault → FleetValue (Numbered MeterJob) → Type 0
Moving old at told new = FleetSteps (NumberedSteps MeterSteps) old 0 at told new

connects : (number : ℕ) (b : Box PollEndValue Global) (t : PollEndValue) (m : Sent) → JobSteps b.value BeginsOf (taken.Sends m) t
    → Moving (with_seat (Some (runs_at number Connecting b))) Connected (told.Sends m) (with_seat (Some (runs_at number (Asking 3) (with_value b t))))
connects number b t m steps = record {
  seat = Some (runs_at number (Asking 3) (with_value b t));
  own = record {
    made = step.Sends m;
    running = runs_at number (Asking 3) (with_value b t);
    runs = record { own = taken.Sends m; takes = ((taken.Sends m, steps, refl), refl); makes = (refl, refl); left = refl };
    keeps = (refl, refl);
  };
  others = refl;
}

asks_on : (number : ℕ) (b : Box PollEndValue Global) (t : PollEndValue) (bytes : List ℕ) (m : Sent) → JobSteps b.value (ReadsOf bytes) (taken.Sends m) t
    → Moving (with_seat (Some (runs_at number (Asking 3) b))) (Came bytes) (told.Sends m) (with_seat (Some (runs_at number (Asking 3) (with_value b t))))
asks_on number b t bytes m steps = record {
  seat = Some (runs_at number (Asking 3) (with_value b t));
  own = record {
    made = step.Sends m;
    running = runs_at number (Asking 3) (with_value b t);
    runs = record { own = taken.Sends m; takes = ((taken.Sends m, steps, refl), refl); makes = (refl, refl); left = refl };
    keeps = (refl, refl);
  };
  others = refl;
}

ends_there : (number : ℕ) (b : Box PollEndValue Global) (t : PollEndValue) (bytes : List ℕ) → JobSteps b.value (ReadsOf bytes) taken.Done t
    → Moving (with_seat (Some (runs_at number (Asking 3) b))) (Came bytes) (told.Ends ended.Done (poll_of number (with_value b t))) (with_seat None)
ends_there number b t bytes steps = record {
  seat = None;
  own = record {
    made = step.Ends ended.Done;
    running = runs_at number (Asking 3) (with_value b t);
    runs = record { own = taken.Done; takes = ((taken.Done, steps, refl), refl); makes = (refl, refl); left = refl };
    keeps = (refl, refl);
  };
  others = refl;
}

-- the octets of a message are few
few : (apdu : List ℕ) → IsAnswer apdu → length (from_meter apdu) ≤ 65543
few apdu is = omega (arith, is.short)

-- ---- the law

pub own_polls_exist : OwnPollsExist
own_polls_exist number new first second third fourth fifth accept named answer again release rows asked asked' printed printed' errors errors' before fresh r a files =
    let b1 = from_meter accept in
    let b2 = from_meter named in
    let b3 = from_meter answer in
    let b4 = from_meter again in
    let b5 = from_meter release in
    let t0 = end_at polls_new MOST_BYTES in
    let t1 = end_at (asks_after Associating [] None (association_with None)) MOST_BYTES in
    let t2 = end_at (asks Naming [] accept columns_bytes) (MOST_BYTES - length b1) in
    let t3 = end_at (asks (Getting 0) [] named r.get) (MOST_BYTES - length b1 - length b2) in
    let t4 = end_at (asks Checking rows answer columns_bytes) (MOST_BYTES - length b1 - length b2 - length b3) in
    let t5 = end_at (asks Releasing rows again release_request) (MOST_BYTES - length b1 - length b2 - length b3 - length b4) in
    let t6 = end_at (polls_done release rows) (MOST_BYTES - length b1 - length b2 - length b3 - length b4 - length b5) in
    let s1 : JobSteps t0 BeginsOf (taken.Sends first) t1 = begins first r.associates in
    let s2 : JobSteps t1 (ReadsOf b1) (taken.Sends second) t2 = sends _ _ b1 MOST_BYTES second (accepted accept named answer again release r.get rows a.accepts a.names a.spells a.checks a.releases r.wanted a.one) refl r.names (omega arith) (omega (arith, few accept a.one)) in
    let s3 : JobSteps t2 (ReadsOf b2) (taken.Sends third) t3 = sends _ _ b2 (MOST_BYTES - length b1) third (told_columns accept named answer again release r.get rows a.accepts a.names a.spells a.checks a.releases r.wanted a.two) refl r.gets (omega arith) (omega (arith, few accept a.one, few named a.two)) in
    let s4 : JobSteps t3 (ReadsOf b3) (taken.Sends fourth) t4 = sends _ _ b3 (MOST_BYTES - length b1 - length b2) fourth (answered accept named answer again release r.get rows a.accepts a.names a.spells a.checks a.releases r.wanted a.three) refl r.checks (omega arith) (omega (arith, few accept a.one, few named a.two, few answer a.three)) in
    let s5 : JobSteps t4 (ReadsOf b4) (taken.Sends fifth) t5 = sends _ _ b4 (MOST_BYTES - length b1 - length b2 - length b3) fifth (told_again accept named answer again release r.get rows a.accepts a.names a.spells a.checks a.releases r.wanted a.four) refl r.releases (omega arith) (omega (arith, few accept a.one, few named a.two, few answer a.three, few again a.four)) in
    let s6 : JobSteps t5 (ReadsOf b5) taken.Done t6 = ends _ _ b5 (MOST_BYTES - length b1 - length b2 - length b3 - length b4) (released accept named answer again release r.get rows a.accepts a.names a.spells a.checks a.releases r.wanted a.five) (omega (arith, few accept a.one, few named a.two, few answer a.three, few again a.four, few release a.five)) in
    let was : t0 ≡ new.value = sym (new_is new.value fresh) in
    let events : List (Event (Numbered MeterJob) Sent JobFault) = Starts 0 (poll_of number new) ∷ Moves 0 Connected (told.Sends first) ∷ Moves 0 (Came b1) (told.Sends second) ∷ Moves 0 (Came b2) (told.Sends third)
    ∷ Moves 0 (Came b3) (told.Sends fourth) ∷ Moves 0 (Came b4) (told.Sends fifth) ∷ Moves 0 (Came b5) (told.Ends ended.Done (poll_of number (with_value new t6))) ∷ [] in
    record {
      old = with_seat None;
      new = with_seat None;
      events = events;
      result = poll_of number (with_value new t6);
      run = (
        with_seat (Some (runs_at number Connecting new)),
        (refl, refl),
        (
          with_seat (Some (runs_at number (Asking 3) (with_value new t1))),
          connects number new t1 first (subst (λ (t : PollEndValue). JobSteps t BeginsOf (taken.Sends first) t1) was s1),
          (
            with_seat (Some (runs_at number (Asking 3) (with_value new t2))),
            asks_on number (with_value new t1) t2 b1 second s2,
            (
              with_seat (Some (runs_at number (Asking 3) (with_value new t3))),
              asks_on number (with_value new t2) t3 b2 third s3,
              (
                with_seat (Some (runs_at number (Asking 3) (with_value new t4))),
                asks_on number (with_value new t3) t4 b3 fourth s4,
                (
                  with_seat (Some (runs_at number (Asking 3) (with_value new t5))),
                  asks_on number (with_value new t4) t5 b4 fifth s5,
                  (
                    with_seat None,
                    ends_there number (with_value new t5) t6 b5 s6,
                    refl,
                  ),
                ),
              ),
            ),
          ),
        ),
      );
      fresh = record { poll = new; is_poll = refl; terms = the_terms; guard = None; fresh = fresh };
      back = record {
        before = [];
        since = Moved Connected (told.Sends first) ∷ Moved (Came b1) (told.Sends second) ∷ Moved (Came b2) (told.Sends third) ∷ Moved (Came b3) (told.Sends fourth) ∷ Moved (Came b4) (told.Sends fifth) ∷ [];
        at = Came b5;
        after = [];
        on_seat = refl;
        runs_on = refl;
      };
      files = record { poll = with_value new t6; is_poll = refl; files = files };
    }
