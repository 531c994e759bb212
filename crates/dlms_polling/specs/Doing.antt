-- One poll over a line that is connected, until a deadline.
use Rattle.std.specs.Prelude.{◌≡◌, ◌⊎◌, ◌<◌, ◌+◌, ℕ, Bool, true, false, List, [], ◌∷◌, ◌++◌, length, map, Option, Some, None, Result, Ok, Err}
use Rattle.dlms_carrier.specs.declared.any.Route.{Route}
use Rattle.dlms_ends.specs.BothEnds.{CallFails, Called, IsPolled}
use Rattle.dlms_ends.specs.Calling.{Act, HeadWorld, frames_of}
use Rattle.dlms_ends.specs.Faults.{IsOfSystem}
use Rattle.dlms_ends.specs.Moments.{Moment, Adds, Breaks}
use Rattle.dlms_ends.specs.PollEnds.{Dials, IsNew, Listens, PollEndValue}
use Rattle.dlms_ends.specs.declared.fault.RunFault.{RunFault}
use Rattle.dlms_ends.specs.declared.fault.RunFault.TheVariants.{Memory, Poll}
use Rattle.dlms_ends.specs.declared.polling.TheConstants.{TURNS}
use Rattle.dlms_frame.specs.Frame.{Parts, spelling}
use Rattle.dlms_headend.specs.CarrierPollValue.{TermsValue}
use Rattle.dlms_headend.specs.PollRun.{IsCall}
use Rattle.dlms_headend.specs.PollRun.Call.{Next}
use Rattle.dlms_headend.specs.PollerValue.{PollerValue}
use Rattle.dlms_headend.specs.Polling.{fresh_poll}
use Rattle.dlms_headend.specs.declared.poll_fault.PollFault.TheVariants as poll
use Rattle.dlms_headend.specs.declared.step.PollOutcome.{PollOutcome}
use Rattle.dlms_headend.specs.declared.step.PollOutcome.TheVariants as outcome
use Rattle.dlms_filing.specs.Disk.{Called as Asks}
use Rattle.dlms_lines.specs.Deadline.{IsOver}
use Rattle.dlms_lines.specs.Watching.{Sight, Sees}
use Rattle.dlms_lines.specs.Watching.Sight.{Second}
use Rattle.dlms_polling.specs.Guards.{Guarding, accepted_of, nothing, oldest_after}
use Rattle.dlms_polling.specs.Guards.Guarding.{Gives, Keeps}
use Rattle.dlms_polling.specs.Ways.{Way, Linked, Routed, Secured}
use Rattle.dlms_polling.specs.declared.guards.Accepted.{Accepted}
use Rattle.dlms_polling.specs.declared.routed.TheConstants.{READS}
use Rattle.dlms_polling.specs.declared.way.DonePoll.{DonePoll}
use Rattle.dlms_polling.specs.declared.way.DonePoll.TheVariants as done
use Rattle.dlms_secured.specs.Guard.{GuardValue}

-- at none of these seconds the poll has to end
abbrev pub AreWithin : ℕ → List ℕ → Type 0
AreWithin seconds [] = Unit {0}
AreWithin seconds (time ∷ times) = (IsOver seconds time → ⊥) × AreWithin seconds times

-- The clock was looked at, and the poll had not to end then; and at last this came.
pub record Looks (seconds : ℕ) (seen seen' : Option (List Sight)) (count : ℕ) (last : List Sight)
    : Type 0 where
  pub times : List ℕ
  pub counted : length times ≡ count
  pub within : AreWithin seconds times
  pub watched : Sees seen seen' (map (λ time. Second (Some time)) times ++ last)

-- ---- over the link

-- Why it fails: the line breaks at the first frame, before the clock is looked at; the clock fails; the head end fails, after a
-- look; or this many frames went out after the first one.
pub data DoingFails (seconds : ℕ) (old new : Option (List Moment))
    (seen seen' : Option (List Sight)) (poller : PollerValue) (fault : RunFault) : Type 0 where
  Unbegun : IsOfSystem fault → (frame : Parts) (begun : PollerValue)
      → IsCall poller (Next (Some frame)) begun → Breaks old new (spelling frame)
      → Sees seen seen' []
      → DoingFails seconds old new seen seen' poller fault
  ClockFails : IsOfSystem fault → (acts : List Act) (world : HeadWorld)
      → Called old new poller acts world
      → Looks seconds seen seen' (length (frames_of acts)) (Second None ∷ [])
      → DoingFails seconds old new seen seen' poller fault
  HeadFails : CallFails old new poller fault → (count : ℕ) → 0 < count
      → Looks seconds seen seen' count [] → DoingFails seconds old new seen seen' poller fault
  Tires : fault ≡ Poll poll.Line → (acts : List Act) (world : HeadWorld)
      → Called old new poller acts world → length (frames_of acts) ≡ TURNS
      → Looks seconds seen seen' TURNS []
      → DoingFails seconds old new seen seen' poller fault

-- The poll is done, after a look; or after the frames that went out the deadline is over at a look; or it fails. The clock is
-- looked at once before each turn.
abbrev pub DoesLinked : (seconds : ℕ) (old new : Option (List Moment))
    (seen seen' : Option (List Sight)) (poller : PollerValue)
    → Result (Option PollerValue) RunFault → Type 0
DoesLinked seconds old new seen seen' poller (Ok (Some done)) = IsPolled old new poller done
    × (count : ℕ) × (0 < count) × Looks seconds seen seen' count []
DoesLinked seconds old new seen seen' poller (Ok None) =
    (acts : List Act) × (world : HeadWorld) × Called old new poller acts world × (last : ℕ)
    × IsOver seconds last × Looks seconds seen seen' (length (frames_of acts))
    (Second (Some last) ∷ [])
DoesLinked seconds old new seen seen' poller (Err fault) =
    DoingFails seconds old new seen seen' poller fault

-- ---- over a route

-- This many reads of the line, after each of which the poll goes on; and the meter's counter that its guard accepted first, if it
-- accepted any.
pub data HearsOn (old : Option (List Moment)) (t : PollEndValue)
    : ℕ → Option ℕ → Option (List Moment) → PollEndValue → Type 0 where
  NoRead : HearsOn old t 0 None old t
  OneMore : (count : ℕ) (oldest : Option ℕ) (now new : Option (List Moment)) (mid t' : PollEndValue)
      → HearsOn old t count oldest now mid → Listens now new mid (Ok outcome.Nothing) t'
      → HearsOn old t (count + 1) (oldest_after oldest t') new t'

-- The poll has dialled, and the line was read this many times since. After each read the poll goes on.
pub record HasListened (old now : Option (List Moment)) (t : PollEndValue) (count : ℕ)
    (oldest : Option ℕ) (t' : PollEndValue) : Type 0 where
  pub dialled : Option (List Moment)
  pub first : PollEndValue
  pub dials : Dials old dialled t (Ok tt) first
  pub listens : HearsOn dialled first count oldest now t'

-- a read after which the poll is done, or has failed
abbrev pub EndsAt : Result PollOutcome RunFault → Result Bool RunFault → Type 0
EndsAt (Ok outcome.Nothing) result = ⊥
EndsAt (Ok outcome.Done) result = result ≡ Ok true
EndsAt (Err fault) result = result ≡ Err fault

-- The poll dials, and reads the line until it is done or fails; the clock is looked at before each read. Or the line breaks as it
-- dials; the clock fails; the deadline is over at a look, and the poll is not done; or the limit of reads is reached. This counter
-- was accepted first.
pub data PollsUntil (seconds : ℕ) (old new : Option (List Moment))
    (seen seen' : Option (List Sight)) (t : PollEndValue) (result : Result Bool RunFault)
    (oldest : Option ℕ) (t' : PollEndValue) : Type 0 where
  DialsInVain : (why : RunFault) → Dials old new t (Err why) t' → Sees seen seen' []
      → result ≡ Err why → oldest ≡ None → PollsUntil seconds old new seen seen' t result oldest t'
  ClockStops : (why : RunFault) → IsOfSystem why → (count : ℕ)
      → HasListened old new t count oldest t'
      → Looks seconds seen seen' count (Second None ∷ []) → result ≡ Err why
      → PollsUntil seconds old new seen seen' t result oldest t'
  IsOverdue : (last : ℕ) → IsOver seconds last → (count : ℕ)
      → HasListened old new t count oldest t'
      → Looks seconds seen seen' count (Second (Some last) ∷ []) → result ≡ Ok false
      → PollsUntil seconds old new seen seen' t result oldest t'
  IsEnded : (count : ℕ) (before : Option ℕ) (now : Option (List Moment)) (mid : PollEndValue)
      (told : Result PollOutcome RunFault) → HasListened old now t count before mid
      → Looks seconds seen seen' (count + 1) [] → Listens now new mid told t' → EndsAt told result
      → oldest ≡ oldest_after before t' → PollsUntil seconds old new seen seen' t result oldest t'
  IsTired : HasListened old new t READS oldest t' → Looks seconds seen seen' READS []
      → result ≡ Err (Poll poll.Line) → PollsUntil seconds old new seen seen' t result oldest t'

-- A new poll over the route, by these terms, with this guard or with none, came to this; and its guard accepted this.
pub record PollsAnew (route : Route) (terms : TermsValue) (guard : Option GuardValue) (seconds : ℕ)
    (old new : Option (List Moment)) (seen seen' : Option (List Sight)) (accepted : Accepted)
    (result : Result Bool RunFault) (t' : PollEndValue) : Type 0 where
  pub fresh : PollEndValue
  pub is_new : IsNew route terms guard fresh
  pub oldest : Option ℕ
  pub polls : PollsUntil seconds old new seen seen' fresh result oldest t'
  pub accepts : accepted ≡ accepted_of oldest t'

-- memory ran out before the poll began, and nothing was accepted
pub record HasNoMemory (old new : Option (List Moment)) (seen seen' : Option (List Sight))
    (accepted : Accepted) (fault : RunFault) : Type 0 where
  pub memory : fault ≡ Memory
  pub idle : Adds old new []
  pub unwatched : Sees seen seen' []
  pub unaccepted : accepted ≡ nothing

-- The poll is done; or the deadline is over; or it fails.
abbrev pub DoesOver : Route → TermsValue → (guard : Option GuardValue) → (seconds : ℕ)
    (old new : Option (List Moment)) (seen seen' : Option (List Sight)) (accepted : Accepted)
    → Result (Option PollEndValue) RunFault → Type 0
DoesOver route terms guard seconds old new seen seen' accepted (Ok (Some done)) =
    PollsAnew route terms guard seconds old new seen seen' accepted (Ok true) done
DoesOver route terms guard seconds old new seen seen' accepted (Ok None) =
    (t : PollEndValue)
    × PollsAnew route terms guard seconds old new seen seen' accepted (Ok false) t
DoesOver route terms guard seconds old new seen seen' accepted (Err fault) =
    HasNoMemory old new seen seen' accepted fault
    ⊎ ((t : PollEndValue)
    × PollsAnew route terms guard seconds old new seen seen' accepted (Err fault) t)

-- in clear
abbrev pub DoesRouted : Route → TermsValue → (seconds : ℕ) (old new : Option (List Moment))
    (seen seen' : Option (List Sight)) → Result (Option PollEndValue) RunFault → Type 0
DoesRouted route terms seconds old new seen seen' result = (accepted : Accepted)
    × DoesOver route terms None seconds old new seen seen' accepted result

-- ---- over a route, in a protected association

-- the outcome of a poll, after what its guard accepted was kept, or refused with this fault
abbrev pub kept_so : Result (Option PollEndValue) RunFault → Option RunFault
    → Result (Option PollEndValue) RunFault
kept_so (Err fault) kept = Err fault
kept_so (Ok found) None = Ok found
kept_so (Ok found) (Some fault) = Err fault

-- A guard is asked for. If none is given, nothing is sent, and that is the fault. Otherwise the poll is done with this guard, or
-- fails; and then what this guard accepted is kept, or refused.
pub data DoesSecured (route : Route) (terms : TermsValue) (seconds : ℕ)
    (old new : Option (List Moment)) (seen seen' : Option (List Sight))
    (given given' : Option (List Guarding)) (result : Result (Option PollEndValue) RunFault)
    : Type 0 where
  Unguarded : (fault : RunFault) → Asks given given' (Gives (Err fault) ∷ []) → Adds old new []
      → Sees seen seen' [] → result ≡ Err fault
      → DoesSecured route terms seconds old new seen seen' given given' result
  Guarded : (guard : GuardValue) (accepted : Accepted) (kept : Option RunFault)
      → Asks given given' (Gives (Ok guard) ∷ Keeps accepted kept ∷ [])
      → (told : Result (Option PollEndValue) RunFault)
      → DoesOver route terms (Some guard) seconds old new seen seen' accepted told
      → result ≡ kept_so told kept
      → DoesSecured route terms seconds old new seen seen' given given' result

-- ---- in each way

abbrev pub Does : (seconds : ℕ) (old new : Option (List Moment)) (seen seen' : Option (List Sight))
    (given given' : Option (List Guarding)) → Way → Result (Option DonePoll) RunFault → Type 0
Does seconds old new seen seen' given given' (Linked plan) (Ok (Some (done.Linked poller))) =
    DoesLinked seconds old new seen seen' (fresh_poll plan) (Ok (Some poller)) × (given' ≡ given)
Does seconds old new seen seen' given given' (Linked plan) (Ok (Some (done.Routed end))) = ⊥
Does seconds old new seen seen' given given' (Linked plan) (Ok None) =
    DoesLinked seconds old new seen seen' (fresh_poll plan) (Ok None) × (given' ≡ given)
Does seconds old new seen seen' given given' (Linked plan) (Err fault) =
    DoesLinked seconds old new seen seen' (fresh_poll plan) (Err fault) × (given' ≡ given)
Does seconds old new seen seen' given given' (Routed route terms) (Ok (Some (done.Linked poller))) =
    ⊥
Does seconds old new seen seen' given given' (Routed route terms) (Ok (Some (done.Routed end))) =
    DoesRouted route terms seconds old new seen seen' (Ok (Some end)) × (given' ≡ given)
Does seconds old new seen seen' given given' (Routed route terms) (Ok None) =
    DoesRouted route terms seconds old new seen seen' (Ok None) × (given' ≡ given)
Does seconds old new seen seen' given given' (Routed route terms) (Err fault) =
    DoesRouted route terms seconds old new seen seen' (Err fault) × (given' ≡ given)
Does seconds old new seen seen' given given' (Secured route terms)
    (Ok (Some (done.Linked poller))) = ⊥
Does seconds old new seen seen' given given' (Secured route terms) (Ok (Some (done.Routed end))) =
    DoesSecured route terms seconds old new seen seen' given given' (Ok (Some end))
Does seconds old new seen seen' given given' (Secured route terms) (Ok None) =
    DoesSecured route terms seconds old new seen seen' given given' (Ok None)
Does seconds old new seen seen' given given' (Secured route terms) (Err fault) =
    DoesSecured route terms seconds old new seen seen' given given' (Err fault)
