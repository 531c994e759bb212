-- A poll over a line, until a deadline.
use Rattle.std.specs.Prelude.{◌≡◌, ◌⊎◌, ◌+◌, ◌<◌, ◌≤◌, if◌then◌else◌, ℕ, Bool, true, false, List, [], ◌∷◌, ◌++◌, Option, Some, None, Result, Ok, Err}
use Rattle.std.specs.IoError.{error_kind}
use Rattle.std.specs.declared.io.Error.{Error}
use Rattle.std.specs.declared.io.ErrorKind.{ErrorKind}
use Rattle.std.specs.declared.io.ErrorKind.TheVariants.{BrokenPipe, ConnectionAborted, ConnectionRefused, ConnectionReset, TimedOut, UnexpectedEof}
use Rattle.dlms_headend.specs.declared.poll_fault.PollFault.TheVariants as poll
use Rattle.dlms_client.specs.Plan.{PlanValue as PlanOfClient}
use Rattle.dlms_association.specs.declared.fault.Fault.TheVariants as asking
use Rattle.dlms_call.specs.declared.fault.CallFault.{CallFault}
use Rattle.dlms_call.specs.declared.fault.CallFault.TheVariants.{Io as LineBroke, Talk}
use Rattle.dlms_identity.specs.Showing.{ShowsAllBut}
use Rattle.dlms_identity.specs.declared.showing.Expected.{Expected}
use Rattle.dlms_ends.specs.Moments.{Moment, Adds}
use Rattle.dlms_ends.specs.Moments.Moment.{Connects}
use Rattle.dlms_ends.specs.declared.fault.RunFault.{RunFault}
use Rattle.dlms_ends.specs.declared.fault.RunFault.TheVariants.{Io, Poll}
use Rattle.dlms_polling.specs.Clocks.{Refuses}
use Rattle.dlms_polling.specs.Doing.{Does}
use Rattle.dlms_polling.specs.Guards.{AsksNoGuard, Watch}
use Rattle.dlms_polling.specs.Ways.{Way, asker_of, outlasts, rows_of}
use Rattle.dlms_lines.specs.Deadline.{IsOver}
use Rattle.dlms_lines.specs.Faults.{IsClockAt, IsLateAt, IsOther, IsSystemAt}
use Rattle.dlms_lines.specs.Watching.{Sight, Sees}
use Rattle.dlms_lines.specs.Watching.Sight.{Pauses, Second, Starts}
use Rattle.dlms_lines.specs.declared.fault.ClockFault.{ClockFault}
use Rattle.dlms_polling.specs.declared.clocks.Limit.{Limit}
use Rattle.dlms_lines.specs.declared.fault.FieldFault.{FieldFault}
use Rattle.dlms_lines.specs.declared.fault.FieldFault.TheVariants.{System, Secret, Late, Clock, Stranger, Unasked, Other}
use Rattle.dlms_polling.specs.declared.polling.Polling.{Polling as PollingOf}
use Rattle.dlms_polling.specs.declared.way.DonePoll.{DonePoll}

-- ---- what a poll aims at

-- The meter at this address is polled within this many seconds, and called again this many times at most: first these texts are asked for, by this client, and then it is
-- polled in this way.
pub record Aim : Type 0 where
  pub address : List ℕ
  pub seconds : ℕ
  pub retries : ℕ
  pub asker : PlanOfClient
  pub expected : List Expected
  pub way : Way

abbrev pub aim_of : PollingOf → Way → Aim
aim_of polling way = record {
  address = polling.address.now;
  seconds = polling.deadline;
  retries = polling.retries;
  asker = asker_of way;
  expected = polling.expected.now;
  way = way;
}

-- an object did not show this text
abbrev pub IsStrangerAt : List ℕ → Expected → FieldFault → Type 0
IsStrangerAt address one (Stranger place told) = (place.now ≡ address) × (told ≡ one)
IsStrangerAt address one _ = ⊥

-- a text could not be asked for: the fault of the talk, or the system's if the line failed
abbrev pub IsUnaskedAt : List ℕ → CallFault → FieldFault → Type 0
IsUnaskedAt address why (System place error) = (place.now ≡ address) × (why ≡ LineBroke)
IsUnaskedAt address why (Unasked place told) = (place.now ≡ address) × (told ≡ why)
IsUnaskedAt address why _ = ⊥

-- Each of these texts is shown; or one of them is the first that is not; or it could not be asked for.
abbrev pub Knows : {T : Type 0} → Aim → List Expected → Option (List Moment)
    → Option (List Moment) → Result T FieldFault → Type 0
Knows aim expected old new (Ok done) = ShowsAllBut old new aim.asker expected (Ok None)
Knows aim expected old new (Err fault) =
    ((one : Expected) × ShowsAllBut old new aim.asker expected (Ok (Some one))
    × IsStrangerAt aim.address one fault)
    ⊎ ((why : CallFault) × ShowsAllBut old new aim.asker expected (Err why)
    × IsUnaskedAt aim.address why fault)

-- the line is connected to the address, unless it is connected already
abbrev pub Reaches : Bool → List ℕ → Option (List Moment) → Option (List Moment) → Result Bool Error
    → Type 0
Reaches true address old new result = (result ≡ Ok true) × Adds old new []
Reaches false address old new result = Adds old new (Connects address result ∷ [])

-- The clock is looked at, and the line is connected anew, in time or not; or one of both fails.
abbrev pub Renews : List ℕ → Option (List Moment) → Option (List Moment) → Option (List Sight)
    → Option (List Sight) → Result Bool FieldFault → Type 0
Renews address old new seen seen' (Ok in_time) = (time : ℕ)
    × Sees seen seen' (Second (Some time) ∷ []) × Reaches false address old new (Ok in_time)
Renews address old new seen seen' (Err fault) = (error : Error) × IsSystemAt address error fault
    × ((Sees seen seen' (Second None ∷ []) × (new ≡ old))
    ⊎ ((time : ℕ) × Sees seen seen' (Second (Some time) ∷ [])
    × Reaches false address old new (Err error)))

-- These texts are shown, each over its own connection: after each the line is connected anew.
pub data KnowsEach (aim : Aim) (old : Option (List Moment)) (seen : Option (List Sight))
    : List Expected → Option (List Moment) → Option (List Sight) → Type 0 where
  NoText : KnowsEach aim old seen [] old seen
  OneText : (front : List Expected) (one : Expected) (mid known new : Option (List Moment))
      (before after : Option (List Sight)) → KnowsEach aim old seen front mid before
      → Knows {T = Unit {0}} aim (one ∷ []) mid known (Ok tt)
      → Renews aim.address known new before after (Ok true)
      → KnowsEach aim old seen (front ++ one ∷ []) new after

-- the texts before this one are shown so
pub record KnowsFront (aim : Aim) (old mid : Option (List Moment)) (seen before : Option
    (List Sight))
    (one : Expected) : Type 0 where
  pub front : List Expected
  pub rest : List Expected
  pub all : aim.expected ≡ front ++ one ∷ rest
  pub each : KnowsEach aim old seen front mid before

-- And then it is not shown, or not asked for; or it is, and the line is not connected again: that failed, or not in time.
pub data KnowsNoMore (aim : Aim) (old new : Option (List Moment)) (seen seen' : Option (List Sight))
    (result : Result Bool FieldFault) : Type 0 where
  NotShown : (one : Expected) (mid : Option (List Moment)) → KnowsFront aim old mid seen seen' one
      → (fault : FieldFault) → Knows {T = Unit {0}} aim (one ∷ []) mid new (Err fault)
      → result ≡ Err fault → KnowsNoMore aim old new seen seen' result
  NotRenewed : (one : Expected) (mid known : Option (List Moment)) (before : Option (List Sight))
      → KnowsFront aim old mid seen before one
      → Knows {T = Unit {0}} aim (one ∷ []) mid known (Ok tt) → (fault : FieldFault)
      → Renews aim.address known new before seen' (Err fault) → result ≡ Err fault
      → KnowsNoMore aim old new seen seen' result
  NotInTime : (one : Expected) (mid known : Option (List Moment)) (before : Option (List Sight))
      → KnowsFront aim old mid seen before one
      → Knows {T = Unit {0}} aim (one ∷ []) mid known (Ok tt)
      → Renews aim.address known new before seen' (Ok false) → result ≡ Ok false
      → KnowsNoMore aim old new seen seen' result

-- The expected texts are shown, and the line is ready for the poll (`true`). If a connection outlasts an association, they are
-- shown over this one; otherwise each has its own connection, and so has the poll.
abbrev pub Prepares : (outlasts : Bool) → Aim → (old new : Option (List Moment))
    (seen seen' : Option (List Sight)) → Result Bool FieldFault → Type 0
Prepares true aim old new seen seen' (Ok true) =
    Knows {T = Unit {0}} aim aim.expected old new (Ok tt) × (seen' ≡ seen)
Prepares true aim old new seen seen' (Ok false) = ⊥
Prepares true aim old new seen seen' (Err fault) =
    Knows {T = Unit {0}} aim aim.expected old new (Err fault) × (seen' ≡ seen)
Prepares false aim old new seen seen' (Ok true) = KnowsEach aim old seen aim.expected new seen'
Prepares false aim old new seen seen' (Ok false) = KnowsNoMore aim old new seen seen' (Ok false)
Prepares false aim old new seen seen' (Err fault) = KnowsNoMore aim old new seen seen' (Err fault)

-- ---- one attempt

-- The line is reached, each expected text is shown, and the outcome of a poll over the line is this: with the guard that was given
-- for it, if its way asks for protection.
pub record Drives (connected : Bool) (aim : Aim) (old new : Option (List Moment))
    (seen seen' : Watch) (result : Result (Option DonePoll) RunFault)
    : Type 0 where
  pub mid : Option (List Moment)
  pub known : Option (List Moment)
  pub ready : Option (List Sight)
  pub reaches : Reaches connected aim.address old mid (Ok true)
  pub prepares : Prepares (outlasts aim.way) aim mid known seen.seen ready (Ok true)
  pub does : Does aim.seconds known new ready seen'.seen seen.given seen'.given aim.way result

-- the fault of a poll that failed with this one: the same, or the system's if the line failed
abbrev pub IsOfCall : List ℕ → RunFault → FieldFault → Type 0
IsOfCall address fault (System place error) = (place.now ≡ address) × (fault ≡ Io)
IsOfCall address fault Secret = ⊥
IsOfCall address fault (Stranger place one) = ⊥
IsOfCall address fault (Unasked place why) = ⊥
IsOfCall address fault (Late place deadline) = ⊥
IsOfCall address fault (Clock place why) = ⊥
IsOfCall address fault (Other given) = given ≡ fault

-- it was not connected in time, first or again, or the poll was not done in time
pub data IsSlow (connected : Bool) (aim : Aim) (old new : Option (List Moment))
    (seen seen' : Watch) : Type 0 where
  Connecting : Reaches connected aim.address old new (Ok false) → seen' ≡ seen
      → IsSlow connected aim old new seen seen'
  Preparing : (mid : Option (List Moment)) → Reaches connected aim.address old mid (Ok true)
      → Prepares (outlasts aim.way) aim mid new seen.seen seen'.seen (Ok false)
      → AsksNoGuard seen seen' → IsSlow connected aim old new seen seen'
  Polling : Drives connected aim old new seen seen' (Ok None)
      → IsSlow connected aim old new seen seen'

-- the connection failed; or a text was not shown, or not asked for, or the connection after it failed; or the poll failed
pub data FailsOnce (connected : Bool) (aim : Aim) (old new : Option (List Moment))
    (seen seen' : Watch) (fault : FieldFault) : Type 0 where
  NoLine : (error : Error) → IsSystemAt aim.address error fault
      → Reaches connected aim.address old new (Err error) → seen' ≡ seen
      → FailsOnce connected aim old new seen seen' fault
  NotKnown : (mid : Option (List Moment)) → Reaches connected aim.address old mid (Ok true)
      → Prepares (outlasts aim.way) aim mid new seen.seen seen'.seen (Err fault)
      → AsksNoGuard seen seen' → FailsOnce connected aim old new seen seen' fault
  LineFails : (why : RunFault) → IsOfCall aim.address why fault
      → Drives connected aim old new seen seen' (Err why)
      → FailsOnce connected aim old new seen seen' fault

-- The poll is done; or the seconds are over; or it failed.
abbrev pub Attempts : Bool → Aim → Option (List Moment) → Option (List Moment) → Watch → Watch
    → Result (Option DonePoll) FieldFault → Type 0
Attempts connected aim old new seen seen' (Ok (Some done)) =
    Drives connected aim old new seen seen' (Ok (Some done))
Attempts connected aim old new seen seen' (Ok None) = IsSlow connected aim old new seen seen'
Attempts connected aim old new seen seen' (Err fault) =
    FailsOnce connected aim old new seen seen' fault

-- ---- attempts, one after another

-- the errors of a connection that was refused or lost
abbrev pub is_lost : ErrorKind → Bool
is_lost ConnectionRefused = true
is_lost ConnectionReset = true
is_lost ConnectionAborted = true
is_lost BrokenPipe = true
is_lost UnexpectedEof = true
is_lost TimedOut = true
is_lost _ = false

-- Another attempt is made if no answer came, over the same connection if that outlasts it; and over a new one if this one was
-- refused or lost. After any other fault none is made.
abbrev pub next_line : (outlasts : Bool) → FieldFault → Option Bool
next_line same (Other (Poll poll.Line)) = Some same
next_line same (Unasked place (Talk asking.Line)) = Some same
next_line same (System place error) = if is_lost (error_kind error) then Some false else None
next_line same _ = None

-- A second goes by, and the clock is looked at: the deadline is not over yet; or it is; or the clock fails.
abbrev pub Waits : List ℕ → ℕ → Option (List Sight) → Option (List Sight)
    → Result (Option ℕ) FieldFault → Type 0
Waits address seconds seen seen' (Ok (Some time)) =
    Sees seen seen' (Pauses ∷ Second (Some time) ∷ []) × (IsOver seconds time → ⊥)
Waits address seconds seen seen' (Ok None) = (time : ℕ)
    × Sees seen seen' (Pauses ∷ Second (Some time) ∷ []) × IsOver seconds time
Waits address seconds seen seen' (Err fault) = (error : Error)
    × Sees seen seen' (Pauses ∷ Second None ∷ []) × IsSystemAt address error fault

-- The steady clock has begun anew, and this many attempts failed, after each of which another one is made; whether the line is
-- connected.
pub data Tried (aim : Aim) (old : Option (List Moment)) (seen : Watch) : ℕ → Bool
    → Option (List Moment) → Watch → Type 0 where
  Begun : (now : Watch) → Sees seen.seen now.seen (Starts None ∷ []) → AsksNoGuard seen now
      → Tried aim old seen 0 false old now
  Again : (count : ℕ) (connected next : Bool) (mid new : Option (List Moment))
      (before after now : Watch) (fault : FieldFault) (time : ℕ)
      → Tried aim old seen count connected mid before
      → Attempts connected aim mid new before after (Err fault)
      → next_line (outlasts aim.way) fault ≡ Some next
      → Waits aim.address aim.seconds after.seen now.seen (Ok (Some time))
      → AsksNoGuard after now → Tried aim old seen (count + 1) next new now

-- so it was, and then an attempt, of those that may be made, came to this
pub record Tries (aim : Aim) (old new : Option (List Moment)) (seen seen' : Watch)
    (result : Result (Option DonePoll) FieldFault) : Type 0 where
  pub count : ℕ
  pub within : count ≤ aim.retries
  pub connected : Bool
  pub mid : Option (List Moment)
  pub before : Watch
  pub tried : Tried aim old seen count connected mid before
  pub attempt : Attempts connected aim mid new before seen' result

-- ---- a call

-- the attempts led to this poll, which is done
abbrev pub HasDone : Aim → Option (List Moment) → Option (List Moment) → Watch → Watch → DonePoll
    → Type 0
HasDone aim old new seen seen' done = Tries aim old new seen seen' (Ok (Some done))

-- at the deadline the fault of the last attempt is returned if the system has words for it
abbrev pub GivesUp : FieldFault → Result (Option DonePoll) FieldFault → Type 0
GivesUp (System place error) result = result ≡ Err (System place error)
GivesUp _ result = result ≡ Ok None

-- an attempt failed with this fault, and another one is made
pub record IsRetried (aim : Aim) (old new : Option (List Moment)) (seen seen' : Watch)
    (fault : FieldFault) : Type 0 where
  pub next : Bool
  pub tries : Tries aim old new seen seen' (Err fault)
  pub may : next_line (outlasts aim.way) fault ≡ Some next
  pub left : tries.count < aim.retries

-- the deadline was over in an attempt, or after one
pub data IsTooLate (aim : Aim) (old new : Option (List Moment)) (seen seen' : Watch)
    : Type 0 where
  Slow : Tries aim old new seen seen' (Ok None) → IsTooLate aim old new seen seen'
  Over : (fault : FieldFault) (mid : Watch) → IsRetried aim old new seen mid fault
      → GivesUp fault (Ok None)
      → Waits aim.address aim.seconds mid.seen seen'.seen (Ok None) → AsksNoGuard mid seen'
      → IsTooLate aim old new seen seen'

-- Why a call fails: the clock does not begin; an attempt fails after which none is made, for its fault or as the last one; the deadline
-- is over after a connection that was refused or lost; or the clock fails after an attempt.
pub data FailsToCall (aim : Aim) (old new : Option (List Moment)) (seen seen' : Watch)
    (fault : FieldFault) : Type 0 where
  NoClock : (error : Error) → IsSystemAt aim.address error fault
      → Sees seen.seen seen'.seen (Starts (Some error) ∷ []) → AsksNoGuard seen seen' → new ≡ old
      → FailsToCall aim old new seen seen' fault
  Fails : (tries : Tries aim old new seen seen' (Err fault))
      → (next_line (outlasts aim.way) fault ≡ None) ⊎ (tries.count ≡ aim.retries)
      → FailsToCall aim old new seen seen' fault
  Refused : (mid : Watch) → IsRetried aim old new seen mid fault
      → GivesUp fault (Err fault) → Waits aim.address aim.seconds mid.seen seen'.seen (Ok None)
      → AsksNoGuard mid seen' → FailsToCall aim old new seen seen' fault
  NoWait : (why : FieldFault) (mid : Watch) → IsRetried aim old new seen mid why
      → Waits aim.address aim.seconds mid.seen seen'.seen (Err fault) → AsksNoGuard mid seen'
      → FailsToCall aim old new seen seen' fault

-- The poll is done; or the deadline is over; or it failed.
abbrev pub Calls : Aim → Option (List Moment) → Option (List Moment) → Watch → Watch
    → Result (Option DonePoll) FieldFault → Type 0
Calls aim old new seen seen' (Ok (Some done)) = HasDone aim old new seen seen' done
Calls aim old new seen seen' (Ok None) = IsTooLate aim old new seen seen'
Calls aim old new seen seen' (Err fault) = FailsToCall aim old new seen seen' fault

-- So it is if the clocks of the rows are judged, too: a poll that is not done in time is reported with the deadline, and one whose rows
-- are refused with the fault of the judgement.
pub data FailsCalled (aim : Aim) (strict : Bool) (limit : Option Limit)
    (old new : Option (List Moment)) (seen seen' : Watch) (fault : FieldFault)
    : Type 0 where
  NotCalled : FailsToCall aim old new seen seen' fault
      → FailsCalled aim strict limit old new seen seen' fault
  TooLate : IsLateAt aim.address aim.seconds fault → IsTooLate aim old new seen seen'
      → FailsCalled aim strict limit old new seen seen' fault
  Misjudged : (why : ClockFault) (done : DonePoll) → IsClockAt aim.address why fault
      → HasDone aim old new seen seen' done → Refuses strict limit (rows_of done) why
      → FailsCalled aim strict limit old new seen seen' fault
