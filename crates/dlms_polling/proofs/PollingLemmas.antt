-- A poll over a line, until a deadline.
use Rattle.std.proofs.Common.{refl, sym, ap, ◌∙◌, ◌≡◌, ◌+◌, ◌<◌, ◌≤◌, ℕ, Bool, arith, List, [], ◌∷◌, ◌++◌, map, Option, Some, None, Result, Ok, Err, subst, inr}
use Rattle.std.specs.Prelude.{IfOk, IfSome, IsErrAnd}
use Rattle.std.specs.declared.io.Error.{Error}
use Rattle.std.proofs.lemmas.List.{append-nil, length-append}
use Rattle.dlms_frame.specs.Frame.{Parts, spelling}
use Rattle.dlms_headend.specs.PollRun.{IsCall}
use Rattle.dlms_headend.specs.PollRun.Call.{Next}
use Rattle.dlms_headend.specs.PollerValue.{PollerValue}
use Rattle.dlms_headend.specs.declared.poll_fault.PollFault.TheVariants as poll
use Rattle.dlms_ends.specs.BothEnds.{CallFails, IsPolled}
use Rattle.dlms_ends.specs.Faults.{TellsError}
use Rattle.dlms_ends.specs.Moments.{Moment, Breaks}
use Rattle.dlms_filing.specs.Printing.{Printed, PrintsPart}
use Rattle.dlms_ends.specs.declared.fault.RunFault.{RunFault}
use Rattle.dlms_ends.specs.declared.fault.RunFault.TheVariants.{Poll}
use Rattle.dlms_ends.specs.declared.head_end.HeadEnd.{HeadEnd}
use Rattle.dlms_ends.specs.declared.polling.TheConstants.{TURNS}
use Rattle.dlms_ends.proofs.MomentLemmas.{map_append}
use Rattle.dlms_ends.proofs.PollLemmas.{HeadSide, system_told}
use Rattle.dlms_polling.specs.Calling.{Aim, Attempts, Calls, Drives, Fails, GivesUp, IsRetried, Over, Polling, Refused, Slow, Tried, Tries, Waits, next_line}
use Rattle.dlms_polling.specs.Doing.{AreWithin, ClockFails, DoesLinked, HeadFails, Looks, Tires, Unbegun}
use Rattle.dlms_polling.specs.Guards.{AsksNoGuard, Watch}
use Rattle.dlms_polling.specs.Ways.{outlasts}
use Rattle.dlms_polling.specs.declared.way.DonePoll.{DonePoll}
use Rattle.dlms_lines.specs.Deadline.{IsOver}
use Rattle.dlms_polling.specs.Keeping.{PrintsLine}
use Rattle.dlms_lines.specs.Watching.{Sight, Sees}
use Rattle.dlms_lines.specs.Watching.Sight.{Second}
use Rattle.dlms_lines.specs.declared.fault.FieldFault.{FieldFault}
use Rattle.dlms_lines.specs.declared.fault.FieldFault.TheVariants.{System, Secret, Late, Clock, Stranger, Unasked, Other}
use Rattle.dlms_lines.proofs.SharedLemmas.{sees_more, sees_nothing}

pub looks_none : (seconds : ℕ) (seen : Option (List Sight)) → Looks seconds seen seen 0 []
looks_none seconds seen = record { times = []; counted = refl; within = tt; watched = sees_nothing seen }

-- and at last this came
pub looks_last : (seconds : ℕ) (v w x : Option (List Sight)) (count : ℕ) (last : List Sight) → Looks seconds v w count [] → Sees w x last → Looks seconds v x count last
looks_last seconds v w x count last looks sees =
    let front : Sees v w (map (λ time. Second (Some time)) looks.times) = subst (λ (l : List Sight). Sees v w l) (append-nil (map (λ time. Second (Some time)) looks.times)) looks.watched in
    record { times = looks.times; counted = looks.counted; within = looks.within; watched = sees_more v w x (map (λ time. Second (Some time)) looks.times) last front sees }

within_more : (seconds : ℕ) (times : List ℕ) (time : ℕ) → AreWithin seconds times → (IsOver seconds time → ⊥) → AreWithin seconds (times ++ time ∷ [])
within_more seconds [] time all not = (not, tt)
within_more seconds (t ∷ times) time all not = (all.0, within_more seconds times time all.1 not)

-- one look more
pub looks_more : (seconds : ℕ) (v w x : Option (List Sight)) (count time : ℕ) → Looks seconds v w count [] → Sees w x (Second (Some time) ∷ []) → (IsOver seconds time → ⊥) → Looks seconds v x (count + 1) []
looks_more seconds v w x count time looks sees not =
    let later = looks_last seconds v w x count (Second (Some time) ∷ []) looks sees in
    let whole : map (λ t. Second (Some t)) looks.times ++ Second (Some time) ∷ [] ≡ map (λ t. Second (Some t)) (looks.times ++ time ∷ []) ++ [] =
    sym (map_append (λ t. Second (Some t)) looks.times (time ∷ [])) ∙ sym (append-nil (map (λ t. Second (Some t)) (looks.times ++ time ∷ []))) in
    record {
      times = looks.times ++ time ∷ [];
      counted = length-append looks.times (time ∷ []) ∙ ap (λ (n : ℕ). n + 1) looks.counted;
      within = within_more seconds looks.times time looks.within not;
      watched = subst (λ (l : List Sight). Sees v x l) whole
          (sees_more v w x (map (λ t. Second (Some t)) looks.times) (Second (Some time) ∷ []) (subst (λ (l : List Sight). Sees v w l) (append-nil (map (λ t. Second (Some t)) looks.times)) looks.watched) sees);
    }

-- a poll so far, and the looks at the clock
pub record Under {A : Type 0} (seconds : ℕ) (old now : Option (List Moment)) (v w : Option (List Sight)) (poller : PollerValue) (head : HeadEnd A) (count : ℕ) : Type 0 where
  pub side : HeadSide old now poller head count
  pub looks : Looks seconds v w count []

pub unbegun : (seconds : ℕ) (old new : Option (List Moment)) (v : Option (List Sight)) (poller : PollerValue) (error : Error) (r : Result (Option PollerValue) RunFault) → IsErrAnd r (TellsError error)
    → (frame : Parts) (begun : PollerValue) → IsCall poller (Next (Some frame)) begun → Breaks old new (spelling frame) → DoesLinked seconds old new v v poller r
unbegun seconds old new v poller error (Ok found) told frame begun call broke = absurd told
unbegun seconds old new v poller error (Err fault) told frame begun call broke = Unbegun (system_told fault error told) frame begun call broke (sees_nothing v)

pub clock_fails : {A : Type 0} (seconds : ℕ) (old now : Option (List Moment)) (v w x : Option (List Sight)) (poller : PollerValue) (head : HeadEnd A) (count : ℕ) (error : Error) (r : Result (Option PollerValue) RunFault)
    → IsErrAnd r (TellsError error) → Under seconds old now v w poller head count → Sees w x (Second None ∷ []) → DoesLinked seconds old now v x poller r
clock_fails seconds old now v w x poller head count error (Ok found) told under sees = absurd told
clock_fails seconds old now v w x poller head count error (Err fault) told under sees =
    ClockFails (system_told fault error told) under.side.acts under.side.world under.side.called
    (subst (λ (n : ℕ). Looks seconds v x n (Second None ∷ [])) (sym under.side.sent) (looks_last seconds v w x count (Second None ∷ []) under.looks sees))

pub is_late : {A : Type 0} (seconds : ℕ) (old now : Option (List Moment)) (v w x : Option (List Sight)) (poller : PollerValue) (head : HeadEnd A) (count last : ℕ) → Under seconds old now v w poller head count
    → Sees w x (Second (Some last) ∷ []) → IsOver seconds last → DoesLinked seconds old now v x poller (Ok None)
is_late seconds old now v w x poller head count last under sees over = (
  under.side.acts,
  under.side.world,
  under.side.called,
  last,
  over,
  subst (λ (n : ℕ). Looks seconds v x n (Second (Some last) ∷ [])) (sym under.side.sent) (looks_last seconds v w x count (Second (Some last) ∷ []) under.looks sees),
)

pub head_fails : (seconds : ℕ) (old new : Option (List Moment)) (v w x : Option (List Sight)) (poller : PollerValue) (count time : ℕ) (fault : RunFault) (r : Result (Option PollerValue) RunFault)
    → IsErrAnd r (λ given. given ≡ fault) → Looks seconds v w count [] → Sees w x (Second (Some time) ∷ []) → (IsOver seconds time → ⊥) → CallFails old new poller fault → DoesLinked seconds old new v x poller r
head_fails seconds old new v w x poller count time fault (Ok found) is looks sees not fails = absurd is
head_fails seconds old new v w x poller count time fault (Err given) is looks sees not fails =
    HeadFails (subst (λ (f : RunFault). CallFails old new poller f) (sym is) fails) (count + 1) (omega arith) (looks_more seconds v w x count time looks sees not)

pub is_done : (seconds : ℕ) (old new : Option (List Moment)) (v w x : Option (List Sight)) (poller done : PollerValue) (count time : ℕ) → Looks seconds v w count [] → Sees w x (Second (Some time) ∷ [])
    → (IsOver seconds time → ⊥) → IsPolled old new poller done → DoesLinked seconds old new v x poller (Ok (Some done))
is_done seconds old new v w x poller done count time looks sees not is = (is, count + 1, omega arith, looks_more seconds v w x count time looks sees not)

pub has_tired : {A : Type 0} (seconds : ℕ) (old now : Option (List Moment)) (v w : Option (List Sight)) (poller : PollerValue) (head : HeadEnd A) (count : ℕ) → count ≡ TURNS
    → Under seconds old now v w poller head count → DoesLinked seconds old now v w poller (Err (Poll poll.Line))
has_tired seconds old now v w poller head count all under =
    Tires refl under.side.acts under.side.world under.side.called (under.side.sent ∙ all) (subst (λ (n : ℕ). Looks seconds v w n []) all under.looks)

-- ---- an attempt

pub attempt_found : (connected : Bool) (aim : Aim) (old new : Option (List Moment)) (v w : Watch) (found : Option DonePoll)
    → Drives connected aim old new v w (Ok found) → Attempts connected aim old new v w (Ok found)
attempt_found connected aim old new v w (Some done) drives = drives
attempt_found connected aim old new v w None drives = Polling drives

-- ---- a call

-- the attempts so far, and one more
pub tries_so : (aim : Aim) (old mid new : Option (List Moment)) (v before w : Watch) (count : ℕ) (connected : Bool) (r : Result (Option DonePoll) FieldFault)
    → count ≤ aim.retries → Tried aim old v count connected mid before → Attempts connected aim mid new before w r → Tries aim old new v w r
tries_so aim old mid new v before w count connected r within tried attempt = record { count = count; within = within; connected = connected; mid = mid; before = before; tried = tried; attempt = attempt }

-- and after it another is made
pub retried : (aim : Aim) (old mid new : Option (List Moment)) (v before w : Watch) (count : ℕ) (connected next : Bool) (fault : FieldFault)
    → count < aim.retries → Tried aim old v count connected mid before → Attempts connected aim mid new before w (Err fault) → next_line (outlasts aim.way) fault ≡ Some next → IsRetried aim old new v w fault
retried aim old mid new v before w count connected next fault left tried attempt may =
    record { next = next; tries = record { count = count; within = omega (arith, left); connected = connected; mid = mid; before = before; tried = tried; attempt = attempt }; may = may; left = left }

-- the last one, of which the fault is returned
pub last_tried : (aim : Aim) (old mid new : Option (List Moment)) (v before w : Watch) (count : ℕ) (connected : Bool) (r : Result (Option DonePoll) FieldFault)
    → count ≡ aim.retries → Tried aim old v count connected mid before → Attempts connected aim mid new before w r → Calls aim old new v w r
last_tried aim old mid new v before w count connected (Ok (Some done)) all tried attempt = tries_so aim old mid new v before w count connected (Ok (Some done)) (omega (arith, all)) tried attempt
last_tried aim old mid new v before w count connected (Ok None) all tried attempt = Slow (tries_so aim old mid new v before w count connected (Ok None) (omega (arith, all)) tried attempt)
last_tried aim old mid new v before w count connected (Err fault) all tried attempt = Fails (record { count = count; within = omega (arith, all); connected = connected; mid = mid; before = before; tried = tried; attempt = attempt }) (inr all)

pub has_called : (aim : Aim) (old new : Option (List Moment)) (v w : Watch) (found : Option DonePoll)
    → Tries aim old new v w (Ok found) → Calls aim old new v w (Ok found)
has_called aim old new v w (Some done) tries = tries
has_called aim old new v w None tries = Slow tries

-- at the deadline
pub gave_up : (aim : Aim) (old new : Option (List Moment)) (v mid w : Watch) (fault : FieldFault) (r : Result (Option DonePoll) FieldFault)
    → IsRetried aim old new v mid fault → Waits aim.address aim.seconds mid.seen w.seen (Ok None) → AsksNoGuard mid w → GivesUp fault r → Calls aim old new v w r
gave_up aim old new v mid w (System place error) r again waits idle gives =
    subst (λ (given : Result (Option DonePoll) FieldFault). Calls aim old new v w given) (sym gives) (Refused mid again refl waits idle)
gave_up aim old new v mid w Secret r again waits idle gives =
    subst (λ (given : Result (Option DonePoll) FieldFault). Calls aim old new v w given) (sym gives) (Over Secret mid again refl waits idle)
gave_up aim old new v mid w (Late place deadline) r again waits idle gives =
    subst (λ (given : Result (Option DonePoll) FieldFault). Calls aim old new v w given) (sym gives) (Over (Late place deadline) mid again refl waits idle)
gave_up aim old new v mid w (Clock place why) r again waits idle gives =
    subst (λ (given : Result (Option DonePoll) FieldFault). Calls aim old new v w given) (sym gives) (Over (Clock place why) mid again refl waits idle)
gave_up aim old new v mid w (Stranger place one) r again waits idle gives =
    subst (λ (given : Result (Option DonePoll) FieldFault). Calls aim old new v w given) (sym gives) (Over (Stranger place one) mid again refl waits idle)
gave_up aim old new v mid w (Unasked place why) r again waits idle gives =
    subst (λ (given : Result (Option DonePoll) FieldFault). Calls aim old new v w given) (sym gives) (Over (Unasked place why) mid again refl waits idle)
gave_up aim old new v mid w (Other why) r again waits idle gives =
    subst (λ (given : Result (Option DonePoll) FieldFault). Calls aim old new v w given) (sym gives) (Over (Other why) mid again refl waits idle)

-- what is returned then is no poll
pub gives_none : (P : DonePoll → Type 0) (fault : FieldFault) (r : Result (Option DonePoll) FieldFault) → GivesUp fault r → IfOk r (λ found. IfSome found P)
gives_none P (System place error) r gives = subst (λ (given : Result (Option DonePoll) FieldFault). IfOk given (λ found. IfSome found P)) (sym gives) tt
gives_none P Secret r gives = subst (λ (given : Result (Option DonePoll) FieldFault). IfOk given (λ found. IfSome found P)) (sym gives) tt
gives_none P (Late place deadline) r gives = subst (λ (given : Result (Option DonePoll) FieldFault). IfOk given (λ found. IfSome found P)) (sym gives) tt
gives_none P (Clock place why) r gives = subst (λ (given : Result (Option DonePoll) FieldFault). IfOk given (λ found. IfSome found P)) (sym gives) tt
gives_none P (Stranger place one) r gives = subst (λ (given : Result (Option DonePoll) FieldFault). IfOk given (λ found. IfSome found P)) (sym gives) tt
gives_none P (Unasked place why) r gives = subst (λ (given : Result (Option DonePoll) FieldFault). IfOk given (λ found. IfSome found P)) (sym gives) tt
gives_none P (Other why) r gives = subst (λ (given : Result (Option DonePoll) FieldFault). IfOk given (λ found. IfSome found P)) (sym gives) tt

-- ---- a line of errors

pub line_part : {T : Type 0} (errors errors' : Printed) (line bytes : List ℕ) (r : Result T RunFault) (error : Error) → IsErrAnd r (TellsError error) → bytes ≡ line → PrintsPart errors errors' bytes → PrintsLine line errors errors' r
line_part errors errors' line bytes (Ok done) error told is part = absurd told
line_part errors errors' line bytes (Err fault) error told is part = inr (system_told fault error told, subst (λ (t : List ℕ). PrintsPart errors errors' t) is part)
