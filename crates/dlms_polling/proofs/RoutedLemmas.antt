-- A poll over a route, until a deadline.
use Rattle.std.proofs.Common.{refl, subst, ◌≡◌, ◌+◌, ℕ, Bool, true, false, List, [], ◌∷◌, Option, Some, None, Result, Ok, Err}
use Rattle.std.specs.Prelude.{IsErrAnd}
use Rattle.std.specs.declared.io.Error.{Error}
use Rattle.dlms_carrier.specs.declared.any.Route.{Route}
use Rattle.dlms_ends.proofs.PollEndLemmas.{polled}
use Rattle.dlms_ends.proofs.PollLemmas.{system_told}
use Rattle.dlms_ends.specs.Faults.{TellsError}
use Rattle.dlms_ends.specs.Moments.{Moment}
use Rattle.dlms_ends.specs.PollEnds.{Dials, IsNew, IsPolledOver, Listens, ListensOn, PollEndValue, means}
use Rattle.dlms_ends.specs.PollEnds.ListensOn.{NoRead as NoListen, OneMore as OneListen}
use Rattle.dlms_ends.specs.PollEnds.PollsOver.{Listened}
use Rattle.dlms_ends.specs.declared.fault.RunFault.{RunFault}
use Rattle.dlms_ends.specs.declared.fault.RunFault.TheVariants.{Poll}
use Rattle.dlms_headend.specs.declared.poll_fault.PollFault.TheVariants as poll
use Rattle.dlms_polling.specs.declared.routed.TheConstants.{READS}
use Rattle.dlms_headend.proofs.CarrierRunning.{polls_lead}
use Rattle.dlms_headend.specs.CarrierPollValue.{TermsValue}
use Rattle.dlms_headend.specs.declared.step.PollOutcome.{PollOutcome}
use Rattle.dlms_headend.specs.declared.step.PollOutcome.TheVariants as outcome
use Rattle.dlms_lines.specs.Deadline.{IsOver}
use Rattle.dlms_lines.specs.Watching.{Sight, Sees}
use Rattle.dlms_lines.specs.Watching.Sight.{Second}
use Rattle.dlms_polling.proofs.PollingLemmas.{looks_last, looks_more, looks_none}
use Rattle.dlms_polling.specs.Doing.{ClockStops, DialsInVain, EndsAt, HasListened, HearsOn, IsEnded, IsOverdue, IsTired, Looks, PollsUntil}
use Rattle.dlms_polling.specs.Doing.HearsOn.{NoRead, OneMore}
use Rattle.dlms_polling.specs.Guards.{oldest_after}
use Rattle.dlms_secured.specs.Guard.{GuardValue}

-- a poll so far, and the looks at the clock
pub record Reading (seconds : ℕ) (old now : Option (List Moment)) (v w : Option (List Sight)) (t : PollEndValue) (count : ℕ) (oldest : Option ℕ) (t' : PollEndValue) : Type 0 where
  pub listened : HasListened old now t count oldest t'
  pub looks : Looks seconds v w count []

pub has_dialled : (seconds : ℕ) (old now : Option (List Moment)) (v : Option (List Sight)) (t first : PollEndValue) (u : Unit {0}) → Dials old now t (Ok u) first → Reading seconds old now v v t 0 None first
has_dialled seconds old now v t first u dials = record {
  listened = record { dialled = now; first = first; dials = dials; listens = NoRead };
  looks = looks_none seconds v;
}

pub reads_on : (seconds : ℕ) (old now new : Option (List Moment)) (v w x : Option (List Sight)) (t mid t' : PollEndValue) (count time : ℕ) (oldest : Option ℕ) → Reading seconds old now v w t count oldest mid → Sees w x (Second (Some time) ∷ []) → (IsOver seconds time → ⊥)
    → Listens now new mid (Ok outcome.Nothing) t' → Reading seconds old new v x t (count + 1) (oldest_after oldest t') t'
reads_on seconds old now new v w x t mid t' count time oldest r sees not listens = record {
  listened = record { dialled = r.listened.dialled; first = r.listened.first; dials = r.listened.dials; listens = OneMore count oldest now new mid t' r.listened.listens listens };
  looks = looks_more seconds v w x count time r.looks sees not;
}

pub clock_stops : (seconds : ℕ) (old now : Option (List Moment)) (v w x : Option (List Sight)) (t t' : PollEndValue) (count : ℕ) (oldest : Option ℕ) (error : Error) (r : Result Bool RunFault) → IsErrAnd r (TellsError error)
    → Reading seconds old now v w t count oldest t' → Sees w x (Second None ∷ []) → PollsUntil seconds old now v x t r oldest t'
clock_stops seconds old now v w x t t' count oldest error (Ok found) told r sees = absurd told
clock_stops seconds old now v w x t t' count oldest error (Err fault) told r sees = ClockStops fault (system_told fault error told) count r.listened (looks_last seconds v w x count (Second None ∷ []) r.looks sees) refl

pub overdue : (seconds : ℕ) (old now : Option (List Moment)) (v w x : Option (List Sight)) (t t' : PollEndValue) (count last : ℕ) (oldest : Option ℕ) → Reading seconds old now v w t count oldest t' → Sees w x (Second (Some last) ∷ []) → IsOver seconds last
    → PollsUntil seconds old now v x t (Ok false) oldest t'
overdue seconds old now v w x t t' count last oldest r sees over = IsOverdue last over count r.listened (looks_last seconds v w x count (Second (Some last) ∷ []) r.looks sees) refl

pub ends_at : (seconds : ℕ) (old now new : Option (List Moment)) (v w x : Option (List Sight)) (t mid t' : PollEndValue) (count time : ℕ) (oldest : Option ℕ) (told : Result PollOutcome RunFault) (r : Result Bool RunFault) → Reading seconds old now v w t count oldest mid
    → Sees w x (Second (Some time) ∷ []) → (IsOver seconds time → ⊥) → Listens now new mid told t' → EndsAt told r → PollsUntil seconds old new v x t r (oldest_after oldest t') t'
ends_at seconds old now new v w x t mid t' count time oldest told r reading sees not listens ends = IsEnded count oldest now mid told reading.listened (looks_more seconds v w x count time reading.looks sees not) listens ends refl

pub has_tired : (seconds : ℕ) (old now : Option (List Moment)) (v w : Option (List Sight)) (t t' : PollEndValue) (count : ℕ) (oldest : Option ℕ) → count ≡ READS → Reading seconds old now v w t count oldest t' → PollsUntil seconds old now v w t (Err (Poll poll.Line)) oldest t'
has_tired seconds old now v w t t' count oldest all r =
    let tired : Reading seconds old now v w t READS oldest t' = subst (λ (n : ℕ). Reading seconds old now v w t n oldest t') all r in IsTired tired.listened tired.looks refl

-- ---- the poll is done

-- the reads, whatever was accepted first in them
listens_on : (old : Option (List Moment)) (t : PollEndValue) (count : ℕ) (oldest : Option ℕ) (now : Option (List Moment)) (t' : PollEndValue) → HearsOn old t count oldest now t' → ListensOn old t count now t'
listens_on old t count oldest now t' NoRead = NoListen
listens_on old t count oldest now t' (OneMore before first mid new m m' hears listens) = OneListen before mid new m m' (listens_on old t before first mid m hears) listens

pub until_done : (seconds : ℕ) (old new : Option (List Moment)) (v w : Option (List Sight)) (route : Route) (terms : TermsValue) (guard : Option GuardValue) (oldest : Option ℕ) (t t' : PollEndValue) → IsNew route terms guard t
    → PollsUntil seconds old new v w t (Ok true) oldest t' → IsPolledOver route terms guard t'
until_done seconds old new v w route terms guard oldest t t' is (DialsInVain why dials sees told none) = absurd (cc)
until_done seconds old new v w route terms guard oldest t t' is (ClockStops why system count listened looks told) = absurd (cc)
until_done seconds old new v w route terms guard oldest t t' is (IsOverdue last over count listened looks told) = absurd (cc)
until_done seconds old new v w route terms guard oldest t t' is (IsTired listened looks told) = absurd (cc)
until_done seconds old new v w route terms guard oldest t t' is (IsEnded count before now mid (Err fault) listened looks listens ends first) = absurd (cc)
until_done seconds old new v w route terms guard oldest t t' is (IsEnded count before now mid (Ok outcome.Nothing) listened looks listens ends first) = absurd ends
until_done seconds old new v w route terms guard oldest t t' is (IsEnded count before now mid (Ok outcome.Done) listened looks listens ends first) =
    polled (polls_lead means) route terms guard old new t t' tt is (Listened listened.dialled listened.first count now mid (Ok outcome.Done) listened.dials (listens_on listened.dialled listened.first count before now mid listened.listens) listens refl)
