-- What each call of a client does: a call of its carrier, a call of its association, or both. `steps`, `apdu_of` and `is_idle` are
-- the carrier's own meaning.
use Rattle.std.specs.Prelude.{◌≡◌, Bool, true, false, List, ℕ, length, Option, Some, None, Result, Ok, Err}
use Rattle.dlms_apdu.specs.Forms.{RequestForm}
use Rattle.dlms_association.specs.AssociationValue.{AssociationValue}
use Rattle.dlms_association.specs.Calls.{Breaks, Closes, IsClosed, Opens, Takes, Asks as AsksOf, IsFree as IsFreeOf, Releases as ReleasesOf, fresh as fresh_association}
use Rattle.dlms_association.specs.Terms.{TermsValue}
use Rattle.dlms_association.specs.declared.ask_fault.AskFault.{AskFault}
use Rattle.dlms_association.specs.declared.fault.Fault.{Fault}
use Rattle.dlms_association.specs.declared.fault.Fault.TheVariants.{Down as WentDown, Form, Insecure, Line}
use Rattle.dlms_association.specs.declared.stage.Asked.{Asked}
use Rattle.dlms_association.specs.declared.step.Step.{Step}
use Rattle.dlms_association.specs.declared.step.Step.TheVariants as step
use Rattle.dlms_carrier.specs.Carrying.{Input, Begin, Give, Feed, Wait, End, StepsOf}
use Rattle.dlms_carrier.specs.declared.event.Event.{Event}
use Rattle.dlms_carrier.specs.declared.event.Event.TheVariants as event
use Rattle.dlms_client.specs.ClientValue.{ClientValue}
use Rattle.dlms_client.specs.declared.outcome.Outcome.{Outcome}
use Rattle.dlms_client.specs.declared.outcome.Outcome.TheVariants as outcome

-- a client over this carrier, with a closed association
abbrev pub fresh : {C : Type 0} → C → TermsValue → ClientValue C
fresh carrier terms = record {
  carrier = carrier;
  association = fresh_association terms;
  leaving = false;
}

-- ---- what the client does after a call of its carrier or its association

-- the carrier is given an APDU of the association
pub record Sends {C : Type 0} (steps : StepsOf C) (at : ClientValue C) (apdu : List ℕ)
    (new : ClientValue C) : Type 0 where
  pub event : Event
  pub carrier : C
  pub gives : steps at.carrier (Give apdu) event carrier
  pub after : new ≡ record at { carrier = carrier }

-- the connection failed, and the association is over for good
pub record BreaksOver {C : Type 0} (at : ClientValue C) (fault : Fault)
    (result : Result Outcome Fault) (new : ClientValue C) : Type 0 where
  pub association : AssociationValue
  pub breaks : Breaks at.association fault association
  pub answer : result ≡ Err fault
  pub after : new ≡ record at { association = association }

-- the connection ended as requested: another association may begin
pub record ClosesOver {C : Type 0} (at : ClientValue C) (result : Result Outcome Fault)
    (new : ClientValue C) : Type 0 where
  pub association : AssociationValue
  pub closes : Closes at.association association
  pub answer : result ≡ Ok outcome.Down
  pub after : new ≡ record at { association = association; leaving = false }

-- nothing else happens
pub record Stays {C : Type 0} (at : ClientValue C) (outcome : Outcome)
    (result : Result Outcome Fault) (new : ClientValue C) : Type 0 where
  pub answer : result ≡ Ok outcome
  pub after : new ≡ at

abbrev pub GoesDown : {C : Type 0} → Bool → ClientValue C → Result Outcome Fault → ClientValue C
    → Type 0
GoesDown true at result new = ClosesOver at result new
GoesDown false at result new = BreaksOver at WentDown result new

-- the end of the connection is requested, and may come at once
abbrev pub LeavesBy : {C : Type 0} → Event → ClientValue C → Result Outcome Fault → ClientValue C
    → Type 0
LeavesBy event.Down at result new = ClosesOver at result new
LeavesBy event.Nothing at result new = Stays at outcome.Nothing result new
LeavesBy event.Up at result new = Stays at outcome.Nothing result new
LeavesBy event.Apdu at result new = Stays at outcome.Nothing result new
LeavesBy event.TimedOut at result new = Stays at outcome.Nothing result new
LeavesBy (event.Refused why) at result new = Stays at outcome.Nothing result new
LeavesBy event.Insecure at result new = Stays at outcome.Nothing result new

pub record Leaves {C : Type 0} (steps : StepsOf C) (at : ClientValue C)
    (result : Result Outcome Fault) (new : ClientValue C) : Type 0 where
  pub event : Event
  pub carrier : C
  pub ends : steps at.carrier End event carrier
  pub leaves : LeavesBy event (record at { carrier = carrier; leaving = true }) result new

-- the connection is up: the association, still closed, sends its request
pub record OpensOver {C : Type 0} (steps : StepsOf C) (at new : ClientValue C) : Type 0 where
  pub closed : IsClosed at.association
  pub association : AssociationValue
  pub apdu : List ℕ
  pub opens : Opens at.association apdu association
  pub sends : Sends steps (record at { association = association }) apdu new

-- an association that is not closed cannot be opened
pub data ComesUp {C : Type 0} (steps : StepsOf C) (at : ClientValue C)
    (result : Result Outcome Fault) (new : ClientValue C) : Type 0 where
  IsOpened : OpensOver steps at new → result ≡ Ok outcome.Nothing → ComesUp steps at result new
  IsNotClosed : (IsClosed at.association → ⊥) → BreaksOver at Form result new
      → ComesUp steps at result new

-- after the association's step
abbrev pub Follows : {C : Type 0} → StepsOf C → Result Step Fault → ClientValue C
    → Result Outcome Fault → ClientValue C → Type 0
Follows steps (Ok step.Nothing) at result new = Stays at outcome.Nothing result new
Follows steps (Ok (step.Send apdu)) at result new = (result ≡ Ok outcome.Nothing)
    × Sends steps at apdu new
Follows steps (Ok step.Associated) at result new = Stays at outcome.Associated result new
Follows steps (Ok (step.Answered answer)) at result new = Stays at
    (outcome.Answered answer) result new
Follows steps (Ok step.Released) at result new = Leaves steps at result new
Follows steps (Err fault) at result new = (result ≡ Err fault) × (new ≡ at)

-- the carrier hands an APDU up
pub record TakesOver {C : Type 0} (steps : StepsOf C) (at : ClientValue C) (apdu : List ℕ)
    (result : Result Outcome Fault) (new : ClientValue C) : Type 0 where
  pub made : Result Step Fault
  pub association : AssociationValue
  pub takes : Takes at.association apdu made association
  pub follows : Follows steps made (record at { association = association }) result new

-- by the carrier's event
abbrev pub ComesBy : {C : Type 0} → StepsOf C → Event → List ℕ → ClientValue C
    → Result Outcome Fault → ClientValue C → Type 0
ComesBy steps event.Nothing apdu at result new = Stays at outcome.Nothing result new
ComesBy steps event.Up apdu at result new = ComesUp steps at result new
ComesBy steps event.Apdu apdu at result new = TakesOver steps at apdu result new
ComesBy steps event.Down apdu at result new = GoesDown at.leaving at result new
ComesBy steps event.TimedOut apdu at result new = BreaksOver at Line result new
ComesBy steps (event.Refused why) apdu at result new = BreaksOver at Form result new
ComesBy steps event.Insecure apdu at result new = BreaksOver at Insecure result new

-- ---- the connection is requested

-- there is no connection, and the association is closed
pub record CanBegin {C : Type 0} (is_down : C → Type 0) (c : ClientValue C) : Type 0 where
  pub closed : IsClosed c.association
  pub down : is_down c.carrier

-- it may come up at once
abbrev pub BeginsBy : {C : Type 0} → StepsOf C → Event → ClientValue C → ClientValue C → Type 0
BeginsBy steps event.Up at new = OpensOver steps at new
BeginsBy steps event.Nothing at new = new ≡ at
BeginsBy steps event.Apdu at new = new ≡ at
BeginsBy steps event.Down at new = new ≡ at
BeginsBy steps event.TimedOut at new = new ≡ at
BeginsBy steps (event.Refused why) at new = new ≡ at
BeginsBy steps event.Insecure at new = new ≡ at

pub record Begins {C : Type 0} (steps : StepsOf C) (old new : ClientValue C) : Type 0 where
  pub event : Event
  pub carrier : C
  pub begins : steps old.carrier Begin event carrier
  pub follows : BeginsBy steps event (record old { carrier = carrier }) new

-- ---- octets arrive, or none do

-- Octets are read, up to the carrier's first event, and the association handles it.
pub record Hears {C : Type 0} (steps : StepsOf C) (apdu_of : C → List ℕ) (old : ClientValue C)
    (octets : List ℕ) (count : ℕ) (result : Result Outcome Fault)
    (new : ClientValue C) : Type 0 where
  pub event : Event
  pub carrier : C
  pub feeds : steps old.carrier (Feed octets count) event carrier
  pub comes : ComesBy steps event (apdu_of carrier) (record old { carrier = carrier }) result new

-- after a fault it is the same fault again, and the octets are dropped
abbrev pub HearsUnless : {C : Type 0} → StepsOf C → (C → List ℕ) → Option Fault → ClientValue C
    → List ℕ → ℕ → Result Outcome Fault → ClientValue C → Type 0
HearsUnless steps apdu_of None old octets count result new = Hears steps apdu_of old octets count
    result new
HearsUnless steps apdu_of (Some fault) old octets count result new = (count ≡ length octets)
    × (result ≡ Err fault) × (new ≡ old)

abbrev pub Feeds : {C : Type 0} → StepsOf C → (C → List ℕ) → ClientValue C → List ℕ → ℕ
    → Result Outcome Fault → ClientValue C → Type 0
Feeds steps apdu_of old octets count result new = HearsUnless steps apdu_of old.association.failed
    old octets count result new

-- a timeout: the carrier repeats its frame, or the connection is over
abbrev pub TimesOutBy : {C : Type 0} → Event → ClientValue C → Result Outcome Fault → ClientValue C
    → Type 0
TimesOutBy event.TimedOut at result new = BreaksOver at Line result new
TimesOutBy event.Nothing at result new = Stays at outcome.Nothing result new
TimesOutBy event.Up at result new = Stays at outcome.Nothing result new
TimesOutBy event.Apdu at result new = Stays at outcome.Nothing result new
TimesOutBy event.Down at result new = Stays at outcome.Nothing result new
TimesOutBy (event.Refused why) at result new = Stays at outcome.Nothing result new
TimesOutBy event.Insecure at result new = Stays at outcome.Nothing result new

pub record TimesOut {C : Type 0} (steps : StepsOf C) (old : ClientValue C)
    (result : Result Outcome Fault) (new : ClientValue C) : Type 0 where
  pub event : Event
  pub carrier : C
  pub waits : steps old.carrier Wait event carrier
  pub follows : TimesOutBy event (record old { carrier = carrier }) result new

-- while the meter's answer is awaited a timeout may come, and otherwise it is a fault of the line that changes nothing
pub data Waits {C : Type 0} (steps : StepsOf C) (is_waiting : C → Type 0) (old : ClientValue C)
    (result : Result Outcome Fault) (new : ClientValue C) : Type 0 where
  HasFailed : (fault : Fault) → old.association.failed ≡ Some fault → result ≡ Err fault → new ≡ old
      → Waits steps is_waiting old result new
  NoneIsOut : old.association.failed ≡ None → (is_waiting old.carrier → ⊥) → result ≡ Err Line
      → new ≡ old → Waits steps is_waiting old result new
  IsAwaited : old.association.failed ≡ None → is_waiting old.carrier → TimesOut steps old result new
      → Waits steps is_waiting old result new

-- ---- requests

-- a request may be made
pub record IsFree {C : Type 0} (is_idle : C → Type 0) (c : ClientValue C) : Type 0 where
  pub association : IsFreeOf c.association
  pub idle : is_idle c.carrier

-- the association's APDU is sent, or its fault is returned
abbrev pub Carries : {C : Type 0} → StepsOf C → Result (List ℕ) AskFault → ClientValue C
    → Result (Unit {0}) AskFault → ClientValue C → Type 0
Carries steps (Ok apdu) at result new = (result ≡ Ok tt) × Sends steps at apdu new
Carries steps (Err fault) at result new = (result ≡ Err fault) × (new ≡ at)

pub record Asks {C : Type 0} (steps : StepsOf C) (asked : Asked) (form : RequestForm)
    (old : ClientValue C) (result : Result (Unit {0}) AskFault) (new : ClientValue C) : Type 0 where
  pub given : Result (List ℕ) AskFault
  pub association : AssociationValue
  pub asks : AsksOf asked form old.association given association
  pub carries : Carries steps given (record old { association = association }) result new

pub record Releases {C : Type 0} (steps : StepsOf C) (old new : ClientValue C) : Type 0 where
  pub apdu : List ℕ
  pub association : AssociationValue
  pub releases : ReleasesOf old.association apdu association
  pub sends : Sends steps (record old { association = association }) apdu new
