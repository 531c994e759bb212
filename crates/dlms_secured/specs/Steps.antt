-- What each call of a secured carrier does: a call of its carrier, a turn of its guard, or both.
-- `steps` and `apdu_of` are the carrier's own meaning.
use Rattle.std.specs.Prelude.{◌≡◌, ℕ, Bool, true, false, List, [], length, Option, Some, None}
use Rattle.std.specs.Prelude.{Result, Ok, Err}
use Rattle.dlms_carrier.specs.Carrying.{Input, Begin, Give, Feed, Wait, End, StepsOf}
use Rattle.dlms_carrier.specs.declared.event.Event.{Event}
use Rattle.dlms_carrier.specs.declared.event.Event.TheVariants as event
use Rattle.dlms_secured.specs.Guard.{GuardValue, Taken, Hands, Sends}
use Rattle.dlms_secured.specs.Guard.{after_begin, after_event, fault_of, gives, Takes}
use Rattle.dlms_secured.specs.declared.fault.SecuredFault.{SecuredFault}
use Rattle.dlms_secured.specs.declared.stage.Stage.{Stage}
use Rattle.dlms_secured.specs.declared.stage.Stage.TheVariants.{Closed, Opening, Proving, Open}
use Rattle.dlms_secured.specs.declared.stage.Stage.TheVariants.{Failed}

-- a carrier and the guard of its association
pub record Guarded (C : Type 0) : Type 0 where
  pub carrier : C
  pub guard : GuardValue

abbrev pub at : {C : Type 0} → C → GuardValue → Guarded C
at carrier guard = record { carrier = carrier; guard = guard }

-- only the guard hands an APDU up
abbrev pub quiet : Event → Event
quiet event.Apdu = event.Nothing
quiet event.Nothing = event.Nothing
quiet event.Up = event.Up
quiet event.Down = event.Down
quiet event.TimedOut = event.TimedOut
quiet (event.Refused why) = event.Refused why
quiet event.Insecure = event.Insecure

-- the carrier is called, its event is returned, and the guard becomes this
pub record Passes {C : Type 0} (steps : StepsOf C) (input : Input) (guard : Event → GuardValue)
    (old : Guarded C) (result : Event) (new : Guarded C) : Type 0 where
  pub inner : Event
  pub step : steps old.carrier input inner new.carrier
  pub returned : result ≡ quiet inner
  pub after : new.guard ≡ guard inner

-- the guard refuses, and the carrier is not called
abbrev pub Refuses : {C : Type 0} → GuardValue → Guarded C → Event → Guarded C → Type 0
Refuses guard old result new = (result ≡ event.Insecure) × (new ≡ at old.carrier guard)

-- a connection is requested only under an unused challenge
abbrev pub Begins : {C : Type 0} → StepsOf C → Bool → Guarded C → Event → Guarded C → Type 0
Begins steps true old result new =
    Passes steps Begin (λ inner. after_begin old.guard) old result new
Begins steps false old result new = Refuses (after_begin old.guard) old result new

-- the guard's message goes out
abbrev pub Gives : {C : Type 0} → StepsOf C → GuardValue → Result (List ℕ) SecuredFault → Guarded C
    → Event → Guarded C → Type 0
Gives steps guard (Ok message) old result new =
    Passes steps (Give message) (λ inner. guard) old result new
Gives steps guard (Err why) old result new = Refuses guard old result new

-- what follows after the guard took an APDU
abbrev pub Follows : {C : Type 0} → StepsOf C → Result Taken SecuredFault → Guarded C → Event
    → Guarded C → Type 0
Follows steps (Ok Hands) at result new = (result ≡ event.Apdu) × (new ≡ at)
Follows steps (Ok (Sends message)) at result new =
    (inner : Event) × steps at.carrier (Give message) inner new.carrier
    × (result ≡ event.Nothing) × (new.guard ≡ at.guard)
Follows steps (Err why) at result new = (result ≡ event.Insecure) × (new ≡ at)

pub record TakesOver {C : Type 0} (steps : StepsOf C) (apdu : List ℕ) (old : Guarded C)
    (result : Event) (new : Guarded C) : Type 0 where
  pub taken : Result Taken SecuredFault
  pub guard : GuardValue
  pub takes : Takes old.guard apdu taken guard
  pub follows : Follows steps taken (at old.carrier guard) result new

-- any other event is returned, and may end the association
abbrev pub Returns : {C : Type 0} → Event → Guarded C → Event → Guarded C → Type 0
Returns inner old result new =
    (result ≡ inner) × (new ≡ at old.carrier (after_event old.guard inner))

-- by the carrier's event
abbrev pub Comes : {C : Type 0} → StepsOf C → Event → List ℕ → Guarded C → Event → Guarded C
    → Type 0
Comes steps event.Apdu apdu old result new = TakesOver steps apdu old result new
Comes steps event.Nothing apdu old result new = Returns event.Nothing old result new
Comes steps event.Up apdu old result new = Returns event.Up old result new
Comes steps event.Down apdu old result new = Returns event.Down old result new
Comes steps event.TimedOut apdu old result new = Returns event.TimedOut old result new
Comes steps (event.Refused why) apdu old result new = Returns (event.Refused why) old result new
Comes steps event.Insecure apdu old result new = Returns event.Insecure old result new

-- octets arrived
pub record Hears {C : Type 0} (steps : StepsOf C) (apdu_of : C → List ℕ) (octets : List ℕ)
    (count : ℕ)
    (old : Guarded C) (result : Event) (new : Guarded C) : Type 0 where
  pub inner : Event
  pub carrier : C
  pub feeds : steps old.carrier (Feed octets count) inner carrier
  pub comes : Comes steps inner (apdu_of carrier) (at carrier old.guard) result new

-- after a fault the octets are dropped
abbrev pub Feeds : {C : Type 0} → StepsOf C → (C → List ℕ) → Option SecuredFault → List ℕ → ℕ
    → Guarded C → Event → Guarded C → Type 0
Feeds steps apdu_of None octets count old result new =
    Hears steps apdu_of octets count old result new
Feeds steps apdu_of (Some why) octets count old result new =
    (count ≡ length octets) × (result ≡ event.Insecure) × (new ≡ old)

-- with a guard
abbrev pub GuardedSteps : {C : Type 0} → StepsOf C → (C → List ℕ) → Guarded C → Input → Event
    → Guarded C → Type 0
GuardedSteps steps apdu_of old Begin result new = Begins steps old.guard.unused old result new
GuardedSteps steps apdu_of old (Give apdu) result new =
    Gives steps (gives old.guard apdu).guard (gives old.guard apdu).result old result new
GuardedSteps steps apdu_of old (Feed octets count) result new =
    Feeds steps apdu_of (fault_of old.guard.stage) octets count old result new
GuardedSteps steps apdu_of old Wait result new =
    Passes steps Wait (after_event old.guard) old result new
GuardedSteps steps apdu_of old End result new =
    Passes steps End (after_event old.guard) old result new

-- ---- with or without a guard

pub record SecuredValue (C : Type 0) : Type 0 where
  pub carrier : C
  pub guard : Option GuardValue

abbrev pub StepsWith : {C : Type 0} → StepsOf C → (C → List ℕ) → Option GuardValue → SecuredValue C
    → Input → Event → SecuredValue C → Type 0
StepsWith steps apdu_of None old input result new =
    steps old.carrier input result new.carrier × (new.guard ≡ None)
StepsWith steps apdu_of (Some g) old input result new =
    (h : GuardValue) × (new.guard ≡ Some h)
    × GuardedSteps steps apdu_of (at old.carrier g) input result (at new.carrier h)

-- Without a guard each call is the carrier's own.
abbrev pub Steps : {C : Type 0} → StepsOf C → (C → List ℕ) → SecuredValue C → Input → Event
    → SecuredValue C → Type 0
Steps steps apdu_of old input result new = StepsWith steps apdu_of old.guard old input result new

abbrev pub fault_with : Option GuardValue → Option SecuredFault
fault_with None = None
fault_with (Some g) = fault_of g.stage

abbrev pub out_by : Option SecuredFault → List ℕ → List ℕ
out_by None out = out
out_by (Some why) out = []

-- the octets to write; after a fault none
abbrev pub out_of : {C : Type 0} → (C → List ℕ) → SecuredValue C → List ℕ
out_of out s = out_by (fault_with s.guard) (out s.carrier)

abbrev pub apdu_with : Option GuardValue → List ℕ → List ℕ
apdu_with None apdu = apdu
apdu_with (Some g) apdu = g.handed

-- the APDU that was handed up last
abbrev pub apdu_of : {C : Type 0} → (C → List ℕ) → SecuredValue C → List ℕ
apdu_of apdu s = apdu_with s.guard (apdu s.carrier)

-- an APDU may be given
abbrev pub IsReady : Stage → Type 0
IsReady Closed = Unit {0}
IsReady Opening = ⊥
IsReady (Proving granted) = ⊥
IsReady Open = Unit {0}
IsReady (Failed why) = ⊥

abbrev pub IsReadyWith : Option GuardValue → Type 0
IsReadyWith None = Unit {0}
IsReadyWith (Some g) = IsReady g.stage

pub record IsIdle {C : Type 0} (is_idle : C → Type 0) (s : SecuredValue C) : Type 0 where
  pub carrier : is_idle s.carrier
  pub ready : IsReadyWith s.guard

pub record IsWaiting {C : Type 0} (is_waiting : C → Type 0) (s : SecuredValue C) : Type 0 where
  pub carrier : is_waiting s.carrier
  pub whole : fault_with s.guard ≡ None
