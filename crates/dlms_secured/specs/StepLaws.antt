-- What the trait asks of every carrier, for a secured one.
use Rattle.std.specs.Prelude.{◌≡◌, refl, ℕ, Bool, true, false, cond, List, Option, Some}
use Rattle.std.specs.Prelude.{None, Result, Ok, Err}
use Rattle.std.proofs.Common.{sym, subst, ap, ◌∙◌}
use Rattle.dlms_carrier.specs.Carrying.{Feed, StepsOf}
use Rattle.dlms_carrier.specs.declared.event.Event.{Event}
use Rattle.dlms_carrier.specs.declared.event.Event.TheVariants as event
use Rattle.dlms_security.specs.Run.{Event as SecurityCall}
use Rattle.dlms_security.specs.Security.{SecurityState}
use Rattle.dlms_secured.specs.Guard.{GuardValue, Taken, Hands, Sends, TakesIn, fault_of}
use Rattle.dlms_secured.specs.Guard.{hands, answers_by, idle, sends, opened_by}
use Rattle.dlms_secured.specs.Guard.{takes_opening, takes_open, takes_release, takes_message}
use Rattle.dlms_secured.specs.Guard.{takes_response, at_most, instead}
use Rattle.dlms_acse.specs.Writing.{release_response}
use Rattle.dlms_secured.specs.declared.reply.Reply.{Reply}
use Rattle.dlms_secured.specs.Made.{Both, accepts, releases, unprotects, under, sends_answer}
use Rattle.dlms_secured.specs.Messages.{begins, plain_aare}
use Rattle.dlms_secured.specs.Response.{is_refusal}
use Rattle.dlms_secured.specs.declared.fault.SecuredFault.{SecuredFault}
use Rattle.dlms_secured.specs.declared.stage.Stage.{Stage}
use Rattle.dlms_secured.specs.declared.stage.Stage.TheVariants.{Closed, Opening, Proving, Open}
use Rattle.dlms_secured.specs.declared.stage.Stage.TheVariants.{Failed}
use Rattle.dlms_secured.specs.declared.messages.TheConstants.{MOST_CARRIED}
use Rattle.dlms_secured.specs.Steps.{Guarded, at, SecuredValue, Steps, StepsWith}
use Rattle.dlms_secured.specs.Steps.{Feeds, Comes, Follows, IsReady}
use Rattle.dlms_secured.specs.Steps.{IsReadyWith, IsIdle, IsWaiting, fault_with}

-- ---- an APDU is handed up only while an answer is awaited

-- the carrier handed one up
carrier_hands : {C : Type 0} (steps : StepsOf C) (inner : Event) (apdu : List ℕ)
    (old new : Guarded C) → Comes steps inner apdu old event.Apdu new → inner ≡ event.Apdu
carrier_hands steps event.Apdu apdu old new h = refl
carrier_hands steps event.Nothing apdu old new h = let clash = h.0 in cc
carrier_hands steps event.Up apdu old new h = let clash = h.0 in cc
carrier_hands steps event.Down apdu old new h = let clash = h.0 in cc
carrier_hands steps event.TimedOut apdu old new h = let clash = h.0 in cc
carrier_hands steps (event.Refused why) apdu old new h = let clash = h.0 in cc
carrier_hands steps event.Insecure apdu old new h = let clash = h.0 in cc

guarded_awaited : {C : Type 0} (steps : StepsOf C) (apdu_of : C → List ℕ) (is_waiting : C → Type 0)
    → ((old new : C) (octets : List ℕ) (count : ℕ) → steps old (Feed octets count) event.Apdu new
    → is_waiting old)
    → (failed : Option SecuredFault) (octets : List ℕ) (count : ℕ) (old new : Guarded C)
    → Feeds steps apdu_of failed octets count old event.Apdu new → is_waiting old.carrier
    × (failed ≡ None)
guarded_awaited steps apdu_of is_waiting law None octets count old new h =
    let same : h.inner ≡ event.Apdu =
    carrier_hands steps h.inner (apdu_of h.carrier) (at h.carrier old.guard) new h.comes in (
      law old.carrier h.carrier octets count
          (subst (λ (e : Event). steps old.carrier (Feed octets count) e h.carrier) same h.feeds),
      refl,
    )
guarded_awaited steps apdu_of is_waiting law (Some why) octets count old new h = let clash = h.1 in
    absurd cc

awaited_with : {C : Type 0} (steps : StepsOf C) (apdu_of : C → List ℕ) (is_waiting : C → Type 0)
    → ((old new : C) (octets : List ℕ) (count : ℕ) → steps old (Feed octets count) event.Apdu new
    → is_waiting old)
    → (guard : Option GuardValue) (old new : SecuredValue C) (octets : List ℕ) (count : ℕ)
    → StepsWith steps apdu_of guard old (Feed octets count) event.Apdu new → is_waiting old.carrier
    × (fault_with guard ≡ None)
awaited_with steps apdu_of is_waiting law None old new octets count h =
    (law old.carrier new.carrier octets count h.0, refl)
awaited_with steps apdu_of is_waiting law (Some g) old new octets count h =
    guarded_awaited steps apdu_of is_waiting law (fault_of g.stage) octets count (at old.carrier g)
    (at new.carrier h.0) h.2

pub awaited : {C : Type 0} (steps : StepsOf C) (apdu_of : C → List ℕ) (is_waiting : C → Type 0)
    → ((old new : C) (octets : List ℕ) (count : ℕ) → steps old (Feed octets count) event.Apdu new
    → is_waiting old)
    → (old new : SecuredValue C) (octets : List ℕ) (count : ℕ)
    → Steps steps apdu_of old (Feed octets count) event.Apdu new → IsWaiting is_waiting old
awaited steps apdu_of is_waiting law old new octets count h =
    let both = awaited_with steps apdu_of is_waiting law old.guard old new octets count h in
    record { carrier = both.0; whole = both.1 }

-- ---- then the connection is idle

hands_ready : {A : Type 0} (g : GuardValue) (m : Both A) (stage : Stage)
    (r : Result (List ℕ) SecuredFault) → Ok Hands ≡ (hands g m stage r).result → IsReady stage
    → IsReady (hands g m stage r).guard.stage
hands_ready g m stage (Ok apdu) e ready = ready
hands_ready g m stage (Err why) e ready = absurd cc

answers_none : (g : GuardValue) (s : SecurityState) (calls : List SecurityCall)
    (r : Result Reply SecuredFault) → Ok Hands ≡ (answers_by g s calls r).result → ⊥
answers_none g s calls (Ok reply) e = by_result (sends_answer s g.form reply.answer).result e
  where
    by_result : (r : Result (List ℕ) SecuredFault) → Ok Hands ≡ sends r → ⊥
    by_result (Ok message) e = let both = e in cc
    by_result (Err why) e = cc
answers_none g s calls (Err why) e = cc

opening_ready : (g : GuardValue) (apdu : List ℕ) → Ok Hands ≡ (takes_opening g apdu).result
    → IsReady (takes_opening g apdu).guard.stage
unfolding takes_opening takes_response
opening_ready g apdu e = by_test (is_refusal apdu) e
  where
    by_test : (b : Bool) → Ok Hands ≡
        (cond b (hands g (idle g) Closed (at_most MOST_CARRIED apdu))
        (takes_response g apdu)).result
        → IsReady (cond b (hands g (idle g) Closed (at_most MOST_CARRIED apdu))
        (takes_response g apdu)).guard.stage
    by_test true e = hands_ready g (idle g) Closed (at_most MOST_CARRIED apdu) e tt
    by_test false e = let m = accepts g.security g.challenge apdu in
        absurd (answers_none g m.security m.calls m.result e)

open_ready : (g : GuardValue) (apdu : List ℕ) → Ok Hands ≡ (takes_open g apdu).result
    → IsReady (takes_open g apdu).guard.stage
unfolding takes_open takes_release takes_message
open_ready g apdu e = by_test (begins 0x63 apdu) e
  where
    by_test : (b : Bool) → Ok Hands ≡ (cond b (takes_release g apdu) (takes_message g apdu)).result
        → IsReady (cond b (takes_release g apdu) (takes_message g apdu)).guard.stage
    by_test true e = let m = releases g.security apdu in
        hands_ready g (under g.dedicated m) Closed (instead release_response m.result) e tt
    by_test false e = let m = opened_by g apdu in
        hands_ready g m Open m.result e tt

takes_ready : (stage : Stage) (g : GuardValue) (apdu : List ℕ) (taken : Result Taken SecuredFault)
    (new : GuardValue) → TakesIn stage g apdu taken new → taken ≡ Ok Hands → IsReady new.stage
takes_ready Closed g apdu taken new h e = let clash = h.0 in absurd cc
takes_ready Opening g apdu taken new h e =
    subst (λ (v : GuardValue). IsReady v.stage) (sym h.1) (opening_ready g apdu (sym e ∙ h.0))
takes_ready (Proving granted) g apdu taken new h e =
    let m = under g.dedicated (unprotects g.security apdu) in
    subst (λ (v : GuardValue). IsReady v.stage) (sym h.after)
    (hands_ready g m Open (instead (plain_aare granted) h.proved)
    (sym e ∙ h.outcome) tt)
takes_ready Open g apdu taken new h e =
    subst (λ (v : GuardValue). IsReady v.stage) (sym h.1) (open_ready g apdu (sym e ∙ h.0))
takes_ready (Failed why) g apdu taken new h e = let clash = h.0 in absurd cc

-- the guard is ready, and the carrier is the one that handed the APDU up
follows_ready : {C : Type 0} (steps : StepsOf C) (taken : Result Taken SecuredFault)
    (at new : Guarded C) → Follows steps taken at event.Apdu new → (taken ≡ Ok Hands) × (new ≡ at)
follows_ready steps (Ok Hands) at new h = (refl, h.1)
follows_ready steps (Ok (Sends message)) at new h = let clash = h.2 in absurd cc
follows_ready steps (Err why) at new h = let clash = h.0 in absurd cc

comes_ready : {C : Type 0} (steps : StepsOf C) (inner : Event) (apdu : List ℕ) (old new : Guarded C)
    → Comes steps inner apdu old event.Apdu new → (inner ≡ event.Apdu) × (new.carrier ≡ old.carrier)
    × IsReady new.guard.stage
comes_ready {C} steps event.Apdu apdu old new h =
    let both = follows_ready steps h.taken (at old.carrier h.guard) new h.follows in (
      refl,
      ap (λ (v : Guarded C). v.carrier) both.1,
      subst (λ (v : Guarded C). IsReady v.guard.stage) (sym both.1)
          (takes_ready old.guard.stage old.guard apdu h.taken h.guard h.takes both.0),
    )
comes_ready steps event.Nothing apdu old new h = let clash = h.0 in absurd cc
comes_ready steps event.Up apdu old new h = let clash = h.0 in absurd cc
comes_ready steps event.Down apdu old new h = let clash = h.0 in absurd cc
comes_ready steps event.TimedOut apdu old new h = let clash = h.0 in absurd cc
comes_ready steps (event.Refused why) apdu old new h = let clash = h.0 in absurd cc
comes_ready steps event.Insecure apdu old new h = let clash = h.0 in absurd cc

guarded_settled : {C : Type 0} (steps : StepsOf C) (apdu_of : C → List ℕ) (is_idle : C → Type 0)
    → ((old new : C) (octets : List ℕ) (count : ℕ) → steps old (Feed octets count) event.Apdu new
    → is_idle new)
    → (failed : Option SecuredFault) (octets : List ℕ) (count : ℕ) (old new : Guarded C)
    → Feeds steps apdu_of failed octets count old event.Apdu new → is_idle new.carrier
    × IsReady new.guard.stage
guarded_settled steps apdu_of is_idle law None octets count old new h =
    let all = comes_ready steps h.inner (apdu_of h.carrier) (at h.carrier old.guard) new h.comes in (
      subst is_idle (sym all.1) (law old.carrier h.carrier octets count
          (subst (λ (e : Event). steps old.carrier (Feed octets count) e h.carrier) all.0 h.feeds)),
      all.2,
    )
guarded_settled steps apdu_of is_idle law (Some why) octets count old new h = let clash = h.1 in
    absurd cc

settled_with : {C : Type 0} (steps : StepsOf C) (apdu_of : C → List ℕ) (is_idle : C → Type 0)
    → ((old new : C) (octets : List ℕ) (count : ℕ) → steps old (Feed octets count) event.Apdu new
    → is_idle new)
    → (guard : Option GuardValue) (old new : SecuredValue C) (octets : List ℕ) (count : ℕ)
    → StepsWith steps apdu_of guard old (Feed octets count) event.Apdu new → IsIdle is_idle new
settled_with steps apdu_of is_idle law None old new octets count h =
    record {
      carrier = law old.carrier new.carrier octets count h.0;
      ready = subst IsReadyWith (sym h.1) tt;
    }
settled_with steps apdu_of is_idle law (Some g) old new octets count h =
    let both = guarded_settled steps apdu_of is_idle law (fault_of g.stage) octets count
    (at old.carrier g) (at new.carrier h.0) h.2 in
    record { carrier = both.0; ready = subst IsReadyWith (sym h.1) both.1 }

pub settled : {C : Type 0} (steps : StepsOf C) (apdu_of : C → List ℕ) (is_idle : C → Type 0)
    → ((old new : C) (octets : List ℕ) (count : ℕ) → steps old (Feed octets count) event.Apdu new
    → is_idle new)
    → (old new : SecuredValue C) (octets : List ℕ) (count : ℕ)
    → Steps steps apdu_of old (Feed octets count) event.Apdu new → IsIdle is_idle new
settled steps apdu_of is_idle law old new octets count h =
    settled_with steps apdu_of is_idle law old.guard old new octets count h
