use Rattle.std.proofs.Common.{refl, subst, ℕ, List, Ok}
use Rattle.dlms_carrier.specs.Carrying.{Give}
use Rattle.dlms_headend.specs.CarrierPollValue.{CarrierPollValue, requests_of, terms_of}
use Rattle.dlms_headend.specs.CarrierPolling.{GoesOn}
use Rattle.dlms_headend.specs.Due.{IsDueAt}
use Rattle.dlms_headend.specs.Talk.{FitsTalk}
use Rattle.dlms_headend.specs.declared.stage.Stage.{Stage}
use Rattle.dlms_headend.specs.declared.step.PollOutcome.TheVariants.{Nothing}
use Rattle.dlms_headend.proofs.CarrierLemmas.{asked_next}
use Rattle.dlms_headend.proofs.carrier_poll.CarrierPoll.go_on.Goals as goal

pub returns-in-Some : goal.returns-in-Some
returns-in-Some g c =
    let i = c.self.inside in
    let before : CarrierPollValue g.row.C.Denot = record { terms = terms_of i.terms; carrier = i.carrier; course = i.course; talk = i.talk } in
    let after : CarrierPollValue g.row.C.Denot = record { terms = terms_of i.terms; carrier = c.give-event.new.self; course = i.course; talk = i.talk } in
    subst (λ (at : CarrierPollValue g.row.C.Denot). (apdus : List (List ℕ)) → FitsTalk at.terms.columns at.talk apdus → GoesOn g.C.Carrier.steps at apdus (Ok Nothing) after) c.self.view_is
    (λ apdus fits. asked_next g.C.Carrier.steps before after c.in-Some.request.items c.give-event.result c.give-event.new.self (Ok Nothing) apdus fits
    (subst (λ (stage : Stage). IsDueAt (requests_of before.terms).association before.terms.after before.terms.until stage c.in-Some.request.items) c.stage-stage.ensures c.in-Some.ensures.due)
    (subst (λ (bytes : List ℕ). g.C.Carrier.steps i.carrier (Give bytes) c.give-event.result c.give-event.new.self) c.as_slice.ensures.value c.give-event.ensures) refl refl)
