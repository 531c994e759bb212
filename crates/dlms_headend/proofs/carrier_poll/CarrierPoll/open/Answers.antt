use Rattle.std.proofs.Common.{◌∙◌, ap, refl, subst, ℕ, List, Option}
use Rattle.dlms_carrier.specs.Carrying.{Give}
use Rattle.dlms_headend.specs.CarrierPollValue.{CarrierPollValue, terms_of}
use Rattle.dlms_headend.specs.CarrierPolling.{Opens}
use Rattle.dlms_headend.specs.Due.{association_with}
use Rattle.dlms_headend.specs.declared.stage.PollCourse.TheVariants.{Running}
use Rattle.dlms_headend.proofs.carrier_poll.CarrierPoll.open.Goals as goal

pub returns : goal.returns
returns g c =
    let i = c.self.inside in
    let before : CarrierPollValue g.row.C.Denot = record { terms = terms_of i.terms; carrier = i.carrier; course = i.course; talk = i.talk } in
    let after : CarrierPollValue g.row.C.Denot = record { terms = terms_of i.terms; carrier = c.give-event.new.self; course = Running; talk = i.talk } in
    let opens : Opens g.C.Carrier.steps before after = record {
      event = c.give-event.result;
      carrier = c.give-event.new.self;
      gives = subst (λ (request : List ℕ). g.C.Carrier.steps i.carrier (Give request) c.give-event.result c.give-event.new.self)
          (c.as_slice.ensures.value ∙ c.association-request.ensures.bytes ∙ ap (λ (secret : Option (List ℕ)). association_with secret) c.sent_secret.ensures.secret) c.give-event.ensures;
      after = refl;
    } in
    subst (λ (at : CarrierPollValue g.row.C.Denot). Opens g.C.Carrier.steps at after) c.self.view_is opens
