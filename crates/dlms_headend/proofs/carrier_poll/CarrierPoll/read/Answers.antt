use Rattle.std.proofs.Common.{◌≡◌, subst, ℕ, List, Err}
use Rattle.dlms_headend.specs.CarrierPollValue.{CarrierPollValue, terms_of}
use Rattle.dlms_headend.specs.CarrierPolling.{Fits, Hears}
use Rattle.dlms_headend.specs.Poll.{Needs}
use Rattle.dlms_headend.specs.declared.poll_fault.PollFault.TheVariants.{Memory}
use Rattle.dlms_headend.proofs.CarrierLemmas.{fits_in, needs_by}
use Rattle.dlms_headend.proofs.carrier_poll.CarrierPoll.read.Goals as goal

pub returns-clause-hears : goal.returns-clause-hears
returns-clause-hears g c =
    let i = c.self.inside in
    let before : CarrierPollValue g.row.C.Denot = record { terms = terms_of i.terms; carrier = i.carrier; course = i.course; talk = i.talk } in
    subst (λ (at : CarrierPollValue g.row.C.Denot). (apdus : List (List ℕ)) → Fits at apdus → Hears g.C.Carrier.steps g.C.Carrier.apdu_of apdus at c.args.octets.now c.feed-fed.result.count c.handle.result c.handle.new.self) c.self.view_is
    (λ apdus fits. record {
      event = c.feed-fed.result.event;
      carrier = c.feed-fed.new.self;
      feeds = c.feed-fed.ensures.steps;
      comes = c.handle.ensures apdus (fits_in i.course before c.feed-fed.new.self apdus fits);
    })

pub returns-clause-memory : goal.returns-clause-memory
returns-clause-memory g c =
    let i = c.self.inside in
    let before : CarrierPollValue g.row.C.Denot = record { terms = terms_of i.terms; carrier = i.carrier; course = i.course; talk = i.talk } in
    let fed : CarrierPollValue g.row.C.Denot = record before { carrier = c.feed-fed.new.self } in
    subst (λ (at : CarrierPollValue g.row.C.Denot). (apdus : List (List ℕ)) → Fits at apdus → c.handle.result ≡ Err Memory → Needs at.terms.columns apdus (g.C.Carrier.apdu_of c.handle.new.self.carrier)) c.self.view_is
    (λ apdus fits e. needs_by g.C.Carrier.steps g.C.Carrier.apdu_of c.feed-fed.result.event apdus fed c.handle.new.self c.handle.result (c.handle.ensures apdus (fits_in i.course before c.feed-fed.new.self apdus fits)) e)
