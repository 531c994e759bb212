use Rattle.std.proofs.Common.{◌≡◌, ◌∙◌, sym, subst, Option, None}
use Rattle.dlms_association.specs.declared.fault.Fault.{Fault}
use Rattle.dlms_client.specs.Calls.{Feeds, Hears, HearsUnless}
use Rattle.dlms_client.specs.ClientValue.{ClientValue}
use Rattle.dlms_client.proofs.client.Client.feed.Goals as goal

pub returns-in-None-clause-feeds : goal.returns-in-None-clause-feeds
returns-in-None-clause-feeds g c =
    let i = c.self.inside in
    let before : ClientValue g.row.C.Denot = record { carrier = i.carrier; association = i.association; leaving = i.leaving } in
    let none : i.association.failed ≡ None = sym c.fault.ensures ∙ c.in-None.is in
    let hears : Hears g.C.Carrier.steps g.C.Carrier.apdu_of before c.args.octets.now c.feed-fed.result.count c.handle.result c.handle.new.self = record {
      event = c.feed-fed.result.event;
      carrier = c.feed-fed.new.self;
      feeds = c.feed-fed.ensures.steps;
      comes = c.handle.ensures;
    } in
    let unless : Feeds g.C.Carrier.steps g.C.Carrier.apdu_of before c.args.octets.now c.feed-fed.result.count c.handle.result c.handle.new.self =
    subst (λ (failed : Option Fault). HearsUnless g.C.Carrier.steps g.C.Carrier.apdu_of failed before c.args.octets.now c.feed-fed.result.count c.handle.result c.handle.new.self) (sym none) hears in
    subst (λ (at : ClientValue g.row.C.Denot). Feeds g.C.Carrier.steps g.C.Carrier.apdu_of at c.args.octets.now c.feed-fed.result.count c.handle.result c.handle.new.self) c.self.view_is unless
