use Rattle.std.proofs.Common.{List, ℕ, subst}
use Rattle.dlms_association.specs.Calls.{Takes}
use Rattle.dlms_client.specs.Calls.{TakesOver}
use Rattle.dlms_client.specs.ClientValue.{ClientValue}
use Rattle.dlms_client.proofs.client.Client.take.Goals as goal

pub returns : goal.returns
returns g c =
    let i = c.self.inside in
    let before : ClientValue g.row.C.Denot = record { carrier = i.carrier; association = i.association; leaving = i.leaving } in
    let over : TakesOver g.C.Carrier.steps before (g.C.Carrier.apdu_of i.carrier) c.follow.result c.follow.new.self = record {
      made = c.take-made.result;
      association = c.take-made.new.self;
      takes = subst (λ (bytes : List ℕ). Takes i.association bytes c.take-made.result c.take-made.new.self) c.apdu.ensures c.take-made.ensures;
      follows = c.follow.ensures;
    } in
    subst (λ (at : ClientValue g.row.C.Denot). TakesOver g.C.Carrier.steps at (g.C.Carrier.apdu_of at.carrier) c.follow.result c.follow.new.self) c.self.view_is over
