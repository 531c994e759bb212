use Rattle.dlms_store.specs.World.StoreStep.{Adds}
use Rattle.dlms_store.proofs.Adding.{adding, still_settled}
use Rattle.dlms_store.proofs.Keeping.{running}
use Rattle.dlms_store.proofs.store.Store.push.Goals as goal

pub returns-clause-run : goal.returns-clause-run
returns-clause-run g c before runs fits =
    let store = c.args.self.now in
    running (Adds c.args.event) before store _ runs fits (λ s p is has.
    adding s p c.args.event store _ is has (g.met.P.Pages.rules store.device is.device.honest) c.requires.room.0 (still_settled s store _ c.join.ensures.same c.join.ensures.captured is) (c.join.ensures.joins s p has) c.join.ensures.same.device)
