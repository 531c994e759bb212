use Rattle.std.proofs.Common.{ℕ, subst}
use Rattle.dlms_counters.specs.Writing.{Puts}
use Rattle.dlms_counters.proofs.ImageLemmas.{stored}
use Rattle.dlms_counters.proofs.put.store.Goals as goal

pub returns-clause-stores : goal.returns-clause-stores
returns-clause-stores g c s settled next =
    let view = g.P.Pages.view in
    let old = view c.args.device.now in
    let new = view c.put.new.device in
    let bytes = c.slot_of-page.result in
    let puts = subst (λ (p : ℕ). Puts p bytes old new c.put.result) c.place_of-place.ensures.value (c.put.ensures.puts settled.honest) in
    stored old new s c.args.next.now bytes (g.met.P.Pages.rules c.args.device.now settled.honest) c.requires settled next c.slot_of-page.ensures c.put.result puts
