use Rattle.std.proofs.Common.{List, ℕ, [], ◌∷◌, refl, subst, sym}
use Rattle.dlms_frame.specs.Frame.{FrameSpelling, Parts}
use Rattle.dlms_serving.specs.HangingUp.{disc_of}
use Rattle.dlms_serving.proofs.HangingUp.{disc_fed}
use Rattle.dlms_serving.proofs.hanging_up.end_link.Goals as goal
use Rattle.dlms_meter.specs.Run.{silent}
use Rattle.dlms_meter.specs.Steps.{Fed, Idled}

pub returns-clause-ends : goal.returns-clause-ends
returns-clause-ends g c = λ w stands own.
    let items : FrameSpelling c.put-frame.result.items (disc_of c.args.client) = subst (λ (f : Parts). FrameSpelling c.put-frame.result.items f) c.disc.ensures c.put-frame.ensures in
    let spelled : FrameSpelling c.as_slice.result.now (disc_of c.args.client) = subst (λ (b : List ℕ). FrameSpelling b (disc_of c.args.client)) (sym c.as_slice.ensures.value) items in
    let at = c.idle.ensures.run w stands in
    let fed = c.feed-answered.ensures.feeds (silent w) at in
    let ended = disc_fed c.args.client (silent w) fed.0 _ c.as_slice.result.now c.feed-answered.result.0 _ fed.1 spelled refl refl own c.feed-answered.ensures.len (c.feed-answered.ensures.all (silent w) at) fed.2 in
    (fed.0, fed.3, record { down = ended.down; others = ended.others; own = ended.own; store = ended.store })

pub returns-clause-calls : goal.returns-clause-calls
returns-clause-calls g c = (Idled ∷ Fed _ _ ∷ [], (c.idle.new.self, (c.idle.ensures.run, c.idle.ensures.store), (c.feed-answered.new.self, (c.feed-answered.ensures.feeds, c.feed-answered.ensures.later), refl)))
