use Rattle.std.proofs.Common.{List, ℕ, ◌≡◌, ◌∙◌, refl, subst, sym, take}
use Rattle.dlms_frame.specs.Frame.{FrameSpelling, Parts, spelling}
use Rattle.dlms_c.specs.HangingUp.{disc_of}
use Rattle.dlms_c.proofs.HangingUp.{all_taken}
use Rattle.dlms_c.proofs.hanging_up.end_link.Goals as goal
use Rattle.dlms_meter.specs.Run.{silent}

pub returns : goal.returns
returns g c = (
  c.idle.new.self,
  c.idle.ensures.run,
  λ w at.
      let items : FrameSpelling c.put-frame.result.items (disc_of c.args.client) = subst (λ (f : Parts). FrameSpelling c.put-frame.result.items f) c.disc.ensures c.put-frame.ensures in
      let spelled : FrameSpelling c.as_slice.result.now (disc_of c.args.client) = subst (λ (b : List ℕ). FrameSpelling b (disc_of c.args.client)) (sym c.as_slice.ensures.value) items in
      let all : take c.feed-answered.result.0 c.as_slice.result.now ≡ spelling (disc_of c.args.client) =
      all_taken c.args.client (silent w) c.as_slice.result.now c.feed-answered.result.0 spelled refl c.feed-answered.ensures.len (c.feed-answered.ensures.all (silent w) at) ∙ spelled.text in
      let fed = c.feed-answered.ensures.feeds (silent w) at in
      (fed.0, fed.1, _, rw all at fed.2, fed.3),
)
