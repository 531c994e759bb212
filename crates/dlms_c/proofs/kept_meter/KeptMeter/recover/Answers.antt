use Rattle.std.proofs.Common.{◌≡◌, ◌∙◌, length, ap, refl, sym}
use Rattle.dlms_pages.specs.Memory.{view_of as memory_view}
use Rattle.dlms_c.specs.Codes.{open_code}
use Rattle.dlms_c.specs.Opening.{Begins, IsOpenedFrom, IsUnrecovered}
use Rattle.dlms_c.proofs.Openings.{begun_as, loaded_seen, recovers_from, rests_so}
use Rattle.dlms_c.proofs.kept_meter.KeptMeter.recover.Goals as goal

pub returns : goal.returns
returns c =
    let slots = c.args.slots.now in
    let device = c.in-Ok.device in
    let over = c.in-Ok.ensures in
    let recover = c.recover.ensures in
    let first : length device.pages.calls ≡ 0 = ap length (sym device.in_order ∙ over.nothing.0) in
    begun_as c.begun.result c.recover.result Begins (λ k. k.meter) (λ meter. IsOpenedFrom slots meter) (IsUnrecovered slots) (λ e. open_code e.1)
    (recovers_from slots (memory_view device.pages) c.recover.result (loaded_seen slots device.pages over.image over.fixed) first (rests_so device.pages over.fixed) recover.opens recover.stands recover.gives_back (recover.exact refl) recover.size)
    c.begun.ensures
