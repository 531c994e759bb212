use Rattle.std.proofs.Common.{◌≡◌, ◌⊎◌, ℕ, refl}
use Rattle.dlms_pages.specs.Memory.{view_of as memory_view}
use Rattle.dlms_c.specs.Codes.{open_code}
use Rattle.dlms_c.specs.Opening.{Begins, IsNew}
use Rattle.dlms_c.proofs.Openings.{begun_as, formats, new_count}
use Rattle.dlms_c.proofs.kept_meter.KeptMeter.format.Goals as goal

pub returns : goal.returns
returns c =
    let format = c.format.ensures in
    begun_as c.begun.result c.format.result Begins (λ k. k.meter) (λ meter. IsNew meter) (λ (code : ℕ). (code ≡ 32) ⊎ (code ≡ 33)) (λ e. open_code e.1)
    (formats (memory_view c.in-Ok.device.pages) c.format.result (new_count c.in-Ok.device.pages c.in-Ok.ensures.new) format.stands (format.fits refl) (format.formatted refl) format.size format.faults)
    c.begun.ensures
