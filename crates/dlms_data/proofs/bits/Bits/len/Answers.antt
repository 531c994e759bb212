use Rattle.std.proofs.Common.{◌∙◌, sym, ap, length}
use Rattle.dlms_data.proofs.Bitwise.{length-view}
use Rattle.dlms_data.proofs.bits.Bits.len.Goals as goal

pub returns : goal.returns
returns g c = sym (length-view c.self.inside.count c.self.inside.bytes.items c.self.invariant) ∙ ap length c.self.view_is
