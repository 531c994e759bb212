use Rattle.std.proofs.Common.{subst, ℕ, List, Bool, sym}
use Rattle.dlms_data.specs.Bits.{HoldsBits}
use Rattle.dlms_data.proofs.Bitwise.{holds}
use Rattle.dlms_data.proofs.bits.Bits.as_bytes.Goals as goal

pub returns : goal.returns
returns g c =
    let held = holds c.self.inside.count c.self.inside.bytes.items c.self.invariant in
    let seen = subst (λ (b : List Bool). HoldsBits c.self.inside.bytes.items b) c.self.view_is held in
    subst (λ (w : List ℕ). HoldsBits w c.args.self.now) (sym c.deref.ensures.value) seen
