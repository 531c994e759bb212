-- proofs/clock/time_to_set
use Rattle.std.proofs.Common.{arith, refl}
use Rattle.std.proofs.lemmas.Int.{ints}
use Rattle.dlms_inquiries.proofs.ClockLemmas.{set_so}
use Rattle.dlms_inquiries.proofs.clock.time_to_set.Goals as goal

pub returns : goal.returns
returns c =
    set_so _ c.in-Some.shown c.octets-time.result _ _ _ _ _ c.in-Some.is c.deviation_of.ensures.value (omega (arith, ints, c.from.ensures, c.deviation_of.ensures.most, c.requires))
    c.nearest-2.ensures.value (c.octets-time.ensures.second, c.octets-time.ensures.plain) refl
