-- proofs/clock/second_in
use Rattle.std.proofs.Common.{arith}
use Rattle.std.proofs.lemmas.Int.{ints}
use Rattle.dlms_inquiries.proofs.ClockLemmas.{moment_so}
use Rattle.dlms_inquiries.proofs.clock.second_in.Goals as goal

pub returns-clause-some : goal.returns-clause-some
returns-clause-some c =
    moment_so _ _ _ _ c.in_ok-second.ensures.some c.deviation_of.ensures.value (omega (arith, ints, c.from.ensures, c.from-2.ensures, c.deviation_of.ensures.most, c.in_ok-second.ensures.some.range))
