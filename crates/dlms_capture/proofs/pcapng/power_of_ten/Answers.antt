use Rattle.std.proofs.Common.{arith}
use Rattle.std.proofs.Math.Nat.{one-le-pow}
use Rattle.dlms_capture.proofs.pcapng.power_of_ten.Goals as goal

pub returns-clause-some : goal.returns-clause-some
returns-clause-some c = omega (arith, one-le-pow c.from.result 10 (omega arith))
