use Rattle.std.proofs.Common.{arith}
use Rattle.dlms_text.proofs.EntryLemmas.{at_least_two}
use Rattle.dlms_text.proofs.entry.first_two.Goals as goal

pub returns-in_default-clause-none : goal.returns-in_default-clause-none
returns-in_default-clause-none g c = λ a b more is. omega (arith, at_least_two c.args.parts.now a b more is)
