use Rattle.std.proofs.Common.{◌≤◌, length, sym, arith}
use Rattle.std.proofs.lemmas.Bool.Decides.{nat_tests}
use Rattle.dlms_journal.proofs.Lists.{one_more, never}
use Rattle.dlms_journal.proofs.records.are_whole.Goals as goal

pub loop-rest-preserved : goal.loop-rest-preserved
loop-rest-preserved c =
    one_more c.args.bytes.now c.loop-rest.rest.now c.in-Some.behind.now c.in-Some.field-0-0 c.loop-rest.invariant c.in-Some.ensures.found c.in-Some.ensures.fits

pub returns-in-None-clause-none : goal.returns-in-None-clause-none
returns-in-None-clause-none c =
    let some : 1 ≤ length c.loop-rest.rest.now = grind (arith, nat_tests, c.is_empty.ensures, c.loop-rest-test.true) in
    λ _. never c.args.bytes.now c.loop-rest.rest.now c.loop-rest.invariant some (sym c.in-None.ensures.exact)
