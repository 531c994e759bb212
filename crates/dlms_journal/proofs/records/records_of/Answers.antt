use Rattle.dlms_journal.proofs.Lists.{whole_holds}
use Rattle.dlms_journal.proofs.records.records_of.Goals as goal

pub invariant_of-result : goal.invariant_of-result
invariant_of-result c = whole_holds c.args.bytes.now (c.if-not-are_whole.ensures.whole search)

pub returns-clause-some : goal.returns-clause-some
returns-clause-some c = whole_holds c.args.bytes.now (c.if-not-are_whole.ensures.whole search)
