use Rattle.dlms_data.specs.View.{value_of, values_of}
use Rattle.dlms_text.proofs.EntryLemmas.{no_more}
use Rattle.dlms_text.proofs.entry.two_of.Goals as goal

pub returns-else-is_empty-clause-none : goal.returns-else-is_empty-clause-none
returns-else-is_empty-clause-none g c = λ a b is. no_more (values_of c.args.parts.now) c.in_ok-first.more.now a b (value_of c.in_ok-first.first.now) (value_of c.in_ok-first.second.now) c.if-is_empty.ensures c.in_ok-first.ensures.some is
