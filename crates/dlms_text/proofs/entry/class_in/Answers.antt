use Rattle.dlms_data.specs.Value.{Value}
use Rattle.dlms_text.specs.Entries.{HasName}
use Rattle.dlms_text.proofs.EntryLemmas.{all_of_them, first_at, one_more}
use Rattle.dlms_text.proofs.entry.class_in.Goals as goal

pub returns-in-Some-clause-some : goal.returns-in-Some-clause-some
returns-in-Some-clause-some g c =
    first_at c.args.list.now c.elements.value-index c.value-item.result c.args.name c.in-Some.class c.elements-test.true c.value-item.is c.elements.invariant c.in-Some.ensures.some

pub elements-preserved : goal.elements-preserved
elements-preserved g c =
    one_more (λ (v : Value). HasName c.args.name v → ⊥) c.args.list.now c.elements.value-index c.value-item.result c.elements-test.true c.value-item.is c.elements.invariant c.in_default.ensures.none

pub returns-clause-none : goal.returns-clause-none
returns-clause-none g c = all_of_them (λ (v : Value). HasName c.args.name v → ⊥) c.args.list.now c.elements.value-index c.elements-test.false c.elements.invariant
