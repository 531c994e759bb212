use Rattle.std.proofs.Common.{refl}
use Rattle.dlms_values.specs.View.{values_in, value_of}
use Rattle.dlms_values.proofs.Next.{none_read, first_is_read, after_first, is_next}
use Rattle.dlms_values.proofs.items.Items.next_value.Goals as goal

pub returns-then-self-eq0 : goal.returns-then-self-eq0
returns-then-self-eq0 c = rw (none_read c.args.self.now.levels c.args.self.now.count c.args.self.now.bytes.now c.if-self-eq0.true) refl

pub unreachable-requires : goal.unreachable-requires
unreachable-requires c = first_is_read c.args.self.now.levels c.args.self.now.count c.args.self.now.bytes.now c.in_default.field-0 c.if-self-eq0.false c.args.self.now.spelled c.in_default.ensures

pub invariant_of-self : goal.invariant_of-self
invariant_of-self c =
    record { spelled = (after_first c.args.self.now.levels c.args.self.now.count c.args.self.now.bytes.now (value_of c.in-Ok.value) c.in-Ok.rest.now c.if-self-eq0.false c.args.self.now.spelled c.in-Ok.ensures).0 }

pub returns : goal.returns
returns c =
    is_next (values_in c.args.self.now) c.in-Ok.value _
    (after_first c.args.self.now.levels c.args.self.now.count c.args.self.now.bytes.now (value_of c.in-Ok.value) c.in-Ok.rest.now c.if-self-eq0.false c.args.self.now.spelled c.in-Ok.ensures).1
