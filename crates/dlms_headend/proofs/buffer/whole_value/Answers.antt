use Rattle.std.proofs.Common.{sym, refl, subst, [], append-nil, length}
use Rattle.dlms_data.specs.Value.{Value}
use Rattle.dlms_data.specs.View.{value_of}
use Rattle.dlms_data.specs.Spelling.{IsSpelling}
use Rattle.dlms_headend.proofs.Values.{same_value, wanted_value}
use Rattle.dlms_headend.proofs.buffer.whole_value.Goals as goal

pub returns-in-Ok-clause-ok : goal.returns-in-Ok-clause-ok
returns-in-Ok-clause-ok g c =
    let there = c.if-not-is_value.ensures.0 refl in
    let same = same_value there.0 (value_of c.in-Ok.value) (length c.args.bytes.now) c.in-Ok.field-0-1 (c.in-Ok.ensures.only there.0 c.args.bytes.now [] there.1 (sym (append-nil c.args.bytes.now))) in
    subst (λ (v : Value). IsSpelling c.args.bytes.now v) same there.1

pub returns-in-Ok-clause-one : goal.returns-in-Ok-clause-one
returns-in-Ok-clause-one g c = λ w h.
    same_value w (value_of c.in-Ok.value) (length c.args.bytes.now) c.in-Ok.field-0-1 (c.in-Ok.ensures.only w c.args.bytes.now [] h (sym (append-nil c.args.bytes.now)))

pub returns-in-Err-clause-err : goal.returns-in-Err-clause-err
returns-in-Err-clause-err g c =
    let there = c.if-not-is_value.ensures.0 refl in
    wanted_value c.args.bytes.now there.0 (length c.args.bytes.now) c.in-Err.field-0 there.1 (c.in-Err.ensures.only there.0 c.args.bytes.now [] there.1 (sym (append-nil c.args.bytes.now)))
