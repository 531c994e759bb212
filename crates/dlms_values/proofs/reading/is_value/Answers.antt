use Rattle.std.proofs.Common.{sym, [], append-nil}
use Rattle.dlms_values.specs.View.{value_of}
use Rattle.dlms_values.proofs.Whole.{whole_found, found_whole}
use Rattle.dlms_values.proofs.reading.is_value.Goals as goal

pub returns-in-Ok : goal.returns-in-Ok
returns-in-Ok c = (
  λ whole. whole_found c.args.bytes.now c.in-Ok.rest.now (value_of c.in-Ok._value) c.is_empty.result c.is_empty.ensures c.in-Ok.ensures.found whole,
  λ h. found_whole c.args.bytes.now c.in-Ok.rest.now (value_of c.in-Ok._value) c.is_empty.result c.is_empty.ensures c.in-Ok.ensures.only h,
)

pub returns-in-Err : goal.returns-in-Err
returns-in-Err c =
    (λ h. absurd (cc), λ h. absurd (c.in-Err.ensures.only h.0 c.args.bytes.now [] h.1 (sym (append-nil c.args.bytes.now))))
