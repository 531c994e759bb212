use Rattle.dlms_data.specs.View.{value_of}
use Rattle.dlms_headend.specs.Rows.{NoEncoding}
use Rattle.dlms_headend.proofs.Values.{encoded_ok, encoded_err, none_encoded, passed_on}
use Rattle.dlms_headend.proofs.buffer.read_rows.Goals as goal

pub returns-clause-ok : goal.returns-clause-ok
returns-clause-ok g c = encoded_ok c.args.bytes.now (value_of c.in_ok-value.value) c.rows.result (λ rows. rows.items) c.in_ok-value.ensures.ok c.rows.ensures.ok

pub returns-clause-err : goal.returns-clause-err
returns-clause-err g c = encoded_err c.args.bytes.now (value_of c.in_ok-value.value) c.rows.result c.in_ok-value.ensures.ok c.in_ok-value.ensures.one c.rows.ensures.err

pub returns-in_err-value-clause-err : goal.returns-in_err-value-clause-err
returns-in_err-value-clause-err g c =
    passed_on c.from_residual.result c.in_err-value.field-0.0 (NoEncoding c.args.bytes.now) c.from_residual.ensures.1 (none_encoded c.args.bytes.now c.in_err-value.field-0.0 c.in_err-value.ensures.err c.if-not-is_profile.ensures)
