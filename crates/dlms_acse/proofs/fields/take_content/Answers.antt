use Rattle.std.proofs.Common.{◌≡◌, false, sym, ◌∙◌, ap, Err}
use Rattle.dlms_acse.specs.Reading.{is_longer}
use Rattle.dlms_acse.proofs.Takes.{octets_within}
use Rattle.dlms_acse.proofs.Shared.{ok_here, err_here, longer_here}
use Rattle.dlms_acse.proofs.fields.take_content.Goals as goal

pub returns-then-is_longer-clause-exact : goal.returns-then-is_longer-clause-exact
returns-then-is_longer-clause-exact c = longer_here c.args.most c.args.bytes.now (sym c.is_longer.ensures ∙ c.if-is_longer.true)

pub returns-in-Ok-clause-exact : goal.returns-in-Ok-clause-exact
returns-in-Ok-clause-exact c =
    let short : is_longer c.args.most c.args.bytes.now ≡ false = sym c.is_longer.ensures ∙ c.if-is_longer.false in
    ok_here c.args.most c.args.bytes.now (c.in-Ok.parts.0.now, c.in-Ok.parts.1.now) c.requires short c.in-Ok.ensures.told

pub returns-in-Ok-clause-within : goal.returns-in-Ok-clause-within
returns-in-Ok-clause-within c =
    let short : is_longer c.args.most c.args.bytes.now ≡ false = sym c.is_longer.ensures ∙ c.if-is_longer.false in
    octets_within c.args.most c.args.bytes.now (c.in-Ok.parts.0.now, c.in-Ok.parts.1.now) (ok_here c.args.most c.args.bytes.now (c.in-Ok.parts.0.now, c.in-Ok.parts.1.now) c.requires short c.in-Ok.ensures.told)

pub returns-in-Err-clause-exact : goal.returns-in-Err-clause-exact
returns-in-Err-clause-exact c =
    let short : is_longer c.args.most c.args.bytes.now ≡ false = sym c.is_longer.ensures ∙ c.if-is_longer.false in
    err_here c.args.most c.args.bytes.now c.in-Err.fault c.requires short c.in-Err.ensures.told ∙ ap Err (sym c.told.ensures)
