use Rattle.std.proofs.Common.{◌≡◌, ◌∙◌, false, sym, ap, lit≤}
use Rattle.dlms_acse.specs.Reading.{is_longer, ok_of}
use Rattle.dlms_acse.proofs.Takes.{octets_within}
use Rattle.dlms_acse.proofs.Shared.{ok_here, err_here, longer_here}
use Rattle.dlms_secured.proofs.fields.take_content.Goals as goal

pub returns-then-is_longer-clause-exact : goal.returns-then-is_longer-clause-exact
returns-then-is_longer-clause-exact c = sym (ap ok_of (longer_here 2 c.args.octets.now (sym c.is_longer.ensures ∙ c.if-is_longer.true)))

pub returns-in-Ok-clause-exact : goal.returns-in-Ok-clause-exact
returns-in-Ok-clause-exact c =
    let short : is_longer 2 c.args.octets.now ≡ false = sym c.is_longer.ensures ∙ c.if-is_longer.false in
    sym (ap ok_of (ok_here 2 c.args.octets.now (c.in-Ok.parts.0.now, c.in-Ok.parts.1.now) (lit≤ tt) short c.in-Ok.ensures.told))

pub returns-in-Ok-clause-within : goal.returns-in-Ok-clause-within
returns-in-Ok-clause-within c =
    let short : is_longer 2 c.args.octets.now ≡ false = sym c.is_longer.ensures ∙ c.if-is_longer.false in
    octets_within 2 c.args.octets.now (c.in-Ok.parts.0.now, c.in-Ok.parts.1.now)
    (ok_here 2 c.args.octets.now (c.in-Ok.parts.0.now, c.in-Ok.parts.1.now) (lit≤ tt) short c.in-Ok.ensures.told)

pub returns-in-Err-clause-exact : goal.returns-in-Err-clause-exact
returns-in-Err-clause-exact c =
    let short : is_longer 2 c.args.octets.now ≡ false = sym c.is_longer.ensures ∙ c.if-is_longer.false in
    sym (ap ok_of (err_here 2 c.args.octets.now c.in-Err.field-0 (lit≤ tt) short c.in-Err.ensures.told))
