use Rattle.dlms_data.proofs.Takes.{whole_found, found_whole, no_whole}
use Rattle.dlms_data.proofs.scanning.is_value.Goals as goal

pub returns-in-Ok : goal.returns-in-Ok
returns-in-Ok c =
    (λ h. whole_found c.args.bytes.now c.in-Ok.len h c.in-Ok.ensures.found, λ h. found_whole c.args.bytes.now c.in-Ok.len c.in-Ok.ensures.only h)

pub returns-in-Err : goal.returns-in-Err
returns-in-Err c = (λ h. absurd cc, λ h. absurd (no_whole c.args.bytes.now c.in-Err.field-0 c.in-Err.ensures.only h))
