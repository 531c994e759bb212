use Rattle.std.proofs.Common.{ap, Err}
use Rattle.dlms_ends.proofs.MomentLemmas.{adds_none}
use Rattle.dlms_call.specs.Asking.Requests.{IsMade, NotMade}
use Rattle.dlms_call.specs.declared.fault.CallFault.{CallFault}
use Rattle.dlms_call.proofs.asking.get_part_watched.Goals as goal

pub returns-in-Ok : goal.returns-in-Ok
returns-in-Ok g c = IsMade (c.is_free.ensures.0 c.if-not-is_free.false, c.fits.ensures.0 c.if-not-fits.false) c.get_part.new.self c.in-Ok.ensures.asks c.in-Ok.ensures.left c.request_answer.ensures

pub returns-in-Err : goal.returns-in-Err
returns-in-Err g c = NotMade (c.is_free.ensures.0 c.if-not-is_free.false, c.fits.ensures.0 c.if-not-fits.false) c.in-Err.fault c.in-Err.ensures.asks c.in-Err.ensures.left (ap (λ (fault : CallFault). Err fault) c.from.ensures) (adds_none _)
