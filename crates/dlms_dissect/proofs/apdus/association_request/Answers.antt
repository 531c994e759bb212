use Rattle.dlms_dissect.proofs.PlaceLemmas.{acse-told}
use Rattle.dlms_dissect.proofs.apdus.association_request.Goals as goal

pub returns-in-Err : goal.returns-in-Err
returns-in-Err g c = (c.in-Err.ensures.only, acse-told _ c.in-Err.fault c.acse_fault.result c.in-Err.ensures.exact c.acse_fault.ensures)
