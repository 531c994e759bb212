use Rattle.std.proofs.Common.{sym}
use Rattle.dlms_dissect.proofs.PlaceLemmas.{acse-told}
use Rattle.dlms_dissect.proofs.apdus.association_response.Goals as goal

pub returns-in-Err : goal.returns-in-Err
returns-in-Err g c =
    (λ v h. let told = c.in-Err.ensures.only v h in cc, acse-told _ c.in-Err.fault c.acse_fault.result (sym c.in-Err.ensures.exact) c.acse_fault.ensures)
