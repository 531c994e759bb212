use Rattle.std.proofs.Common.{arith}
use Rattle.std.proofs.lemmas.Result.{err_from_is_err_and}
use Rattle.dlms_values.proofs.Scan.{nested-level, nested-none}
use Rattle.dlms_values.proofs.Next.{fault_then, read_is, read_fails}
use Rattle.dlms_values.proofs.reading.items.Goals as goal

pub returns-then-room-eq0 : goal.returns-then-room-eq0
returns-then-room-eq0 c = nested-none c.args.room c.args.bytes.now (omega arith)

pub returns-in_err-count : goal.returns-in_err-count
returns-in_err-count c =
    let p = err_from_is_err_and c.from_residual.result c.from_residual.ensures.1 in
    rw (p.1, p.2, nested-level c.args.room c.args.bytes.now (omega arith)) (fault_then _ _ _ c.in_err-count.ensures)

pub returns-in_err-rest : goal.returns-in_err-rest
returns-in_err-rest c =
    let p = err_from_is_err_and c.from_residual-in_err-rest.result c.from_residual-in_err-rest.ensures.1 in
    rw (p.1, p.2, nested-level c.args.room c.args.bytes.now (omega arith), c.in_ok-count.ensures) (read_fails _ _ c.in_err-rest.ensures)

pub returns : goal.returns
returns c = rw (nested-level c.args.room c.args.bytes.now (omega arith), c.in_ok-count.ensures) (read_is _ _ c.in_ok-rest.ensures)
