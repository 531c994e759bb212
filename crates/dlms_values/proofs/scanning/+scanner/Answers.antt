use Rattle.std.proofs.Common.{ap, arith}
use Rattle.std.proofs.lemmas.Result.{err_from_is_err_and}
use Rattle.dlms_values.specs.Reading.{behind, values_at, value_by, nested}
use Rattle.dlms_values.proofs.Scan.{scans_on, scan_fails, scan_ends, nested-level, nested-none, fault_behind}
use Rattle.dlms_values.proofs.scanning.+scanner.Goals as goal

pub after_items-returns-then-room-eq0 : goal.after_items-returns-then-room-eq0
after_items-returns-then-room-eq0 t c = ap behind (nested-none c.args.room c.args.bytes.now (omega arith))

pub after_items-returns-in_err-count : goal.after_items-returns-in_err-count
after_items-returns-in_err-count t c =
    let p = err_from_is_err_and c.from_residual.result c.from_residual.ensures.1 in
    rw (p.1, p.2, nested-level c.args.room c.args.bytes.now (omega arith)) (fault_behind _ _ _ c.in_err-count.ensures)

pub after_items-returns : goal.after_items-returns
after_items-returns t c = rw (nested-level c.args.room c.args.bytes.now (omega arith), c.in_ok-count.ensures) c.after_several.ensures

pub after_several-returns-in_err-rest : goal.after_several-returns-in_err-rest
after_several-returns-in_err-rest t c =
    let p = err_from_is_err_and c.from_residual.result c.from_residual.ensures.1 in
    rw (p.1, p.2) (scan_fails c.in_err-rest.field-0.0 (value_by (nested c.args.room)) c.args.count c.loop.counter c.loop.rest.now (behind (values_at c.args.room c.args.count c.args.bytes.now)) c.loop-test.true c.in_err-rest.ensures c.loop.invariant)

pub after_several-loop-preserved : goal.after_several-loop-preserved
after_several-loop-preserved t c =
    scans_on (value_by (nested c.args.room)) c.args.count c.loop.counter c.loop.rest.now c.in_ok-rest.rest.now (behind (values_at c.args.room c.args.count c.args.bytes.now)) c.loop-test.true c.in_ok-rest.ensures c.loop.invariant

pub after_several-returns : goal.after_several-returns
after_several-returns t c = scan_ends (value_by (nested c.args.room)) c.args.count c.loop.counter c.loop.rest.now (behind (values_at c.args.room c.args.count c.args.bytes.now)) c.loop-test.false c.loop.invariant
