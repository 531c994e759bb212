use Rattle.std.proofs.Common.{rules, ◌<◌, length}
use Rattle.dlms_headend.specs.Lines.{StopsIn}
use Rattle.dlms_headend.proofs.Files.{keep_more, text_some, wanted}
use Rattle.dlms_headend.proofs.lines.rows_at_once.Goals as goal

pub loop-rest-preserved : goal.loop-rest-preserved
loop-rest-preserved g c = rw c.in_ok-keep.ensures.ok (keep_more c.args.text.now c.loop-rest.rest.now c.in-Some.behind.now c.loop-rest.rows.items c.in-Some.row c.loop-rest.invariant c.in-Some.ensures.some)

pub returns-in_err-keep-clause-err : goal.returns-in_err-keep-clause-err
returns-in_err-keep-clause-err g c =
    let more : 0 < length c.loop-rest.rest.now = search rules in
    wanted c.from_residual.result (StopsIn c.args.text.now) c.from_residual.ensures.1
    (text_some c.args.text.now c.loop-rest.rest.now c.loop-rest.rows.items c.loop-rest.invariant more)
