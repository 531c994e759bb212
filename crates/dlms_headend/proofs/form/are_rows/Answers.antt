use Rattle.std.proofs.Common.{sym}
use Rattle.dlms_headend.proofs.Forms.{walk_starts, walk_goes, walk_ends, walk_fails, nothing_left}
use Rattle.dlms_headend.proofs.form.are_rows.Goals as goal

pub loop-rest-init : goal.loop-rest-init
loop-rest-init c = λ vs stand. walk_starts vs c.args.bytes.now stand

pub returns-then-not-is_row : goal.returns-then-not-is_row
returns-then-not-is_row c = λ vs stand.
    let w = c.loop-rest.invariant vs stand in
    let f = c.in-Some.ensures.first w.others w.stand in
    walk_fails vs _ _ _ w f (c.if-not-is_row.ensures f.first f.spelled)

pub loop-rest-preserved : goal.loop-rest-preserved
loop-rest-preserved c = λ vs stand.
    let w = c.loop-rest.invariant vs stand in
    let f = c.in-Some.ensures.first w.others w.stand in
    walk_goes vs _ _ _ w f (c.if-not-is_row.ensures f.first f.spelled)

pub returns : goal.returns
returns c = λ vs stand. walk_ends vs _ (c.loop-rest.invariant vs stand) (nothing_left _ (sym c.loop-rest-test.ensures))
