use Rattle.std.proofs.Common.{◌≡◌, ◌∙◌, true, sym}
use Rattle.dlms_dissect.proofs.OpenlyLemmas.{opened-more}
use Rattle.dlms_dissect.specs.Openly.{is_open}
use Rattle.dlms_dissect.specs.Walk.{pending_of, told_of}
use Rattle.dlms_dissect.proofs.openly.left_of.Goals as goal

pub fields-preserved : goal.fields-preserved
fields-preserved c =
    let told : is_open c.args.secrecy (told_of c.in-Some.event) ≡ true = sym c.is_open.ensures ∙ c.if-not-is_open.false in
    opened-more c.args.secrecy (pending_of c.args.walk) c.args.walk.rest.now (pending_of c.fields.left) (pending_of c.in-Some.behind) c.fields.left.rest.now c.in-Some.behind.rest.now
    (told_of c.in-Some.event) c.fields.invariant c.in-Some.ensures.next told
