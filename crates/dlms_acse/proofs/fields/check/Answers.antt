use Rattle.std.proofs.Common.{refl, length, [], false, arith}
use Rattle.std.proofs.lemmas.List.{get_or-replicate, length-replicate}
use Rattle.dlms_acse.specs.Reading.{checked_at}
use Rattle.dlms_acse.proofs.Walk.{left-next}
use Rattle.dlms_acse.proofs.fields.check.Goals as goal

pub loop-tag-init : goal.loop-tag-init
loop-tag-init c = (length c.args.bytes.now, [], omega arith, rw c.no_tags-seen.ensures (length-replicate 256 false, λ k lt. get_or-replicate 256 k false false lt), refl)

pub loop-tag-preserved : goal.loop-tag-preserved
loop-tag-preserved c =
    left-next c.loop-tag.seen c.from-tag.result c.in-Some.tag.now c.loop-tag.rest.now c.in-Some.behind.now (c.in_ok-rest.field-0-0.now, c.in_ok-rest.field-0-1.now)
    (checked_at (length c.args.bytes.now) [] c.args.bytes.now) c.loop-tag.invariant c.from-tag.ensures (omega arith) c.if-seen-tag.false c.in-Some.ensures.cases.0 c.in_ok-rest.ensures.exact
