use Rattle.std.proofs.Common.{◌≡◌, ◌<◌, ◌∷◌, [], length, map, arith}
use Rattle.std.proofs.lemmas.List.{map-append}
use Rattle.std.proofs.lemmas.Result.{err_from_is_err_and}
use Rattle.dlms_values.specs.View.{value_of}
use Rattle.dlms_buffer.proofs.Packing.{goes_on, fails, ends}
use Rattle.dlms_buffer.proofs.packed.packed_row.Goals as goal

pub returns-in_err-value : goal.returns-in_err-value
returns-in_err-value g c =
    let p = err_from_is_err_and c.from_residual-in_err-value.result c.from_residual-in_err-value.ensures.1 in
    rw (p.1, p.2) (fails c.args.tags.now c.loop-tag.tag-index (map value_of c.loop-tag.values.items) c.loop-tag.rest.now _ _ c.loop-tag-test.true c.in_err-value.ensures c.loop-tag.invariant)

pub loop-tag-preserved : goal.loop-tag-preserved
loop-tag-preserved g c =
    rw (c.in_ok-push.ensures.items, map-append value_of c.loop-tag.values.items (c.in_ok-value.value ∷ []))
    (goes_on c.args.tags.now c.loop-tag.tag-index (map value_of c.loop-tag.values.items) c.loop-tag.rest.now c.in_ok-value.after.now (value_of c.in_ok-value.value) _ c.loop-tag-test.true c.in_ok-value.ensures c.loop-tag.invariant)

pub returns : goal.returns
returns g c = ends c.args.tags.now c.loop-tag.tag-index _ _ _ c.loop-tag-test.false c.loop-tag.invariant
