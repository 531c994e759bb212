use Rattle.dlms_dissect.proofs.PlaceLemmas.{at-next, rest-smaller}
use Rattle.dlms_dissect.proofs.places.first_value_fault.Goals as goal

pub values-smaller : goal.values-smaller
values-smaller c = rest-smaller c.values.rest.now c.in-Ok.len c.in-Ok.ensures.within c.in-Ok.ensures.found

pub values-preserved : goal.values-preserved
values-preserved c =
    at-next c.args.bytes.now c.values.rest.now c.args.before c.values.place c.in-Ok.len c.saturating_add-place.result c.values.invariant c.in-Ok.ensures.exact c.saturating_add-place.ensures
