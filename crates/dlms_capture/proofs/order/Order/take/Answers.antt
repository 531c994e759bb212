use Rattle.std.proofs.Common.{◌++◌, [], ◌∷◌, refl, ap, ◌∙◌}
use Rattle.dlms_capture.specs.declared.order.Early.{Early}
use Rattle.dlms_capture.proofs.order.Order.take.Goals as goal

pub returns-clause-waits : goal.returns-clause-waits
returns-clause-waits g c = λ not_due some.
    let segment : Early g.row.A.Denot = record { place = c.locate-place.result; stamp = c.args.stamp; octets = c.in_ok-octets.octets } in
    record {
      segment = segment;
      last = c.in_ok-push.ensures.items ∙ ap (λ v. v.items ++ segment ∷ []) c.locate-place.ensures.early;
      place_is = c.locate-place.ensures.place;
      stamp_is = refl;
      octets_are = c.in_ok-octets.ensures.items;
    }
