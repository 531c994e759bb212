use Rattle.std.proofs.Common.{refl}
use Rattle.dlms_serving.specs.Queue.{rounds_of}
use Rattle.dlms_serving.specs.declared.queue.Place.{Place}
use Rattle.dlms_serving.proofs.QueueLemmas.{all_of, map_at, most_found, most_more}
use Rattle.dlms_serving.proofs.queue.last_served.Goals as goal

pub loop-index-preserved : goal.loop-index-preserved
loop-index-preserved c =
    let round = λ (place : Place). place.round in
    rw c.greater-most.ensures
    (most_more (rounds_of c.args.places.now) c.loop-index.index c.loop-index.most _ c.loop-index.invariant (map_at round c.args.places.now c.loop-index.index _ _ c.loop-index-test.true refl))

pub returns : goal.returns
returns c =
    let round = λ (place : Place). place.round in
    most_found (rounds_of c.args.places.now) c.loop-index.index c.loop-index.most (all_of round c.args.places.now c.loop-index.index c.loop-index-test.false c.loop-index.auto.index-end) c.loop-index.invariant
