use Rattle.std.proofs.Common.{map, Option, subst}
use Rattle.dlms_serving.specs.Queue.{IsLeast, rank_of}
use Rattle.dlms_serving.specs.declared.queue.Found.{Found}
use Rattle.dlms_serving.proofs.QueueLemmas.{all_of, index_of, least_found, least_more, map_at}
use Rattle.dlms_serving.proofs.queue.next_of.Goals as goal

pub loop-index-preserved : goal.loop-index-preserved
loop-index-preserved c =
    let rank = rank_of c.args.places.now c.args.guesses.now c.args.only_known c.args.now in
    rw c.lesser-least.ensures
    (least_more (map rank c.args.places.now) c.loop-index.index c.loop-index.least c.rank_of-rank.result c.loop-index.invariant (map_at rank c.args.places.now c.loop-index.index _ c.rank_of-rank.result c.loop-index-test.true c.rank_of-rank.ensures))

pub returns-in-Some : goal.returns-in-Some
returns-in-Some c =
    let rank = rank_of c.args.places.now c.args.guesses.now c.args.only_known c.args.now in
    subst (λ (o : Option Found). IsLeast (map rank c.args.places.now) (index_of o)) c.in-Some.is
    (least_found (map rank c.args.places.now) c.loop-index.index c.loop-index.least (all_of rank c.args.places.now c.loop-index.index c.loop-index-test.false c.loop-index.auto.index-end) c.loop-index.invariant)

pub returns-in-None : goal.returns-in-None
returns-in-None c =
    let rank = rank_of c.args.places.now c.args.guesses.now c.args.only_known c.args.now in
    subst (λ (o : Option Found). IsLeast (map rank c.args.places.now) (index_of o)) c.in-None.is
    (least_found (map rank c.args.places.now) c.loop-index.index c.loop-index.least (all_of rank c.args.places.now c.loop-index.index c.loop-index-test.false c.loop-index.auto.index-end) c.loop-index.invariant)
