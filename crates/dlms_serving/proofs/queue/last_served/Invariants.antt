use Rattle.dlms_serving.specs.Queue.{rounds_of}
use Rattle.dlms_serving.proofs.QueueLemmas.{MostSoFar}
use Rattle.dlms_serving.proofs.queue.last_served.Given as goal

abbrev pub invariant-loop-index : goal.invariant-loop-index
invariant-loop-index l = MostSoFar (rounds_of l.places) l.index l.most
