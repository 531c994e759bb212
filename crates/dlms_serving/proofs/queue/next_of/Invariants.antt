use Rattle.std.proofs.Common.{map}
use Rattle.dlms_serving.specs.Queue.{rank_of}
use Rattle.dlms_serving.proofs.QueueLemmas.{LeastSoFar}
use Rattle.dlms_serving.proofs.queue.next_of.Given as goal

abbrev pub invariant-loop-index : goal.invariant-loop-index
invariant-loop-index l = LeastSoFar (map (rank_of l.places l.guesses l.only_known l.now) l.places) l.index l.least
