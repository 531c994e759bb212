use Rattle.std.specs.Prelude.{not}
use Rattle.dlms_serving.specs.Guesses.{is_known}
use Rattle.dlms_serving.specs.declared.queue.Place.{Place}
use Rattle.dlms_serving.proofs.QueueLemmas.{LastSoFar}
use Rattle.dlms_serving.proofs.queue.last_unknown.Given as goal

abbrev pub invariant-loop-index : goal.invariant-loop-index
invariant-loop-index l = LastSoFar (λ (place : Place). not (is_known l.guesses.proofs.items place.origin l.now)) l.places l.index l.last
