use Rattle.dlms_checkpoint.proofs.Bodies.{first_is_taken, further_is_taken, some_bodies}
use Rattle.dlms_checkpoint.proofs.laws.bodies_are_taken.Goals as goal

pub returns : goal.returns
returns c = record { first = first_is_taken; further = further_is_taken; count = some_bodies }
