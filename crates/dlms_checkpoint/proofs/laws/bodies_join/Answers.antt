use Rattle.dlms_checkpoint.proofs.Bodies.{one_body_more, all_bodies, no_empty_body}
use Rattle.dlms_checkpoint.proofs.laws.bodies_join.Goals as goal

pub returns : goal.returns
returns c = record { more = one_body_more; all = all_bodies; some = no_empty_body }
