use Rattle.dlms_world.proofs.Stopping.{recoveries_are_turns, rests_are_turns}
use Rattle.dlms_world.proofs.laws.recoveries_are_turns.Goals as goal

pub returns : goal.returns
returns g c = record { opens = recoveries_are_turns c.args.new.now; rests = rests_are_turns c.args.new.now }
