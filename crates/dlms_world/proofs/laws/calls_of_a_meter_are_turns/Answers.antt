use Rattle.dlms_world.proofs.Stopping.{stops_are_turns}
use Rattle.dlms_world.proofs.CallsAreTurns.{feeds_are_turns, events_are_turns}
use Rattle.dlms_world.proofs.laws.calls_of_a_meter_are_turns.Goals as goal

pub returns : goal.returns
returns g c = record { feed = feeds_are_turns c.args.old.now c.args.new.now; events = events_are_turns c.args.old.now c.args.new.now; stops = stops_are_turns c.args.old.now c.args.new.now }
