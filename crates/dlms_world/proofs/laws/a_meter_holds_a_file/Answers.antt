use Rattle.dlms_world.proofs.OverCarrier.{agreeing_holds, first_holds, held_are_captures, lines_hold, lives_hold, stops_hold}
use Rattle.dlms_world.proofs.laws.a_meter_holds_a_file.Goals as goal

pub returns : goal.returns
returns g c = record {
  first = first_holds;
  agreeing = agreeing_holds;
  captures = held_are_captures;
  lives = lives_hold;
  stops = stops_hold;
  lines = lines_hold c.args.old.now c.args.new.now;
}
