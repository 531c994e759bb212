use Rattle.dlms_world.proofs.OverLine.{agreeing_is_captures, first_agree, polls_agree, runs_agree, stops_agree}
use Rattle.dlms_world.proofs.laws.a_poll_over_a_line.Goals as goal

pub returns : goal.returns
returns g c = record {
  first = first_agree;
  captures = agreeing_is_captures;
  runs = runs_agree c.args.old.now c.args.new.now;
  stops = stops_agree;
  polls = polls_agree c.args.old.now c.args.new.now;
}
