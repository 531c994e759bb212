use Rattle.dlms_dissect.proofs.PlaceLemmas.{none-shows_choice, none-shows_trailing, none-shows_data}
use Rattle.dlms_dissect.proofs.places.apdu_fault.Goals as goal

pub shortest-requires-clause-none : goal.shortest-requires-clause-none
shortest-requires-clause-none g c = none-shows_choice c.args.side c.args.fault c.in-Choice.is

pub shortest-requires-in-Trailing-clause-none : goal.shortest-requires-in-Trailing-clause-none
shortest-requires-in-Trailing-clause-none g c = none-shows_trailing c.args.side c.args.fault c.in-Trailing.is

pub shortest-before-requires-clause-none : goal.shortest-before-requires-clause-none
shortest-before-requires-clause-none g c = none-shows_data c.args.side c.args.fault c.in-Data.is
