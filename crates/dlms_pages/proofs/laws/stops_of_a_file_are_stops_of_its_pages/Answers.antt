use Rattle.dlms_pages.proofs.FileStops.{stops_are_of_pages}
use Rattle.dlms_pages.proofs.laws.stops_of_a_file_are_stops_of_its_pages.Goals as goal

pub returns : goal.returns
returns c = stops_are_of_pages
