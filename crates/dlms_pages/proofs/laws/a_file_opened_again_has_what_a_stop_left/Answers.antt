use Rattle.dlms_pages.proofs.OpenedOver.{opens_what_was_left}
use Rattle.dlms_pages.proofs.laws.a_file_opened_again_has_what_a_stop_left.Goals as goal

pub returns : goal.returns
returns g c = opens_what_was_left g.F.SlotFile.slots
