use Rattle.dlms_store.proofs.Going.{left_alone, stopped_during}
use Rattle.dlms_store.proofs.laws.a_device_after_a_stop.Goals as goal

pub returns-clause-alone : goal.returns-clause-alone
returns-clause-alone g c world image fits left = left_alone (g.P.Pages.view c.args.device.now) world fits image left

pub returns-clause-fits : goal.returns-clause-fits
returns-clause-fits g c before steps image left fixed = stopped_during (g.P.Pages.view c.args.device.now) image fixed steps before left
