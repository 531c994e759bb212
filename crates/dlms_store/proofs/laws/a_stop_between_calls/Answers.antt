use Rattle.dlms_store.proofs.Keeping.{left_between_calls}
use Rattle.dlms_store.proofs.laws.a_stop_between_calls.Goals as goal

pub returns : goal.returns
returns g c world image fits left = left_between_calls world c.args.store.now fits image left
