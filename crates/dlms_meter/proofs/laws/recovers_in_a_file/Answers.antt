use Rattle.std.proofs.Common.{refl}
use Rattle.dlms_meter.proofs.FileLaw.{finds_in_a_file, stops_in_a_file}
use Rattle.dlms_meter.proofs.laws.recovers_in_a_file.Goals as goal

pub returns-clause-stops : goal.returns-clause-stops
returns-clause-stops g c before steps only at between behind = stops_in_a_file g.F.SlotFile.slots c.args._old.now.store.device c.args._new.now.store.device c.args._pages.now before steps only at between behind

pub returns-clause-recovers : goal.returns-clause-recovers
returns-clause-recovers g c w steps run fits behind opens = finds_in_a_file g.F.SlotFile.slots c.args._new.now.store.device c.args._pages.now c.args._new.now.store c.args._again.now.store refl w steps run fits behind opens
