use Rattle.std.proofs.Common.{rules}
use Rattle.dlms_filing.specs.HostDisk.Tries.{Taken, Untried}
use Rattle.dlms_filing.proofs.host_disk.made_beside.Goals as goal

pub names-init : goal.names-init
names-init g c = (Untried, c.from-taken.ensures)

pub names-preserved : goal.names-preserved
names-preserved g c = (
  Taken c.names.further (g.S.System.made c.names.system) (g.S.System.made c.made_one.new.system) c.in-Err.e c.names.invariant.0 c.in-Err.ensures (search rules),
  search rules,
)
