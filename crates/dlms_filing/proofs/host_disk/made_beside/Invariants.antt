use Rattle.std.proofs.Common.{◌≡◌}
use Rattle.std.specs.IoError.{error_kind}
use Rattle.std.specs.declared.io.ErrorKind.TheVariants.{AlreadyExists}
use Rattle.dlms_filing.specs.HostDisk.{Tries}
use Rattle.dlms_filing.proofs.host_disk.made_beside.Given as goal

abbrev pub invariant-names : goal.invariant-names
invariant-names g l =
    Tries (g.S.System.made l.fn.system) l.path l.permissions l.first l.further (g.S.System.made l.system) × (error_kind l.taken ≡ AlreadyExists)
