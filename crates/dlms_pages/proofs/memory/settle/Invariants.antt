use Rattle.std.proofs.Common.{◌≡◌, take}
use Rattle.dlms_pages.specs.Disk.{disk_after, at_first}
use Rattle.dlms_pages.proofs.memory.settle.Given as goal

abbrev pub invariant-loop-call : goal.invariant-loop-call
invariant-loop-call l = l.pages ≡ (disk_after (at_first l.fn.pages) (take l.call-index l.calls)).seen
