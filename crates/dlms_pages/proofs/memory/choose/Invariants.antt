use Rattle.std.proofs.Common.{◌≡◌, ◌<◌, ℕ}
use Rattle.dlms_pages.specs.Device.{page_at}
use Rattle.dlms_pages.specs.Disk.{disk_after, at_first}
use Rattle.dlms_pages.specs.Pick.{choice_at, page_left}
use Rattle.dlms_pages.proofs.memory.choose.Given as goal

abbrev pub invariant-loop-index : goal.invariant-loop-index
invariant-loop-index l = (k : ℕ) → k < l.index → page_at l.pages k ≡ page_left (disk_after (at_first l.first) l.calls) (choice_at l.pick k) k
