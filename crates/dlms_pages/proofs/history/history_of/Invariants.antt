use Rattle.std.proofs.Common.{◌≡◌, ◌<◌, length, take}
use Rattle.dlms_pages.specs.Disk.{disk_after, at_first}
use Rattle.dlms_pages.specs.Device.{Image, page_at}
use Rattle.dlms_pages.specs.History.{IsHistory}
use Rattle.dlms_pages.proofs.history.history_of.Given as goal

abbrev pub invariant-loop-call : goal.invariant-loop-call
invariant-loop-call l = (image : Image) → l.index < length image → page_at image l.index ≡ l.fn.first → IsHistory (disk_after (at_first image) (take l.call-index l.calls)) l.index l.history
