-- What became of one page.
use Rattle.std.specs.Prelude.{◌≡◌, ◌<◌, ℕ, length}
use Rattle.dlms_pages.specs.Device.{page_at}
use Rattle.dlms_pages.specs.Disk.{Disk, was_written}
use Rattle.dlms_pages.specs.declared.history.History.{History}

pub record IsHistory (disk : Disk) (index : ℕ) (history : History) : Type 0 where
  pub stable : history.stable ≡ page_at disk.stable index
  pub seen : history.seen ≡ page_at disk.seen index
  pub written : history.written ≡ was_written disk.since index
  pub there : index < length disk.seen
