-- Which of the images that a stop may leave a stop in memory leaves.
use Rattle.std.specs.Prelude.{ℕ, if◌then◌else◌, slice_index_or}
use Rattle.dlms_pages.specs.declared.device.PageRead.{PageRead}
use Rattle.dlms_pages.specs.declared.device.PageRead.TheVariants.{Damaged}
use Rattle.dlms_pages.specs.declared.pick.PageChoice.{PageChoice}
use Rattle.dlms_pages.specs.declared.pick.PageChoice.TheVariants.{Old, New, Torn}
use Rattle.dlms_pages.specs.declared.pick.Pick.{Pick}
use Rattle.dlms_pages.specs.declared.pick.Pick.TheVariants.{AllOld, AllNew, AllDamaged, Each}
use Rattle.dlms_pages.specs.Device.{page_at}
use Rattle.dlms_pages.specs.Disk.{Disk, was_written}

-- what is chosen for this page
abbrev pub choice_at : Pick → ℕ → PageChoice
choice_at AllOld k = Old
choice_at AllNew k = New
choice_at AllDamaged k = Torn
choice_at (Each choices) k = slice_index_or choices.now k Old

-- a page's content at the last sync, its newest content, or neither
abbrev pub chosen : PageChoice → PageRead → PageRead → PageRead
chosen Old stable newest = stable
chosen New stable newest = newest
chosen Torn stable newest = Damaged

-- what a stop leaves of page k: the choice if it was written since the last sync, otherwise its content
abbrev pub page_left : Disk → PageChoice → ℕ → PageRead
page_left disk choice k = if was_written disk.since k
    then chosen choice (page_at disk.stable k) (page_at disk.seen k) else page_at disk.stable k
