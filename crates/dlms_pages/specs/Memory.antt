-- The facts known about pages in memory.
use Rattle.std.specs.Prelude.{◌≡◌, ◌<◌, ◌≤◌, ◌+◌, ◌-◌, ◌^◌, min, ℕ, Bool, true, false, nat_eq, nat_le, List, [], length, replicate, take}
use Rattle.dlms_pages.specs.declared.device.PageRead.TheVariants.{Content}
use Rattle.dlms_pages.specs.Device.{View, Image}
use Rattle.dlms_pages.specs.Disk.{Disk, at_first, disk_after, IsImage}
use Rattle.dlms_pages.specs.declared.memory.Call.{Call}
use Rattle.dlms_pages.specs.declared.plan.Plan.{Plan}
use Rattle.dlms_pages.specs.declared.plan.Plan.TheVariants.{Never, From, Once}

pub record Memory : Type 0 where
  -- the content of each page initially, or after the last stop
  pub first : Image
  -- the writes and syncs that succeeded since, the oldest first
  pub calls : List Call
  -- which of the calls to come are to fail
  pub plan : Plan
  -- how many more writes have room before the record of those since the last sync grows
  pub room : ℕ
  pub faults : ℕ

-- whether call number k from now on is to fail
abbrev pub fails_at : Plan → ℕ → Bool
fails_at Never k = false
fails_at (From passed) k = nat_le passed k
fails_at (Once passed) k = nat_eq k passed

abbrev pub disk_of : Memory → Disk
disk_of memory = disk_after (at_first memory.first) memory.calls

-- what a stop since call number t might have left
pub record LeftSince (first : Image) (calls : List Call) (t : ℕ) (image : Image) : Type 0 where
  pub number : ℕ
  pub since : t ≤ number
  pub passed : number ≤ length calls
  pub left : IsImage (disk_after (at_first first) (take number calls)) image

-- Memory is honest, and each moment is a number of calls.
abbrev pub view_of : Memory → View
view_of memory = record {
  honest = true;
  seen = (disk_of memory).seen;
  may_leave = IsImage (disk_of memory);
  moment = length memory.calls;
  left_since = LeftSince memory.first memory.calls;
  faults = memory.faults;
}

-- A call passed: the record is this now, and the next call is one nearer.
pub record Passes (old new : Memory) (record_is : List Call) : Type 0 where
  pub first : new.first ≡ old.first
  pub calls : new.calls ≡ record_is
  pub plan : (k : ℕ) → fails_at new.plan k ≡ fails_at old.plan (k + 1)
  pub faults : new.faults ≡ old.faults

-- A call failed: it is counted, and changed nothing else.
pub record Fails (old new : Memory) : Type 0 where
  pub first : new.first ≡ old.first
  pub calls : new.calls ≡ old.calls
  pub plan : (k : ℕ) → fails_at new.plan k ≡ fails_at old.plan (k + 1)
  pub faults : new.faults ≡ min (old.faults + 1) (2 ^ 64 - 1)
  pub later : old.faults ≤ new.faults

-- What is kept of all calls: the content of each page at the last sync, and the calls since. They lead to the same disk, and the
-- pages are as they left them.
pub record IsKept (first : Image) (calls : List Call) (synced : Image) (since : List Call)
    (pages : Image) : Type 0 where
  pub rest : disk_after (at_first first) calls ≡ disk_after (at_first synced) since
  pub same : pages ≡ (disk_after (at_first synced) since).seen
  pub count : length synced ≡ length pages
  pub as_many : length first ≡ length pages
  pub small : length pages < 2 ^ 16

-- this many pages of zeros, and no call yet
pub record IsNew (count : ℕ) (memory : Memory) : Type 0 where
  pub first : memory.first ≡ replicate count (Content (replicate 512 0))
  pub calls : memory.calls ≡ []
  pub plan : (k : ℕ) → fails_at memory.plan k ≡ false
  pub faults : memory.faults ≡ 0
