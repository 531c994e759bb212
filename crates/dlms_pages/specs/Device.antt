-- The facts known about a device of pages, and how each call changes them: the disk rules.
--
-- Between two syncs that succeed, each page that was written, after a stop, holds what it held at the first of them, or
-- the content of any write since, or is damaged; other pages stay. A write that failed counts as a write or did
-- nothing. What reads give is one such outcome too, and the new content after a write that succeeded. After a sync
-- that succeeded a stop leaves what reads give.
use Rattle.std.specs.Prelude.{◌≡◌, ◌≢◌, ◌≤◌, ◌⊎◌, ◌+◌, ◌-◌, ◌^◌, min, ℕ, Bool, List, length, Result, OnOk, OnErr, IfOk, slice_index_or, slice_set}
use Rattle.dlms_pages.specs.declared.device.PageRead.{PageRead}
use Rattle.dlms_pages.specs.declared.device.PageRead.TheVariants.{Content, Damaged}
use Rattle.dlms_pages.specs.declared.device.DeviceFault.{DeviceFault}

-- what each page holds
abbrev pub Image : Type 0
Image = List PageRead

-- what the page at this place holds
abbrev pub page_at : Image → ℕ → PageRead
page_at image place = slice_index_or image place Damaged

pub record View : Type 1 where
  -- whether it keeps the disk rules
  pub honest : Bool
  -- what reads give
  pub seen : Image
  -- what a stop at this moment may leave
  pub may_leave : Image → Type 0
  -- a number that doesn't fall
  pub moment : ℕ
  -- what a stop at some moment from that one on might have left
  pub left_since : ℕ → Image → Type 0
  -- how often it failed
  pub faults : ℕ

-- A fault has come since. At the greatest number the count stays, and a fault there counts.
abbrev pub Rose : ℕ → ℕ → Type 0
Rose before now = min (before + 1) (2 ^ 64 - 1) ≤ now

-- of any device: it stays as honest as it was, the number of its pages stays the same, and a fault is answered only if one has
-- happened
pub record Goes {T : Type 0} (old new : View) (result : Result T DeviceFault) : Type 0 where
  pub honest : new.honest ≡ old.honest
  pub count : length new.seen ≡ length old.seen
  pub later : old.faults ≤ new.faults
  pub fault : OnErr result (Rose old.faults new.faults)

-- Time goes on: a stop since t might have left what it might have left before, or what it may leave now.
pub record Elapses (old new : View) : Type 0 where
  pub later : old.moment ≤ new.moment
  pub nothing_else : (t : ℕ) (c : Image) → t ≤ old.moment → new.left_since t c
      → old.left_since t c ⊎ new.may_leave c
  pub keeps : (t : ℕ) (c : Image) → t ≤ old.moment → old.left_since t c → new.left_since t c

-- A read returns the page and changes nothing, even if it fails.
pub record Reads (index : ℕ) (old new : View) (result : Result PageRead DeviceFault) : Type 0 where
  pub page : IfOk result (λ page. page ≡ page_at old.seen index)
  pub same : new.seen ≡ old.seen
  pub crash : (c : Image) → new.may_leave c → old.may_leave c
  pub time : Elapses old new

-- an image of before, or one of them with the new content, or with the page torn
pub data Outcome (index : ℕ) (bytes : List ℕ) (old : Image → Type 0) (c : Image) : Type 0 where
  Old : old c → Outcome index bytes old c
  New : (d : Image) → old d → c ≡ slice_set d index (Content bytes) → Outcome index bytes old c
  Torn : (d : Image) → old d → c ≡ slice_set d index Damaged → Outcome index bytes old c

-- A write gives its content to reads. Where it fails, the other pages stay, and a stop may still leave its content.
pub record Writes {T : Type 0} (index : ℕ) (bytes : List ℕ) (old new : View)
    (result : Result T DeviceFault) : Type 0 where
  pub written : OnOk result (new.seen ≡ slice_set old.seen index (Content bytes))
  pub others : OnErr result ((k : ℕ) → k ≢ index → page_at new.seen k ≡ page_at old.seen k)
  pub crash : (c : Image) → new.may_leave c → Outcome index bytes old.may_leave c
  pub time : Elapses old new

-- After a sync that succeeds a stop leaves what reads gave, and nothing else.
pub record Syncs {T : Type 0} (old new : View) (result : Result T DeviceFault) : Type 0 where
  pub durable : OnOk result ((c : Image) → new.may_leave c → c ≡ old.seen)
  pub same : OnOk result (new.seen ≡ old.seen)
  pub crash : (c : Image) → new.may_leave c → old.may_leave c
  pub time : Elapses old new

-- at each moment
pub record Rules (v : View) : Type 0 where
  -- what reads give is what a stop may leave
  pub seen : v.may_leave v.seen
  pub count : (c : Image) → v.may_leave c → length c ≡ length v.seen
  -- this moment is one of those since an earlier one
  pub counts_now : (t : ℕ) (c : Image) → t ≤ v.moment → v.may_leave c → v.left_since t c
  -- since this moment there is no other
  pub only_now : (c : Image) → v.left_since v.moment c → v.may_leave c
