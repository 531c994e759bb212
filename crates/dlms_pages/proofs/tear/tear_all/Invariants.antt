use Rattle.std.proofs.Common.{◌≡◌, ◌<◌, ℕ, Some, length, get_or, []}
use Rattle.dlms_pages.specs.Slots.{IsTorn}
use Rattle.dlms_pages.specs.Tear.{tear_at}
use Rattle.dlms_pages.specs.declared.tear.SlotTear.TheVariants.{New}
use Rattle.dlms_pages.proofs.tear.tear_all.Given as goal

-- those below this one are torn
abbrev pub invariant-loop-index : goal.invariant-loop-index
invariant-loop-index g l =
    (length l.slots.items ≡ length l.old)
    × ((k : ℕ) → k < l.index → IsTorn k (Some (get_or l.old k [])) (get_or l.new k []) (Some (get_or l.slots.items k [])))
    × ((k : ℕ) → k < l.index → tear_at l.tears k ≡ New → get_or l.slots.items k [] ≡ get_or l.new k [])
