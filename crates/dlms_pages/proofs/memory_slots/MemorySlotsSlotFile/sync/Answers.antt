use Rattle.std.proofs.Common.{rules, map, Some, sym, ap, subst, ◌∙◌}
use Rattle.dlms_pages.specs.HeldSlots.{AreTorn}
use Rattle.dlms_pages.proofs.Held.{synced, not_synced}
use Rattle.dlms_pages.proofs.memory_slots.MemorySlotsSlotFile.sync.Goals as goal
use Rattle.dlms_pages.proofs.memory_slots.MemorySlotsSlotFile.sync.Goals.{then-passed, else-passed}

pub invariant_of-self : goal.invariant_of-self
invariant_of-self g c =
    let old = c.self.inside in
    let new = c.if-passed.self-inside in
    let first = map Some old.first.value.items in
    let held = c.self.invariant in
    elim c.if-passed.branch [
      | then-passed w ↦
          synced first old.past.calls old.slots.items old.kept.items old.last.items held (map Some new.first.value.items) c.and-self-inside.result.calls new.slots.items new.kept.items new.last.items
          (ap (λ s. map Some s.first.value.items) w.self-inside-is)
          (search rules)
          (ap (λ s. s.slots.items) w.self-inside-is)
          (ap (λ s. s.kept.items) w.self-inside-is ∙ (search rules))
          (ap (λ s. s.last.items) w.self-inside-is ∙ (search rules))
      | else-passed w ↦
          not_synced first old.past.calls old.slots.items old.kept.items old.last.items held (map Some new.first.value.items) c.and-self-inside.result.calls new.slots.items new.kept.items new.last.items
          (ap (λ s. map Some s.first.value.items) w.self-inside-is)
          (search rules)
          (subst (λ slots. AreTorn old.kept.items old.last.items slots) (sym (ap (λ s. s.slots.items) w.self-inside-is)) (search rules))
          (ap (λ s. s.kept.items) w.self-inside-is)
          (ap (λ s. s.last.items) w.self-inside-is)
    ]
