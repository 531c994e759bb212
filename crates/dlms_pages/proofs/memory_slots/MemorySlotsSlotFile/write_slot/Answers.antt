use Rattle.std.proofs.Common.{rules, arith, map, Some, sym, ap, subst, ◌∙◌, ◌≡◌, length}
use Rattle.std.proofs.lemmas.Bool.{true≢false}
use Rattle.dlms_pages.specs.Slots.{IsTorn}
use Rattle.dlms_pages.proofs.Held.{item_is, wrote, wrote_beyond}
use Rattle.dlms_pages.proofs.memory_slots.MemorySlotsSlotFile.write_slot.Goals as goal
use Rattle.dlms_pages.proofs.memory_slots.MemorySlotsSlotFile.write_slot.Goals.{then-is_there-2, then-passed, else-passed, else-is_there-2}

pub invariant_of-self : goal.invariant_of-self
invariant_of-self g c =
    let old = c.self.inside in
    let new = c.if-is_there-2.self-inside in
    let first = map Some old.first.value.items in
    let held = c.self.invariant in
    let many : c.len.result ≡ length old.slots.items = search rules in
    elim c.if-is_there-2.branch [
      | then-is_there-2 w ↦
          wrote first old.past.calls old.slots.items old.kept.items old.last.items held (map Some new.first.value.items) c.and-self-inside.result.calls new.slots.items new.kept.items new.last.items
          (ap (λ s. map Some s.first.value.items) w.self-inside-is)
          c.args.index c.args.slot.now w.torn.result c.if-is_there.passed
          (omega (arith, many, w.if-is_there-2.true))
          (subst (λ o. IsTorn c.args.index (Some o) c.args.slot.now (Some w.torn.result)) (item_is old.slots.items c.args.index _ w.index.result.now (omega (arith, many, w.if-is_there-2.true)) w.index.ensures) w.torn.ensures.mix)
          (λ passed. elim w.if-passed.branch [ then-passed v ↦ search rules | else-passed v ↦ absurd (true≢false (sym passed ∙ search rules)) ])
          (search rules)
          (ap (λ s. s.slots.items) w.self-inside-is)
          (ap (λ s. s.kept.items) w.self-inside-is)
          (ap (λ s. s.last.items) w.self-inside-is)
      | else-is_there-2 w ↦
          wrote_beyond first old.past.calls old.slots.items old.kept.items old.last.items held (map Some new.first.value.items) c.and-self-inside.result.calls new.slots.items new.kept.items new.last.items
          (ap (λ s. map Some s.first.value.items) w.self-inside-is)
          c.args.index c.args.slot.now c.if-is_there.passed
          (search rules)
          (search rules)
          (ap (λ s. s.slots.items) w.self-inside-is)
          (ap (λ s. s.kept.items) w.self-inside-is)
          (ap (λ s. s.last.items) w.self-inside-is)
    ]
