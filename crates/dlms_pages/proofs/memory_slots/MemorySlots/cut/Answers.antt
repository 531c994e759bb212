use Rattle.std.proofs.Common.{rules, arith, map, Some, None, sym, subst, ◌≡◌, ◌<◌, ◌^◌, ℕ, length, get_or, true}
use Rattle.std.specs.Prelude.{reverse}
use Rattle.dlms_pages.specs.HeldSlots.{AreTorn}
use Rattle.dlms_pages.specs.Slots.{Leaves, newest, standing}
use Rattle.dlms_pages.specs.Tear.{AreWhole, tear_at}
use Rattle.dlms_pages.specs.declared.tear.SlotTear.TheVariants.{New}
use Rattle.dlms_pages.proofs.Held.{held_new, left_torn, whole_left}
use Rattle.dlms_pages.proofs.memory_slots.MemorySlots.cut.Goals as goal

pub invariant_of-result : goal.invariant_of-result
invariant_of-result g c =
    let slots = c.tear_all.new.slots.items in
    let torn : AreTorn c.self.inside.kept.items c.self.inside.last.items slots = search rules in
    let many : length slots < 2 ^ 16 = omega (arith, torn.0, c.self.invariant.kept_too, c.self.invariant.small) in
    held_new c.of-first.result.value.items slots c.copy_from_slice.new.self.items c.copy_from_slice-2.new.self.items c.new.result.calls
    (search rules) (search rules) (search rules) (search rules) many

pub returns-clause-left : goal.returns-clause-left
returns-clause-left g c =
    let old = c.self.inside in
    let slots = c.tear_all.new.slots.items in
    let torn : AreTorn old.kept.items old.last.items slots = search rules in
    let same : c.of-first.result.value.items ≡ slots = search rules in
    let all = left_torn (map Some old.first.value.items) (reverse old.past.calls) old.slots.items old.kept.items old.last.items c.self.invariant slots torn in
    let of : (k : ℕ) → k < length (map Some old.first.value.items) → Leaves (map Some old.first.value.items) (reverse old.past.calls) k (get_or (map Some c.of-first.result.value.items) k None) = subst (λ now. (k : ℕ) → k < length (map Some old.first.value.items) → Leaves (map Some old.first.value.items) (reverse old.past.calls) k (get_or (map Some now) k None)) (sym same) all in
    subst (λ file. (k : ℕ) → k < length file.first → Leaves file.first file.calls k (get_or (map Some c.of-first.result.value.items) k None)) c.self.view_is of

pub returns-clause-new : goal.returns-clause-new
returns-clause-new g c =
    let old = c.self.inside in
    let slots = c.tear_all.new.slots.items in
    let torn : AreTorn old.kept.items old.last.items slots = search rules in
    let whole : AreWhole c.args.tears old.last.items slots = search rules in
    let same : c.of-first.result.value.items ≡ slots = search rules in
    let all = whole_left (map Some old.first.value.items) (reverse old.past.calls) old.slots.items old.kept.items old.last.items slots c.self.invariant torn c.args.tears whole in
    subst (λ now. (k : ℕ) → k < length c.args.self.first → tear_at c.args.tears k ≡ New → (standing c.args.self.calls k).sure ≡ true → get_or (map Some now) k None ≡ newest c.args.self.first c.args.self.calls k) (sym same)
    (subst (λ file. (k : ℕ) → k < length file.first → tear_at c.args.tears k ≡ New → (standing file.calls k).sure ≡ true → get_or (map Some slots) k None ≡ newest file.first file.calls k) c.self.view_is all)
