use Rattle.std.proofs.Common.{rules, arith, ◌∙◌, Some, length, ◌≡◌}
use Rattle.std.proofs.lemmas.List.{length-map}
use Rattle.dlms_pages.proofs.Held.{held_new}
use Rattle.dlms_pages.proofs.memory_slots.MemorySlots.new.Goals as goal

pub returns-clause-count : goal.returns-clause-count
returns-clause-count g c =
    let many : length c.of-first.result.value.items ≡ c.args.count = search rules in
    length-map c.of-first.result.value.items Some ∙ many

pub invariant_of-result : goal.invariant_of-result
invariant_of-result g c =
    let slots = c.in_ok-slots.slots.items in
    let same_kept : c.in_ok-kept.kept.items ≡ slots = search rules in
    let same_last : c.in_ok-last.last.items ≡ slots = search rules in
    let many : length slots ≡ c.args.count = search rules in
    held_new c.of-first.result.value.items slots c.in_ok-kept.kept.items c.in_ok-last.last.items c.new.result.calls (search rules) (search rules) same_kept same_last (omega (arith, many, c.ranges.count.fits))
