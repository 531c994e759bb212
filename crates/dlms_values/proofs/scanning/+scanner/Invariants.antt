use Rattle.std.proofs.Common.{◌≡◌, ◌+◌, ◌*◌, ◌-◌}
use Rattle.dlms_values.specs.Reading.{behind, values_at}
use Rattle.dlms_values.proofs.scanning.+scanner.Given as goal

abbrev pub decreases-after_content : goal.decreases-after_content
decreases-after_content l = 4 * l.room + 1

abbrev pub decreases-after_value : goal.decreases-after_value
decreases-after_value l = 4 * l.room + 2

abbrev pub decreases-after_items : goal.decreases-after_items
decreases-after_items l = 4 * l.room

abbrev pub decreases-after_several : goal.decreases-after_several
decreases-after_several l = 4 * l.room + 3

abbrev pub invariant-after_several-loop : goal.invariant-after_several-loop
invariant-after_several-loop l = behind (values_at l.room (l.count - l.counter) l.rest) ≡ behind (values_at l.room l.count l.bytes)
