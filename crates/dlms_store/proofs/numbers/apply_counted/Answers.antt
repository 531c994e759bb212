use Rattle.std.proofs.Common.{arith}
use Rattle.dlms_store.proofs.Counting.{one_more}
use Rattle.dlms_store.proofs.numbers.apply_counted.Goals as goal

pub overflow_sub-result : goal.overflow_sub-result
overflow_sub-result g c =
    let had = c.has_events.ensures in
    let more = one_more had.events c.args.event c.args.state.now c.apply.new.self had.state (c.apply.ensures had.events had.state) in
    omega (arith, more.0, c.next_number-before.ensures.value, c.next_number.ensures.value)

pub overflow_cast-result : goal.overflow_cast-result
overflow_cast-result g c =
    let had = c.has_events.ensures in
    let more = one_more had.events c.args.event c.args.state.now c.apply.new.self had.state (c.apply.ensures had.events had.state) in
    omega (arith, more.1, c.next_number-before.ensures.value, c.next_number.ensures.value)

pub returns-clause-rows : goal.returns-clause-rows
returns-clause-rows g c =
    let had = c.has_events.ensures in
    let more = one_more had.events c.args.event c.args.state.now c.apply.new.self had.state (c.apply.ensures had.events had.state) in
    omega (arith, more.0, c.next_number-before.ensures.value, c.next_number.ensures.value)

pub returns-clause-few : goal.returns-clause-few
returns-clause-few g c =
    let had = c.has_events.ensures in
    let more = one_more had.events c.args.event c.args.state.now c.apply.new.self had.state (c.apply.ensures had.events had.state) in
    omega (arith, more.1, c.next_number-before.ensures.value, c.next_number.ensures.value)
