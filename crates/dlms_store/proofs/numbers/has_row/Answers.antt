use Rattle.std.proofs.Common.{[], ◌∷◌, sym}
use Rattle.dlms_state.specs.StateValue.{captures_a_row}
use Rattle.dlms_store.proofs.Counting.{count_more, counted, tells_a_row}
use Rattle.dlms_store.proofs.numbers.has_row.Goals as goal

pub returns-in-Ok : goal.returns-in-Ok
returns-in-Ok g c =
    let s = c.args.state.now in
    let e = c.args.event.now in
    let had = c.has_events.ensures in
    let E = had.events in
    let outlook = c.in-Ok.ensures.ok E [] (c.outlook.ensures E had.state) in
    tells_a_row (captures_a_row s e) _ _ s.rows.next c.rows.result (sym (counted E s had.state)) (count_more E e s had.state) (c.rows.ensures.after E (e ∷ []) outlook)
