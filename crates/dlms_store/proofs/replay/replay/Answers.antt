use Rattle.std.proofs.Common.{◌++◌, arith}
use Rattle.dlms_state.proofs.Captures.{captures-le}
use Rattle.dlms_store.specs.Image.{Records}
use Rattle.dlms_store.proofs.Counting.{counted}
use Rattle.dlms_store.proofs.replay.replay.Goals as goal

pub returns-in_default-clause-none : goal.returns-in_default-clause-none
returns-in_default-clause-none g c e E F is records legal ring = c.in_default.ensures records.payload records.is_page

pub returns-clause-taken : goal.returns-clause-taken
returns-clause-taken g c fits E is =
    let judged = c.if-not-are_legal.ensures.yes fits E is in
    let F = judged.0 in
    let records : Records c.args.edition c.args.index F c.args.page.now = record { payload = c.in-Some.bytes.now; is_page = c.in-Some.ensures; holds = judged.1; some = judged.2 } in
    (F, records, judged.4, c.take_all.ensures.all E F is judged.1 judged.3 judged.4.numbers)

pub returns-clause-captured : goal.returns-clause-captured
returns-clause-captured g c fits =
    let E = c.has_events.ensures.events in
    let is = c.has_events.ensures.state in
    let judged = c.if-not-are_legal.ensures.yes fits E is in
    let F = judged.0 in
    let more = counted (E ++ F) c.take_all.new.state (c.take_all.ensures.all E F is judged.1 judged.3 judged.4.numbers) in
    let before = counted E c.args.state.now is in
    let le = captures-le E F in
    (omega (arith, more, before, le), omega (arith, more, judged.4.few))
