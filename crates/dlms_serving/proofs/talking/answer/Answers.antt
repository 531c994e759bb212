use Rattle.std.proofs.Common.{refl, subst, ℕ, List, Some}
use Rattle.std.specs.declared.io.Error.{Error}
use Rattle.dlms_serving.specs.Connection.{Counts, turned}
use Rattle.dlms_serving.specs.declared.carrier.Carrier.TheVariants.{Hdlc}
use Rattle.dlms_serving.proofs.TalkLemmas.{given_breaks, given_goes, given_none}
use Rattle.dlms_serving.proofs.talking.answer.Goals as goal

pub returns-in_err-put-in-Some : goal.returns-in_err-put-in-Some
returns-in_err-put-in-Some g c =
    let feeds = rw c.in-Some.is at c.feed-count.ensures.feeds in
    let state = c.args.state.now in
    let tries = c.count_outcome-state.result in
    given_breaks Hdlc state (turned state tries state.reader) tries state.reader refl (g.T.End.past c.args.end.now) (g.T.End.past c.put.new.self) c.args.meter.now c.feed-count.new.self c.args.bytes.now c.feed-count.result.0 c.in-Some.reply.items
    c.as_slice-in-Some.result.now c.from_residual.result c.feed-count.ensures.some c.feed-count.ensures.len ((feeds, c.feed-count.ensures.later), refl) c.from_residual.ensures.0
    (subst (λ (t : List ℕ). Counts Hdlc (Some t) state.turn.tries tries) c.as_slice.ensures.value c.count_outcome-state.ensures) c.as_slice-in-Some.ensures.value c.in_err-put-in-Some.ensures.past

pub returns-in_ok-put-in-Some : goal.returns-in_ok-put-in-Some
returns-in_ok-put-in-Some g c =
    let feeds = rw c.in-Some.is at c.feed-count.ensures.feeds in
    let state = c.args.state.now in
    let tries = c.count_outcome-state.result in
    given_goes Hdlc state (turned state tries state.reader) tries state.reader refl Error (g.T.End.past c.args.end.now) (g.T.End.past c.put.new.self) c.args.meter.now c.feed-count.new.self c.args.bytes.now c.feed-count.result.0 c.in-Some.reply.items
    c.as_slice-in-Some.result.now c.feed-count.ensures.some c.feed-count.ensures.len ((feeds, c.feed-count.ensures.later), refl)
    (subst (λ (t : List ℕ). Counts Hdlc (Some t) state.turn.tries tries) c.as_slice.ensures.value c.count_outcome-state.ensures) c.as_slice-in-Some.ensures.value c.in_ok-put-in-Some.ensures.past

pub returns-in-None : goal.returns-in-None
returns-in-None g c =
    let feeds = rw c.in-None.is at c.feed-count.ensures.feeds in
    let state = c.args.state.now in
    given_none Hdlc state state state.turn.tries state.reader refl Error (g.T.End.past c.args.end.now) c.args.meter.now c.feed-count.new.self c.args.bytes.now c.feed-count.result.0 c.feed-count.ensures.some c.feed-count.ensures.len
    ((feeds, c.feed-count.ensures.later), refl) refl
