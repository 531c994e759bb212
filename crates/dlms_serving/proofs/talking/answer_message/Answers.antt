use Rattle.std.proofs.Common.{refl, sym, ◌∙◌, inl, inr, Err}
use Rattle.std.specs.declared.io.Error.{Error}
use Rattle.std.proofs.lemmas.Bool.{true≢false}
use Rattle.dlms_ends.proofs.MomentLemmas.{adds_none}
use Rattle.dlms_lines.proofs.SharedLemmas.{is_false, is_true}
use Rattle.dlms_serving.specs.Connection.{turned}
use Rattle.dlms_serving.specs.declared.carrier.Carrier.TheVariants.{Wrapper}
use Rattle.dlms_serving.proofs.TalkLemmas.{given_breaks, given_none}
use Rattle.dlms_serving.proofs.WrapperLemmas.{read_bad}
use Rattle.dlms_serving.proofs.talking.answer_message.Goals as goal

pub returns-then-is_bad : goal.returns-then-is_bad
returns-then-is_bad g c =
    inr (read_bad c.args.state.now c.args.bytes.now c.feed-count.result c.feed-count.new.self (c.feed-count.ensures.takes, c.feed-count.ensures.limit) (inl (is_true c.is_bad.result c.if-is_bad.true c.is_bad.ensures)), refl, adds_none (g.T.End.past c.args.end.now), refl)

pub returns-in-Err : goal.returns-in-Err
returns-in-Err g c =
    let state = c.args.state.now in
    let reader = c.feed-count.new.self in
    let tries = c.deliver.new.tries in
    inl (
      c.in-Err.error,
      given_breaks Wrapper state (turned state tries reader) tries reader refl {E = Error} (g.T.End.past c.args.end.now) (g.T.End.past c.put.new.self) c.args.meter.now c.deliver.new.meter c.args.bytes.now c.feed-count.result c.in-Some.reply.items c.as_slice.result.now
          (Err c.in-Err.error) (λ more. c.feed-count.ensures.some more (λ refused. true≢false (sym (c.fault.ensures.refused.1 refused) ∙ sym c.is_some-is_refused.ensures ∙ c.if-is_refused.false))) c.feed-count.ensures.len
          ((c.feed-count.ensures.takes, c.feed-count.ensures.limit), is_false c.is_bad.result c.if-is_bad.false c.is_bad.ensures, c.in-Some.ensures.delivers) refl c.in-Some.ensures.counts c.as_slice.ensures.value c.in-Err.ensures.past,
      c.ending_at_reply.ensures,
    )

pub returns-in-None : goal.returns-in-None
returns-in-None g c =
    let state = c.args.state.now in
    let reader = c.feed-count.new.self in
    let tries = c.deliver.new.tries in
    given_none Wrapper state (turned state tries reader) tries reader refl Error (g.T.End.past c.args.end.now) c.args.meter.now c.deliver.new.meter c.args.bytes.now c.feed-count.result
    (λ more. c.feed-count.ensures.some more (λ refused. true≢false (sym (c.fault.ensures.refused.1 refused) ∙ sym c.is_some-is_refused.ensures ∙ c.if-is_refused.false))) c.feed-count.ensures.len
    ((c.feed-count.ensures.takes, c.feed-count.ensures.limit), is_false c.is_bad.result c.if-is_bad.false c.is_bad.ensures, c.in-None.ensures.delivers) c.in-None.ensures.counts
