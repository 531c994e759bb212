use Rattle.std.proofs.Common.{arith, ◌∙◌, ◌≡◌, ap, length}
use Rattle.dlms_call.specs.Talking.{TalkValue, joined}
use Rattle.dlms_call.proofs.TalkingLemmas.{read_fault, read_large}
use Rattle.dlms_call.proofs.client_end.ClientEnd.read.Goals as goal

pub returns-in-Err-clause-reads : goal.returns-in-Err-clause-reads
returns-in-Err-clause-reads g c =
    let is = c.deref_mut.ensures.value ∙ ap (λ (t : TalkValue). t.client) c.self.view_is in
    read_fault c.args.most _ _ _ _ _ c.in-Err.fault c.cause.result _ c.in-Err.is is c.feed-heard.ensures.feeds c.cause.ensures

pub returns-in-Ok-clause-reads : goal.returns-in-Ok-clause-reads
returns-in-Ok-clause-reads g c =
    let is = c.deref_mut.ensures.value ∙ ap (λ (t : TalkValue). t.client) c.self.view_is in
    let same : length c.value.result.now ≡ joined c.feed-heard.new.self = ap length c.value.ensures ∙ ap joined c.deref.ensures in
    read_large c.args.most _ _ _ _ _ c.in-Ok.field-0 _ c.in-Ok.is is c.feed-heard.ensures.feeds (omega (arith, c.if-value-most.true, same))
