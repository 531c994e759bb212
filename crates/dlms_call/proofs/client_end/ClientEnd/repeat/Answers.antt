use Rattle.std.proofs.Common.{◌∙◌, ap}
use Rattle.dlms_call.specs.Talking.{TalkValue}
use Rattle.dlms_call.proofs.TalkingLemmas.{timeout_breaks, timeout_fault, timeout_told}
use Rattle.dlms_call.proofs.client_end.ClientEnd.repeat.Goals as goal

pub returns-in-Err-clause-told : goal.returns-in-Err-clause-told
returns-in-Err-clause-told g c =
    timeout_fault _ _ _ _ c.in-Err.fault c.cause.result (c.deref_mut.ensures.value ∙ ap (λ (t : TalkValue). t.client) c.self.view_is) c.cause.ensures c.in-Err.ensures

pub returns-in-Ok-send-clause-told : goal.returns-in-Ok-send-clause-told
returns-in-Ok-send-clause-told g c =
    timeout_told _ _ _ _ _ _ c.in-Ok.outcome (c.deref_mut.ensures.value ∙ ap (λ (t : TalkValue). t.client) c.self.view_is) (ap (λ (t : TalkValue). t.client) c.in-Ok-send.ensures.same) c.in-Ok.ensures c.in-Ok-send.ensures.goes

pub returns-in-Err-send-clause-told : goal.returns-in-Err-send-clause-told
returns-in-Err-send-clause-told g c =
    timeout_breaks _ _ _ _ _ _ c.in-Ok.outcome c.in-Err-send.fault (c.deref_mut.ensures.value ∙ ap (λ (t : TalkValue). t.client) c.self.view_is) (ap (λ (t : TalkValue). t.client) c.in-Err-send.ensures.same) c.in-Ok.ensures c.in-Err-send.ensures.goes
