use Rattle.std.proofs.Common.{◌≡◌, sym, ◌∙◌, ap, Some}
use Rattle.dlms_frame.specs.declared.client.Client.{Client}
use Rattle.dlms_wrapper.specs.Message.{Parts, message_bytes}
use Rattle.dlms_serving.specs.Carrying.{sender_of}
use Rattle.dlms_serving.proofs.WrapperLemmas.{counted, delivered}
use Rattle.dlms_serving.proofs.wrapped.deliver.Goals as goal

pub returns-clause-delivers : goal.returns-clause-delivers
returns-clause-delivers g c =
    let p : Parts = c.in-Some.message in
    let who : Client = c.in-Some-sender_of.who in
    let a : Parts = record { source = c.message-2.inside.source; dest = c.message-2.inside.dest; apdu = c.message-2.inside.apdu.now } in
    let from : sender_of p ≡ Some who = sym c.sender_of.ensures ∙ c.in-Some-sender_of.is in
    delivered c.args.reader.now.message p a who c.args.meter.now c.request-answer.new.self c.encode.result.items c.as_slice-2.result.now c.request-answer.result.items
    (sym c.message.ensures ∙ c.in-Some.is) from c.message-2.view_is (c.request-answer.ensures.requests, c.request-answer.ensures.later) (c.encode.ensures ∙ ap message_bytes c.new.ensures) c.as_slice-2.ensures.value

pub returns-clause-counts : goal.returns-clause-counts
returns-clause-counts g c =
    let p : Parts = c.in-Some.message in
    let who : Client = c.in-Some-sender_of.who in
    let a : Parts = record { source = c.message-2.inside.source; dest = c.message-2.inside.dest; apdu = c.message-2.inside.apdu.now } in
    let from : sender_of p ≡ Some who = sym c.sender_of.ensures ∙ c.in-Some-sender_of.is in
    counted p a who c.encode.result.items c.as_slice-2.result.now c.as_slice.result.now c.args.tries.now c.behind_outcome.result c.outcome_in_apdu.result
    from c.message-2.view_is (c.encode.ensures ∙ ap message_bytes c.new.ensures) (c.as_slice.ensures.value ∙ sym c.as_slice-2.ensures.value) c.outcome_in_apdu.ensures c.behind_outcome.ensures
