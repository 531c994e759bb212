use Rattle.std.proofs.Common.{◌≡◌, ◌⊎◌, ◌∙◌, [], sym, true, option_map}
use Rattle.dlms_apdu.specs.View.{request_of, selection_of}
use Rattle.dlms_data.specs.View.{value_of}
use Rattle.dlms_service.specs.Session.{Outcome}
use Rattle.dlms_service.specs.Serves.{Asks, LacksToAnswer, permits}
use Rattle.dlms_service.proofs.Serving.{led, led_unless_answered, led_unless_brought, set_done, begun, there, seen_through}
use Rattle.dlms_service.proofs.Values.{behind_reference}
use Rattle.dlms_service.proofs.session.Session.request.Goals as goal

pub returns-in-GetNormal-clause-serves : goal.returns-in-GetNormal-clause-serves
returns-in-GetNormal-clause-serves g c E is =
    let s = c.args.self.now in
    let form = request_of c.args.request.now in
    let p : permits c.args.association form ≡ true = sym c.requires.permits ∙ c.if-not-permitted.false in
    let o : Outcome = record { own = c.get_normal.new.self; answer = c.get_normal.new.answer.items; accepted = [] } in
    let told : Asks E s c.args.association form o ⊎ LacksToAnswer E s c.args.association form o = rw c.in-GetNormal.is (rw (sym (seen_through c.as_ref-selector.result c.in-GetNormal.selector c.as_ref-selector.ensures.value)) (c.get_normal.ensures E is)) in
    led_unless_answered E s c.args.association form o p told

pub returns-in-GetNext-clause-serves : goal.returns-in-GetNext-clause-serves
returns-in-GetNext-clause-serves g c E is =
    let s = c.args.self.now in
    let form = request_of c.args.request.now in
    let p : permits c.args.association form ≡ true = sym c.requires.permits ∙ c.if-not-permitted.false in
    let o : Outcome = record { own = c.get_next.new.self; answer = c.get_next.new.answer.items; accepted = [] } in
    let told : Asks E s c.args.association form o ⊎ LacksToAnswer E s c.args.association form o = rw c.in-GetNext.is c.get_next.ensures in
    led_unless_answered E s c.args.association form o p told

pub returns-in-SetNormal-clause-serves : goal.returns-in-SetNormal-clause-serves
returns-in-SetNormal-clause-serves g c E is =
    let s = c.args.self.now in
    let form = request_of c.args.request.now in
    let p : permits c.args.association form ≡ true = sym c.requires.permits ∙ c.if-not-permitted.false in
    led E s c.args.association form _ p
    (rw c.in-SetNormal.is (set_done E s c.args.association c.in-SetNormal.invoke c.in-SetNormal.descriptor (option_map selection_of c.in-SetNormal.selector) c.is_some.result (value_of c.in-SetNormal.value) _
    (c.is_some.ensures ∙ there selection_of c.in-SetNormal.selector) (c.set_normal.ensures.done E is)))

pub returns-in-SetFirst-clause-serves : goal.returns-in-SetFirst-clause-serves
returns-in-SetFirst-clause-serves g c E is =
    let s = c.args.self.now in
    let form = request_of c.args.request.now in
    let p : permits c.args.association form ≡ true = sym c.requires.permits ∙ c.if-not-permitted.false in
    led_unless_brought E s c.args.association form _ p
    (rw c.in-SetFirst.is (begun E s c.args.association c.in-SetFirst.invoke c.in-SetFirst.descriptor (option_map selection_of c.in-SetFirst.selector) c.is_some-in-SetFirst.result c.in-SetFirst.last c.in-SetFirst.number c.in-SetFirst.raw.now _
    (c.is_some-in-SetFirst.ensures ∙ there selection_of c.in-SetFirst.selector) (c.first_block.ensures.begins E is)))

pub returns-in-SetBlock-clause-serves : goal.returns-in-SetBlock-clause-serves
returns-in-SetBlock-clause-serves g c E is =
    let s = c.args.self.now in
    let form = request_of c.args.request.now in
    let p : permits c.args.association form ≡ true = sym c.requires.permits ∙ c.if-not-permitted.false in
    led_unless_brought E s c.args.association form _ p (rw c.in-SetBlock.is (c.further_block.ensures.continues E is))

pub returns-in-ActionNormal-clause-serves : goal.returns-in-ActionNormal-clause-serves
returns-in-ActionNormal-clause-serves g c E is =
    let s = c.args.self.now in
    let form = request_of c.args.request.now in
    let p : permits c.args.association form ≡ true = sym c.requires.permits ∙ c.if-not-permitted.false in
    led E s c.args.association form _ p
    (rw c.in-ActionNormal.is (rw (sym (behind_reference c.as_ref.result c.in-ActionNormal.parameter c.as_ref.ensures.value)) (c.action_normal.ensures.done E is)))

pub returns-in-ActionFirst-clause-serves : goal.returns-in-ActionFirst-clause-serves
returns-in-ActionFirst-clause-serves g c E is =
    let s = c.args.self.now in
    let form = request_of c.args.request.now in
    let p : permits c.args.association form ≡ true = sym c.requires.permits ∙ c.if-not-permitted.false in
    led_unless_brought E s c.args.association form _ p (rw c.in-ActionFirst.is (c.first_block-in-ActionFirst.ensures.begins E is))

pub returns-in-ActionBlock-clause-serves : goal.returns-in-ActionBlock-clause-serves
returns-in-ActionBlock-clause-serves g c E is =
    let s = c.args.self.now in
    let form = request_of c.args.request.now in
    let p : permits c.args.association form ≡ true = sym c.requires.permits ∙ c.if-not-permitted.false in
    led_unless_brought E s c.args.association form _ p (rw c.in-ActionBlock.is (c.further_block-in-ActionBlock.ensures.continues E is))
