use Rattle.std.proofs.Common.{arith, sym, ◌∙◌, ◌≡◌, ◌<◌, ◌^◌}
use Rattle.dlms_words.specs.Numbers.{IsNumberOf}
use Rattle.dlms_program.proofs.NumberLemmas.{no_pulses, pulses_parts}
use Rattle.dlms_program.proofs.orders.pulses_of.Goals as goal

pub returns-in_err-before-clause-none : goal.returns-in_err-before-clause-none
returns-in_err-before-clause-none c = rw c.from_residual.ensures (λ channel count h. no_pulses c.args.fields.now channel count c.in_err-before.ensures.none h)

pub returns-in_err-channel-clause-none : goal.returns-in_err-channel-clause-none
returns-in_err-channel-clause-none c = rw c.from_residual-in_err-channel.ensures (λ channel count h.
    let parts = pulses_parts c.args.fields.now c.in_ok-before.before.now c.in_ok-before.behind.now channel count c.in_ok-before.ensures.found.1 c.in_ok-before.ensures.found.0 h in
    let small : channel < 2 ^ 8 = parts.0 in
    c.in_err-channel.ensures.none channel (omega arith) parts.2)

pub returns-in_err-count-clause-none : goal.returns-in_err-count-clause-none
returns-in_err-count-clause-none c = rw c.from_residual-in_err-count.ensures (λ channel count h.
    let parts = pulses_parts c.args.fields.now c.in_ok-before.before.now c.in_ok-before.behind.now channel count c.in_ok-before.ensures.found.1 c.in_ok-before.ensures.found.0 h in
    c.in_err-count.ensures.none count parts.1 parts.3)

pub returns-then-channel-gt255-clause-none : goal.returns-then-channel-gt255-clause-none
returns-then-channel-gt255-clause-none c = λ channel count h.
    let parts = pulses_parts c.args.fields.now c.in_ok-before.before.now c.in_ok-before.behind.now channel count c.in_ok-before.ensures.found.1 c.in_ok-before.ensures.found.0 h in
    let small : channel < 2 ^ 8 = parts.0 in
    let here : IsNumberOf c.in_ok-before.before.now c.in_ok-channel.channel = c.in_ok-channel.ensures.some in
    let same : c.in_ok-channel.channel ≡ channel = sym here.value ∙ parts.2.value in
    absurd (omega arith)
