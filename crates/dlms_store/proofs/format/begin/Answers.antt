use Rattle.std.proofs.Common.{◌∙◌, ◌≤◌, [], List, ℕ, subst, sym, ap, set, length, arith}
use Rattle.std.proofs.lemmas.Result.{on_ok_weaker}
use Rattle.dlms_pages.specs.declared.device.PageRead.TheVariants.{Content}
use Rattle.dlms_store.specs.declared.layout.Slot.TheVariants.{First}
use Rattle.dlms_store.specs.Image.{Spells, Stands}
use Rattle.dlms_state.specs.StateValue.{state_of}
use Rattle.dlms_checkpoint.specs.Checkpoint.{checkpoint_bytes}
use Rattle.dlms_checkpoint.proofs.Places.{bytes_are}
use Rattle.dlms_state.proofs.Legal.{IsLegal-none}
use Rattle.dlms_state.proofs.Limits.{IsWithinLimits-legal}
use Rattle.dlms_state.proofs.Types.{FitsTypes-legal}
use Rattle.dlms_store.specs.declared.layout.TheConstants.{PAGES}
use Rattle.dlms_store.specs.Page.{present}
use Rattle.dlms_journal.specs.Page.{IsPage}
use Rattle.dlms_journal.specs.declared.kind.PageKind.TheVariants.{OpenGate}
use Rattle.dlms_store.specs.Writing.{Scribbled}
use Rattle.dlms_store.proofs.Images.{made_gate}
use Rattle.dlms_store.specs.Writing.{IsFormatted}
use Rattle.dlms_store.proofs.Starting.{formatted, started}
use Rattle.dlms_store.proofs.format.begin.Goals as goal

pub returns-clause-starts : goal.returns-clause-starts
returns-clause-starts g c spelled clear =
    let view = g.P.Pages.view in
    let v0 = view c.args.device.now in
    let v1 = view c.put_bodies.new.device in
    let gate_is = c.gate-gate.ensures.value in
    let p1 = c.in_ok-put_bodies.ensures.puts clear.honest in
    let h1 = c.in_ok-put_bodies.ensures.goes.honest ∙ clear.honest in
    let r1 = g.met.P.Pages.rules c.put_bodies.new.device h1 in
    let page = Content c.page_of-open.result in
    let room : PAGES ≤ length v1.seen = omega (arith, c.in_ok-put_bodies.ensures.goes.count, c.requires.room) in
    let scribbled = subst (λ (k : ℕ). Scribbled k v0.may_leave v1.seen) gate_is (p1.after v1.seen r1.seen) in
    let spells = subst (λ (k : ℕ). Spells k (present 1) (checkpoint_bytes (state_of [])) v1.seen) gate_is (subst (λ (b : List ℕ). Spells c.gate-gate.result (present 1) b v1.seen) spelled (p1.at_last v1.seen r1.seen)) in
    let new = started v0.may_leave v1.seen page (checkpoint_bytes (state_of [])) clear.each room scribbled (made_gate c.page_of-open.result _ 1 c.page_of-open.ensures) (bytes_are (state_of []) (IsWithinLimits-legal [] IsLegal-none).rows (FitsTypes-legal [] IsLegal-none).order) spells in
    on_ok_weaker c.put.result (λ d. record { honest = c.put.ensures.goes.honest ∙ h1; each = λ image left. subst (Stands First (present 1) [] []) (sym (d image left ∙ ap (λ (k : ℕ). set v1.seen k page) gate_is)) new }) (c.put.ensures.puts h1).at_last

pub returns-clause-formatted : goal.returns-clause-formatted
returns-clause-formatted g c clear =
    let view = g.P.Pages.view in
    let v0 = view c.args.device.now in
    let v1 = view c.put_bodies.new.device in
    let gate_is = c.gate-gate.ensures.value in
    let p1 = c.in_ok-put_bodies.ensures.puts clear.honest in
    let h1 = c.in_ok-put_bodies.ensures.goes.honest ∙ clear.honest in
    let r1 = g.met.P.Pages.rules c.put_bodies.new.device h1 in
    let page = Content c.page_of-open.result in
    let room : PAGES ≤ length v1.seen = omega (arith, c.in_ok-put_bodies.ensures.goes.count, c.requires.room) in
    let scribbled = subst (λ (k : ℕ). Scribbled k v0.may_leave v1.seen) gate_is (p1.after v1.seen r1.seen) in
    let new = formatted v0.may_leave v1.seen c.page_of-open.result clear.each room scribbled (subst (λ (i : ℕ). IsPage c.page_of-open.result OpenGate i 1 []) c.index.ensures c.page_of-open.ensures) in
    on_ok_weaker c.put.result (λ d. record { honest = c.put.ensures.goes.honest ∙ h1; each = λ image left. subst IsFormatted (sym (d image left ∙ ap (λ (k : ℕ). set v1.seen k page) gate_is)) new }) (c.put.ensures.puts h1).at_last
