use Rattle.std.proofs.Common.{◌≡◌, ◌∙◌, inl, inr, sym, ap, subst, refl, ℕ, List, [], Some, None, arith, length, ◌≤◌}
use Rattle.dlms_frame.specs.Frame.{spelling}
use Rattle.dlms_link.specs.Server.{server_send}
use Rattle.dlms_link.specs.declared.out.LinkOut.TheVariants.{Nothing, Reply, Oversize, BadLlc, Up, Down}
use Rattle.dlms_service.specs.Session.{Outcome, SessionValue, fresh, not_possible, unknown_service}
use Rattle.dlms_meter.specs.ClientRecord.{ClientRecord}
use Rattle.dlms_meter.specs.Run.{Handled, Handling, replies}
use Rattle.dlms_meter.proofs.RunLemmas.{on_link, one_answer, apdu_handled}
use Rattle.dlms_meter.proofs.connection.Connection.answer.Goals as goal

pub returns-in-Apdu-clause-handled : goal.returns-in-Apdu-clause-handled
returns-in-Apdu-clause-handled g c before knows =
    let own : ClientRecord = record { link = c.self.inside.link; session = c.self.inside.session } in
    let store = c.args.store.now in
    let new = c.respond-answer.new.store in
    let link = c.on.new.self in
    let h = c.respond-answer.ensures.responds before knows in
    let o : Outcome = record { own = c.respond-answer.new.session; answer = c.respond-answer.result.items; accepted = h.accepted } in
    let sent = c.send.ensures.after ∙ ap (λ (bytes : List ℕ). (server_send link bytes).0) c.as_slice.ensures.value in
    let frame = c.send.ensures.frame ∙ ap (λ (bytes : List ℕ). spelling (server_send link bytes).1) c.as_slice.ensures.value in
    subst (λ (r : ClientRecord). Handling r c.args.frame.now (Some c.send.result.items) (record { link = c.send.new.link; session = c.respond-answer.new.session }) before store new) c.self.view_is
    (apdu_handled own c.args.frame.now link c.send.new.link c.apdu.result.now o c.send.result.items h.choice before h.now h.steps store new
    (sym c.in-Apdu.is ∙ c.on.ensures.out) c.on.ensures.after c.apdu.ensures.value h.does sent frame h.stored h.may h.goes (subst (λ (bytes : List ℕ). length bytes ≤ 1024) c.as_slice.ensures.value c.as_slice.ensures.fits))

pub returns-in-Nothing-clause-handled : goal.returns-in-Nothing-clause-handled
returns-in-Nothing-clause-handled g c before knows =
    let store = c.args.store.now in
    subst (λ (r : ClientRecord). Handling r c.args.frame.now None (record { link = c.on.new.self; session = c.self.inside.session }) before store store) c.self.view_is
    (on_link (record { link = c.self.inside.link; session = c.self.inside.session }) c.args.frame.now c.on.new.self Nothing (replies c.on.new.self c.self.inside.session None) before store
    (λ h. g.met.P.Pages.rules store.device h) knows (sym c.in-Nothing.is ∙ c.on.ensures.out) c.on.ensures.after (λ E. refl) (refl, refl) tt)

pub returns-in-Reply-clause-handled : goal.returns-in-Reply-clause-handled
returns-in-Reply-clause-handled g c before knows =
    let store = c.args.store.now in
    let frame = c.in-Reply.reply in
    subst (λ (r : ClientRecord). Handling r c.args.frame.now (Some c.put.result.items) (record { link = c.on.new.self; session = c.self.inside.session }) before store store) c.self.view_is
    (on_link (record { link = c.self.inside.link; session = c.self.inside.session }) c.args.frame.now c.on.new.self (Reply frame) (replies c.on.new.self c.self.inside.session (Some c.put.result.items)) before store
    (λ h. g.met.P.Pages.rules store.device h) knows (sym c.in-Reply.is ∙ c.on.ensures.out) c.on.ensures.after
    (λ E. ap (λ (bytes : List ℕ). replies c.on.new.self c.self.inside.session (Some bytes)) c.put.ensures.text) (refl, refl) tt)

pub returns-in-Oversize-clause-handled : goal.returns-in-Oversize-clause-handled
returns-in-Oversize-clause-handled g c before knows =
    let store = c.args.store.now in
    let link = c.on.new.self in
    let s = c.self.inside.session in
    let h : Handled = record { own = record { link = c.send-in-Oversize.new.link; session = s }; reply = Some c.send-in-Oversize.result.items; answer = Some (not_possible s).answer; accepted = [] } in
    subst (λ (r : ClientRecord). Handling r c.args.frame.now (Some c.send-in-Oversize.result.items) (record { link = c.send-in-Oversize.new.link; session = s }) before store store) c.self.view_is
    (on_link (record { link = c.self.inside.link; session = s }) c.args.frame.now link Oversize h before store
    (λ x. g.met.P.Pages.rules store.device x) knows (sym c.in-Oversize.is ∙ c.on.ensures.out) c.on.ensures.after
    (λ E. one_answer link c.send-in-Oversize.new.link c.send-in-Oversize.result.items (not_possible s) c.send-in-Oversize.ensures.after c.send-in-Oversize.ensures.frame) (refl, refl) (omega arith))

pub returns-in-BadLlc-clause-handled : goal.returns-in-BadLlc-clause-handled
returns-in-BadLlc-clause-handled g c before knows =
    let store = c.args.store.now in
    let link = c.on.new.self in
    let s = c.self.inside.session in
    let h : Handled = record { own = record { link = c.send-in-BadLlc.new.link; session = s }; reply = Some c.send-in-BadLlc.result.items; answer = Some (unknown_service s).answer; accepted = [] } in
    subst (λ (r : ClientRecord). Handling r c.args.frame.now (Some c.send-in-BadLlc.result.items) (record { link = c.send-in-BadLlc.new.link; session = s }) before store store) c.self.view_is
    (on_link (record { link = c.self.inside.link; session = s }) c.args.frame.now link BadLlc h before store
    (λ x. g.met.P.Pages.rules store.device x) knows (sym c.in-BadLlc.is ∙ c.on.ensures.out) c.on.ensures.after
    (λ E. one_answer link c.send-in-BadLlc.new.link c.send-in-BadLlc.result.items (unknown_service s) c.send-in-BadLlc.ensures.after c.send-in-BadLlc.ensures.frame) (refl, refl) (omega arith))

pub returns-in-Up-clause-handled : goal.returns-in-Up-clause-handled
returns-in-Up-clause-handled g c before knows =
    let store = c.args.store.now in
    let link = c.on.new.self in
    let s = c.self.inside.session in
    let frame = c.in-Up.reply in
    let h : Handled = replies link c.clear.new.self (Some c.put-in-Up.result.items) in
    let same : h ≡ replies link (fresh s.client) (Some (spelling frame)) =
    ap (λ (x : SessionValue). replies link x (Some c.put-in-Up.result.items)) c.clear.ensures ∙ ap (λ (bytes : List ℕ). replies link (fresh s.client) (Some bytes)) c.put-in-Up.ensures.text in
    subst (λ (r : ClientRecord). Handling r c.args.frame.now (Some c.put-in-Up.result.items) (record { link = link; session = c.clear.new.self }) before store store) c.self.view_is
    (elim c.in-Up.is [
      | inl e ↦ (
          on_link (record { link = c.self.inside.link; session = s }) c.args.frame.now link (Up frame) h before store
          (λ x. g.met.P.Pages.rules store.device x) knows (sym e ∙ c.on.ensures.out) c.on.ensures.after (λ E. same) (refl, refl) tt
          )
      | inr e ↦ (
          on_link (record { link = c.self.inside.link; session = s }) c.args.frame.now link (Down frame) h before store
          (λ x. g.met.P.Pages.rules store.device x) knows (sym e ∙ c.on.ensures.out) c.on.ensures.after (λ E. same) (refl, refl) tt
          )
    ])
