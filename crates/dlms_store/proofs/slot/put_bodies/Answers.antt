use Rattle.std.proofs.Common.{◌≡◌, ◌≢◌, ◌∙◌, ◌<◌, ◌≤◌, ◌+◌, ⊎_elim, ap, sym, subst, refl, arith, ℕ, rules}
use Rattle.std.proofs.lemmas.List.{get_or-set_same, get_or-set_other}
use Rattle.std.proofs.lemmas.Bool.{cases_eq}
use Rattle.std.proofs.lemmas.Result.{on_ok_weaker}
use Rattle.dlms_pages.specs.Device.{Image, page_at}
use Rattle.dlms_pages.specs.declared.device.PageRead.TheVariants.{Content, Damaged}
use Rattle.dlms_pages.proofs.Moments.{no_call, one_call, then_also}
use Rattle.dlms_checkpoint.specs.Bodies.{body_at}
use Rattle.dlms_journal.specs.declared.kind.PageKind.TheVariants.{Body}
use Rattle.dlms_store.specs.declared.layout.TheConstants.{BODIES}
use Rattle.dlms_store.specs.Page.{HasPage, present}
use Rattle.dlms_store.specs.Image.{Spells}
use Rattle.dlms_store.specs.Writing.{Scribbled}
use Rattle.dlms_store.proofs.Images.{made_page}
use Rattle.dlms_store.proofs.Scribbles.{unscribbled, scribbled_more}
use Rattle.dlms_store.proofs.slot.put_bodies.Goals as goal

pub loop-index-init : goal.loop-index-init
loop-index-init g c =
    let old = g.P.Pages.view c.args.device.now in
    let gate = c.args.gate in
    record {
      count = refl;
      honest = refl;
      later = omega arith;
      leaves = λ honest c' left. unscribbled gate old.may_leave c' left;
      moments = λ honest. no_call old (Scribbled gate old.may_leave) (unscribbled gate old.may_leave) (g.met.P.Pages.rules c.args.device.now honest);
      written = λ honest k small. absurd (omega (arith, small));
    }

pub loop-index-preserved : goal.loop-index-preserved
loop-index-preserved g c =
    let view = g.P.Pages.view in
    let inv = c.loop-index.invariant in
    let old = view c.args.device.now in
    let mid = view c.loop-index.device in
    let gate = c.args.gate in
    let Q = Scribbled gate old.may_leave in
    let new = view c.write.new.self in
    let goes = c.in_ok-write.ensures.goes in
    let i = c.loop-index.index in
    let place = gate + 1 + i in
    let from : gate < place = omega arith in
    let to : place ≤ gate + BODIES = omega (arith, c.loop-index-test.true, c.body_count-index-end.ensures, c.requires.few) in
    let bytes = c.page_of-page.result in
    let page = Content bytes in
    let made : HasPage Body i (present c.args.generation) (body_at i c.args.bytes.now) page =
    subst (λ payload. HasPage Body i (present c.args.generation) payload page) c.body.ensures.bytes
    (made_page bytes Body i c.args.generation c.body.result.now c.body.ensures.fits c.page_of-page.ensures) in
    record {
      count = goes.count ∙ inv.count;
      honest = goes.honest ∙ inv.honest;
      later = omega (arith, goes.later, inv.later);
      leaves = λ honest image left. scribbled_more gate old.may_leave place from to mid.may_leave bytes (inv.leaves honest) image ((c.in_ok-write.ensures.written (inv.honest ∙ honest)).crash image left);
      moments = λ honest.
          let w = c.in_ok-write.ensures.written (inv.honest ∙ honest) in
          let after = scribbled_more gate old.may_leave place from to mid.may_leave bytes (inv.leaves honest) in
          then_also old mid new Q (inv.moments honest) (one_call mid new Q (inv.leaves honest) (g.met.P.Pages.rules c.loop-index.device (inv.honest ∙ honest)) w.time (λ image left. after image (w.crash image left)));
      written = λ honest k small.
          let w = c.in_ok-write.ensures.written (inv.honest ∙ honest) in
          ⊎_elim
          (λ (same : k ≡ i).
          let here : page_at new.seen place ≡ page = ap (λ (l : Image). page_at l place) w.written ∙ get_or-set_same mid.seen place page Damaged (omega (arith, to, inv.count, c.requires.room, c.requires.place)) in
          subst (λ (j : ℕ). HasPage Body j (present c.args.generation) (body_at j c.args.bytes.now) (page_at new.seen (gate + 1 + j))) (sym same) (subst (HasPage Body i (present c.args.generation) (body_at i c.args.bytes.now)) (sym here) made))
          (λ (off : k ≢ i).
          let there : page_at new.seen (gate + 1 + k) ≡ page_at mid.seen (gate + 1 + k) = ap (λ (l : Image). page_at l (gate + 1 + k)) w.written ∙ get_or-set_other mid.seen place (gate + 1 + k) page Damaged (λ e. off (omega arith)) in
          subst (HasPage Body k (present c.args.generation) (body_at k c.args.bytes.now)) (sym there) (inv.written honest k (omega arith)))
          (cases_eq k i);
    }

pub returns-clause-puts : goal.returns-clause-puts
returns-clause-puts g c honest =
    let view = g.P.Pages.view in
    let inv = c.loop-index.invariant in
    let old = view c.args.device.now in
    let mid = view c.loop-index.device in
    let gate = c.args.gate in
    let Q = Scribbled gate old.may_leave in
    let new = view c.sync.new.self in
    let still = inv.honest ∙ honest in
    let s = c.sync.ensures.synced still in
    let leaves = λ (image : Image) (left : new.may_leave image). inv.leaves honest image (s.crash image left) in
    let spells : Spells gate (present c.args.generation) c.args.bytes.now mid.seen = record { few = c.requires.few; each = λ k small. inv.written honest k (omega (arith, small, c.loop-index-test.false, c.body_count-index-end.ensures)) } in
    record {
      any_moment = then_also old mid new Q (inv.moments honest) (one_call mid new Q (inv.leaves honest) (g.met.P.Pages.rules c.loop-index.device still) s.time leaves);
      after = leaves;
      at_last = on_ok_weaker c.sync.result (λ d. λ image left. subst (Spells gate (present c.args.generation) c.args.bytes.now) (sym (d image left)) spells) s.durable;
    }

pub returns-in_err-write-clause-puts : goal.returns-in_err-write-clause-puts
returns-in_err-write-clause-puts g c honest =
    let view = g.P.Pages.view in
    let inv = c.loop-index.invariant in
    let old = view c.args.device.now in
    let mid = view c.loop-index.device in
    let gate = c.args.gate in
    let Q = Scribbled gate old.may_leave in
    let new = view c.write.new.self in
    let still = inv.honest ∙ honest in
    let place = gate + 1 + c.loop-index.index in
    let from : gate < place = omega arith in
    let to : place ≤ gate + BODIES = omega (arith, c.loop-index-test.true, c.body_count-index-end.ensures, c.requires.few) in
    let w = c.write.ensures.written still in
    let leaves = λ (image : Image) (left : new.may_leave image). scribbled_more gate old.may_leave place from to mid.may_leave _ (inv.leaves honest) image (w.crash image left) in
    record {
      any_moment = then_also old mid new Q (inv.moments honest) (one_call mid new Q (inv.leaves honest) (g.met.P.Pages.rules c.loop-index.device still) w.time leaves);
      after = leaves;
      at_last = search rules;
    }
