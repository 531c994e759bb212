use Rattle.std.proofs.Common.{◌≡◌, ◌≢◌, ◌∙◌, ◌<◌, ◌≤◌, ◌+◌, ⊎_elim, ap, refl, sym, subst, arith, ℕ, List, length, set, rules}
use Rattle.std.proofs.lemmas.List.{get_or-set_same, get_or-set_other}
use Rattle.std.proofs.lemmas.Bool.{cases_eq}
use Rattle.std.proofs.lemmas.Result.{on_ok_weaker}
use Rattle.dlms_pages.specs.Device.{Image, page_at}
use Rattle.dlms_pages.specs.declared.device.PageRead.{PageRead}
use Rattle.dlms_pages.specs.declared.device.PageRead.TheVariants.{Content, Damaged}
use Rattle.dlms_pages.proofs.Moments.{one_call, then_also}
use Rattle.dlms_journal.specs.declared.kind.PageKind.TheVariants.{Ring}
use Rattle.dlms_state.specs.StateValue.{HasEvents, StateValue}
use Rattle.dlms_profile.specs.declared.rows.TheConstants.{CAPACITY}
use Rattle.dlms_store.specs.declared.layout.TheConstants.{RING}
use Rattle.dlms_store.specs.Layout.{ring_place}
use Rattle.dlms_store.specs.Page.{HasPage, present}
use Rattle.dlms_checkpoint.specs.declared.version.Version.TheVariants.{Columns}
use Rattle.dlms_store.specs.Image.{IsRingPage}
use Rattle.dlms_store.specs.Writing.{IsEachRingPage, RingScribbled}
use Rattle.dlms_store.proofs.Images.{made_page}
use Rattle.dlms_store.proofs.Ring.{apart, at_most}
use Rattle.dlms_store.proofs.Scribbles.{ring_scribbled_more}
use Rattle.dlms_store.proofs.ring_pages.put_rings.Goals as goal

-- no more rows are kept than the buffer holds
few_rows : {s : StateValue} → HasEvents s → length s.rows.items ≤ CAPACITY
few_rows is = subst (λ (t : StateValue). length t.rows.items ≤ CAPACITY) (sym is.state.value) (at_most is.events)

-- a page that was written, and another one
new_there : (old new : Image) (place : ℕ) (page : PageRead) → new ≡ set old place page → place < length old → page_at new place ≡ page
new_there old new place page is small = ap (λ (l : Image). page_at l place) is ∙ get_or-set_same old place page Damaged small

old_elsewhere : (old new : Image) (place k : ℕ) (page : PageRead) → new ≡ set old place page → k ≢ place → page_at new k ≡ page_at old k
old_elsewhere old new place k page is off = ap (λ (l : Image). page_at l k) is ∙ get_or-set_other old place k page Damaged off

pub loop-number-preserved : goal.loop-number-preserved
loop-number-preserved g c =
    let view = g.P.Pages.view in
    let inv = c.loop-number.invariant in
    let old = view c.args.device.now in
    let mid = view c.loop-number.device in
    let first = c.args.first in
    let behind = c.args.behind in
    let state = c.args.state.now in
    let rows = state.rows in
    let Q = RingScribbled first behind old.may_leave in
    let new = view c.write.new.self in
    let goes = c.in_ok-write.ensures.goes in
    let n = c.loop-number.number in
    let low : first ≤ n = omega (arith, c.loop-number.auto.number) in
    let high : n < behind = c.loop-number-test.true in
    let place = RING + c.ring_index-index.result in
    let there : place ≡ ring_place n = ap (λ (k : ℕ). RING + k) c.ring_index-index.ensures.value in
    let bytes = c.page_of-page.result in
    let page = Content bytes in
    let places = c.ring_page_of-places.result.items in
    let payload : c.as_slice.result.now ≡ places = c.as_slice.ensures.value in
    let holds = c.ring_page_of-places.ensures.holds in
    let made : HasPage Ring c.ring_index-index.result (present n) c.as_slice.result.now page = made_page bytes Ring c.ring_index-index.result n c.as_slice.result.now (omega (arith, ap (λ (l : List ℕ). length l) payload, holds.long)) c.page_of-page.ensures in
    let is : IsRingPage Columns state n page = record {
      places = places;
      own = Columns;
      serves = refl;
      is_page = subst (λ (i : ℕ). HasPage Ring i (present n) places page) c.ring_index-index.ensures.value (subst (λ (p : List ℕ). HasPage Ring c.ring_index-index.result (present n) p page) payload made);
      holds = holds;
    } in
    let more = ring_scribbled_more first behind old.may_leave n low high place there mid.may_leave bytes in
    record {
      count = goes.count ∙ inv.count;
      honest = goes.honest ∙ inv.honest;
      later = omega (arith, goes.later, inv.later);
      leaves = λ honest image left. more (inv.leaves honest) image ((c.in_ok-write.ensures.written (inv.honest ∙ honest)).crash image left);
      moments = λ honest.
          let w = c.in_ok-write.ensures.written (inv.honest ∙ honest) in
          let after = more (inv.leaves honest) in
          then_also old mid new Q (inv.moments honest) (one_call mid new Q (inv.leaves honest) (g.met.P.Pages.rules c.loop-number.device (inv.honest ∙ honest)) w.time (λ image left. after image (w.crash image left)));
      written = λ honest k from less.
          let w = c.in_ok-write.ensures.written (inv.honest ∙ honest) in
          ⊎_elim
          (λ (same : k ≡ n).
          let here : page_at new.seen (ring_place n) ≡ page = subst (λ (j : ℕ). page_at new.seen j ≡ page) there (new_there mid.seen new.seen place page w.written (omega (arith, inv.count, c.requires.room, c.ring_index-index.ensures.within))) in
          subst (λ (j : ℕ). IsRingPage Columns state j (page_at new.seen (ring_place j))) (sym same) (subst (IsRingPage Columns state n) (sym here) is))
          (λ (off : k ≢ n).
          let before : k < n = omega (arith, off, less) in
          let few : length rows.items ≤ CAPACITY = few_rows c.has_events.ensures in
          let other : ring_place k ≢ place = λ e. off (apart rows k n few (c.requires.named k from (omega (arith, before, high))) (c.requires.named n low high) (e ∙ there)) in
          subst (IsRingPage Columns state k) (sym (old_elsewhere mid.seen new.seen place (ring_place k) page w.written other)) (inv.written honest k from before))
          (cases_eq k n);
    }

pub returns-clause-puts : goal.returns-clause-puts
returns-clause-puts g c honest =
    let view = g.P.Pages.view in
    let inv = c.loop-number.invariant in
    let old = view c.args.device.now in
    let mid = view c.loop-number.device in
    let first = c.args.first in
    let behind = c.args.behind in
    let state = c.args.state.now in
    let rows = state.rows in
    let Q = RingScribbled first behind old.may_leave in
    let AtLast = λ (image : Image). IsEachRingPage first behind (λ k. IsRingPage Columns state k (page_at image (ring_place k))) in
    let new = view c.sync.new.self in
    let still = inv.honest ∙ honest in
    let s = c.sync.ensures.synced still in
    let leaves = λ (image : Image) (left : new.may_leave image). inv.leaves honest image (s.crash image left) in
    let written : AtLast mid.seen = λ k from less. inv.written honest k from (omega (arith, less, c.loop-number-test.false)) in
    record {
      any_moment = then_also old mid new Q (inv.moments honest) (one_call mid new Q (inv.leaves honest) (g.met.P.Pages.rules c.loop-number.device still) s.time leaves);
      after = leaves;
      at_last = on_ok_weaker c.sync.result (λ d. λ image left. subst AtLast (sym (d image left)) written) s.durable;
    }

pub returns-in_err-write-clause-puts : goal.returns-in_err-write-clause-puts
returns-in_err-write-clause-puts g c honest =
    let view = g.P.Pages.view in
    let inv = c.loop-number.invariant in
    let old = view c.args.device.now in
    let mid = view c.loop-number.device in
    let first = c.args.first in
    let behind = c.args.behind in
    let Q = RingScribbled first behind old.may_leave in
    let new = view c.write.new.self in
    let still = inv.honest ∙ honest in
    let n = c.loop-number.number in
    let low : first ≤ n = omega (arith, c.loop-number.auto.number) in
    let place = RING + c.ring_index-index.result in
    let there : place ≡ ring_place n = ap (λ (k : ℕ). RING + k) c.ring_index-index.ensures.value in
    let w = c.write.ensures.written still in
    let leaves = λ (image : Image) (left : new.may_leave image). ring_scribbled_more first behind old.may_leave n low c.loop-number-test.true place there mid.may_leave c.page_of-page.result (inv.leaves honest) image (w.crash image left) in
    record {
      any_moment = then_also old mid new Q (inv.moments honest) (one_call mid new Q (inv.leaves honest) (g.met.P.Pages.rules c.loop-number.device still) w.time leaves);
      after = leaves;
      at_last = search rules;
    }
