use Rattle.std.proofs.Common.{ℕ, ◌<◌, List, Bool, arith, ◌≡◌, ◌∙◌, true, false, [], subst, sym, ap, ◌++◌, ◌≤◌, ◌^◌, refl, length}
use Rattle.std.specs.Bool.{◌==◌}
use Rattle.dlms_journal.specs.declared.kind.PageKind.TheVariants.{Journal}
use Rattle.dlms_journal.specs.Page.{IsPage}
use Rattle.std.proofs.lemmas.List.{append-nil, nil_from_length}
use Rattle.std.proofs.lemmas.Grind.{common_steps}
use Rattle.std.proofs.lemmas.Bool.Decides.{nat_tests}
use Rattle.dlms_pages.proofs.Moments.{no_call, weaker}
use Rattle.dlms_pages.specs.declared.device.PageRead.TheVariants.{Content}
use Rattle.dlms_journal.specs.Record.{Holds}
use Rattle.dlms_state.specs.declared.event.Event.{Event}
use Rattle.dlms_store.specs.Image.{Records}
use Rattle.dlms_store.specs.declared.layout.TheConstants.{JOURNAL_PAGES}
use Rattle.dlms_store.specs.Page.{present}
use Rattle.dlms_store.specs.Writing.{IsSettled}
use Rattle.dlms_store.specs.World.StoreStep.{Fails, Settles}
use Rattle.dlms_store.proofs.Commit.{as_before, outcome, settles, settled_now, as_known, made_records, holds_none, no_more}
use Rattle.dlms_store.proofs.Keeping.{running, refuses, settling, failing}
use Rattle.dlms_store.proofs.store.Store.commit.Goals as goal

pub returns-then-self-clause-run : goal.returns-then-self-clause-run
returns-then-self-clause-run g c before fits = refuses before c.args.self.now (λ h. g.met.P.Pages.rules c.args.self.now.device h) fits

nothing : (items : List ℕ) (b : Bool) → b ≡ (length items == 0) → b ≡ true → items ≡ []
nothing items b is none = nil_from_length items (grind (arith, nat_tests, common_steps))

something : (items : List ℕ) (b : Bool) → b ≡ (length items == 0) → b ≡ false → 0 < length items
something items b is none = grind (arith, nat_tests, common_steps)

-- the page that is written
page_made : (page : List ℕ) (index generation : ℕ) (payload records : List ℕ) (events : List Event) → payload ≡ records → length payload ≤ 496 → IsPage page Journal index generation payload → Holds records events → 0 < length records → Records (present generation) index events (Content page)
page_made page index generation payload records events same few is holds some =
    made_records page index generation payload events few is (subst (λ (b : List ℕ). Holds b events) (sym same) holds) (omega (arith, some, ap length same))

pub returns-then-is_empty-clause-run : goal.returns-then-is_empty-clause-run
returns-then-is_empty-clause-run g c before fits =
    let store = c.args.self.now in
    let empty = nothing store.pending.items c.is_empty.result c.is_empty.ensures c.if-is_empty.true in
    running Settles before store store c.if-self.false fits (λ s p is has.
    let none : p ≡ [] = holds_none p (subst (λ (b : List ℕ). Holds b p) empty has.records) in
    settling s p store store (no_call _ _ (as_before store s p is has) (g.met.P.Pages.rules store.device is.device.honest)) (subst (IsSettled store) (sym (append-nil s) ∙ ap (λ (l : List Event). s ++ l) (sym none)) is) (settled_now s p store store has refl empty))

pub returns-in-Err-clause-run : goal.returns-in-Err-clause-run
returns-in-Err-clause-run g c before fits =
    let store = c.args.self.now in
    running Fails before store _ c.if-self.false fits (λ s p is has.
    let at_first = g.met.P.Pages.rules store.device is.device.honest in
    let puts = c.in-Err.ensures.puts is.device.honest in
    let page = c.page_of-page.result in
    let made = page_made page store.next store.generation c.as_slice.result.now store.pending.items p c.as_slice.ensures.value c.as_slice.ensures.fits c.page_of-page.ensures has.records (something store.pending.items c.is_empty.result c.is_empty.ensures c.if-is_empty.false) in
    let numbers : store.state.rows.next ≤ 2 ^ 64 = omega (arith, c.next_number-numbers_fit.ensures.value, c.next_number-numbers_fit.ensures.last) in
    let room : store.next < JOURNAL_PAGES = omega (arith, store.few, c.if-self-eq-JOURNAL_PAGES.false) in
    let each = outcome store s p is has at_first room numbers page made in
    failing s p store _ (weaker _ _ _ _ each puts.any_moment) refl (c.in-Err.ensures.goes.honest ∙ is.device.honest) (λ image left. each image (puts.after image left)) (as_known s p store _ has refl refl))

pub returns-clause-run : goal.returns-clause-run
returns-clause-run g c before fits =
    let store = c.args.self.now in
    running Settles before store _ c.if-self.false fits (λ s p is has.
    let at_first = g.met.P.Pages.rules store.device is.device.honest in
    let puts = c.in_default.ensures.puts is.device.honest in
    let page = c.page_of-page.result in
    let made = page_made page store.next store.generation c.as_slice.result.now store.pending.items p c.as_slice.ensures.value c.as_slice.ensures.fits c.page_of-page.ensures has.records (something store.pending.items c.is_empty.result c.is_empty.ensures c.if-is_empty.false) in
    let numbers : store.state.rows.next ≤ 2 ^ 64 = omega (arith, c.next_number-numbers_fit.ensures.value, c.next_number-numbers_fit.ensures.last) in
    let room : store.next < JOURNAL_PAGES = omega (arith, store.few, c.if-self-eq-JOURNAL_PAGES.false) in
    let each = outcome store s p is has at_first room numbers page made in
    settling s p store _ (weaker _ _ _ _ each puts.any_moment) (settles store s p is has at_first room numbers page made _ (c.in_default.ensures.goes.honest ∙ is.device.honest) is.runs refl refl refl refl refl puts.at_last) (settled_now s p store _ has refl c.clear.ensures))

pub returns-then-self-eq-JOURNAL_PAGES-clause-captured : goal.returns-then-self-eq-JOURNAL_PAGES-clause-captured
returns-then-self-eq-JOURNAL_PAGES-clause-captured g c = no_more c.checkpoint.result c.args.self.now c.checkpoint.new.self c.checkpoint.ensures.renewed
