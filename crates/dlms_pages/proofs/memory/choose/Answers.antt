use Rattle.std.proofs.Common.{◌≡◌, ◌≢◌, ◌<◌, ◌∙◌, ⊎_elim, ap, sym, subst, arith, set, get_or, ℕ, length, [], ◌∷◌, refl, zero, suc}
use Rattle.std.proofs.lemmas.List.{get_or-set_same, get_or-set_other}
use Rattle.std.proofs.lemmas.Bool.{cases_eq}
use Rattle.dlms_pages.specs.declared.device.PageRead.{PageRead}
use Rattle.dlms_pages.specs.declared.device.PageRead.TheVariants.{Damaged}
use Rattle.dlms_pages.specs.Device.{Image, page_at}
use Rattle.dlms_pages.specs.Disk.{disk_after, at_first}
use Rattle.dlms_pages.specs.Pick.{choice_at, page_left}
use Rattle.dlms_pages.proofs.memory.choose.Goals as goal

same_item : (xs : Image) (i : ℕ) (d e : PageRead) → i < length xs → get_or xs i d ≡ get_or xs i e
same_item [] i d e less = absurd (omega arith)
same_item (x ∷ xs) zero d e less = refl
same_item (x ∷ xs) (suc i) d e less = same_item xs i d e (omega arith)

pub loop-index-preserved : goal.loop-index-preserved
loop-index-preserved c =
    let first = c.args.first.now in
    let disk = disk_after (at_first first) c.args.calls.now in
    let i = c.loop-index.index in
    let now = c.loop-index.pages in
    let page = c.left.result in
    let less : i < length first = omega (arith, c.requires.same, c.loop-index-test.true) in
    let history = c.history_of-history.ensures first less (same_item first i _ _ less) in
    let is : page ≡ page_left disk (choice_at c.args.pick i) i = c.left.ensures disk i history ∙ ap (λ choice. page_left disk choice i) c.choice.ensures in
    λ k small. ⊎_elim
    (λ (same : k ≡ i). subst (λ j. page_at (set now i page) j ≡ page_left disk (choice_at c.args.pick j) j) (sym same) (get_or-set_same now i page Damaged (omega (arith, c.loop-index.auto.pages, c.loop-index-test.true)) ∙ is))
    (λ (apart : k ≢ i). get_or-set_other now i k page Damaged apart ∙ c.loop-index.invariant k (omega (arith, apart, small)))
    (cases_eq k i)
