use Rattle.std.proofs.Common.{◌≡◌, ◌≢◌, ◌∙◌, ap, arith, ℕ, replicate, ⊎_elim, set, get_or}
use Rattle.std.proofs.lemmas.List.{get_or-set_same, get_or-set_other}
use Rattle.std.proofs.lemmas.Bool.{cases_eq}
use Rattle.dlms_pages.specs.Device.{Image}
use Rattle.dlms_pages.specs.declared.device.PageRead.TheVariants.{Content, Damaged}
use Rattle.dlms_pages.specs.Device.{page_at}
use Rattle.dlms_store.proofs.format.clear.Goals as goal

pub loop-index-preserved : goal.loop-index-preserved
loop-index-preserved g c =
    let inv = c.loop-index.invariant in
    let goes = c.write.ensures.goes in
    let i = c.loop-index.index in
    let zeros = Content (replicate 512 0) in
    let before = (g.P.Pages.view c.loop-index.device).seen in
    record {
      count = goes.count ∙ inv.count;
      honest = goes.honest ∙ inv.honest;
      later = omega (arith, goes.later, inv.later);
      clear = λ honest k small.
          let w = c.in_ok-write.ensures.written (inv.honest ∙ honest) in
          ap (λ (l : Image). page_at l k) w.written ∙ ⊎_elim
          (λ (same : k ≡ i). ap (λ (j : ℕ). get_or (set before i zeros) j Damaged) same ∙ get_or-set_same before i zeros Damaged (omega (arith, c.loop-index-test.true, c.count-index-end.ensures, inv.count)))
          (λ (apart : k ≢ i). get_or-set_other before i k zeros Damaged apart ∙ inv.clear honest k (omega arith))
          (cases_eq k i);
    }
