use Rattle.std.proofs.Common.{◌≡◌, ◌<◌, ◌≤◌, ℕ, length, true, replicate}
use Rattle.dlms_pages.specs.Device.{page_at}
use Rattle.dlms_pages.specs.declared.device.PageRead.TheVariants.{Content}
use Rattle.dlms_store.proofs.format.clear.Given as goal

abbrev pub invariant-loop-index : goal.invariant-loop-index
invariant-loop-index g l =
    let view = g.P.Pages.view in
    record {
      count : length (view l.device).seen ≡ length (view l.fn.device).seen;
      honest : (view l.device).honest ≡ (view l.fn.device).honest;
      later : (view l.fn.device).faults ≤ (view l.device).faults;
      clear : (view l.fn.device).honest ≡ true → (k : ℕ) → k < l.index → page_at (view l.device).seen k ≡ Content (replicate 512 0);
    }
