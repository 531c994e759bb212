use Rattle.std.proofs.Common.{◌∙◌, [], List, ℕ, refl, sym, ap, subst, arith}
use Rattle.dlms_checkpoint.specs.Checkpoint.{checkpoint_bytes}
use Rattle.dlms_journal.specs.Record.{Holds}
use Rattle.dlms_store.proofs.Commit.{no_records}
use Rattle.dlms_store.proofs.Counting.{counted}
use Rattle.dlms_store.proofs.store.Store.format.Goals as goal

pub returns-clause-fits : goal.returns-clause-fits
returns-clause-fits g c honest = (
  record {
    runs = refl;
    base = [];
    pages = [];
    spelled = refl;
    next = refl;
    captured = omega (arith, counted [] _ c.in-Ok.ensures);
    device = c.in_default-begin.ensures.starts (c.checkpoint_of.ensures.bytes ∙ ap checkpoint_bytes c.in-Ok.ensures.value) (c.in_default.ensures.clear honest);
  },
  record { state = c.in-Ok.ensures; records = subst (λ (b : List ℕ). Holds b []) (sym c.new-2.ensures) no_records },
)
