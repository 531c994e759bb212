use Rattle.std.proofs.Common.{rules, subst, List, Option, ℕ, ◌∙◌}
use Rattle.std.proofs.lemmas.List.{with_items_is}
use Rattle.dlms_pages.specs.SlotCalls.{Asks, AsksUntilFault, sync_calls}
use Rattle.dlms_pages.proofs.FileSyncing.{kept_failed, kept_synced}
use Rattle.dlms_pages.proofs.file.FilePages.sync_pages.Goals as goal

pub invariant_of-self : goal.invariant_of-self
invariant_of-self g c =
    let slots = g.F.SlotFile.slots in
    kept_synced (slots c.self.inside.file) (slots c.settle.new.file) c.self.inside.unsynced.items c.self.inside.behind c.self.invariant
    (subst (λ (pages : List (Option (List ℕ))). Asks (slots c.self.inside.file) (slots c.settle.new.file) (sync_calls c.self.inside.behind pages)) c.deref.ensures.value c.in-Ok.ensures) _
    (with_items_is c.self.inside.unsynced c.forget.new.pages (search rules) ∙ search rules)

pub invariant_of-self-in-Err : goal.invariant_of-self-in-Err
invariant_of-self-in-Err g c =
    let slots = g.F.SlotFile.slots in
    kept_failed (slots c.self.inside.file) (slots c.settle.new.file) c.self.inside.unsynced.items c.self.inside.behind c.self.invariant
    (subst (λ (pages : List (Option (List ℕ))). AsksUntilFault (slots c.self.inside.file) (slots c.settle.new.file) (sync_calls c.self.inside.behind pages)) c.deref.ensures.value c.in-Err.ensures)
