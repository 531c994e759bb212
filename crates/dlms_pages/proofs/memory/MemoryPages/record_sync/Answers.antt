use Rattle.std.proofs.Common.{arith}
use Rattle.std.proofs.lemmas.Grind.{common_steps}
use Rattle.std.proofs.Common.{◌≡◌, [], ◌∷◌, ◌++◌, ◌∙◌, sym, ap, length}
use Rattle.dlms_pages.specs.declared.memory.Call.TheVariants.{Sync}
use Rattle.dlms_pages.specs.Device.{Image}
use Rattle.dlms_pages.proofs.Kept.{kept_sync, refilled}
use Rattle.dlms_pages.proofs.memory.MemoryPages.record_sync.Goals as goal

pub invariant_of-self : goal.invariant_of-self
invariant_of-self g c =
    let inside = c.self.inside in
    let more : c.and-self-inside.result.calls ≡ inside.past.calls ++ Sync ∷ [] = grind (arith, common_steps) in
    let same : c.settle.new.pages ≡ inside.pages.items = grind (arith, common_steps, c.settle.ensures, c.self.invariant.same) in
    let many : length c.settle.new.pages ≡ length inside.synced.items = ap (λ (l : Image). length l) same ∙ sym c.self.invariant.count in
    let copied = refilled inside.synced.len inside.synced.items c.settle.new.pages (grind (arith, common_steps)) many ∙ same in
    kept_sync inside.first.value.items inside.past.calls inside.synced.items inside.since.items inside.pages.items c.self.invariant c.and-self-inside.result.calls _ c.clear.new.self.items more copied c.clear.ensures.items
