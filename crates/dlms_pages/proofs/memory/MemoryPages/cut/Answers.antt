use Rattle.std.proofs.Common.{◌≡◌, ◌<◌, ℕ, length, refl, sym, subst, arith}
use Rattle.std.proofs.lemmas.Grind.{common_steps}
use Rattle.dlms_pages.specs.Device.{page_at}
use Rattle.dlms_pages.specs.Disk.{at_first, disk_after}
use Rattle.dlms_pages.specs.Memory.{disk_of}
use Rattle.dlms_pages.specs.Pick.{choice_at, page_left}
use Rattle.dlms_pages.proofs.Picks.{picked_in_memory, one_image}
use Rattle.dlms_pages.proofs.memory.MemoryPages.cut.Goals as goal

pub returns-clause-left : goal.returns-clause-left
returns-clause-left g c =
    let image = c.of-first.result.value.items in
    let inside = c.self.inside in
    let kept = disk_after (at_first inside.synced.items) inside.since.items in
    let rest : disk_of c.args.self ≡ kept = subst (λ m. disk_of m ≡ kept) c.self.view_is c.self.invariant.rest in
    let count : length image ≡ length c.args.self.first = grind (arith, common_steps) in
    let each : (k : ℕ) → k < length c.args.self.first → page_at image k ≡ page_left kept (choice_at c.args.pick k) k = grind (arith, common_steps) in
    picked_in_memory c.args.self image (choice_at c.args.pick) count (subst (λ disk. (k : ℕ) → k < length c.args.self.first → page_at image k ≡ page_left disk (choice_at c.args.pick k) k) (sym rest) each)

pub returns-clause-fixed : goal.returns-clause-fixed
returns-clause-fixed g c = record { honest = refl; only = one_image c.of-first.result.value.items c.new.result.calls c.new.ensures }
