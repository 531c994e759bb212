use Rattle.std.proofs.Common.{◌≡◌, ◌++◌, [], ◌∷◌, arith}
use Rattle.std.proofs.lemmas.Grind.{common_steps}
use Rattle.dlms_pages.specs.declared.memory.Call.TheVariants.{Write}
use Rattle.dlms_pages.proofs.Kept.{kept_write}
use Rattle.dlms_pages.proofs.memory.MemoryPages.record_write.Goals as goal

pub invariant_of-self-2 : goal.invariant_of-self-2
invariant_of-self-2 g c =
    let inside = c.self.inside in
    let call = Write c.args.index c.args.bytes.now in
    let more : c.and-self-inside.result.calls ≡ inside.past.calls ++ call ∷ [] = grind (arith, common_steps) in
    let newer : c.push.new.self.items ≡ inside.since.items ++ call ∷ [] = grind (arith, common_steps) in
    kept_write inside.first.value.items inside.past.calls inside.synced.items inside.since.items inside.pages.items c.self.invariant c.and-self-inside.result.calls c.push.new.self.items c.args.index c.args.bytes.now more newer
