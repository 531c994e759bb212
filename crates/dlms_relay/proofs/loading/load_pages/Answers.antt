use Rattle.std.proofs.Common.{rules, arith, ◌≡◌, ◌<◌, ◌++◌, ◌∷◌, [], length}
use Rattle.dlms_pages.specs.Memory.{Passes, disk_of}
use Rattle.dlms_pages.specs.declared.memory.Call.TheVariants.{Write}
use Rattle.dlms_relay.proofs.LoadLemmas.{loads_more, room}
use Rattle.dlms_relay.proofs.loading.load_pages.Goals as goal

pub write-requires : goal.write-requires
write-requires g c = omega (arith, room c.loop-index.pages, c.loop-index.invariant.counted, c.loop-index-test.true)

pub loop-index-preserved : goal.loop-index-preserved
loop-index-preserved g c =
    let i = c.loop-index.index in
    let old = c.loop-index.pages in
    let passes : Passes old c.write.new.self (old.calls ++ Write i c.written_as-choice.result.0 ∷ []) = search rules in
    loads_more c.args.octets.now c.args.count i old c.write.new.self c.loop-index.choices.items c.written_as-choice.result.0 c.written_as-choice.result.1 c.page_of.result c.loop-index-test.true
    c.loop-index.invariant c.page_of.ensures c.written_as-choice.ensures passes.first passes.calls
