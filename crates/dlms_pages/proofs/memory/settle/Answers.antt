use Rattle.std.proofs.Common.{◌∙◌, sym, ap, take, get_or, List, []}
use Rattle.std.proofs.lemmas.List.{take_more}
use Rattle.dlms_pages.specs.Disk.{Disk, disk_after, at_first}
use Rattle.dlms_pages.specs.declared.memory.Call.{Call}
use Rattle.dlms_pages.specs.declared.memory.Call.TheVariants.{Write}
use Rattle.dlms_pages.proofs.Calls.{one_more}
use Rattle.dlms_pages.proofs.memory.settle.Goals as goal

pub loop-call-preserved : goal.loop-call-preserved
loop-call-preserved c =
    let i = c.loop-call.call-index in
    let calls = c.args.calls.now in
    let first = c.args.pages.now in
    let so_far = c.loop-call.invariant in
    let step = c.settle_one.ensures (disk_after (at_first first) (take i calls)) (sym so_far) in
    let more = ap (λ (l : List Call). (disk_after (at_first first) l).seen) (take_more calls i (Write 0 []) c.loop-call-test.true) ∙ ap (λ (d : Disk). d.seen) (one_more (at_first first) (take i calls) (get_or calls i (Write 0 []))) in
    step ∙ sym more
