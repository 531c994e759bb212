use Rattle.std.proofs.Common.{◌∙◌, sym, ap, subst, take, get_or, List, []}
use Rattle.std.proofs.lemmas.List.{take_more}
use Rattle.dlms_pages.specs.Disk.{disk_after, at_first}
use Rattle.dlms_pages.specs.History.{IsHistory}
use Rattle.dlms_pages.specs.declared.memory.Call.{Call}
use Rattle.dlms_pages.specs.declared.memory.Call.TheVariants.{Write}
use Rattle.dlms_pages.proofs.Calls.{one_more}
use Rattle.dlms_pages.proofs.history.history_of.Goals as goal

pub loop-call-preserved : goal.loop-call-preserved
loop-call-preserved c image there first =
    let i = c.loop-call.call-index in
    let calls = c.args.calls.now in
    let so_far = c.loop-call.invariant image there first in
    let step = c.after_call-history.ensures (disk_after (at_first image) (take i calls)) so_far in
    let more = ap (λ (l : List Call). disk_after (at_first image) l) (take_more calls i (Write 0 []) c.loop-call-test.true) ∙ one_more (at_first image) (take i calls) (get_or calls i (Write 0 [])) in
    subst (λ d. IsHistory d c.args.index c.after_call-history.result) (sym more) step
