use Rattle.std.proofs.Common.{arith, sym, ◌∙◌}
use Rattle.dlms_capture.proofs.Options.{ends, finds, goes_on, none_left}
use Rattle.dlms_capture.proofs.pcapng.resolution_of.Goals as goal

pub returns-in_default : goal.returns-in_default
returns-in_default c = sym (ends _ _ _ (omega arith) (search arith)) ∙ c.loop.invariant

pub returns-in-Some-resolution_in : goal.returns-in-Some-resolution_in
returns-in-Some-resolution_in c =
    let o = c.in-Some.option in
    sym (finds _ _ _ (o.code, o.value.now, o.behind.now) _ (omega arith) (search arith) (search arith)) ∙ c.loop.invariant

pub loop-preserved : goal.loop-preserved
loop-preserved c =
    let o = c.in-Some.option in
    sym (goes_on _ _ _ _ (o.code, o.value.now, o.behind.now) (omega arith) (search arith) (search arith)) ∙ c.loop.invariant

pub returns : goal.returns
returns c = sym (none_left _ _ _ (omega arith)) ∙ c.loop.invariant
