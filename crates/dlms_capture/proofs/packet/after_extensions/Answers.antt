use Rattle.std.proofs.Common.{arith, sym, ◌∙◌}
use Rattle.dlms_capture.proofs.Headers.{ends, fails, goes_on, none_left}
use Rattle.dlms_capture.proofs.packet.after_extensions.Goals as goal

pub returns-then-not-is_extension : goal.returns-then-not-is_extension
returns-then-not-is_extension c = sym (ends _ _ _ (omega arith) (search arith)) ∙ c.loop.invariant

pub loop-preserved : goal.loop-preserved
loop-preserved c =
    let header = c.in-Some.header in
    sym (goes_on _ _ _ _ (header.0, header.1.now) (omega arith) (search arith) (search arith)) ∙ c.loop.invariant

pub returns-in_default : goal.returns-in_default
returns-in_default c = sym (fails _ _ _ (omega arith) (search arith) (search arith)) ∙ c.loop.invariant

pub returns : goal.returns
returns c = sym (none_left _ _ _ (omega arith)) ∙ c.loop.invariant
