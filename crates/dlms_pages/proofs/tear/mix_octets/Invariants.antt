use Rattle.dlms_pages.specs.Slots.{IsMix}
use Rattle.dlms_pages.proofs.tear.mix_octets.Given as goal

abbrev pub invariant-loop-place : goal.invariant-loop-place
invariant-loop-place l = IsMix l.old l.new l.mix
