use Rattle.dlms_serving.specs.Telling.{GoesOn, Told}
use Rattle.dlms_serving.proofs.telling.look.Given as goal

abbrev pub invariant-loop-told : goal.invariant-loop-told
invariant-loop-told g l = record {
  told : Told l._told l.fn.ticks l.fn.meter l.last l.ticks l.meter;
  goes : GoesOn l.last;
}
