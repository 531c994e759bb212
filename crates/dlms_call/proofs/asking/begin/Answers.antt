use Rattle.dlms_ends.proofs.MomentLemmas.{adds_none}
use Rattle.dlms_call.specs.Asking.FailsToOpen.{HasNoRoom, IsNotOpened}
use Rattle.dlms_call.proofs.asking.begin.Goals as goal

pub returns-in-Err-clause-fails : goal.returns-in-Err-clause-fails
returns-in-Err-clause-fails g c = HasNoRoom c.in-Err.ensures.fails (adds_none _)

pub returns-in-Err-open-clause-fails : goal.returns-in-Err-open-clause-fails
returns-in-Err-open-clause-fails g c = IsNotOpened c.open.new.head (record {
  first = c.in-Ok.head;
  mid = c.begin.new.self;
  fresh = c.in-Ok.ensures.is_new;
  begins = c.begin.ensures.begins;
  left = c.begin.ensures.left;
  goes = c.in-Err-open.ensures;
})
