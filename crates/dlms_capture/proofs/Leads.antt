-- Several steps over a file, none of which is a packet; facts at errors.
use Rattle.std.proofs.Common.{◌≡◌, suc, refl}
use Rattle.std.specs.Prelude.{Result, Ok, Err, OnErr}
use Rattle.dlms_capture.specs.Reading.{LeadsTo, Reading, passed_by, passes, step_of}

pub starts : (reading : Reading) → LeadsTo reading reading
unfolding passed_by
starts reading = record { steps = 0; leads = refl }

pub one_more : {old mid new : Reading} → LeadsTo old mid → step_of mid ≡ passes new → LeadsTo old new
unfolding passed_by
one_more before step = record { steps = suc before.steps; leads = rw (before.leads, step) refl }

-- what holds at either outcome holds at an error
pub on_err : {T E P : Type 0} (r : Result T E) → P → OnErr r P
on_err (Ok x) p = tt
on_err (Err e) p = p
