use Rattle.std.proofs.Common.{inl, inr}
use Rattle.dlms_loopback.proofs.rounds.restart.Goals as goal

pub returns-in-Err : goal.returns-in-Err
returns-in-Err c = inl c.in-Err.ensures

pub returns-in-Ok-go_on : goal.returns-in-Ok-go_on
returns-in-Ok-go_on c = record { back = c.in-Ok.meter; comes = c.in-Ok.ensures; took = c.in-Ok-go_on.ensures }

pub returns-in-Err-go_on : goal.returns-in-Err-go_on
returns-in-Err-go_on c = (let (why, tells, part) = c.in-Err-go_on.ensures in inr (record { why = why; tells = tells; back = c.in-Ok.meter; after = c.go_on.new.meter; comes = c.in-Ok.ensures; takes = part }))
