use Rattle.std.proofs.Common.{refl}
use Rattle.dlms_meter.specs.Run.{first_world}
use Rattle.dlms_loopback.specs.Stops.MakesNone.{NotFormatted, NotTaken}
use Rattle.dlms_loopback.proofs.StopLemmas.{no_pages}
use Rattle.dlms_loopback.proofs.rounds.new_meter.Goals as goal

pub returns-in_err-pages : goal.returns-in_err-pages
returns-in_err-pages c = no_pages _ _ c.from_residual.result c.from_residual.ensures.1

pub returns-in-Err : goal.returns-in-Err
returns-in-Err c = NotFormatted c.in-Err.fault refl

pub returns-in-Ok-start : goal.returns-in-Ok-start
returns-in-Ok-start c =
    let took = c.in-Ok-start.ensures first_world c.in-Ok.ensures.stands in
    record { store = took.store; stands = took.stands; accepted = took.accepted; fits = took.fits (c.in-Ok.ensures.fits refl) }

pub returns-in-Err-start : goal.returns-in-Err-start
returns-in-Err-start c = (let (why, tells, part) = c.in-Err-start.ensures in NotTaken why tells c.in-Ok.meter c.start.new.meter c.in-Ok.ensures.stands part)
