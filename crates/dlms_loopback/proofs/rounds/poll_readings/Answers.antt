use Rattle.std.proofs.Common.{refl}
use Rattle.std.specs.Prelude.{option_map}
use Rattle.dlms_loopback.specs.Rounds.{Seen}
use Rattle.dlms_loopback.specs.Rounds.LoopFails.{NoMeter, NotHeld, NotJoined}
use Rattle.dlms_loopback.specs.declared.rounds.TheConstants.{SECRET}
use Rattle.dlms_loopback.proofs.RoundLemmas.{begun_world, has_opened, has_polled, not_opened, rounds_fail}
use Rattle.dlms_loopback.proofs.rounds.poll_readings.Goals as goal

pub returns-in-Err-clause-fails : goal.returns-in-Err-clause-fails
returns-in-Err-clause-fails g c = NotHeld c.in-Err.ensures (refl, refl)

pub returns-in-Err-open_readings-clause-fails : goal.returns-in-Err-open_readings-clause-fails
returns-in-Err-open_readings-clause-fails g c = not_opened _ _ _ _ _ _ _ (g.F.Filing.asked c.hold_file.new.place) c.args.told.now c.hold_file.new.told c.open_readings.new.told c.in-Err-open_readings.fault c.in-Ok.ensures c.in-Err-open_readings.ensures (refl, refl)

pub returns-in-Err-new_meter-clause-fails : goal.returns-in-Err-new_meter-clause-fails
returns-in-Err-new_meter-clause-fails g c =
    let o = has_opened (option_map (λ x. x.now) c.args.file) (g.F.Filing.asked c.args.place.now) (g.F.Filing.asked c.hold_file.new.place) (g.F.Filing.asked c.open_readings.new.place) c.args.told.now c.hold_file.new.told c.open_readings.new.told c.in-Ok-open_readings.readings c.in-Ok.ensures c.in-Ok-open_readings.ensures in
    NoMeter c.in-Ok-open_readings.readings o.0 c.in-Err-new_meter.ensures (refl, refl) o.1

pub returns-in-Err-join_ends-clause-fails : goal.returns-in-Err-join_ends-clause-fails
returns-in-Err-join_ends-clause-fails g c =
    let o = has_opened (option_map (λ x. x.now) c.args.file) (g.F.Filing.asked c.args.place.now) (g.F.Filing.asked c.hold_file.new.place) (g.F.Filing.asked c.open_readings.new.place) c.args.told.now c.hold_file.new.told c.open_readings.new.told c.in-Ok-open_readings.readings c.in-Ok.ensures c.in-Ok-open_readings.ensures in
    NotJoined c.in-Ok-open_readings.readings o.0 c.in-Err-join_ends.ensures o.1

pub returns-in-Ok-rounds-clause-polled : goal.returns-in-Ok-rounds-clause-polled
returns-in-Ok-rounds-clause-polled g c =
    let o = has_opened (option_map (λ x. x.now) c.args.file) (g.F.Filing.asked c.args.place.now) (g.F.Filing.asked c.hold_file.new.place) (g.F.Filing.asked c.open_readings.new.place) c.args.told.now c.hold_file.new.told c.open_readings.new.told c.in-Ok-open_readings.readings c.in-Ok.ensures c.in-Ok-open_readings.ensures in
    let seen : Seen = record { head = g.S.End.past c.args.line.now.head; tail = g.S.End.past c.args.line.now.tail; asked = g.F.Filing.asked c.args.place.now } in
    let mid : Seen = record { head = g.S.End.past c.join_ends.new.line.head; tail = g.S.End.past c.join_ends.new.line.tail; asked = g.F.Filing.asked c.open_readings.new.place } in
    let new : Seen = record { head = g.S.End.past c.rounds.new.line.head; tail = g.S.End.past c.rounds.new.line.tail; asked = g.F.Filing.asked c.rounds.new.place } in
    has_polled _ _ _ SECRET.now c.args.stops seen mid new c.args.told.now c.open_readings.new.told c.rounds.new.told c.in-Ok-open_readings.readings c.rounds.new.readings c.in-Ok-new_meter.meter o c.in-Ok-new_meter.ensures
    c.in-Ok-join_ends.ensures
    (c.in-Ok-rounds.ensures _ (begun_world c.in-Ok-new_meter.meter c.in-Ok-new_meter.ensures))

pub returns-in-Err-rounds-clause-fails : goal.returns-in-Err-rounds-clause-fails
returns-in-Err-rounds-clause-fails g c =
    let o = has_opened (option_map (λ x. x.now) c.args.file) (g.F.Filing.asked c.args.place.now) (g.F.Filing.asked c.hold_file.new.place) (g.F.Filing.asked c.open_readings.new.place) c.args.told.now c.hold_file.new.told c.open_readings.new.told c.in-Ok-open_readings.readings c.in-Ok.ensures c.in-Ok-open_readings.ensures in
    let seen : Seen = record { head = g.S.End.past c.args.line.now.head; tail = g.S.End.past c.args.line.now.tail; asked = g.F.Filing.asked c.args.place.now } in
    let mid : Seen = record { head = g.S.End.past c.join_ends.new.line.head; tail = g.S.End.past c.join_ends.new.line.tail; asked = g.F.Filing.asked c.open_readings.new.place } in
    let new : Seen = record { head = g.S.End.past c.rounds.new.line.head; tail = g.S.End.past c.rounds.new.line.tail; asked = g.F.Filing.asked c.rounds.new.place } in
    rounds_fail _ _ _ SECRET.now c.args.stops seen mid new c.args.told.now c.open_readings.new.told c.rounds.new.told c.in-Ok-open_readings.readings c.rounds.new.readings c.in-Ok-new_meter.meter c.in-Err-rounds.why o c.in-Ok-new_meter.ensures c.in-Ok-join_ends.ensures
    (c.in-Err-rounds.ensures _ (begun_world c.in-Ok-new_meter.meter c.in-Ok-new_meter.ensures))
