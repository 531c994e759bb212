use Rattle.std.proofs.Common.{option_map, refl, List, Err, subst}
use Rattle.dlms_headend.specs.declared.row.Row.{Row}
use Rattle.dlms_polling.specs.Polled.{IsAhead, JudgesFiled, NoDate, NotHeld, NotOpened, readings_of}
use Rattle.dlms_polling.proofs.polling.prepare_poll.Goals as goal

pub returns-in-Err-hold_file-clause-fails : goal.returns-in-Err-hold_file-clause-fails
returns-in-Err-hold_file-clause-fails g c = NotHeld (option_map (λ s. s.items) c.in-Ok.secret) c.in-Ok.ensures.found c.in-Err-hold_file.ensures

pub returns-in-Err-open_readings-clause-fails : goal.returns-in-Err-open_readings-clause-fails
returns-in-Err-open_readings-clause-fails g c = NotOpened (option_map (λ s. s.items) c.in-Ok.secret) (g.F.Filing.asked c.hold_file.new.place) c.in-Ok.ensures.found c.in-Ok-hold_file.ensures c.in-Err-open_readings.ensures

pub returns-in-Err-limit-clause-fails : goal.returns-in-Err-limit-clause-fails
returns-in-Err-limit-clause-fails g c =
    NoDate (option_map (λ s. s.items) c.in-Ok.secret) c.in-Ok-open_readings.readings (g.D.Timer.seen c.secret_to_send.new.inputs) (g.F.Filing.asked c.hold_file.new.place) c.in-Err-limit.fault c.in-Ok.ensures.found c.in-Ok-hold_file.ensures c.in-Ok-open_readings.ensures c.in-Err-limit.ensures refl

pub returns-in-Err-judge_filed-clause-fails : goal.returns-in-Err-judge_filed-clause-fails
returns-in-Err-judge_filed-clause-fails g c =
    IsAhead (option_map (λ s. s.items) c.in-Ok.secret) c.in-Ok-open_readings.readings c.in-Ok-limit.limit
    (record { mid = g.D.Timer.seen c.secret_to_send.new.inputs; held = g.F.Filing.asked c.hold_file.new.place; finds = c.in-Ok.ensures.found; holds = c.in-Ok-hold_file.ensures; opens = c.in-Ok-open_readings.ensures; limits = c.in-Ok-limit.ensures })
    (subst (λ (rows : List Row). JudgesFiled {T = Unit {0}} (readings_of c.args.polling.now) c.in-Ok-limit.limit rows (Err c.in-Err-judge_filed.fault)) c.rows.ensures c.in-Err-judge_filed.ensures)
