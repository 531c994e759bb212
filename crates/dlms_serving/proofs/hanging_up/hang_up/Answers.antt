use Rattle.std.proofs.Common.{[], ◌∷◌, ◌++◌, refl}
use Rattle.dlms_serving.proofs.HangingUp.{all_ended, calls_append}
use Rattle.dlms_serving.proofs.hanging_up.hang_up.Goals as goal
use Rattle.dlms_meter.specs.Run.{silent}
use Rattle.dlms_meter.specs.Steps.{Idled}

pub returns-clause-hangs_up : goal.returns-clause-hangs_up
returns-clause-hangs_up g c = λ w stands own.
    let one = c.end_link.ensures.ends w stands own in
    let two = c.end_link-2.ensures.ends one.0 one.1 one.2.own in
    let three = c.end_link-3.ensures.ends two.0 two.1 two.2.own in
    (silent three.0, c.idle.ensures.run three.0 three.1, all_ended w one.0 two.0 three.0 one.2 two.2 three.2)

pub returns-clause-calls : goal.returns-clause-calls
returns-clause-calls g c =
    let one = c.end_link.ensures.calls in
    let two = c.end_link-2.ensures.calls in
    let three = c.end_link-3.ensures.calls in
    let third = calls_append three.0 (Idled ∷ []) c.end_link-2.new.meter c.end_link-3.new.meter c.idle.new.self three.1 (c.idle.new.self, (c.idle.ensures.run, c.idle.ensures.store), refl) in
    let second = calls_append two.0 (three.0 ++ Idled ∷ []) c.end_link.new.meter c.end_link-2.new.meter c.idle.new.self two.1 third in
    (one.0 ++ (two.0 ++ (three.0 ++ Idled ∷ [])), calls_append one.0 (two.0 ++ (three.0 ++ Idled ∷ [])) c.args.meter.now c.end_link.new.meter c.idle.new.self one.1 second)
