use Rattle.std.proofs.Common.{rules, ◌≡◌, refl, Some}
use Rattle.dlms_fleet.proofs.fleet.seat_on.Goals as goal

pub returns-in-Nothing : goal.returns-in-Nothing
returns-in-Nothing g c =
    let stood : c.args.seat.now ≡ Some c.in-Some.running = search rules in
    rw stood (record { made = c.on.result; running = c.on.new.self; runs = c.on.ensures; keeps = rw c.in-Nothing.is (refl, refl) })

pub returns-in-Sends : goal.returns-in-Sends
returns-in-Sends g c =
    let stood : c.args.seat.now ≡ Some c.in-Some.running = search rules in
    rw stood (record { made = c.on.result; running = c.on.new.self; runs = c.on.ensures; keeps = rw c.in-Sends.is (refl, refl) })

pub returns-in-Ends : goal.returns-in-Ends
returns-in-Ends g c =
    let stood : c.args.seat.now ≡ Some c.in-Some.running = search rules in
    rw stood (record { made = c.on.result; running = c.on.new.self; runs = c.on.ensures; keeps = rw c.in-Ends.is (refl, search rules) })
