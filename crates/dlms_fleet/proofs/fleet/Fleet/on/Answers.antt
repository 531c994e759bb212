use Rattle.std.proofs.Common.{◌≡◌, rules, ap, slice_set}
use Rattle.dlms_fleet.specs.Seats.{seat_of, with_seats}
use Rattle.dlms_fleet.proofs.fleet.Fleet.on.Goals as goal

pub returns : goal.returns
returns g c =
    let there : c.in-Some.seat.now ≡ seat_of c.self.inside.seats.items c.args.number = search rules in
    record {
      seat = c.seat_on.new.seat;
      own = rw (← c.self.view_is, ← there) c.seat_on.ensures;
      others = ap (λ f. with_seats f (slice_set f.seats c.args.number c.seat_on.new.seat)) c.self.view_is;
    }
