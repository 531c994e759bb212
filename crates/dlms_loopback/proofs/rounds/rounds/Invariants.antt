use Rattle.std.proofs.Common.{◌+◌}
use Rattle.dlms_loopback.specs.Rounds.{Seen}
use Rattle.dlms_loopback.specs.declared.rounds.TheConstants.{SECRET}
use Rattle.dlms_loopback.proofs.RoundLemmas.{Going}
use Rattle.dlms_loopback.proofs.rounds.rounds.Given as goal

abbrev pub invariant-stops : goal.invariant-stops
invariant-stops g l =
    let seen : Seen = record { head = g.S.End.past l.fn.line.head; tail = g.S.End.past l.fn.line.tail; asked = g.F.Filing.asked l.fn.place } in
    let now : Seen = record { head = g.S.End.past l.line.head; tail = g.S.End.past l.line.tail; asked = g.F.Filing.asked l.place } in
    Going l.fn.meter SECRET.now seen l.fn.readings l.fn.told (l.round + 1) now l.readings l.told l.meter
