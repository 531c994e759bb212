use Rattle.std.proofs.Common.{◌≡◌, ◌+◌, drop}
use Rattle.dlms_listen.specs.Sender.{place_in}
use Rattle.dlms_listen.proofs.counters.place_of.Given as goal

abbrev pub invariant-loop-i : goal.invariant-loop-i
invariant-loop-i l = l.i + place_in l.title (drop l.i l.senders) ≡ place_in l.title l.senders
