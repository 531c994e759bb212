use Rattle.std.proofs.Common.{◌≡◌, ◌+◌, drop}
use Rattle.dlms_telegram.specs.Telegram.{count_fed, fed}
use Rattle.dlms_telegram.proofs.reader.TelegramReader.take_all.Given as goal

-- the octets from the index on are still to be taken
abbrev pub invariant-loop-i : goal.invariant-loop-i
invariant-loop-i l = record {
  kept : fed l.self (drop l.i l.octets) ≡ fed l.initial.self l.octets;
  count : l.i + count_fed l.self (drop l.i l.octets) ≡ count_fed l.initial.self l.octets;
}
