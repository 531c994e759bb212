use Rattle.std.proofs.Common.{◌≡◌, take}
use Rattle.dlms_polling.proofs.RiserLemmas.{IsLatest}
use Rattle.dlms_polling.specs.Risers.{risers}
use Rattle.dlms_polling.proofs.rising.risers.Given as goal

abbrev pub invariant-loop-row : goal.invariant-loop-row
invariant-loop-row l = record {
  kept : l.kept.items ≡ risers (take l.row-index l.rows);
  latest : IsLatest l.latest (take l.row-index l.rows);
}
