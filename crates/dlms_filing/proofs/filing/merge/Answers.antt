use Rattle.std.proofs.Common.{◌≡◌, ◌<◌, List, OnErr, OnOk, length, subst}
use Rattle.dlms_headend.specs.Merged.{added, merged}
use Rattle.dlms_headend.specs.declared.row.Row.{Row}
use Rattle.dlms_headend.proofs.Files.{all_readings}
use Rattle.dlms_filing.proofs.filing.merge.Goals as goal

pub returns : goal.returns
returns c = record {
  ok = subst (λ (given : List Row). OnOk c.merge.result (c.merge.new.self ≡ merged c.args.readings.now given)) (all_readings c.args.rows.now c.requires) c.merge.ensures.ok;
  err = c.merge.ensures.err;
  memory = subst (λ (given : List Row). OnErr c.merge.result (0 < length (added c.args.readings.now given))) (all_readings c.args.rows.now c.requires) c.merge.ensures.memory;
}
