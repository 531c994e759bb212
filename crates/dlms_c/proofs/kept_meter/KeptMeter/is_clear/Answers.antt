use Rattle.std.proofs.Common.{rules, ◌≡◌, length}
use Rattle.rtrb.specs.Ring.{known_items}
use Rattle.dlms_c.proofs.Refusals.{clear_is, lost_is, pages_is}
use Rattle.dlms_c.proofs.kept_meter.KeptMeter.is_clear.Goals as goal

pub returns-then-self-clause-code : goal.returns-then-self-clause-code
returns-then-self-clause-code c = lost_is c.args.self.now.is_lost (known_items c.args.self.now.relay) c.if-self.true

pub returns-then-is_empty-clause-code : goal.returns-then-is_empty-clause-code
returns-then-is_empty-clause-code c =
    let none : length (known_items c.is_empty.new.self) ≡ 0 = search rules in
    clear_is c.args.self.now.is_lost (known_items c.is_empty.new.self) c.if-self.false none

pub returns-else-is_empty-clause-code : goal.returns-else-is_empty-clause-code
returns-else-is_empty-clause-code c =
    let some : length (known_items c.is_empty.new.self) ≡ 0 → ⊥ = search rules in
    pages_is c.args.self.now.is_lost (known_items c.is_empty.new.self) c.if-self.false some
