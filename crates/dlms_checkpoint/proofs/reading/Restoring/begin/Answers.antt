use Rattle.std.proofs.Common.{◌≡◌, ◌∙◌, ◌++◌, ◌≤◌, None, List, ℕ, ap, sym, subst, length, arith}
use Rattle.dlms_checkpoint.specs.Bodies.{first_fault}
use Rattle.dlms_checkpoint.specs.Layouts.{as_present}
use Rattle.dlms_checkpoint.specs.Reading.{HasHead}
use Rattle.dlms_checkpoint.proofs.Bodies.{first_has_head, is_first}
use Rattle.dlms_checkpoint.proofs.reading.Restoring.begin.Goals as goal

pub append-requires : goal.append-requires
append-requires c =
    let none : first_fault c.args.version c.args.body.now ≡ None = sym c.fault_of.ensures ∙ c.in_default.is in
    let short : length c.args.body.now ≤ 496 = omega (arith, (is_first c.args.version c.args.body.now none).same) in
    (omega arith, omega (arith, short, ap length c.new-bytes.ensures))

pub invariant_of-result : goal.invariant_of-result
invariant_of-result c =
    let none : first_fault c.args.version c.args.body.now ≡ None = sym c.fault_of.ensures ∙ c.in_default.is in
    subst (λ (l : List ℕ). HasHead (as_present c.args.version l)) (sym (c.append.ensures.items ∙ ap (λ (l : List ℕ). l ++ c.args.body.now) c.new-bytes.ensures))
    (first_has_head c.args.version c.args.body.now none)
