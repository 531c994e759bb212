use Rattle.std.proofs.Common.{ap, ◌∙◌, ◌++◌, List, ℕ}
use Rattle.dlms_checkpoint.specs.Checkpoint.{registers_bytes}
use Rattle.dlms_checkpoint.proofs.Joins.{joined_three}
use Rattle.dlms_checkpoint.proofs.fields.append_registers.Goals as goal

pub returns-clause-items : goal.returns-clause-items
unfolding registers_bytes
returns-clause-items g c = joined_three _ _ _ _ _ _ _
    (c.append.ensures.items ∙ ap (λ (l : List ℕ). c.args.bytes.now.items ++ l) c.to_be_bytes.ensures)
    (c.append-2.ensures.items ∙ ap (λ (l : List ℕ). c.append.new.bytes.items ++ l) c.to_be_bytes-2.ensures)
    (c.append-3.ensures.items ∙ ap (λ (l : List ℕ). c.append-2.new.bytes.items ++ l) c.to_be_bytes-3.ensures)
