use Rattle.std.proofs.Common.{List, ℕ, subst}
use Rattle.dlms_headend.specs.declared.row.Row.{Row}
use Rattle.dlms_headend.specs.Rows.{IsEncoded}
use Rattle.dlms_headend.proofs.HeardLemmas.{wants_data, no_data, no_data_behind}
use Rattle.dlms_headend.proofs.read_get_answer.wanting.Goals as goal

pub returns-then-taken-ne0 : goal.returns-then-taken-ne0
returns-then-taken-ne0 c = λ joined invoke v read needs. no_data_behind invoke c.args.taken joined v c.if-taken-ne0.true

pub returns-then-is_profile : goal.returns-then-is_profile
returns-then-is_profile c = λ joined invoke v read needs.
    wants_data c.args.apdu.now invoke c.args.taken joined v read needs c.if-taken-ne0.false (subst (λ (bytes : List ℕ). (rows : List Row) × IsEncoded bytes rows) c.behind_head.ensures c.if-is_profile.ensures)

pub returns-else-is_profile : goal.returns-else-is_profile
returns-else-is_profile c = λ joined invoke v read needs.
    no_data c.args.apdu.now invoke c.args.taken joined v read (subst (λ (bytes : List ℕ). (rows : List Row) → IsEncoded bytes rows → ⊥) c.behind_head.ensures c.if-is_profile.ensures)
