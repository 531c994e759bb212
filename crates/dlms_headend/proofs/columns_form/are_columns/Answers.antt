use Rattle.std.proofs.Common.{sym, subst, List, ℕ}
use Rattle.dlms_headend.specs.Columns.{columns}
use Rattle.dlms_headend.specs.Form.{StandIn}
use Rattle.dlms_headend.proofs.ColumnForms.{whole_told}
use Rattle.dlms_headend.proofs.Forms.{not_array, array_in}
use Rattle.dlms_headend.proofs.columns_form.are_columns.Goals as goal

pub returns-then-not-begins : goal.returns-then-not-begins
returns-then-not-begins c = λ v h e. not_array v _ c.args.bytes.now h (sym c.if-not-begins.ensures) e

pub returns : goal.returns
returns c = λ v h.
    let a = array_in v c.args.bytes.now h (sym c.if-not-begins.ensures) in
    whole_told v columns a.0 c.are_four.result a.1 (c.are_four.ensures a.0 (subst (λ (b : List ℕ). StandIn b a.0) (sym c.body.ensures) a.2))
