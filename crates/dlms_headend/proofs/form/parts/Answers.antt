use Rattle.std.proofs.Common.{sym}
use Rattle.dlms_headend.specs.Form.{IsFour}
use Rattle.dlms_headend.proofs.Forms.{parts_found}
use Rattle.dlms_headend.proofs.form.parts.Goals as goal

pub returns : goal.returns
returns c = λ v h.
    parts_found v c.args.bytes.now c.body.result.now _ c.four.result (λ w x. IsFour w x.0.now x.1.now x.2.now x.3.now) h (sym c.if-not-begins.ensures) c.body.ensures c.four.ensures
