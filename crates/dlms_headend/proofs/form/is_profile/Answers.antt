use Rattle.std.proofs.Common.{sym, refl}
use Rattle.dlms_headend.proofs.Forms.{profile_told}
use Rattle.dlms_headend.proofs.form.is_profile.Goals as goal

pub returns : goal.returns
returns c = profile_told c.args.bytes.now c.body.result.now c.are_rows.result (c.if-not-is_value.ensures.0 refl) (sym c.if-not-begins.ensures) c.body.ensures c.are_rows.ensures
