use Rattle.std.proofs.Common.{[], sym, append-nil}
use Rattle.dlms_text.proofs.ValueLemmas.{whole_read}
use Rattle.dlms_text.proofs.value.whole.Goals as goal

pub returns-in-Ok-clause-ok : goal.returns-in-Ok-clause-ok
returns-in-Ok-clause-ok g c =
    let spelled = c.is_value.ensures.0 c.if-not-is_value.false in
    whole_read c.args.bytes.now spelled.0 _ _ _ (c.in-Ok.ensures.only spelled.0 c.args.bytes.now [] spelled.1 (sym (append-nil c.args.bytes.now))) spelled.1
