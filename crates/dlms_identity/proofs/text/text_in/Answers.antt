use Rattle.std.proofs.Common.{rules}
use Rattle.dlms_data.specs.View.{value_of}
use Rattle.dlms_identity.proofs.Lemmas.{read_text}
use Rattle.dlms_identity.proofs.text.text_in.Goals as goal

pub returns-in-Ok-clause-text : goal.returns-in-Ok-clause-text
returns-in-Ok-clause-text c =
    read_text c.args.encoding.now (value_of c.in-Ok.value) c.in-Ok.field-0-1 c.octets_of.result (c.is_value.ensures.0 (search rules)) c.in-Ok.ensures.only c.octets_of.ensures
