use Rattle.std.proofs.Common.{rules}
use Rattle.dlms_data.specs.View.{value_of}
use Rattle.dlms_service.proofs.Values.{read_whole}
use Rattle.dlms_service.proofs.planning.value_in.Goals as goal

-- what was read is the value whose spelling the bytes are
pub returns-in-Ok-clause-found : goal.returns-in-Ok-clause-found
returns-in-Ok-clause-found g c =
    read_whole c.args.bytes.now (value_of c.in-Ok.value) c.in-Ok.field-0-1 (c.is_value.ensures.0 (search rules)) c.in-Ok.ensures.only
