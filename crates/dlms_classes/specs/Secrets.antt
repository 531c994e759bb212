-- The secret that each client knows.
use Rattle.std.specs.Prelude.{Option, Some, None}
use Rattle.dlms_frame.specs.declared.client.Client.{Client}
use Rattle.dlms_frame.specs.declared.client.Client.TheVariants.{Public, Management, Reader}
use Rattle.dlms_state.specs.declared.event.SecretOf.{SecretOf}
use Rattle.dlms_state.specs.declared.event.SecretOf.TheVariants as owner

-- a client's own secret, if it has one: a row for each client
abbrev pub secret_of : Client → Option SecretOf
secret_of Public = None
secret_of Management = Some owner.Management
secret_of Reader = Some owner.Reader
