-- The two keys in a value of the type `Keys`: 16 octets each. Every contract states its result by them.
use Rattle.std.specs.Prelude.{ℕ, List}
use Rattle.dlms_cipher.specs.declared.keys.Keys.{Keys}

abbrev pub encryption_key : Keys → List ℕ
encryption_key keys = keys.encryption.cipher.key

abbrev pub authentication_key : Keys → List ℕ
authentication_key keys = keys.authentication
