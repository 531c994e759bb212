-- A use of a value of the type `Keys`.
use Rattle.std.specs.Prelude.{ℕ, List}
use Rattle.dlms_cipher.specs.declared.keys.Keys.{Keys}
use Rattle.dlms_cipher.specs.Keys.{encryption_key, authentication_key}
use Rattle.dlms_security.specs.Body.{Use}

abbrev pub use_of : Keys → List ℕ → ℕ → Use
use_of keys title counter = record { encryption = encryption_key keys; authentication = authentication_key keys; title = title; counter = counter }
