-- What identifies a key in a file: never the key itself.
use Rattle.std.specs.Prelude.{ℕ, List, ◌++◌, take}
use Rattle.sha2.specs.Sha256.{sha256}
use Rattle.dlms_counters.specs.declared.fingerprint.TheConstants.{LABEL}

-- the first 16 bytes of the SHA-256 of a label, the key and the own system title
abbrev pub fingerprint_of : List ℕ → List ℕ → List ℕ
fingerprint_of own key = take 16 (sha256 (LABEL ++ (key ++ own)))
