-- Values made of other things: a second as an octet-string (IEC 62056-6-2, Blue Book 4.1.6, date-time).
use Rattle.std.specs.Prelude.{◌≡◌, ℕ, ◌<◌, ◌^◌, All, List}
use Rattle.dlms_data.specs.Value.{Value, octet_string}
use Rattle.dlms_data.specs.DateTime.{NamesSecond, IsPlainlyWritten}

-- an octet-string of the second's date-time, plainly written
pub record IsTime (second : ℕ) (v : Value) : Type 0 where
  pub octets : List ℕ
  pub bytes : All (λ octet. octet < 2 ^ 8) octets
  pub value : v ≡ octet_string octets
  pub names : NamesSecond octets second
  pub plainly : IsPlainlyWritten octets
