-- The value that bytes are.
use Rattle.std.proofs.Common.{◌≡◌, sym, ap, ℕ, List, [], ◌++◌, length, Option, Some, None, option_map, option_copied, Bor, Result, Ok, Err}
use Rattle.std.proofs.lemmas.List.{append-nil}
use Rattle.dlms_axdr.specs.Reading.{Fault}
use Rattle.dlms_data.specs.Value.{Value, null}
use Rattle.dlms_data.specs.View.{value_of}
use Rattle.dlms_data.specs.declared.data.Data.{Data}
use Rattle.dlms_data.specs.Spelling.{IsSpelling}

abbrev value_at : Result (Value × ℕ) Fault → Value
value_at (Ok x) = x.0
value_at (Err e) = null

abbrev read_ok : Value → ℕ → Result (Value × ℕ) Fault
read_ok v n = Ok (v, n)

-- what is read of a whole spelling is the value that it spells
pub read_whole : (bytes : List ℕ) (w : Value) (n : ℕ) → ((v : Value) × IsSpelling bytes v)
    → ((v : Value) (text rest : List ℕ) → IsSpelling text v → bytes ≡ text ++ rest → Ok (v, length text) ≡ read_ok w n)
    → IsSpelling bytes w
read_whole bytes w n spelled only =
    let e : spelled.0 ≡ w = ap value_at (only spelled.0 bytes [] spelled.1 (sym (append-nil bytes))) in
    rw (sym e) spelled.1

-- a value after a reference is the value
pub behind_reference : {A : Type 0} (r : Option (Bor (Data A))) (o : Option (Data A)) → option_copied r ≡ o → option_map (λ v. value_of v.now) r ≡ option_map value_of o
behind_reference None o e = ap (option_map value_of) e
behind_reference (Some v) o e = ap (option_map value_of) e
