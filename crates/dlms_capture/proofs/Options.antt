-- The first value of if_tsresol, option by option.
use Rattle.std.proofs.Common.{◌≡◌, ◌<◌, ◌+◌, ℕ, zero, suc, List, Some, None, refl, arith, add-one}
use Rattle.dlms_capture.specs.declared.interface.Endian.{Endian}
use Rattle.dlms_capture.specs.PcapngFormat.{option_at, options_in, resolution_in, resolution_by}

pub ends : (n : ℕ) (endian : Endian) (octets : List ℕ) → 0 < n → option_at endian octets ≡ None → resolution_by (options_in n endian octets) ≡ 6
unfolding options_in resolution_by
ends zero endian octets some none = absurd (omega arith)
ends (suc n) endian octets some none = rw none refl

pub finds : (n : ℕ) (endian : Endian) (octets : List ℕ) (o : ℕ × List ℕ × List ℕ) (r : ℕ) → 0 < n → option_at endian octets ≡ Some o → resolution_in (o.0, o.1) ≡ Some r
    → resolution_by (options_in n endian octets) ≡ r
unfolding options_in resolution_by
finds zero endian octets o r some is found = absurd (omega arith)
finds (suc n) endian octets o r some is found = rw (is, found) refl

pub goes_on : (n m : ℕ) (endian : Endian) (octets : List ℕ) (o : ℕ × List ℕ × List ℕ) → n ≡ m + 1 → option_at endian octets ≡ Some o → resolution_in (o.0, o.1) ≡ None
    → resolution_by (options_in n endian octets) ≡ resolution_by (options_in m endian o.2)
unfolding options_in resolution_by
goes_on n m endian octets o more is none = rw (more, add-one, is, none) refl

pub none_left : (n : ℕ) (endian : Endian) (octets : List ℕ) → n ≡ 0 → resolution_by (options_in n endian octets) ≡ 6
unfolding options_in resolution_by
none_left n endian octets none = rw none refl
