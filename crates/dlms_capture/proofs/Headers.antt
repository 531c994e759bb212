-- Extension headers, one by one.
use Rattle.std.proofs.Common.{◌≡◌, ◌<◌, ◌+◌, ℕ, zero, suc, true, false, List, Some, None, refl, arith, add-one}
use Rattle.dlms_capture.specs.Packets.{after_extensions, extension_at, is_extension}

pub ends : (n protocol : ℕ) (octets : List ℕ) → 0 < n → is_extension protocol ≡ false → after_extensions n protocol octets ≡ Some (protocol, octets)
unfolding after_extensions
ends zero protocol octets some is = absurd (omega arith)
ends (suc n) protocol octets some is = rw is refl

pub fails : (n protocol : ℕ) (octets : List ℕ) → 0 < n → is_extension protocol ≡ true → extension_at octets ≡ None → after_extensions n protocol octets ≡ None
unfolding after_extensions
fails zero protocol octets some is none = absurd (omega arith)
fails (suc n) protocol octets some is none = rw (is, none) refl

pub goes_on : (n m protocol : ℕ) (octets : List ℕ) (header : ℕ × List ℕ) → n ≡ m + 1 → is_extension protocol ≡ true → extension_at octets ≡ Some header
    → after_extensions n protocol octets ≡ after_extensions m header.0 header.1
unfolding after_extensions
goes_on n m protocol octets header more is found = rw (more, add-one, is, found) refl

pub none_left : (n protocol : ℕ) (octets : List ℕ) → n ≡ 0 → after_extensions n protocol octets ≡ None
unfolding after_extensions
none_left n protocol octets none = rw none refl
