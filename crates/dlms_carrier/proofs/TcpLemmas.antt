-- What one call of the carrier over TCP does.
use Rattle.std.proofs.Common.{ℕ, []}
use Rattle.dlms_wrapper.specs.Stream.{IsRefused}

-- before any octet no header is refused
pub none_is_refused : (limit : ℕ) → IsRefused limit [] → ⊥
none_is_refused limit refused = let clash = refused.begins.text in cc
