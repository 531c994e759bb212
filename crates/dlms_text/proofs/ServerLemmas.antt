-- Addresses of two parts.
use Rattle.std.proofs.Common.{◌≡◌, ℕ, List, Bool, true}
use Rattle.dlms_frame.specs.declared.frame.Address.{Address}
use Rattle.dlms_frame.specs.declared.frame.Address.TheVariants.{One, Two, Four}
use Rattle.dlms_text.specs.Texts.{before, behind, has}
use Rattle.dlms_text.specs.Servers.{IsParts, IsServer}

pub parts_are_server : (wide : Bool) (text : List ℕ) (address : Address) → has 47 text ≡ true → IsParts wide (before 47 text) (behind 47 text) address → IsServer wide text address
parts_are_server wide text (One part) h p = absurd p
parts_are_server wide text (Two high low) h p = (h, p)
parts_are_server wide text (Four high low) h p = (h, p)

pub server_has_parts : (wide : Bool) (text : List ℕ) (address : Address) → has 47 text ≡ true → IsServer wide text address → IsParts wide (before 47 text) (behind 47 text) address
server_has_parts wide text (One part) h p = absurd (cc (h, p.1))
server_has_parts wide text (Two high low) h p = p.1
server_has_parts wide text (Four high low) h p = p.1
