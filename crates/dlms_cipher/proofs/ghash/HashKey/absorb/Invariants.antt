use Rattle.std.proofs.Common.{◌≡◌, ◌≤◌, ◌-◌, length, drop}
use Rattle.dlms_cipher.specs.Gcm.{ghash_from, blocks}
use Rattle.dlms_cipher.proofs.ghash.HashKey.absorb.Given as goal

-- the octets from `at` on are still to be hashed
abbrev pub invariant-loop-at : goal.invariant-loop-at
invariant-loop-at l = record { within : l.at ≤ length l.octets; same : ghash_from l.self.h l.sum (blocks (drop l.at l.octets)) ≡ ghash_from l.self.h l.start (blocks l.octets) }

abbrev pub decreases-loop-at : goal.decreases-loop-at
decreases-loop-at l = length l.octets - l.at
