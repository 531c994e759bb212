use Rattle.std.proofs.Common.{◌≡◌, ℕ, ◌≤◌, [], length, map, get_or}
use Rattle.dlms_cipher.specs.Aes.{round_key}
use Rattle.dlms_cipher.specs.Columns.{octets_of}
use Rattle.dlms_cipher.proofs.aes.Aes.new.Given as goal

-- the round keys of rounds 0 to i are filled in
abbrev pub invariant-loop-i : goal.invariant-loop-i
invariant-loop-i l = record { all : length l.round_keys ≡ 11; made : (k : ℕ) → k ≤ l.i → get_or (map octets_of l.round_keys) k [] ≡ round_key l.key k }
