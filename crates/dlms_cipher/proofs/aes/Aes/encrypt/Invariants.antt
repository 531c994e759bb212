use Rattle.std.proofs.Common.{◌≡◌, ◌-◌}
use Rattle.dlms_cipher.specs.Aes.{state_after}
use Rattle.dlms_cipher.specs.Columns.{octets_of}
use Rattle.dlms_cipher.proofs.aes.Aes.encrypt.Given as goal

-- the state after the rounds so far
abbrev pub invariant-loop-i : goal.invariant-loop-i
invariant-loop-i l = octets_of l.state ≡ state_after l.self.key (octets_of l.fn.block) (l.i - 1)
