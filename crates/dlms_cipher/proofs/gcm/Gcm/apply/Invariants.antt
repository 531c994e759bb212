use Rattle.std.proofs.Common.{◌≡◌, ◌≤◌, ◌-◌, ◌++◌, length, take, drop}
use Rattle.dlms_cipher.specs.Gcm.{counter_blocks, ctr, block_count}
use Rattle.dlms_cipher.proofs.gcm.Gcm.apply.Given as goal

-- the octets before `at` are done, and the text from `at` on is still to be encrypted
abbrev pub invariant-loop-at : goal.invariant-loop-at
invariant-loop-at l = record {
  size : length l.text ≡ length l.initial.text;
  within : l.at ≤ length l.text;
  same : take l.at l.text ++ counter_blocks (block_count (length (drop l.at l.text))) l.self.cipher.key l.nonce l.counter (drop l.at l.text)
      ≡ ctr l.self.cipher.key l.nonce l.initial.text;
}

abbrev pub decreases-loop-at : goal.decreases-loop-at
decreases-loop-at l = length l.text - l.at
