use Rattle.std.proofs.Common.{◌≡◌, ℕ, ◌<◌, get_or}
use Rattle.dlms_cipher.proofs.gcm.same_tag.Given as goal

-- the difference so far is 0 exactly if the octets so far are equal
abbrev pub invariant-loop-i : goal.invariant-loop-i
invariant-loop-i l = record {
  none : l.difference ≡ 0 → (k : ℕ) → k < l.i → get_or l.left k 0 ≡ get_or l.right k 0;
  some : l.left ≡ l.right → l.difference ≡ 0;
}
