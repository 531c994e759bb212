use Rattle.std.specs.Prelude.{◌<◌, ℕ}
use Rattle.dlms_words.specs.Addresses.{EndsHost}
use Rattle.dlms_words.proofs.addresses.is_address.Given as goal

abbrev pub invariant-loop-at : goal.invariant-loop-at
invariant-loop-at l = (k : ℕ) → 0 < k → k < l.at → EndsHost l.text k → ⊥
