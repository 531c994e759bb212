use Rattle.std.proofs.Common.{◌≡◌, ℕ, ◌<◌, get_or, drop, true}
use Rattle.dlms_telegram.specs.Line.{is_digit, number_after}
use Rattle.dlms_telegram.proofs.numbers.digits.Given as goal

-- the digits up to the index are in the number
abbrev pub invariant-loop-octet : goal.invariant-loop-octet
invariant-loop-octet l = record {
  number : number_after l.number (drop l.octet-index l.text) ≡ number_after l.before l.text;
  digits : (k : ℕ) → k < l.octet-index → is_digit (get_or l.text k 0) ≡ true;
}
