use Rattle.std.proofs.Common.{◌≡◌, ◌&&◌, drop}
use Rattle.std.specs.Str.{bytes_eq}
use Rattle.dlms_acse.proofs.judging.is_same.Given as goal

-- the result of the bytes so far, and the rest
abbrev pub invariant-loop-i : goal.invariant-loop-i
invariant-loop-i l = bytes_eq l.one l.other ≡ (l.same && bytes_eq (drop l.i l.one) (drop l.i l.other))
