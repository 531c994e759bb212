-- The seconds that a meter gets.
use Rattle.std.proofs.Common.{◌≡◌, ℕ, ◌+◌, List, [], ◌∷◌, length, ap, arith}
use Rattle.std.specs.Prelude.{sum_by}
use Rattle.std.proofs.lemmas.List.Sums.{sum_by-cons}
use Rattle.dlms_serving.specs.Load.{pulses_after}
use Rattle.dlms_serving.specs.Ticks.{AreNext}
use Rattle.dlms_serving.specs.declared.ticks.Ticks.{Ticks}
use Rattle.dlms_serving.specs.declared.ticks.Second.{Second}

joined : (a b c p s : ℕ) → a + p ≡ b → b + s ≡ c → a + (p + s) ≡ c
joined a b c p s first then = omega arith

pub adds_up : (old new : Ticks) (seconds : List Second) → AreNext old seconds new → pulses_after old.watts old.told + sum_by (λ second. second.pulses) seconds ≡ pulses_after old.watts new.told
adds_up old new [] h = omega (arith, ap (λ (t : Ticks). pulses_after old.watts t.told) h)
adds_up old new (second ∷ seconds) h =
    let pulses : Second → ℕ = λ s. s.pulses in
    rw (sum_by-cons pulses second seconds) (joined (pulses_after old.watts old.told) (pulses_after old.watts h.0.told) (pulses_after old.watts new.told) second.pulses (sum_by pulses seconds)
    h.1.pulses (rw h.1.watts at (adds_up h.0 new seconds h.2)))

pub counts : (old new : Ticks) (seconds : List Second) → AreNext old seconds new → new.told ≡ old.told + length seconds
counts old new [] h = omega (arith, ap (λ (t : Ticks). t.told) h)
counts old new (second ∷ seconds) h = omega (arith, h.1.one, counts h.0 new seconds h.2)
