-- The seconds that a meter gets, one after another.
use Rattle.std.specs.Prelude.{◌≡◌, ◌+◌, List, [], ◌∷◌}
use Rattle.dlms_serving.specs.Load.{pulses_after}
use Rattle.dlms_serving.specs.declared.ticks.Ticks.{Ticks}
use Rattle.dlms_serving.specs.declared.ticks.Second.{Second}

-- the meter gets one more second: its running second, and the pulses that the load has made by then and not before
pub record IsNext (old : Ticks) (second : Second) (new : Ticks) : Type 0 where
  pub one : new.told ≡ old.told + 1
  pub moment : second.moment ≡ old.first + new.told
  pub pulses : pulses_after old.watts old.told + second.pulses ≡ pulses_after old.watts new.told
  pub first : new.first ≡ old.first
  pub watts : new.watts ≡ old.watts

-- these seconds were given, one after another
abbrev pub AreNext : Ticks → List Second → Ticks → Type 0
AreNext old [] new = new ≡ old
AreNext old (second ∷ seconds) new = (between : Ticks) × IsNext old second between
    × AreNext between seconds new
