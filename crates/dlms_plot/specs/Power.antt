-- The power between two captures.
use Rattle.std.specs.Prelude.{ℕ, ◌-◌, ◌*◌, ◌/◌, ◌&&◌, Bool, Option, Some, None, if◌then◌else◌, nat_lt, nat_le}
use Rattle.dlms_plot.specs.declared.captures.Sample.{Sample}
use Rattle.dlms_plot.specs.declared.captures.Period.{Period}

-- what the register counted between them, over the hours between them, rounded down
abbrev pub power_of : Sample → Sample → ℕ
power_of before after = (after.value - before.value) * 3600 / (after.clock - before.clock)

-- the clock went on, and the register did not go back
abbrev pub goes_on : Sample → Sample → Bool
goes_on before after = nat_lt before.clock after.clock && nat_le before.value after.value

-- the period from one capture to the other
abbrev pub period_of : Sample → Sample → Option Period
period_of before after =
    if goes_on before after then Some (record {
      from = before.clock;
      to = after.clock;
      power = power_of before after;
    }) else None
