-- Worlds that nobody tells apart: they differ in nothing but which of the accepted events are settled.
use Rattle.std.specs.Prelude.{◌≡◌}
use Rattle.dlms_meter.specs.Run.{MeterWorld, events_of}

pub record IsAlike (v w : MeterWorld) : Type 0 where
  pub stretch : v.stretch ≡ w.stretch
  pub place : v.place ≡ w.place
  pub records : v.records ≡ w.records
  pub events : events_of v ≡ events_of w
