-- The steps of a meter that serves a serial line, one turn after another. The line has one other end, which neither comes nor goes,
-- so the time-out of class IEC HDLC setup (Blue Book 4.7.2) ends links, and not the line.
use Rattle.std.specs.Prelude.{◌≡◌, ◌⊎◌, ◌+◌, ◌-◌, ◌^◌, ℕ, List, [], ◌∷◌, Option, Some, None, Result, Ok, Err, if◌then◌else◌}
use Rattle.std.specs.IoError.{error_kind}
use Rattle.std.specs.declared.io.Error.{Error}
use Rattle.std.specs.declared.io.ErrorKind.TheVariants.{TimedOut, UnexpectedEof, WouldBlock}
use Rattle.dlms_ends.specs.Faults.{IsOfSystem}
use Rattle.dlms_ends.specs.declared.fault.RunFault.{RunFault}
use Rattle.dlms_meter.specs.declared.meter.Meter.{Meter}
use Rattle.dlms_pages.specs.declared.device.Pages.{Ghosts}
use Rattle.dlms_serving.specs.Connection.{Connection, Log, Timed, timed}
use Rattle.dlms_lines.specs.Faults.{IsOther, IsSystemAt}
use Rattle.dlms_serving.specs.HangingUp.{HangsUp}
use Rattle.dlms_serving.specs.Serving.{FollowsEvents, is_refused}
use Rattle.dlms_lines.specs.Watching.{Sight, Sees}
use Rattle.dlms_lines.specs.Watching.Sight.{Pauses}
use Rattle.dlms_lines.specs.declared.fault.FieldFault.{FieldFault}
use Rattle.dlms_serving.specs.declared.talking.Ending.{Ending}
use Rattle.dlms_serving.specs.declared.talking.Ending.TheVariants.{BadMessage, Closed, Over, Failed}
use Rattle.dlms_serving.specs.declared.talking.Rules.{Rules}
use Rattle.dlms_serving.specs.declared.ticks.Ticks.{Ticks}

-- ---- one turn

-- what was to go out was not taken in time, and the line is there all the same
abbrev pub IsSlow : Error → Type 0
IsSlow error = (error_kind error ≡ TimedOut) ⊎ (error_kind error ≡ WouldBlock)

-- The report on the line after a turn: nothing if the turn was over, or a reply was not taken in time; otherwise that it is gone,
-- with the system's error, or with this one if nothing more can come.
abbrev pub TellsGone : List ℕ → Ending → Option FieldFault → Type 0
TellsGone device (Over why) None = Unit {0}
TellsGone device (Over why) (Some given) = ⊥
TellsGone device BadMessage None = Unit {0}
TellsGone device BadMessage (Some given) = ⊥
TellsGone device Closed None = ⊥
TellsGone device Closed (Some given) = (error : Error) × (error_kind error ≡ UnexpectedEof)
    × IsSystemAt device error given
TellsGone device (Failed error) None = IsSlow error
TellsGone device (Failed error) (Some given) = (IsSlow error → ⊥) × IsSystemAt device error given

-- where association requests were refused too often a while goes by
abbrev pub rests : Ending → List Sight
rests ending = if is_refused ending then (Pauses ∷ []) else []

-- The links of all clients end, the line is talked over until the turn is over, and they end again; then the line is there, or it is gone.
-- Or the clock or the store failed.
pub data ServesTurn {P A : Type 0} {ghosts : Ghosts P} (device : List ℕ) (rules : Rules)
    (old new : Log) (s : Timed P A ghosts) : Result (Unit {0}) FieldFault → Timed P A ghosts
    → Type 0 where
  Lasts : (now : Option (List Sight)) (begun after : Meter P A ghosts) (ended : Timed P A ghosts)
      (ending : Ending) → HangsUp s.meter begun
      → Connection rules old (record new { sights = now }) (record s { meter = begun }) (Ok ending)
      ended → HangsUp ended.meter after
      → TellsGone device ending None → Sees now new.sights (rests ending)
      → ServesTurn device rules old new s (Ok tt) (record ended { meter = after })
  LineGone : (begun after : Meter P A ghosts) (ended : Timed P A ghosts) (ending : Ending)
      (given : FieldFault) → HangsUp s.meter begun
      → Connection rules old new (record s { meter = begun }) (Ok ending) ended
      → HangsUp ended.meter after → TellsGone device ending (Some given)
      → ServesTurn device rules old new s (Err given) (record ended { meter = after })
  MeterFails : (begun : Meter P A ghosts) (after : Timed P A ghosts) (fault : RunFault)
      (given : FieldFault) → HangsUp s.meter begun
      → Connection rules old new (record s { meter = begun }) (Err fault) after
      → IsOther given fault
      → ServesTurn device rules old new s (Err given) after

-- ---- all of them

-- so many went well, one after another
pub data ServesTurns {P A : Type 0} {ghosts : Ghosts P} (device : List ℕ) (rules : Rules)
    (old : Log) (s : Timed P A ghosts) : ℕ → Log → Timed P A ghosts → Type 0 where
  Begun : ServesTurns device rules old s 0 old s
  Then : (count : ℕ) (mid new : Log) (begun after : Timed P A ghosts)
      → ServesTurns device rules old s count mid begun
      → ServesTurn device rules mid new begun (Ok tt) after
      → ServesTurns device rules old s (count + 1) new after

-- the one after them failed
pub record TurnsUntil {P A : Type 0} {ghosts : Ghosts P} (device : List ℕ) (rules : Rules)
    (old new : Log) (s : Timed P A ghosts) (fault : FieldFault) (after : Timed P A ghosts) : Type 0
  where
    pub count : ℕ
    pub mid : Log
    pub last : Timed P A ghosts
    pub turns : ServesTurns device rules old s count mid last
    pub ends : ServesTurn device rules mid new last (Err fault) after

abbrev pub AllTurns : {P A T : Type 0} → {ghosts : Ghosts P} → List ℕ → Rules → Log → Log
    → Timed P A ghosts → Result T FieldFault → Timed P A ghosts → Type 0
AllTurns device rules old new s (Ok done) after =
    ServesTurns device rules old s (2 ^ 64 - 1) new after
AllTurns device rules old new s (Err fault) after = TurnsUntil device rules old new s fault after

-- A meter is served from the moment after its events on, no second of the clock being told yet; or the clock, the device or the output failed
-- before anything of it was.
pub data ServesLine {P A : Type 0} {ghosts : Ghosts P} (device : List ℕ) (rules : Rules) (load : ℕ)
    (meter : Meter P A ghosts) : Result (Unit {0}) FieldFault → Meter P A ghosts → Type 0 where
  NotBegun : (given : FieldFault)
      → ((fault : RunFault) × IsOther given fault × IsOfSystem fault)
      ⊎ ((error : Error) × IsSystemAt device error given)
      → ServesLine device rules load meter (Err given) meter
  HasServed : (old new : Log) (ticks : Ticks) (result : Result (Unit {0}) FieldFault)
      (after : Timed P A ghosts) → FollowsEvents meter ticks.first → ticks.told ≡ 0
      → ticks.watts ≡ load → AllTurns device rules old new (timed meter ticks) result after
      → ServesLine device rules load meter result after.meter
