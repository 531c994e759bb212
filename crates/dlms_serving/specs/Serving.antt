-- The steps of a meter that serves one connection after another.
use Rattle.std.specs.Prelude.{◌≡◌, ◌⊎◌, ◌+◌, ◌-◌, ◌^◌, ℕ, ℤ, pos, Bool, true, false, List, [], ◌∷◌, Option, Some, None, Result, Ok, Err, IsOk, MatchResult}
use Rattle.std.specs.IoError.{error_kind, raw_os_error}
use Rattle.std.specs.declared.io.Error.{Error}
use Rattle.std.specs.declared.io.ErrorKind.TheVariants.{WouldBlock, Interrupted, ConnectionAborted, ConnectionReset}
use Rattle.std.specs.declared.net.socket_addr.SocketAddr.{SocketAddr}
use Rattle.dlms_ends.specs.Faults.{IsOfSystem}
use Rattle.dlms_ends.specs.Moments.{Moment}
use Rattle.dlms_ends.specs.declared.fault.RunFault.{RunFault}
use Rattle.dlms_meter.specs.Run.{MeterWorld, Stands, events_of}
use Rattle.dlms_meter.specs.declared.meter.Meter.{Meter}
use Rattle.dlms_pages.specs.declared.device.Pages.{Ghosts}
use Rattle.dlms_state.specs.Events.{moment_after}
use Rattle.dlms_serving.specs.Connection.{Connection, Looked, LookFails, Timed, log, timed}
use Rattle.dlms_lines.specs.Faults.{IsOther}
use Rattle.dlms_serving.specs.HangingUp.{HangsUp}
use Rattle.dlms_lines.specs.Watching.{Sight, Sees}
use Rattle.dlms_lines.specs.Watching.Sight.{Second, Next, Prepares, Bars, Pauses}
use Rattle.dlms_lines.specs.declared.fault.FieldFault.{FieldFault}
use Rattle.dlms_lines.specs.declared.fault.FieldFault.TheVariants.{System}
use Rattle.dlms_serving.specs.declared.talking.Ending.{Ending}
use Rattle.dlms_serving.specs.declared.talking.Ending.TheVariants.{BadMessage, Closed, Over, Failed}
use Rattle.dlms_serving.specs.declared.talking.Rules.{Rules}
use Rattle.dlms_serving.specs.declared.ticks.Ticks.{Ticks}
use Rattle.dlms_serving.specs.declared.turns.Over.TheVariants.{Refused, Inactive, Idle, Long}

-- ---- one connection

-- It was made ready and talked with, or could not be made ready.
pub data Visits {P A : Type 0} {ghosts : Ghosts P} (rules : Rules)
    (seen seen' : Option (List Sight)) (s : Timed P A ghosts) : Result Ending RunFault
    → Timed P A ghosts → Type 0 where
  Unprepared : (error : Error) → Sees seen seen' (Prepares (Some error) ∷ [])
      → Visits rules seen seen' s (Ok (Failed error)) s
  Prepared : (now : Option (List Sight)) (old new : Option (List Moment))
      (result : Result Ending RunFault) (after : Timed P A ghosts)
      → Sees seen now (Prepares None ∷ [])
      → Connection rules (log old now) (log new seen') s result after
      → Visits rules seen seen' s result after

-- The watch hears of this address, whose association request was refused; the clock is looked at for that.
abbrev pub Bans : {T : Type 0} → SocketAddr → Option (List Sight) → Option (List Sight)
    → Result T RunFault → Type 0
Bans address seen seen' (Ok done) = (now : ℕ)
    × Sees seen seen' (Second (Some now) ∷ Bars address now ∷ [])
Bans address seen seen' (Err fault) = Sees seen seen' (Second None ∷ []) × IsOfSystem fault

-- so many association requests were refused that the turn was over
abbrev pub is_refused : Ending → Bool
is_refused (Over Refused) = true
is_refused (Over Inactive) = false
is_refused (Over Idle) = false
is_refused (Over Long) = false
is_refused Closed = false
is_refused BadMessage = false
is_refused (Failed error) = false

abbrev pub Closes : {T : Type 0} → SocketAddr → Ending → Option (List Sight) → Option (List Sight)
    → Result T RunFault → Type 0
Closes address ending seen seen' result = (is_refused ending ≡ true
    → Bans address seen seen' result)
    × (is_refused ending ≡ false → Sees seen seen' [] × IsOk result)

-- The links of all clients end, the connection from this address is talked with, and they end again; or the clock or the store failed in
-- between.
pub data ServesOne {P A : Type 0} {ghosts : Ghosts P} (rules : Rules) (address : SocketAddr)
    (seen seen' : Option (List Sight)) (s : Timed P A ghosts) : Result (Unit {0}) RunFault
    → Timed P A ghosts → Type 0 where
  Served : (now : Option (List Sight)) (begun after : Meter P A ghosts) (ended : Timed P A ghosts)
      (ending : Ending) (result : Result (Unit {0}) RunFault) → HangsUp s.meter begun
      → Visits rules seen now (record s { meter = begun }) (Ok ending) ended
      → HangsUp ended.meter after → Closes address ending now seen' result
      → ServesOne rules address seen seen' s result (record ended { meter = after })
  Stopped : (begun : Meter P A ghosts) (after : Timed P A ghosts) (fault : RunFault)
      → HangsUp s.meter begun
      → Visits rules seen seen' (record s { meter = begun }) (Err fault) after
      → ServesOne rules address seen seen' s (Err fault) after

-- ---- the next one

-- These errors of a port pass: that none waits, or that the connection which was to come is gone; and by their numbers of Linux those of
-- the connection that was to come, and want of files or memory (accept(2)).
abbrev pub PassesByNumber : Option ℤ → Type 0
PassesByNumber None = ⊥
PassesByNumber (Some number) =
    (number ≡ pos 71) ⊎ (number ≡ pos 92) ⊎ (number ≡ pos 95) ⊎ (number ≡ pos 100)
    ⊎ (number ≡ pos 101) ⊎ (number ≡ pos 64) ⊎ (number ≡ pos 112) ⊎ (number ≡ pos 113)
    ⊎ (number ≡ pos 1) ⊎ (number ≡ pos 23)
    ⊎ (number ≡ pos 24) ⊎ (number ≡ pos 105) ⊎ (number ≡ pos 12)

abbrev pub Passes : Error → Type 0
Passes error = (error_kind error ≡ WouldBlock) ⊎ (error_kind error ≡ Interrupted)
    ⊎ (error_kind error ≡ ConnectionAborted) ⊎ (error_kind error ≡ ConnectionReset)
    ⊎ PassesByNumber (raw_os_error error)

abbrev pub IsSystem : FieldFault → Error → Type 0
IsSystem (System place error) given = error ≡ given
IsSystem _ given = ⊥

abbrev pub TellsOther : {T : Type 0} → Result T RunFault → Result T FieldFault → Type 0
TellsOther (Ok done) result = IsOk result
TellsOther (Err fault) result = MatchResult result (λ _. ⊥) (λ given. IsOther given fault)

-- A look at the clock, and then the connection that has come is served; or none has, or an error passes. It ends if the clock, the
-- store or the port failed.
pub data ServesNext {P A : Type 0} {ghosts : Ghosts P} (rules : Rules)
    (seen seen' : Option (List Sight)) (s : Timed P A ghosts) : Result (Unit {0}) FieldFault
    → Timed P A ghosts → Type 0 where
  NoLook : (fault : RunFault) (given : FieldFault) (sights : List Sight) (after : Timed P A ghosts)
      → IsOther given fault → LookFails rules.tick s fault sights after → Sees seen seen' sights
      → ServesNext rules seen seen' s (Err given) after
  NoneCame : (now : ℕ) (after : Timed P A ghosts) → Looked rules.tick s now after
      → Sees seen seen' (Second (Some now) ∷ Next now (Ok None) ∷ [])
      → ServesNext rules seen seen' s (Ok tt) after
  OneCame : (now : ℕ) (address : SocketAddr) (mid : Option (List Sight))
      (begun after : Timed P A ghosts) (outcome : Result (Unit {0}) RunFault)
      (result : Result (Unit {0}) FieldFault) → Looked rules.tick s now begun
      → Sees seen mid (Second (Some now) ∷ Next now (Ok (Some address)) ∷ [])
      → ServesOne rules address mid seen' begun outcome after → TellsOther outcome result
      → ServesNext rules seen seen' s result after
  HasPassed : (now : ℕ) (error : Error) (after : Timed P A ghosts) → Looked rules.tick s now after
      → Passes error → Sees seen seen' (Second (Some now) ∷ Next now (Err error) ∷ Pauses ∷ [])
      → ServesNext rules seen seen' s (Ok tt) after
  PortFails : (now : ℕ) (error : Error) (given : FieldFault) (after : Timed P A ghosts)
      → Looked rules.tick s now after → (Passes error → ⊥) → IsSystem given error
      → Sees seen seen' (Second (Some now) ∷ Next now (Err error) ∷ [])
      → ServesNext rules seen seen' s (Err given) after

-- ---- all of them

-- so often went well, one after another
pub data ServesMany {P A : Type 0} {ghosts : Ghosts P} (rules : Rules) (seen : Option (List Sight))
    (s : Timed P A ghosts) : ℕ → Option (List Sight) → Timed P A ghosts → Type 0 where
  Begun : ServesMany rules seen s 0 seen s
  Then : (count : ℕ) (mid now : Option (List Sight)) (begun after : Timed P A ghosts)
      → ServesMany rules seen s count mid begun → ServesNext rules mid now begun (Ok tt) after
      → ServesMany rules seen s (count + 1) now after

-- the one after them failed
pub record ServesUntil {P A : Type 0} {ghosts : Ghosts P} (rules : Rules)
    (seen seen' : Option (List Sight)) (s : Timed P A ghosts) (fault : FieldFault)
    (after : Timed P A ghosts) : Type 0 where
  pub count : ℕ
  pub mid : Option (List Sight)
  pub last : Timed P A ghosts
  pub many : ServesMany rules seen s count mid last
  pub ends : ServesNext rules mid seen' last (Err fault) after

abbrev pub ServesAll : {P A T : Type 0} → {ghosts : Ghosts P} → Rules → Option (List Sight)
    → Option (List Sight) → Timed P A ghosts → Result T FieldFault → Timed P A ghosts → Type 0
ServesAll rules seen seen' s (Ok done) after = ServesMany rules seen s (2 ^ 64 - 1) seen' after
ServesAll rules seen seen' s (Err fault) after = ServesUntil rules seen seen' s fault after

-- this is the moment after the meter's events
abbrev pub FollowsEvents : {P A : Type 0} → {ghosts : Ghosts P} → Meter P A ghosts → ℕ → Type 0
FollowsEvents meter first = (w : MeterWorld) → Stands meter w → first ≡ moment_after (events_of w)

-- A meter is served from the moment after its events on, no second of the clock being told yet; or the clock, the port or the output failed
-- before anything of it was.
pub data Serves {P A : Type 0} {ghosts : Ghosts P} (rules : Rules) (load : ℕ)
    (meter : Meter P A ghosts) : Result (Unit {0}) FieldFault → Meter P A ghosts → Type 0 where
  NotBegun : (given : FieldFault)
      → ((fault : RunFault) × IsOther given fault × IsOfSystem fault)
      ⊎ ((error : Error) × IsSystem given error) → Serves rules load meter (Err given) meter
  HasServed : (seen seen' : Option (List Sight)) (ticks : Ticks)
      (result : Result (Unit {0}) FieldFault) (after : Timed P A ghosts)
      → FollowsEvents meter ticks.first → ticks.told ≡ 0 → ticks.watts ≡ load
      → ServesAll rules seen seen' (timed meter ticks) result after
      → Serves rules load meter result after.meter
