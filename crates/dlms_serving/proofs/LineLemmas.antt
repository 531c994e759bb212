-- A meter that serves a serial line.
use Rattle.std.proofs.Common.{sym, ◌∙◌, ◌≡◌, ℕ, Bool, List, [], ◌∷◌, Option, None, Ok, Err, subst}
use Rattle.std.specs.Prelude.{if◌then◌else◌}
use Rattle.dlms_ends.specs.Moments.{Moment}
use Rattle.dlms_meter.specs.declared.meter.Meter.{Meter}
use Rattle.dlms_pages.specs.declared.device.Pages.{Ghosts}
use Rattle.dlms_serving.specs.Connection.{Connection, log, timed}
use Rattle.dlms_serving.specs.HangingUp.{HangsUp}
use Rattle.dlms_serving.specs.Serving.{is_refused}
use Rattle.dlms_serving.specs.ServingLine.{AllTurns, Lasts, ServesTurn, ServesTurns, TellsGone, rests}
use Rattle.dlms_lines.specs.Watching.{Sight, Sees}
use Rattle.dlms_lines.specs.Watching.Sight.{Pauses}
use Rattle.dlms_lines.specs.declared.fault.FieldFault.{FieldFault}
use Rattle.dlms_serving.specs.declared.talking.Ending.{Ending}
use Rattle.dlms_serving.specs.declared.talking.Rules.{Rules}
use Rattle.dlms_serving.specs.declared.ticks.Ticks.{Ticks}

-- a while goes by, or none
pub rests_so : (old new : Option (List Sight)) (ending : Ending) (refused : Bool) → refused ≡ is_refused ending → Sees old new (if refused then (Pauses ∷ []) else []) → Sees old new (rests ending)
rests_so old new ending refused is sees = subst (λ (b : Bool). Sees old new (if b then (Pauses ∷ []) else [])) is sees

module _ {P A : Type 0} {ghosts : Ghosts P} where
  pub turn_lasts : (device : List ℕ) (rules : Rules) (o n : Option (List Moment)) (v w x y : Option (List Sight)) (a b d e : Meter P A ghosts) (ticks told ticks' : Ticks) (ending : Ending) → HangsUp a b
      → Connection rules (log o v) (log n w) (timed b ticks) (Ok ending) (timed d told) → HangsUp d e → TellsGone device ending None → ticks' ≡ told → x ≡ w → Sees x y (rests ending) → ServesTurn device rules (log o v) (log n y) (timed a ticks) (Ok tt) (timed e ticks')
  turn_lasts device rules o n v w x y a b d e ticks told ticks' ending first talks last tells same still rest =
      subst (λ (t : Ticks). ServesTurn device rules (log o v) (log n y) (timed a ticks) (Ok tt) (timed e t)) (sym same)
      (Lasts w b e (timed d told) ending first talks last tells (subst (λ (s : Option (List Sight)). Sees s y (rests ending)) still rest))

  pub turns_until : (device : List ℕ) (rules : Rules) (o m n : Option (List Moment)) (v w x : Option (List Sight)) (a b d : Meter P A ghosts) (ticks told ticks' : Ticks) (count : ℕ) (fault : FieldFault)
      → ServesTurns device rules (log o v) (timed a ticks) count (log m w) (timed b told) → ServesTurn device rules (log m w) (log n x) (timed b told) (Err fault) (timed d ticks') → AllTurns {T = Unit {0}} device rules (log o v) (log n x) (timed a ticks) (Err fault) (timed d ticks')
  turns_until device rules o m n v w x a b d ticks told ticks' count fault turns ends = record { count = count; mid = log m w; last = timed b told; turns = turns; ends = ends }
