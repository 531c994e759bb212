-- What can happen in the world, so that the laws of polls, and of those that are done, speak of something.
use Rattle.std.specs.Prelude.{◌≡◌, ℕ, nat_le, true, if◌then◌else◌, List, [], ◌∷◌, Option, Some, ◌&&◌}
use Rattle.dlms_classes.specs.Secrets.{secret_of}
use Rattle.dlms_data.specs.Building.{IsTime}
use Rattle.dlms_data.specs.Value.{Value}
use Rattle.dlms_frame.specs.declared.client.Client.{Client}
use Rattle.dlms_headend.specs.Asking.{PlanValue, first_second, last_second}
use Rattle.dlms_headend.specs.Merged.{merged}
use Rattle.dlms_headend.specs.declared.row.Row.{Row}
use Rattle.dlms_headend.specs.declared.stage.Course.TheVariants.{Ready, Running, Done}
use Rattle.dlms_link.specs.Client.{fresh_client}
use Rattle.dlms_meter.specs.Run.{events_in}
use Rattle.dlms_state.specs.Columns.{first_columns}
use Rattle.dlms_state.specs.Events.{columns_after, secret_after}
use Rattle.dlms_state.specs.declared.event.Event.{Event}
use Rattle.dlms_state.specs.declared.event.Event.TheVariants.{Moment}
use Rattle.dlms_state.specs.declared.event.SecretOf.{SecretOf}
use Rattle.dlms_world.specs.World.{World, first_world, rows_due}
use Rattle.dlms_world.specs.Turn.{Run, records_in}

-- a poll can begin: the meter takes its SNRM, and the link is this connection's
abbrev pub CanBegin : Type 0
CanBegin = (plan : PlanValue)
    → (w : World) × Run (first_world plan) w × (w.course ≡ Running) × (w.ours ≡ true)

-- ---- a poll can be done

-- the plan's client has a secret, and the plan has the one that the meter has for that client after these events
pub record KnowsSecret (plan : PlanValue) (E : List Event) : Type 0 where
  pub whose : SecretOf
  pub client : secret_of plan.client ≡ Some whose
  pub secret : plan.secret ≡ secret_after whose E

-- a poll by this plan is done with these rows, at a meter that holds these events
pub record IsDone (wanted : PlanValue) (E : List Event) (found : List Row) (w : World)
    : Type 0 where
  pub course : w.course ≡ Done
  pub plan : w.plan ≡ wanted
  pub events : events_in w.memory ≡ E
  pub rows : w.rows ≡ found

-- a quarter of an hour goes by in which nothing is counted, and at its end the meter captures a row
abbrev pub quarter : List Event
quarter = Moment 900 ∷ []

abbrev pub first_row : Row
first_row = record { clock = 900; registers = 0 ∷ 0 ∷ 0 ∷ [] }

-- that row, if it is between the seconds that are asked for
abbrev pub first_rows : (after until : Option ℕ) → List Row
first_rows after until =
    if nat_le (first_second after) 900 && nat_le 900 (last_second until) then first_row ∷ [] else []

-- From the first world of each plan that has its client's first secret, and asks for the columns or not: the meter captures that
-- row, the poll can be done with it, and the file has it after a merge.
abbrev pub CanBeDone : (after until : Option ℕ) → Type 0
CanBeDone after until =
    (plan : PlanValue) → KnowsSecret plan [] → plan.after ≡ after → plan.until ≡ until
    → (w : World) × Run (first_world plan) w × IsDone plan quarter (first_rows after until) w
    × (w.file ≡ first_rows after until)

-- each row's second has a date-time, as each second of the clock has (`seconds_have_times`)
abbrev pub HaveTimes : List Row → Type 0
HaveTimes [] = Unit {0}
HaveTimes (row ∷ rows) = ((time : Value) × IsTime row.clock time) × HaveTimes rows

-- a meter that holds these events has the poll's rows: the plan knows the secret, and its columns are the first ones
pub record HasAnswer (plan : PlanValue) (E : List Event) : Type 0 where
  pub knows : KnowsSecret plan E
  pub columns : columns_after E ≡ first_columns
  pub times : HaveTimes (rows_due plan E)

-- Wherever a run has come to, such a poll can be done, of the same client or of another, with all rows that are due, and they
-- are merged into the file: at a meter that still has all its events.
abbrev pub CanBeDoneAgain : (after until : Option ℕ) → Type 0
CanBeDoneAgain after until =
    (first plan : PlanValue) (w : World) → Run (first_world first) w → plan.after ≡ after
    → plan.until ≡ until → HasAnswer plan (events_in w.memory)
    → (now : World) × Run w now × IsDone plan (events_in w.memory)
    (rows_due plan (events_in w.memory)) now × (now.file ≡ merged w.file now.rows)

-- ---- a head end can stop

-- The head end was stopped: a new poll has not begun, on a new link with nothing on the line. The file, the meter's record of each
-- client, and its events are as they were.
pub record IsStopped (w : World) (next : PlanValue) (now : World) : Type 0 where
  pub course : now.course ≡ Ready
  pub plan : now.plan ≡ next
  pub link : now.link.client ≡ fresh_client next.client
  pub silent : (now.link.up_line ≡ []) × (now.link.down_line ≡ [])
  pub file : now.file ≡ w.file
  pub memory : now.memory ≡ w.memory
  pub records : (who : Client) → records_in now who ≡ records_in w who

-- it may be stopped at any moment, at any stage of its poll, and frames on the line are lost
abbrev pub CanStop : Type 0
CanStop = (plan : PlanValue) (w : World) → (now : World) × Run w now × IsStopped w plan now
