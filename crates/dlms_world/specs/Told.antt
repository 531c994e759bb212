-- What the answers to a poll report, however they were carried: the only fact that is needed about the services.
use Rattle.std.specs.Prelude.{◌≡◌, ℕ, true, List, [], ◌∷◌, ◌++◌, map, Contains}
use Rattle.dlms_headend.specs.Asking.{PlanValue, IsBufferRequest}
use Rattle.dlms_headend.specs.Poll.{Asks, HasReleased}
use Rattle.dlms_headend.specs.declared.row.Row.{Row}
use Rattle.dlms_meter.specs.Transfers.{Exchange, Asked, InTurn}
use Rattle.dlms_service.specs.Session.{SessionValue, fresh}
use Rattle.dlms_service.specs.Stake.{is_success}
use Rattle.dlms_headend.specs.declared.plan.Columns.TheVariants.{Asked as AsksColumns}
use Rattle.dlms_world.specs.Named.{IsNamed}
use Rattle.dlms_world.specs.World.{rows_asked}

-- a poll that had taken these answers asked the APDUs that were served, one after another, and took their answers
abbrev pub Talks : PlanValue → List (List ℕ) → List Exchange → List (List ℕ) → Type 0
Talks plan before served [] = Unit {0}
Talks plan before [] (apdu ∷ taken) = ⊥
Talks plan before (x ∷ served) (apdu ∷ taken) = Asks plan before x.apdu × (x.outcome.answer ≡ apdu)
    × Talks plan (before ++ apdu ∷ []) served taken

-- The rows are those that the buffer had when the GET was taken, between the plan's seconds; its answer is one of success or data.
-- For a poll that asks for the columns, they are stated, too.
pub record IsTold (plan : PlanValue) (served : List Exchange) (rows : List Row) : Type 0 where
  pub get : Exchange
  pub took : Contains served get
  pub asked : IsBufferRequest plan.after plan.until get.apdu
  pub success : is_success get.outcome.answer ≡ true
  pub are : rows ≡ rows_asked plan get.before
  pub names : plan.columns ≡ AsksColumns → IsNamed plan served rows

-- APDUs served in turn to a client that has just come up, whose answers are those of a whole poll, tell its rows.
abbrev pub AnswersTell : Type 0
AnswersTell =
    (plan : PlanValue) (served : List Exchange) (last : SessionValue) (taken : List (List ℕ))
    (rows : List Row) → InTurn (fresh plan.client) (map Asked served) last
    → Talks plan [] served taken → HasReleased plan.columns taken rows → IsTold plan served rows
