-- A new poller while nothing is on the line, and the merge of a poll that is done.
use Rattle.std.proofs.Common.{◌≡◌, ◌∙◌, refl, sym, subst, append-nil, List}
use Rattle.dlms_headend.specs.Merged.{merged}
use Rattle.dlms_headend.specs.declared.row.Row.{Row}
use Rattle.dlms_headend.specs.declared.stage.Course.TheVariants.{Done}
use Rattle.dlms_world.specs.Turn.{TurnsTo, Merges, records_in, turned}
use Rattle.dlms_world.specs.PollTurns.{NewIsTurn, MergeIsTurn}
use Rattle.dlms_world.specs.Sublists.{IsSublist}
use Rattle.dlms_world.proofs.Records.{again}

pub new_is_turn : NewIsTurn
new_is_turn plan w up down = (
  turned w plan,
  TurnsTo w plan up down,
  record { plan = refl; course = refl; link = λ u. refl; rows = λ d. absurd (cc); fits = (refl, refl, refl) },
  sym (append-nil w.link.up_line),
  down,
  record { records = λ who. again (records_in w) plan.client who; memory = refl; file = refl },
)

pub merge_is_turn : MergeIsTurn
merge_is_turn w p kept is done some =
    let over : w.course ≡ Done = sym is.course ∙ done in
    let of_world : IsSublist kept w.rows = subst (λ (rows : List Row). IsSublist kept rows) (is.rows over) some in
    (record w { file = merged w.file kept }, Merges w kept over of_world, record { plan = is.plan; course = is.course; link = is.link; rows = is.rows; fits = is.fits }, refl)
