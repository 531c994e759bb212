use Rattle.std.proofs.Common.{subst, sym, ◌≡◌, List, None}
use Rattle.dlms_headend.specs.declared.row.Row.{Row}
use Rattle.dlms_world.specs.Carrier.{Holds}
use Rattle.dlms_polling.specs.Risers.{risers}
use Rattle.dlms_polling.proofs.RiserLemmas.{files_some}
use Rattle.dlms_collecting.proofs.laws.what_is_collected_is_held.Goals as goal

pub returns : goal.returns
returns g c = λ route terms job poll asked asked' printed printed' errors errors' before files who m m' life delivers stands holds.
    let ends = c.a_poll_over_a_carrier.ensures who (record { carrier = poll.carrier; guard = None }) terms poll.calls job.poll poll.beside m m' life before poll.done delivers stands holds in
    let (same, text, spelled, gives) = files.files in (
      text,
      files.after,
      gives.0,
      spelled,
      subst (λ (rs : List Row). Holds m' rs) (sym same) (ends.merges (risers job.poll.talk.rows) (files_some job.poll.talk.rows)),
    )
