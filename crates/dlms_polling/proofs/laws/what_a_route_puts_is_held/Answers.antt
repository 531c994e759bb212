use Rattle.std.proofs.Common.{ap, sym, subst, ◌≡◌, ◌∙◌, List, None}
use Rattle.dlms_headend.specs.Merged.{merged}
use Rattle.dlms_headend.specs.declared.row.Row.{Row}
use Rattle.dlms_world.specs.Carrier.{EndsOnCarrier, Holds, plan_of, served_to}
use Rattle.dlms_polling.specs.Risers.{risers}
use Rattle.dlms_polling.specs.Ways.{rows_of}
use Rattle.dlms_polling.specs.declared.way.DonePoll.{DonePoll}
use Rattle.dlms_polling.proofs.RiserLemmas.{files_some}
use Rattle.dlms_polling.proofs.laws.what_a_route_puts_is_held.Goals as goal

pub returns : goal.returns
returns g c = λ polling before after is route terms end routed poll who m m' life delivers stands holds.
    let ends = c.a_poll_over_a_carrier.ensures who (record { carrier = poll.carrier; guard = None }) terms poll.calls end.poll poll.beside m m' life is.rows poll.done delivers stands holds in
    let (same, text, spelled, gives) = is.files.files in
    let rows : rows_of is.done ≡ end.poll.talk.rows = ap (λ (d : DonePoll). rows_of d) routed in
    let whole = same ∙ ap (λ (rs : List Row). merged is.rows (risers rs)) rows in (
      subst (λ (rs : List Row). EndsOnCarrier (plan_of who terms) (served_to who m m' life) is.rows rs m') (sym rows) ends,
      text,
      is.files.after,
      gives.0,
      spelled,
      subst (λ (rs : List Row). Holds m' rs) (sym whole) (ends.merges (risers end.poll.talk.rows) (files_some end.poll.talk.rows)),
    )
