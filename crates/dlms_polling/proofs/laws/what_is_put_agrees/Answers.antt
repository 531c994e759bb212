use Rattle.std.proofs.Common.{ap, sym, subst, ◌≡◌, ◌∙◌, List, ◌∷◌}
use Rattle.dlms_headend.specs.Merged.{merged}
use Rattle.dlms_headend.specs.PollRun.{Call}
use Rattle.dlms_headend.specs.PollRun.Call.{Next}
use Rattle.dlms_headend.specs.declared.row.Row.{Row}
use Rattle.dlms_ends.specs.Calling.{calls_of}
use Rattle.dlms_ends.proofs.PollLemmas.{polled_calls}
use Rattle.dlms_world.specs.Carrier.{Holds}
use Rattle.dlms_world.specs.Line.{DoAgree, Joins, turns_of}
use Rattle.dlms_polling.specs.Polled.{plan_after, secret_in}
use Rattle.dlms_polling.specs.Risers.{risers}
use Rattle.dlms_polling.specs.Ways.{rows_of}
use Rattle.dlms_polling.specs.declared.way.DonePoll.{DonePoll}
use Rattle.dlms_polling.proofs.RiserLemmas.{files_some}
use Rattle.dlms_polling.proofs.WayLemmas.{over_link}
use Rattle.dlms_polling.proofs.laws.what_is_put_agrees.Goals as goal

pub returns : goal.returns
returns g c = record {
  agrees = λ polling linked clear before after done m m' steps run stands stands' agree joins.
      let plan = plan_after polling.client (secret_in done.secret) done.rows polling.until in
      let link = over_link polling.is_protected polling.route clear linked polling.client done.secret done.rows polling.until _ _ _ _ _ _ _ done.done done.called.attempt.does in
      let polled = link.polled in
      let (w, now, brings, merges) =
      c.a_poll_over_a_line.ensures.polls plan (Next polled.called.frame ∷ calls_of polled.front) polled.frame link.poller m m' steps run done.rows stands stands' agree (polled_calls _ _ plan link.poller polled)
      (subst (λ (calls : List Call). Joins plan calls (turns_of m steps m' run)) link.calls_are joins) in
      let (same, text, spelled, gives) = done.files.files in
      let rows : rows_of done.done ≡ link.poller.talk.rows = ap (λ (d : DonePoll). rows_of d) link.same in
      let whole = same ∙ ap (λ (rs : List Row). merged done.rows (risers rs)) rows in
      (text, done.files.after, gives.0, spelled, subst (λ (rs : List Row). DoAgree m' rs) (sym whole) (merges (risers link.poller.talk.rows) (files_some link.poller.talk.rows)));
  held = λ polling linked clear before after done m m' steps run stands stands' holds joins.
      let plan = plan_after polling.client (secret_in done.secret) done.rows polling.until in
      let link = over_link polling.is_protected polling.route clear linked polling.client done.secret done.rows polling.until _ _ _ _ _ _ _ done.done done.called.attempt.does in
      let polled = link.polled in
      let end =
      c.a_meter_holds_a_file.ensures.lines plan (Next polled.called.frame ∷ calls_of polled.front) polled.frame link.poller m m' steps run done.rows stands stands' holds (polled_calls _ _ plan link.poller polled)
      (subst (λ (calls : List Call). Joins plan calls (turns_of m steps m' run)) link.calls_are joins) in
      let (same, text, spelled, gives) = done.files.files in
      let rows : rows_of done.done ≡ link.poller.talk.rows = ap (λ (d : DonePoll). rows_of d) link.same in
      let whole = same ∙ ap (λ (rs : List Row). merged done.rows (risers rs)) rows in
      (text, done.files.after, gives.0, spelled, subst (λ (rs : List Row). Holds m' rs) (sym whole) (end.merges (risers link.poller.talk.rows) (files_some link.poller.talk.rows)));
}
