use Rattle.std.proofs.Common.{◌∙◌, ◌++◌, ◌∷◌, [], List, subst}
use Rattle.dlms_journal.proofs.Lists.{one}
use Rattle.dlms_state.specs.declared.event.Event.{Event}
use Rattle.dlms_state.specs.OutlookValue.{IsOutlookOf}
use Rattle.dlms_store.proofs.Replays.{all_of_them, not_empty, one_more_of}
use Rattle.dlms_survey.proofs.Told.{refused_at}
use Rattle.dlms_survey.proofs.judging.records_reason.Goals as goal

pub loop-event-init : goal.loop-event-init
loop-event-init g c E F is holds =
    ([], c.into_iter-event-iterator.ensures.into_iter_gives ∙ one c.args.payload.now c.in-Some.events F c.in-Some.ensures.some holds, c.outlook-outlook.ensures E is)

pub loop-event-preserved : goal.loop-event-preserved
loop-event-preserved g c E F is holds =
    let so_far = c.loop-event.invariant E F is holds in
    (so_far.0 ++ c.in-Some-event.event ∷ [], one_more_of so_far.0 _ _ F c.in-Some-event.event so_far.1 c.in-Some-event.ensures.steps, c.in-Ok.ensures.ok E so_far.0 so_far.2)

pub returns-in-Err-clause-exact : goal.returns-in-Err-clause-exact
returns-in-Err-clause-exact g c = (
  c.in-Some.events,
  c.in-Some.ensures.some,
  λ E is.
      let so_far = c.loop-event.invariant E c.in-Some.events is c.in-Some.ensures.some in
      refused_at E so_far.0 _ _ c.in-Some.events c.in-Some-event.event c.in-Err.refused so_far.1 c.in-Some-event.ensures.steps so_far.2.legal (c.in-Err.ensures.table E so_far.0 so_far.2),
)

pub returns-clause-exact : goal.returns-clause-exact
returns-clause-exact g c = (
  not_empty c.args.payload.now c.is_empty.result c.is_empty.ensures c.if-is_empty.false,
  (
    c.in-Some.events,
    c.in-Some.ensures.some,
    λ E is.
        let so_far = c.loop-event.invariant E c.in-Some.events is c.in-Some.ensures.some in
        let all = all_of_them so_far.0 _ c.in-Some.events so_far.1 c.in-None.ensures.steps.0 in
        let outlook = subst (λ (D : List Event). IsOutlookOf E D c.loop-event.outlook) all so_far.2 in
        outlook.legal,
  ),
)
