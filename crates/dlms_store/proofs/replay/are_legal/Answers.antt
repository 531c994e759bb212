use Rattle.std.proofs.Common.{◌∙◌, ◌++◌, ◌∷◌, [], List, subst}
use Rattle.dlms_journal.proofs.Lists.{one}
use Rattle.dlms_state.specs.declared.event.Event.{Event}
use Rattle.dlms_state.specs.OutlookValue.{IsOutlookOf}
use Rattle.dlms_store.proofs.Counting.{ring_takes, taken_by_ring}
use Rattle.dlms_store.proofs.Replays.{all_of_them, holds_some, not_empty, one_more_of, may_follow_next}
use Rattle.dlms_store.proofs.replay.are_legal.Goals as goal

pub loop-event-init : goal.loop-event-init
loop-event-init g c E F is holds =
    ([], c.into_iter-event-iterator.ensures.into_iter_gives ∙ one c.args.bytes.now c.in-Some.events F c.in-Some.ensures.some holds, c.outlook-outlook.ensures E is)

pub loop-event-preserved : goal.loop-event-preserved
loop-event-preserved g c E F is holds =
    let so_far = c.loop-event.invariant E F is holds in
    (so_far.0 ++ c.in-Some-event.event ∷ [], one_more_of so_far.0 _ _ F c.in-Some-event.event so_far.1 c.in-Some-event.ensures.steps, c.in-Ok.ensures.ok E so_far.0 so_far.2)

pub returns-in-Err-clause-none : goal.returns-in-Err-clause-none
returns-in-Err-clause-none g c e E F is holds some legal ring =
    let so_far = c.loop-event.invariant E F is holds in
    let follows = may_follow_next E so_far.0 _ _ F c.in-Some-event.event so_far.1 c.in-Some-event.ensures.steps legal in
    let refused = c.in-Err.ensures.table E so_far.0 so_far.2 in
    absurd (cc (refused, follows.passes))

pub returns-clause-yes : goal.returns-clause-yes
returns-clause-yes g c legal E is =
    let F = c.in-Some.events in
    let so_far = c.loop-event.invariant E F is c.in-Some.ensures.some in
    let all = all_of_them so_far.0 _ F so_far.1 c.in-None.ensures.steps.0 in
    let outlook = subst (λ (D : List Event). IsOutlookOf E D c.loop-event.outlook) all so_far.2 in
    let fits = c.has_ring.ensures.0 legal in
    (F, c.in-Some.ensures.some, holds_some c.args.bytes.now F c.in-Some.ensures.some (not_empty c.args.bytes.now c.is_empty.result c.is_empty.ensures c.if-is_empty.false), outlook.legal, ring_takes c.args.checkpointed E F c.args.state.now c.rows.result is c.requires (c.rows.ensures.after E F outlook) fits.0 fits.1)

pub returns-clause-none : goal.returns-clause-none
returns-clause-none g c misfit E F is holds some legal ring =
    let so_far = c.loop-event.invariant E F is holds in
    let all = all_of_them so_far.0 _ F so_far.1 c.in-None.ensures.steps.0 in
    let outlook = subst (λ (D : List Event). IsOutlookOf E D c.loop-event.outlook) all so_far.2 in
    absurd (cc (misfit, c.has_ring.ensures.1 (taken_by_ring c.args.checkpointed E F c.args.state.now c.rows.result is (c.rows.ensures.after E F outlook) ring)))
