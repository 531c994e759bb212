use Rattle.std.proofs.Common.{◌≤◌, ◌^◌, ◌∙◌, ◌++◌, ◌∷◌, [], List, length, sym, subst, append_assoc}
use Rattle.std.proofs.lemmas.List.{append-nil}
use Rattle.dlms_state.specs.declared.event.Event.{Event}
use Rattle.dlms_state.specs.Events.{captures}
use Rattle.dlms_state.specs.StateValue.{IsStateOf}
use Rattle.dlms_journal.proofs.Lists.{one}
use Rattle.dlms_store.proofs.Counting.{number_next}
use Rattle.dlms_store.proofs.Replays.{one_more_of, may_follow_next, more_behind}
use Rattle.dlms_store.proofs.replay.take_all.Goals as goal

pub loop-event-init : goal.loop-event-init
loop-event-init g c = record {
  events = λ had. had;
  all = λ E F is holds legal few. ([], c.into_iter-event-iterator.ensures.into_iter_gives ∙ one c.args.bytes.now c.in-Some.events F c.in-Some.ensures.some holds, subst (λ (G : List Event). IsStateOf G c.args.state.now) (sym (append-nil E)) is);
}

pub loop-event-preserved : goal.loop-event-preserved
loop-event-preserved g c = record {
  events = λ had. c.take.ensures.events (c.loop-event.invariant.events had);
  all = λ E F is holds legal few.
      let event = c.in-Some-event.event in
      let so_far = c.loop-event.invariant.all E F is holds legal few in
      let done = so_far.0 in
      let follows = may_follow_next E done _ _ F event so_far.1 c.in-Some-event.ensures.steps legal in
      let whole = more_behind E done _ _ F event so_far.1 c.in-Some-event.ensures.steps in
      let number = number_next (E ++ done) event _ _ so_far.2 (subst (λ (G : List Event). length (captures G) ≤ 2 ^ 64) (sym whole) few) in (
        done ++ event ∷ [],
        one_more_of done _ _ F event so_far.1 c.in-Some-event.ensures.steps,
        subst (λ (G : List Event). IsStateOf G c.take.new.state) (append_assoc E done (event ∷ [])) (c.take.ensures.more (E ++ done) so_far.2 follows number),
      );
}
