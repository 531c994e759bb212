use Rattle.std.proofs.Common.{◌≡◌, ◌≤◌, ◌^◌, ◌++◌, List, length}
use Rattle.dlms_state.specs.declared.event.Event.{Event}
use Rattle.dlms_state.specs.Events.{captures}
use Rattle.dlms_state.specs.Refusal.{IsLegal}
use Rattle.dlms_state.specs.StateValue.{HasEvents, IsStateOf}
use Rattle.dlms_journal.specs.Record.{Holds}
use Rattle.dlms_store.proofs.replay.take_all.Given as goal

abbrev pub invariant-loop-event : goal.invariant-loop-event
invariant-loop-event g l = record {
  events : HasEvents l.fn.state → HasEvents l.state;
  all : (E F : List Event) → IsStateOf E l.fn.state → Holds l.bytes F → IsLegal (E ++ F) → length (captures (E ++ F)) ≤ 2 ^ 64 → (D : List Event) × (D ++ l.event-iterator ≡ F) × IsStateOf (E ++ D) l.state;
}
