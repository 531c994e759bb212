use Rattle.std.proofs.Common.{◌≡◌, ◌++◌, List}
use Rattle.dlms_state.specs.declared.event.Event.{Event}
use Rattle.dlms_state.specs.StateValue.{IsStateOf}
use Rattle.dlms_state.specs.OutlookValue.{IsOutlookOf}
use Rattle.dlms_journal.specs.Record.{Holds}
use Rattle.dlms_survey.proofs.judging.records_reason.Given as goal

abbrev pub invariant-loop-event : goal.invariant-loop-event
invariant-loop-event g l = (E F : List Event) → IsStateOf E l.state → Holds l.payload F → (D : List Event) × (D ++ l.event-iterator ≡ F) × IsOutlookOf E D l.outlook
