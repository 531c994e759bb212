use Rattle.dlms_state.specs.StateValue.{StateValue, HasEvents, IsWithinLimits, FitsTypes}
use Rattle.dlms_state.proofs.Limits.{IsWithinLimits-legal}
use Rattle.dlms_state.proofs.Types.{FitsTypes-legal}
use Rattle.dlms_state.proofs.laws.states_with_events_are_within_limits.Goals as goal

within : (s : StateValue) → HasEvents s → IsWithinLimits s
within s had = rw had.state.value (IsWithinLimits-legal had.events had.state.legal)

fits : (s : StateValue) → HasEvents s → FitsTypes s
fits s had = rw had.state.value (FitsTypes-legal had.events had.state.legal)

pub returns : goal.returns
returns c = record { limits = within; types = fits }
