-- Laws of the definitions.
use Rattle.std.specs.Prelude.{◌≡◌, ℕ, List}
use Rattle.dlms_state.specs.declared.event.Event.{Event}
use Rattle.dlms_service.specs.Session.{SessionValue, Outcome}
use Rattle.dlms_service.specs.Serves.{Choice, Serves}

-- what an APDU leads to is fixed by the accepted events, what is kept of the client, and the choice
abbrev pub HasOneOutcome : Type 0
HasOneOutcome = (choice : Choice) (E : List Event) (s : SessionValue) (apdu : List ℕ)
    (o p : Outcome) → Serves choice E s apdu o → Serves choice E s apdu p → o ≡ p
