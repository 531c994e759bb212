-- The verdicts on pages.
use Rattle.std.proofs.Common.{sym, ap, ◌∙◌, ◌≡◌, List, ◌∷◌, ◌++◌, Some}
use Rattle.dlms_state.specs.Refusal.{IsLegal, refusal_after}
use Rattle.dlms_state.specs.declared.event.Event.{Event}
use Rattle.dlms_state.specs.declared.event.Refused.{Refused}
use Rattle.dlms_survey.specs.Judging.{IsRefusal}

-- events that were taken, up to one that is refused
pub refused_at : (E done left rest all : List Event) (event : Event) (refused : Refused) → done ++ left ≡ all → left ≡ event ∷ rest → IsLegal (E ++ done) → refusal_after (E ++ done) event ≡ Some refused → IsRefusal E all refused
refused_at E done left rest all event refused so_far next legal is =
    record { before = done; event = event; behind = rest; are = sym so_far ∙ ap (λ (l : List Event). done ++ l) next; legal = legal; is = is }
