-- Which event a SET or an ACTION leads to, with a value that came in one piece or in blocks, and how it is answered.
use Rattle.std.specs.Prelude.{◌≡◌, ℕ, Bool, ◌&&◌, not, is_ok, if◌then◌else◌, List, [], ◌∷◌, Option, Some, None, IfSome, Result, Ok, Err, MatchResult, ⊤}
use Rattle.dlms_data.specs.Value.{Value}
use Rattle.dlms_data.specs.Spelling.{IsSpelling}
use Rattle.dlms_data.specs.declared.descriptor.Descriptor.{Descriptor}
use Rattle.dlms_frame.specs.declared.client.Client.{Client}
use Rattle.dlms_apdu.specs.Forms.{ResponseForm}
use Rattle.dlms_apdu.specs.Writing.{response_bytes}
use Rattle.dlms_state.specs.declared.event.Event.{Event}
use Rattle.dlms_state.specs.declared.event.Refused.{Refused}
use Rattle.dlms_state.specs.Refusal.{refusal, refusal_after}
use Rattle.dlms_state.specs.StateValue.{StateValue}
use Rattle.dlms_state.specs.Types.{FitsType}
use Rattle.dlms_classes.specs.declared.access.AccessResult.{AccessResult}
use Rattle.dlms_classes.specs.declared.access.AccessResult.TheVariants.{TypeUnmatched, ScopeOfAccessViolated, OtherReason}
use Rattle.dlms_classes.specs.declared.table.Content.{Content}
use Rattle.dlms_classes.specs.Access.{◌>>=◌, number_of, writable, callable}
use Rattle.dlms_classes.specs.Plan.{Setting, setting_of, IsPlan, event_of}
use Rattle.dlms_service.specs.declared.target.Target.{Target}
use Rattle.dlms_service.specs.declared.target.Service.{Service}
use Rattle.dlms_service.specs.declared.target.Service.TheVariants.{Set, Action}
use Rattle.dlms_service.specs.Session.{SessionValue, Outcome}

-- the bytes are one value and nothing else, or no value has them as a spelling
abbrev pub IsValue : List ℕ → Option Value → Type 0
IsValue bytes (Some v) = IsSpelling bytes v
IsValue bytes None = (v : Value) → ¬ (IsSpelling bytes v)

-- the setting for a value; if the bytes were no value, the type does not match
abbrev pub setting_from : Client → Content → Option Value → Result Setting AccessResult
setting_from client content None = Err TypeUnmatched
setting_from client content (Some v) = setting_of client content v

-- what SET asks for: no attribute that can be set takes a selector
abbrev pub set_asked : Client → Descriptor → Bool → Option Value → Result Setting AccessResult
set_asked client d selected value = writable client d >>= λ a. (if selected
    then Err ScopeOfAccessViolated else setting_from client a.content value)

-- the call for an ACTION whose parameter came in blocks
abbrev pub call_asked : Client → Descriptor → Option Value → Result Event AccessResult
call_asked client d None = callable client d >>= λ method. Err TypeUnmatched
call_asked client d (Some v) = callable client d >>= λ method. event_of method (Some v)

-- the event, or why there is none
abbrev pub IsPlanFor : Service → Client → Target → Option Value → Result Event AccessResult → Type 0
IsPlanFor Set client t value plan = IsPlan (set_asked client t.descriptor t.selected value) plan
IsPlanFor Action client t value plan = plan ≡ call_asked client t.descriptor value

-- nothing refuses the target before its value is looked at: name, class, attribute or method, right, selector
abbrev pub reaches_for : Service → Client → Target → Bool
reaches_for Set client t = is_ok (writable client t.descriptor) && not t.selected
reaches_for Action client t = is_ok (callable client t.descriptor)

abbrev pub reaches : Client → Target → Bool
reaches client t = reaches_for t.service client t

-- an event is of its type
abbrev pub IsTyped : Result Event AccessResult → Type 0
IsTyped plan = MatchResult plan FitsType (λ r. ⊤)

-- what is accepted: the event that is planned, unless the table of refusals has it
abbrev pub accepted_by : Option Refused → Event → List Event
accepted_by None e = e ∷ []
accepted_by (Some cause) e = []

abbrev pub accepted : List Event → Result Event AccessResult → List Event
accepted E (Ok e) = accepted_by (refusal_after E e) e
accepted E (Err r) = []

-- the result that is answered: 0 for success; a refused event is refused for another reason
abbrev pub result_by : Option Refused → ℕ
result_by None = 0
result_by (Some cause) = number_of OtherReason

abbrev pub result_of : List Event → Result Event AccessResult → ℕ
result_of E (Ok e) = result_by (refusal_after E e)
result_of E (Err r) = number_of r

-- the outcome of a plan, in the answer of this form
abbrev pub done : List Event → SessionValue → (ℕ → ResponseForm) → Result Event AccessResult
    → Outcome
done E s form plan = record {
  own = s;
  answer = response_bytes (form (result_of E plan));
  accepted = accepted E plan;
}

-- a plan of this kind is done
abbrev pub IsDone : List Event → SessionValue → (ℕ → ResponseForm)
    → (Result Event AccessResult → Type 0) → Outcome → Type 0
IsDone E s form IsPlanned o = (plan : Result Event AccessResult) × IsPlanned plan × IsTyped plan
    × (o ≡ done E s form plan)

-- the event, if there is one, may come next in this state
abbrev pub Passes : StateValue → Option Event → Type 0
Passes s event = IfSome event (λ e. refusal s.last s.offset e ≡ None)
