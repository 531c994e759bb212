-- An APDU leads to one outcome, for each choice.
use Rattle.std.proofs.Common.{◌≡◌, ◌∙◌, ℕ, refl, sym, ap, subst, append-nil, unsigned_abs, Bool, true, false, List, [], Option, Some, None, is_some, Result, Ok, Err}
use Rattle.dlms_blocks.specs.Coming.{Coming, first_answer, first_after, more_answer, more_after}
use Rattle.dlms_blocks.specs.declared.block.PutStep.{PutStep}
use Rattle.dlms_blocks.specs.declared.block.PutStep.TheVariants.{More, Whole}
use Rattle.dlms_data.specs.Value.{Value}
use Rattle.dlms_data.specs.declared.descriptor.Descriptor.{Descriptor}
use Rattle.dlms_data.proofs.WholeLaws.{reads_one_value}
use Rattle.dlms_frame.specs.declared.client.Client.{Client}
use Rattle.dlms_state.specs.declared.event.Event.{Event}
use Rattle.dlms_state.specs.declared.event.Event.TheVariants.{SetTime, SetText, SetSecret, SetColumns}
use Rattle.dlms_state.specs.declared.event.SecretOf.{SecretOf}
use Rattle.dlms_state.specs.declared.event.SecretOf.TheVariants.{Management, Reader}
use Rattle.dlms_state.specs.Events.{text_set, secret_set, columns_set}
use Rattle.dlms_state.specs.StateValue.{state_of}
use Rattle.dlms_apdu.specs.Forms.{RequestForm, get_normal, get_next, set_normal, set_first, set_block, action_normal, action_first, action_block, set_result, action_result}
use Rattle.dlms_apdu.specs.Forms as apdu
use Rattle.dlms_apdu.specs.Reading.{request_at}
use Rattle.dlms_apdu.specs.declared.fault.Refusal.{Refusal}
use Rattle.dlms_classes.specs.Plan.{Setting, clock_to, period_to, text_to, secret_to, columns_to, IsPlan, Does}
use Rattle.dlms_classes.specs.declared.access.AccessResult.{AccessResult}
use Rattle.dlms_classes.proofs.ShownOnce.{shown_once}
use Rattle.dlms_service.specs.declared.association.Association.{Association}
use Rattle.dlms_service.specs.declared.target.Target.{Target}
use Rattle.dlms_service.specs.declared.target.Service.{Service}
use Rattle.dlms_service.specs.declared.target.Service.TheVariants.{Set, Action}
use Rattle.dlms_service.specs.Session.{SessionValue, Outcome, without_get, without_put}
use Rattle.dlms_service.specs.Planned.{IsValue, IsPlanFor, IsTyped, done, set_asked}
use Rattle.dlms_service.specs.Shown.{Sends, Gives, Gets, seen}
use Rattle.dlms_service.specs.Blocks.{Completes, Steps, ContinuesFor, open_for, ended_form}
use Rattle.dlms_service.specs.Serves.{Choice, FindsMemory, LacksMemoryToRead, LacksMemoryToAnswer, Asks, LacksToAnswer, Permitted, Requested, Read, Within, Released, Associated, permits, begins_with}
use Rattle.dlms_service.specs.Laws.{HasOneOutcome}

-- ---- the value that GET shows

sends_once : (s : SessionValue) (a : Association) (invoke : ℕ) (v : Value) (o p : Outcome) → Sends s a invoke v o → Sends s a invoke v p → o ≡ p
sends_once s a invoke v o p h k = h.1 ∙ sym k.1

gives_once : (s : SessionValue) (a : Association) (invoke : ℕ) (result : Result Value AccessResult) (o p : Outcome) → Gives s a invoke result o → Gives s a invoke result p → o ≡ p
gives_once s a invoke (Err r) o p h k = h ∙ sym k
gives_once s a invoke (Ok v) o p h k = sends_once s a invoke v o p h k

gets_once : (E : List Event) (s : SessionValue) (a : Association) (invoke : ℕ) (d : Descriptor) (selector : Option apdu.Selection) (o p : Outcome)
    → Gets E s a invoke d selector o → Gets E s a invoke d selector p → o ≡ p
gets_once E s a invoke d selector o p (x, is_x, h) (y, is_y, k) =
    let same : x ≡ y = shown_once (state_of E) s.client d (seen a selector) x y is_x is_y in
    gives_once (without_get s) a invoke y o p (subst (λ (r : Result Value AccessResult). Gives (without_get s) a invoke r o) same h) k

-- ---- the event that is planned

none_is : {X Y : Type 0} {x : X} → None ≡ Some x → Y
none_is e = absurd cc

some_is : {X : Type 0} {x y : X} → Some x ≡ Some y → x ≡ y
some_is e = cc

is_text : (e : Event) (bytes : List ℕ) → text_set e ≡ Some bytes → e ≡ SetText (record { items = bytes })
is_text (SetText b) bytes h = ap (λ (xs : List ℕ). SetText (record { items = xs })) (some_is h)
is_text _ bytes h = none_is h

is_secret : (whose : SecretOf) (e : Event) (bytes : List ℕ) → secret_set whose e ≡ Some bytes → e ≡ SetSecret whose (record { items = bytes })
is_secret Management (SetSecret Management b) bytes h = ap (λ (xs : List ℕ). SetSecret Management (record { items = xs })) (some_is h)
is_secret Reader (SetSecret Reader b) bytes h = ap (λ (xs : List ℕ). SetSecret Reader (record { items = xs })) (some_is h)
is_secret Management (SetSecret Reader b) bytes h = none_is h
is_secret Reader (SetSecret Management b) bytes h = none_is h
is_secret Management _ bytes h = none_is h
is_secret Reader _ bytes h = none_is h

is_columns : (e : Event) (ids : List ℕ) → columns_set e ≡ Some ids → e ≡ SetColumns (record { items = ids })
is_columns (SetColumns b) ids h = ap (λ (xs : List ℕ). SetColumns (record { items = xs })) (some_is h)
is_columns _ ids h = none_is h

does_once : (setting : Setting) (e f : Event) → Does setting e → Does setting f → e ≡ f
does_once (clock_to octets) e f (s, names, is) (t, names', is') = is ∙ ap SetTime (ap unsigned_abs (names.value ∙ sym names'.value)) ∙ sym is'
does_once (period_to seconds) e f h k = h ∙ sym k
does_once (text_to bytes) e f h k = is_text e bytes h ∙ sym (is_text f bytes k)
does_once (secret_to whose bytes) e f h k = is_secret whose e bytes h ∙ sym (is_secret whose f bytes k)
does_once (columns_to ids) e f h k = is_columns e ids h ∙ sym (is_columns f ids k)

plan_once : (setting : Result Setting AccessResult) (x y : Result Event AccessResult) → IsPlan setting x → IsTyped x → IsPlan setting y → IsTyped y → x ≡ y
plan_once (Err r) x y h typed k typed' = h ∙ sym k
plan_once (Ok setting) (Ok e) (Ok f) h typed k typed' = ap Ok (does_once setting e f h k)
plan_once (Ok setting) (Ok e) (Err r) h typed k typed' = absurd (k.1 e typed h)
plan_once (Ok setting) (Err q) (Ok f) h typed k typed' = absurd (h.1 f typed' k)
plan_once (Ok setting) (Err q) (Err r) h typed k typed' = ap Err (h.0 ∙ sym k.0)

plan_for_once : (service : Service) (client : Client) (t : Target) (value : Option Value) (x y : Result Event AccessResult)
    → IsPlanFor service client t value x → IsTyped x → IsPlanFor service client t value y → IsTyped y → x ≡ y
plan_for_once Set client t value x y h typed k typed' = plan_once (set_asked client t.descriptor t.selected value) x y h typed k typed'
plan_for_once Action client t value x y h typed k typed' = h ∙ sym k

-- ---- a value that came in blocks

value_once : (bytes : List ℕ) (x y : Option Value) → IsValue bytes x → IsValue bytes y → x ≡ y
value_once bytes (Some v) (Some w) h k = ap Some (reads_one_value bytes bytes [] bytes [] v w (sym (append-nil bytes)) (sym (append-nil bytes)) h k).1
value_once bytes (Some v) None h k = absurd (k v h)
value_once bytes None (Some w) h k = absurd (h w k)
value_once bytes None None h k = refl

completes_once : (E : List Event) (s : SessionValue) (invoke number : ℕ) (t : Target) (joined : List ℕ) (o p : Outcome)
    → Completes E s invoke number t joined o → Completes E s invoke number t joined p → o ≡ p
completes_once E s invoke number t joined o p (v, plan, is_v, is_plan, typed, is) (w, plan', is_w, is_plan', typed', is') =
    let same : v ≡ w = value_once joined v w is_v is_w in
    let moved : IsPlanFor t.service s.client t w plan = subst (λ (x : Option Value). IsPlanFor t.service s.client t x plan) same is_plan in
    let one : plan ≡ plan' = plan_for_once t.service s.client t w plan plan' moved typed is_plan' typed' in
    is ∙ ap (λ (x : Result Event AccessResult). done E (without_put s) (ended_form t.service invoke number) x) one ∙ sym is'

steps_once : (E : List Event) (s : SessionValue) (invoke number : ℕ) (t : Target) (coming : Coming) (step : Result PutStep ℕ) (o p : Outcome)
    → Steps E s invoke number t coming step o → Steps E s invoke number t coming step p → o ≡ p
steps_once E s invoke number t coming (Err code) o p h k = h ∙ sym k
steps_once E s invoke number t coming (Ok More) o p h k = h ∙ sym k
steps_once E s invoke number t coming (Ok Whole) o p h k = completes_once E s invoke number t coming.joined o p h k

continues_once : (E : List Event) (s : SessionValue) (service : Service) (invoke : ℕ) (b : apdu.BlockForm) (target : Option Target) (o p : Outcome)
    → ContinuesFor E s service invoke b target o → ContinuesFor E s service invoke b target p → o ≡ p
continues_once E s service invoke b None o p h k = h ∙ sym k
continues_once E s service invoke b (Some t) o p h k =
    steps_once E s invoke b.number t (more_after s.coming.taken s.coming b.last b.number b.raw) (more_answer s.coming.taken s.coming.joined b.last b.number b.raw) o p h k

-- ---- an APDU

asks_once : (E : List Event) (s : SessionValue) (a : Association) (form : RequestForm) (o p : Outcome) → Asks E s a form o → Asks E s a form p → o ≡ p
asks_once E s a (get_normal invoke d selector) o p h k = gets_once E s a invoke d selector o p h k
asks_once E s a (get_next invoke number) o p h k = h ∙ sym k
asks_once E s a (set_normal invoke d selector v) o p (plan, is_plan, typed, is) (plan', is_plan', typed', is') =
    let t : Target = record { service = Set; descriptor = d; selected = is_some selector } in
    let one : plan ≡ plan' = plan_for_once Set s.client t (Some v) plan plan' is_plan typed is_plan' typed' in
    is ∙ ap (λ (x : Result Event AccessResult). done E (without_put s) (set_result invoke) x) one ∙ sym is'
asks_once E s a (set_first invoke d selector last number raw) o p h k =
    steps_once E s invoke number (record { service = Set; descriptor = d; selected = is_some selector }) (first_after last number raw) (first_answer last number raw) o p h k
asks_once E s a (set_block invoke last number raw) o p h k =
    continues_once E s Set invoke (record { last = last; number = number; raw = raw }) (open_for Set s.target) o p h k
asks_once E s a (action_normal invoke d parameter) o p (plan, is_plan, typed, is) (plan', is_plan', typed', is') =
    is ∙ ap (λ (x : Result Event AccessResult). done E (without_put s) (action_result invoke) x) (is_plan ∙ sym is_plan') ∙ sym is'
asks_once E s a (action_first invoke d last number raw) o p h k =
    steps_once E s invoke number (record { service = Action; descriptor = d; selected = false }) (first_after last number raw) (first_answer last number raw) o p h k
asks_once E s a (action_block invoke last number raw) o p h k =
    continues_once E s Action invoke (record { last = last; number = number; raw = raw }) (open_for Action s.target) o p h k

permitted_once : (E : List Event) (s : SessionValue) (a : Association) (form : RequestForm) (b : Bool) (o p : Outcome) → Permitted E s a form b o → Permitted E s a form b p → o ≡ p
permitted_once E s a form true o p h k = asks_once E s a form o p h k
permitted_once E s a form false o p h k = h ∙ sym k

lacks_once : (E : List Event) (s : SessionValue) (a : Association) (form : RequestForm) (o p : Outcome) → LacksToAnswer E s a form o → LacksToAnswer E s a form p → o ≡ p
lacks_once E s a (get_normal invoke d selector) o p h k = h.1 ∙ sym k.1
lacks_once E s a (get_next invoke number) o p h k = h.1 ∙ sym k.1
lacks_once E s a _ o p h k = absurd h

requested_once : (choice : Choice) (E : List Event) (s : SessionValue) (a : Association) (form : RequestForm) (o p : Outcome) → Requested choice E s a form o → Requested choice E s a form p → o ≡ p
requested_once FindsMemory E s a form o p h k = permitted_once E s a form (permits a form) o p h k
requested_once LacksMemoryToRead E s a form o p h k = h.1.1 ∙ sym k.1.1
requested_once LacksMemoryToAnswer E s a form o p h k = lacks_once E s a form o p h.1 k.1

read_once : (choice : Choice) (E : List Event) (s : SessionValue) (a : Association) (form : Result RequestForm Refusal) (o p : Outcome) → Read choice E s a form o → Read choice E s a form p → o ≡ p
read_once choice E s a (Ok form) o p h k = requested_once choice E s a form o p h k
read_once choice E s a (Err refusal) o p h k = h ∙ sym k

within_once : (choice : Choice) (E : List Event) (s : SessionValue) (apdu : List ℕ) (opened : Option Association) (o p : Outcome) → Within choice E s apdu opened o → Within choice E s apdu opened p → o ≡ p
within_once choice E s apdu None o p h k = h ∙ sym k
within_once choice E s apdu (Some a) o p h k = read_once choice E s a (request_at apdu) o p h k

released_once : (choice : Choice) (E : List Event) (s : SessionValue) (apdu : List ℕ) (b : Bool) (o p : Outcome) → Released choice E s apdu b o → Released choice E s apdu b p → o ≡ p
released_once choice E s apdu true o p h k = h ∙ sym k
released_once choice E s apdu false o p h k = within_once choice E s apdu s.opened o p h k

associated_once : (choice : Choice) (E : List Event) (s : SessionValue) (apdu : List ℕ) (b : Bool) (o p : Outcome) → Associated choice E s apdu b o → Associated choice E s apdu b p → o ≡ p
associated_once choice E s apdu true o p h k = h ∙ sym k
associated_once choice E s apdu false o p h k = released_once choice E s apdu (begins_with 0x62 apdu) o p h k

pub served_once : HasOneOutcome
served_once choice E s apdu o p h k = associated_once choice E s apdu (begins_with 0x60 apdu) o p h k
