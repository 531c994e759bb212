-- What a null shows of an attribute: why it can't be set, or that its type does not match.
use Rattle.std.proofs.Common.{◌≡◌, refl, sym, ◌∙◌, ap, arith, Bool, true, false, if◌then◌else◌, Option, Some, None, ok_or, Result, Ok, Err, ◌==◌}
use Rattle.std.specs.Prelude.{◌&&◌, not, is_ok}
use Rattle.dlms_data.specs.Value.{Value, null}
use Rattle.dlms_data.specs.declared.descriptor.Descriptor.{Descriptor}
use Rattle.dlms_frame.specs.declared.client.Client.{Client}
use Rattle.dlms_frame.specs.declared.client.Client.TheVariants.{Public, Management, Reader}
use Rattle.dlms_state.specs.declared.event.Event.{Event}
use Rattle.dlms_classes.specs.declared.access.AccessResult.{AccessResult}
use Rattle.dlms_classes.specs.declared.access.AccessResult.TheVariants.{ReadWriteDenied, ObjectUndefined, ObjectClassInconsistent, TypeUnmatched, ScopeOfAccessViolated}
use Rattle.dlms_classes.specs.declared.table.Attribute.{Attribute}
use Rattle.dlms_classes.specs.declared.table.Call.{Call}
use Rattle.dlms_classes.specs.declared.table.Call.TheVariants as call
use Rattle.dlms_classes.specs.declared.table.Content.{Content}
use Rattle.dlms_classes.specs.declared.table.Content.TheVariants.{Text, Time, Secret, CapturePeriod}
use Rattle.dlms_classes.specs.Table.{may_write, rights_of, may_call}
use Rattle.dlms_classes.specs.Access.{◌>>=◌, object_named, numbered, object_of, attribute_of, method_of, writable, callable}
use Rattle.dlms_classes.specs.Plan.{Setting, setting_of, IsPlan, event_of, setting_asked, event_asked}
use Rattle.dlms_service.specs.Planned.{set_asked, call_asked, IsPlanFor, reaches_for, reaches}
use Rattle.dlms_service.specs.declared.target.Target.{Target}
use Rattle.dlms_service.specs.declared.target.Service.{Service}
use Rattle.dlms_service.specs.declared.target.Service.TheVariants.{Set, Action}

abbrev no_setting : AccessResult → Result Setting AccessResult
no_setting r = Err r

abbrev no_event : AccessResult → Result Event AccessResult
no_event r = Err r

-- no step before the value refuses a type
abbrev Matched : {X : Type 0} → Result X AccessResult → Type 0
Matched r = r ≡ Err TypeUnmatched → ⊥

abbrev err_of : {X : Type 0} → Result X AccessResult → AccessResult
err_of (Ok x) = TypeUnmatched
err_of (Err r) = r

bound : {X Y : Type 0} (r : Result X AccessResult) (f : X → Result Y AccessResult) → Matched r → ((x : X) → Matched (f x)) → Matched (r >>= f)
bound (Ok x) f h k e = k x e
bound (Err r) f h k e = h (ap Err (ap err_of e))

-- a test's refusal is another
or_refused : {X : Type 0} (o : Option X) → Matched (ok_or o ObjectUndefined)
or_refused None e = absurd (grind arith)
or_refused (Some x) e = absurd (grind arith)

of_class : {X : Type 0} (b : Bool) (x : X) → Matched (if b then Ok x else Err ObjectClassInconsistent)
of_class true x e = absurd (grind arith)
of_class false x e = absurd (grind arith)

of_right : {X : Type 0} (b : Bool) (x : X) → Matched (if b then Ok x else Err ReadWriteDenied)
of_right true x e = absurd (grind arith)
of_right false x e = absurd (grind arith)

writable_matched : (client : Client) (d : Descriptor) → Matched (writable client d)
writable_matched client d =
    bound (attribute_of d) (λ a. if may_write (rights_of client a) then Ok a else Err ReadWriteDenied)
    (bound (object_of d) (λ o. ok_or (numbered d.id o.attributes) ObjectUndefined)
    (bound (ok_or (object_named d.name) ObjectUndefined) (λ o. if o.class == d.class then Ok o else Err ObjectClassInconsistent)
    (or_refused (object_named d.name)) (λ o. of_class (o.class == d.class) o))
    (λ o. or_refused (numbered d.id o.attributes)))
    (λ a. of_right (may_write (rights_of client a)) a)

-- What the plan of a null shows: the first refusal before the value, or that the type does not match.
null_told : (client : Client) (w : Result Attribute AccessResult) (plan : Result Event AccessResult) → IsPlan (w >>= λ a. setting_of client a.content null) plan → plan ≡ (w >>= λ a. Err TypeUnmatched)
null_told client (Ok a) plan h = of_content a.content plan h
  where
    of_content : (content : Content) (plan : Result Event AccessResult) → IsPlan (setting_of client content null) plan → plan ≡ Err TypeUnmatched
    of_content Text plan h = h
    of_content Time plan h = h
    of_content CapturePeriod plan h = h
    of_content Secret plan h = h
    of_content _ plan h = h
null_told client (Err r) plan h = h

-- why nothing is set, by the plan of a null
abbrev pub why : Bool → Result Event AccessResult → AccessResult
why selected (Ok e) = TypeUnmatched
why true (Err TypeUnmatched) = ScopeOfAccessViolated
why selected (Err r) = r

by_selection : (selected : Bool) (r : AccessResult) → (r ≡ TypeUnmatched → ⊥) → why selected (Err r) ≡ r
by_selection false r h = refl
by_selection true TypeUnmatched h = absurd (h refl)
by_selection true _ h = refl

for_content : (selected : Bool) → (if selected then Err ScopeOfAccessViolated else Err TypeUnmatched) ≡ no_setting (why selected (Err TypeUnmatched))
for_content true = refl
for_content false = refl

told : (w : Result Attribute AccessResult) → Matched w → (selected : Bool)
    → (w >>= λ a. (if selected then Err ScopeOfAccessViolated else Err TypeUnmatched)) ≡ no_setting (why selected (w >>= λ a. Err TypeUnmatched))
told (Ok a) h selected = for_content selected
told (Err r) h selected = ap Err (sym (by_selection selected r (λ e. h (ap Err e))))

pub unset : (client : Client) (d : Descriptor) (selected : Bool) (plan : Result Event AccessResult) → IsPlan (setting_asked client d null) plan
    → set_asked client d selected None ≡ Err (why selected plan)
unset client d selected plan h =
    told (writable client d) (writable_matched client d) selected ∙ ap (λ p. Err (why selected p)) (sym (null_told client (writable client d) plan h))

-- with no value, the type does not match
abbrev pub unmatched : Result Event AccessResult → Result Event AccessResult
unmatched (Ok e) = Err TypeUnmatched
unmatched (Err r) = Err r

no_parameter : (client : Client) (method : Call) → may_call client method ≡ true → unmatched (event_of method None) ≡ Err TypeUnmatched
no_parameter Public method h = absurd (grind arith)
no_parameter Management call.Withheld h = absurd (grind arith)
no_parameter Management call.ShiftTime h = refl
no_parameter Management _ h = refl
no_parameter Reader method h = absurd (grind arith)

allowed : (client : Client) (method : Call) (b : Bool) → may_call client method ≡ b
    → ((if b then Ok method else Err ReadWriteDenied) >>= λ m. no_event TypeUnmatched) ≡ unmatched ((if b then Ok method else Err ReadWriteDenied) >>= λ m. event_of m None)
allowed client method true h = sym (no_parameter client method h)
allowed client method false h = refl

called : (client : Client) (r : Result Call AccessResult)
    → ((r >>= λ method. (if may_call client method then Ok method else Err ReadWriteDenied)) >>= λ m. no_event TypeUnmatched)
    ≡ unmatched ((r >>= λ method. (if may_call client method then Ok method else Err ReadWriteDenied)) >>= λ m. event_of m None)
called client (Ok method) = allowed client method (may_call client method) refl
called client (Err r) = refl

pub call_unmatched : (client : Client) (d : Descriptor) → call_asked client d None ≡ unmatched (event_asked client d None)
call_unmatched client d = called client (method_of d)

-- ---- what stands before the value

callable_matched : (client : Client) (d : Descriptor) → Matched (callable client d)
callable_matched client d =
    bound (method_of d) (λ method. if may_call client method then Ok method else Err ReadWriteDenied)
    (bound (object_of d) (λ o. ok_or (numbered d.id o.methods) ObjectUndefined)
    (bound (ok_or (object_named d.name) ObjectUndefined) (λ o. if o.class == d.class then Ok o else Err ObjectClassInconsistent)
    (or_refused (object_named d.name)) (λ o. of_class (o.class == d.class) o))
    (λ o. or_refused (numbered d.id o.methods)))
    (λ method. of_right (may_call client method) method)

abbrev pub is_unmatched : Result Event AccessResult → Bool
is_unmatched (Err TypeUnmatched) = true
is_unmatched _ = false

other_refusal : (r : AccessResult) → (no_event r ≡ Err TypeUnmatched → ⊥) → is_unmatched (Err r) ≡ false
other_refusal TypeUnmatched h = absurd (h refl)
other_refusal _ h = refl

refused_before : {X : Type 0} (r : AccessResult) → Matched {X = X} (Err r) → (no_event r ≡ Err TypeUnmatched → ⊥)
refused_before r h e = h (ap Err (ap err_of e))

settable : (w : Result Attribute AccessResult) (selected : Bool) (plan : Result Event AccessResult) → Matched w
    → IsPlan (w >>= λ a. (if selected then Err ScopeOfAccessViolated else no_setting TypeUnmatched)) plan → is_unmatched plan ≡ (is_ok w && not selected)
settable (Ok a) true plan m h = ap is_unmatched h
settable (Ok a) false plan m h = ap is_unmatched h
settable (Err r) selected plan m h = ap is_unmatched h ∙ other_refusal r (refused_before r m)

called_for : (w : Result Call AccessResult) (plan : Result Event AccessResult) → Matched w → plan ≡ (w >>= λ method. Err TypeUnmatched) → is_unmatched plan ≡ is_ok w
called_for (Ok method) plan m h = ap is_unmatched h
called_for (Err r) plan m h = ap is_unmatched h ∙ other_refusal r (refused_before r m)

reached_for : (service : Service) (client : Client) (t : Target) (plan : Result Event AccessResult) → IsPlanFor service client t None plan → is_unmatched plan ≡ reaches_for service client t
reached_for Set client t plan h = settable (writable client t.descriptor) t.selected plan (writable_matched client t.descriptor) h
reached_for Action client t plan h = called_for (callable client t.descriptor) plan (callable_matched client t.descriptor) h

pub reached : (client : Client) (t : Target) (plan : Result Event AccessResult) → IsPlanFor t.service client t None plan → is_unmatched plan ≡ reaches client t
reached client t plan h = reached_for t.service client t plan h

-- what is refused before its value is refused so whatever the value is
unset_unread : (client : Client) (w : Result Attribute AccessResult) (selected : Bool) (v : Value) (plan : Result Event AccessResult) → (is_ok w && not selected) ≡ false
    → IsPlan (w >>= λ a. (if selected then Err ScopeOfAccessViolated else no_setting TypeUnmatched)) plan
    → IsPlan (w >>= λ a. (if selected then Err ScopeOfAccessViolated else setting_of client a.content v)) plan
unset_unread client (Ok a) true v plan e h = h
unset_unread client (Ok a) false v plan e h = absurd cc
unset_unread client (Err r) selected v plan e h = h

uncalled_unread : (w : Result Call AccessResult) (v : Value) (plan : Result Event AccessResult) → is_ok w ≡ false
    → plan ≡ (w >>= λ method. Err TypeUnmatched) → plan ≡ (w >>= λ method. event_of method (Some v))
uncalled_unread (Ok method) v plan e h = absurd cc
uncalled_unread (Err r) v plan e h = h

pub unread : (service : Service) (client : Client) (t : Target) (v : Value) (plan : Result Event AccessResult) → reaches_for service client t ≡ false
    → IsPlanFor service client t None plan → IsPlanFor service client t (Some v) plan
unread Set client t v plan e h = unset_unread client (writable client t.descriptor) t.selected v plan e h
unread Action client t v plan e h = uncalled_unread (callable client t.descriptor) v plan e h
