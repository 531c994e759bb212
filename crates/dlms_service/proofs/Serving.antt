-- What each part of a service shows of its outcome.
use Rattle.std.proofs.Common.{◌≡◌, ◌⊎◌, inl, inr, refl, sym, ap, subst, ℕ, Bool, true, List, [], Option, Some, None, is_some, option_map, option_copied, Bor, Result, Ok, Err, MatchResult}
use Rattle.dlms_data.specs.Value.{Value}
use Rattle.dlms_data.specs.declared.descriptor.Descriptor.{Descriptor}
use Rattle.dlms_apdu.specs.Forms.{RequestForm, ResponseForm, BlockForm, get_normal, get_result, set_normal, set_first, set_result, action_normal, action_result}
use Rattle.dlms_apdu.specs.Forms as apdu
use Rattle.dlms_apdu.specs.View.{selection_of}
use Rattle.dlms_apdu.specs.Reading.{HoldsValue}
use Rattle.dlms_apdu.specs.Writing.{response_bytes}
use Rattle.dlms_data.specs.declared.descriptor.Selector.{Selector}
use Rattle.dlms_blocks.specs.Coming.{Coming, more_answer, more_after}
use Rattle.dlms_blocks.specs.declared.block.PutStep.{PutStep}
use Rattle.dlms_state.specs.declared.event.Event.{Event}
use Rattle.dlms_state.specs.StateValue.{state_of}
use Rattle.dlms_classes.specs.declared.access.AccessResult.{AccessResult}
use Rattle.dlms_classes.specs.declared.access.AccessResult.TheVariants.{TemporaryFailure}
use Rattle.dlms_classes.specs.Access.{number_of}
use Rattle.dlms_frame.specs.declared.client.Client.{Client}
use Rattle.dlms_classes.specs.Answer.{IsShown, IsGranted}
use Rattle.dlms_classes.specs.Encoded.{IsRefused}
use Rattle.dlms_classes.proofs.ShownOnce.{granted}
use Rattle.dlms_service.specs.declared.association.Association.{Association}
use Rattle.dlms_service.specs.declared.target.Target.{Target}
use Rattle.dlms_service.specs.declared.target.Service.{Service}
use Rattle.dlms_service.specs.declared.target.Service.TheVariants.{Set}
use Rattle.dlms_service.specs.Session.{SessionValue, Outcome, without_get, without_put, not_possible}
use Rattle.dlms_service.specs.Planned.{IsValue, IsPlanFor, IsDone}
use Rattle.dlms_service.specs.Shown.{Sends, asked, seen}
use Rattle.dlms_service.specs.Blocks.{Completes, Steps, Begins, Continues, Brings, BringsAlone, BringsLast, open_for, ended_form}
use Rattle.dlms_service.specs.Serves.{Choice, FindsMemory, LacksMemoryToRead, LacksMemoryToAnswer, Asks, BringsValue, LacksToAnswer, Requested, permits}

pub completed : (E : List Event) (s : SessionValue) (invoke number : ℕ) (t : Target) (joined : List ℕ) (value : Option Value) (o : Outcome)
    → IsValue joined value → IsDone E (without_put s) (ended_form t.service invoke number) (IsPlanFor t.service s.client t value) o
    → Completes E s invoke number t joined o
completed E s invoke number t joined value o is d = (value, d.0, is, d.1, d.2, d.3)

-- a value that was sent, or for which there was no memory
pub given : (E : List Event) (s : SessionValue) (a : Association) (invoke : ℕ) (d : Descriptor) (selector : Option apdu.Selection) (v : Value) (own : SessionValue) (answer : List ℕ)
    → IsShown (state_of E) s.client d (asked s.client a d selector) (Ok v)
    → (Sends (without_get s) a invoke v (record { own = own; answer = answer; accepted = [] }) ⊎ ((own ≡ without_get s) × (answer ≡ response_bytes (get_result invoke (number_of TemporaryFailure)))))
    → Asks E s a (get_normal invoke d selector) (record { own = own; answer = answer; accepted = [] }) ⊎ LacksToAnswer E s a (get_normal invoke d selector) (record { own = own; answer = answer; accepted = [] })
given E s a invoke d selector v own answer shown (inl sends) = inl (Ok v, shown, sends)
given E s a invoke d selector v own answer shown (inr lacks) = inr (granted (state_of E) s.client d (seen a selector) v shown, rw (lacks.0, lacks.1) refl)

-- a refusal, or want of memory for the encoding
pub refusing : (E : List Event) (s : SessionValue) (a : Association) (invoke : ℕ) (d : Descriptor) (selector : Option apdu.Selection) (client : Client) (r : AccessResult) (own : SessionValue) (answer : List ℕ)
    → client ≡ s.client → own ≡ without_get s → answer ≡ response_bytes (get_result invoke (number_of r))
    → IsRefused (state_of E) client d (asked client a d selector) r
    → Asks E s a (get_normal invoke d selector) (record { own = own; answer = answer; accepted = [] }) ⊎ LacksToAnswer E s a (get_normal invoke d selector) (record { own = own; answer = answer; accepted = [] })
refusing E s a invoke d selector client r own answer same is says (inl shown) =
    inl (Err r, subst (λ (c : Client). IsShown (state_of E) c d (asked c a d selector) (Err r)) same shown, rw (is, says) refl)
refusing E s a invoke d selector client r own answer same is says (inr lacks) =
    inr (subst (λ (c : Client). IsGranted (state_of E).columns (asked c a d selector)) same lacks.0, rw (is, says, lacks.1) refl)

-- ---- blocks that come

-- what a call answered is this
abbrev pub Answered : Result PutStep ℕ → Result PutStep ℕ → Type 0
Answered given wanted = MatchResult given (λ x. wanted ≡ Ok x) (λ code. wanted ≡ Err code)

answered : (given wanted : Result PutStep ℕ) → Answered given wanted → wanted ≡ given
answered (Ok x) wanted h = h
answered (Err code) wanted h = h

pub continued : (E : List Event) (s : SessionValue) (service : Service) (invoke : ℕ) (b : BlockForm) (t : Target) (coming : Coming) (step : Result PutStep ℕ) (o : Outcome)
    → open_for service s.target ≡ Some t
    → Answered step (more_answer s.coming.taken s.coming.joined b.last b.number b.raw) → coming ≡ more_after s.coming.taken s.coming b.last b.number b.raw
    → Steps E s invoke b.number t coming step o ⊎ (Brings s.client t coming step × (o ≡ not_possible s))
    → Continues E s service invoke b o ⊎ (BringsLast s service b × (o ≡ not_possible s))
continued E s service invoke b t coming step o is_open a after (inl steps) = inl (rw (is_open, answered step (more_answer s.coming.taken s.coming.joined b.last b.number b.raw) a, sym after) steps)
continued E s service invoke b t coming step o is_open a after (inr h) =
    inr (rw (is_open, answered step (more_answer s.coming.taken s.coming.joined b.last b.number b.raw) a, sym after) h.0, h.1)

-- ---- a request within an association

module _ (E : List Event) (s : SessionValue) (a : Association) (form : RequestForm) (o : Outcome) (permitted : permits a form ≡ true) where
  pub led : Asks E s a form o → (choice : Choice) × Requested choice E s a form o
  led asks = (FindsMemory, rw permitted asks)

  -- or there was no memory for the answer
  pub led_unless_answered : Asks E s a form o ⊎ LacksToAnswer E s a form o → (choice : Choice) × Requested choice E s a form o
  led_unless_answered (inl asks) = led asks
  led_unless_answered (inr lacks) = (LacksMemoryToAnswer, (permitted, lacks))

  -- or for the value that its blocks brought
  pub led_unless_brought : Asks E s a form o ⊎ (BringsValue s form × (o ≡ not_possible s)) → (choice : Choice) × Requested choice E s a form o
  led_unless_brought (inl asks) = led asks
  led_unless_brought (inr lacks) = (LacksMemoryToRead, (permitted, (inr lacks.0, lacks.1)))

  -- or for the value that it holds
  pub unread_request : HoldsValue form → o ≡ not_possible s → (choice : Choice) × Requested choice E s a form o
  unread_request holds is = (LacksMemoryToRead, (permitted, (inl holds, is)))

-- what is planned and done
pub set_done : (E : List Event) (s : SessionValue) (a : Association) (invoke : ℕ) (d : Descriptor) (selector : Option apdu.Selection) (selected : Bool) (v : Value) (o : Outcome)
    → selected ≡ is_some selector
    → IsDone E (without_put s) (set_result invoke) (IsPlanFor Set s.client (record { service = Set; descriptor = d; selected = selected }) (Some v)) o
    → Asks E s a (set_normal invoke d selector v) o
set_done E s a invoke d selector selected v o e h = (h.0, rw (sym e) h.1, h.2, h.3)

pub begun : (E : List Event) (s : SessionValue) (a : Association) (invoke : ℕ) (d : Descriptor) (selector : Option apdu.Selection) (selected last : Bool) (number : ℕ) (raw : List ℕ) (o : Outcome)
    → selected ≡ is_some selector
    → Begins E s invoke (record { service = Set; descriptor = d; selected = selected }) (record { last = last; number = number; raw = raw }) o
    ⊎ (BringsAlone s.client (record { service = Set; descriptor = d; selected = selected }) (record { last = last; number = number; raw = raw }) × (o ≡ not_possible s))
    → Asks E s a (set_first invoke d selector last number raw) o ⊎ (BringsValue s (set_first invoke d selector last number raw) × (o ≡ not_possible s))
begun E s a invoke d selector selected last number raw o e h = rw (sym e) h

-- a selector is there, whatever is seen of it
pub there : {A B : Type 0} (f : A → B) (o : Option A) → is_some o ≡ is_some (option_map f o)
there f None = refl
there f (Some x) = refl

-- a selector after a reference is the selector
pub seen_through : {A : Type 0} (r : Option (Bor (Selector A))) (o : Option (Selector A)) → option_copied r ≡ o → option_map (λ s. selection_of s.now) r ≡ option_map selection_of o
seen_through None o e = ap (option_map selection_of) e
seen_through (Some v) o e = ap (option_map selection_of) e
