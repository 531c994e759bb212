-- The stake of an answer.
use Rattle.std.proofs.Common.{◌≡◌, inl, inr, refl, sym, ◌∙◌, ap, subst, ℕ, Bool, true, false, List, [], ◌∷◌, Option, Some, None, is_some, Result, Ok, Err, if◌then◌else◌, nat_le, length, ◌+◌}
use Rattle.std.specs.Prelude.{◌==◌}
use Rattle.std.proofs.lemmas.Bool.{cases_eq, ne_eqb}
use Rattle.dlms_acse.specs.Verdict.{Request, verdict}
use Rattle.dlms_acse.specs.declared.fault.AcseFault.{AcseFault}
use Rattle.dlms_acse.specs.Writing.{aare_bytes}
use Rattle.dlms_acse.specs.declared.outcome.Verdict.{Verdict}
use Rattle.dlms_acse.specs.declared.outcome.Verdict.TheVariants.{Accepted, Refused}
use Rattle.dlms_apdu.specs.Forms.{RequestForm, ResponseForm, BlockForm, get_normal, get_next, set_normal, set_first, set_block, action_normal, action_first, action_block, get_data, get_result, set_result, set_last, action_result}
use Rattle.dlms_apdu.specs.Reading.{request_at}
use Rattle.dlms_apdu.specs.declared.fault.Refusal.{Refusal as Unread}
use Rattle.dlms_apdu.specs.declared.fault.Refusal.TheVariants.{Choice as NoChoice}
use Rattle.dlms_apdu.specs.Writing.{response_bytes}
use Rattle.dlms_blocks.specs.Coming.{Coming, first_answer, first_after, more_answer, more_after}
use Rattle.dlms_blocks.specs.declared.block.PutStep.{PutStep}
use Rattle.dlms_blocks.specs.declared.block.PutStep.TheVariants.{More, Whole}
use Rattle.dlms_classes.specs.Access.{number_of}
use Rattle.dlms_classes.specs.declared.access.AccessResult.{AccessResult}
use Rattle.dlms_classes.specs.declared.access.AccessResult.TheVariants.{OtherReason}
use Rattle.dlms_data.specs.Value.{Value}
use Rattle.dlms_data.specs.Writing.{canonical}
use Rattle.dlms_state.specs.declared.event.Event.{Event}
use Rattle.dlms_state.specs.declared.event.Refused.{Refused as Refusal}
use Rattle.dlms_state.specs.Refusal.{refusal_after}
use Rattle.dlms_service.specs.declared.association.Association.{Association}
use Rattle.dlms_service.specs.declared.served.Served.{Served}
use Rattle.dlms_service.specs.declared.stake.Stake.{Stake}
use Rattle.dlms_service.specs.declared.stake.Stake.TheVariants.{Next, Set as SetStake, Action as ActionStake}
use Rattle.dlms_service.specs.declared.target.Target.{Target}
use Rattle.dlms_service.specs.declared.target.Service.{Service}
use Rattle.dlms_service.specs.declared.target.Service.TheVariants.{Set, Action}
use Rattle.dlms_service.specs.Session.{SessionValue, Outcome, outcome_of, listed, says, without_get, without_put, has, blocks_with_get}
use Rattle.dlms_service.specs.Planned.{done, accepted_by, result_by}
use Rattle.dlms_service.specs.Shown.{Gives, in_blocks}
use Rattle.dlms_service.specs.Blocks.{Steps, ContinuesFor, open_for, ended_form}
use Rattle.dlms_service.specs.Serves.{Choice, FindsMemory, LacksMemoryToRead, LacksMemoryToAnswer, Asks, LacksToAnswer, Permitted, Requested, Read, Within, Released, Associated, begins_with, permits, associated}
use Rattle.dlms_service.specs.Stake.{is_success, stake_of, fails, failing, FailsBy, Fails}

-- ---- the transfer of a request ends, whatever was made of it

put_of : (s : SessionValue) (own : SessionValue) (o : Outcome) → o.own ≡ own → without_put own ≡ without_put s → without_put o.own ≡ without_put s
put_of s own o is same = ap without_put is ∙ same

done_put : (E : List Event) (s : SessionValue) (form : ℕ → ResponseForm) (plan : Result Event AccessResult) (o : Outcome) → o ≡ done E (without_put s) form plan → without_put o.own ≡ without_put s
done_put E s form plan o is = ap (λ (x : Outcome). without_put x.own) is

steps_put : (E : List Event) (s : SessionValue) (invoke number : ℕ) (t : Target) (coming : Coming) (step : Result PutStep ℕ) (o : Outcome) → Steps E s invoke number t coming step o → without_put o.own ≡ without_put s
steps_put E s invoke number t coming (Err code) o is = ap (λ (x : Outcome). without_put x.own) is
steps_put E s invoke number t coming (Ok More) o is = ap (λ (x : Outcome). without_put x.own) is
steps_put E s invoke number t coming (Ok Whole) o (value, plan, is_value, is_plan, typed, is) = done_put E s (ended_form t.service invoke number) plan o is

further_put : (E : List Event) (s : SessionValue) (service : Service) (invoke : ℕ) (b : BlockForm) (found : Option Target) (o : Outcome) → ContinuesFor E s service invoke b found o → without_put o.own ≡ without_put s
further_put E s service invoke b None o is = ap (λ (x : Outcome). without_put x.own) is
further_put E s service invoke b (Some t) o is = steps_put E s invoke b.number t _ _ o is

sent_get : (s : SessionValue) (a : Association) (invoke : ℕ) (v : Value) (o : Outcome) (fits in_parts : Bool)
    → o ≡ (if fits then says s (get_data invoke v) else if in_parts then in_blocks s a invoke (canonical v) else says s (get_result invoke (number_of OtherReason)))
    → without_get o.own ≡ without_get s
sent_get s a invoke v o true in_parts is = ap (λ (x : Outcome). without_get x.own) is
sent_get s a invoke v o false true is = ap (λ (x : Outcome). without_get x.own) is
sent_get s a invoke v o false false is = ap (λ (x : Outcome). without_get x.own) is

given_get : (s : SessionValue) (a : Association) (invoke : ℕ) (result : Result Value AccessResult) (o : Outcome) → Gives s a invoke result o → without_get o.own ≡ without_get s
given_get s a invoke (Err r) o is = ap (λ (x : Outcome). without_get x.own) is
given_get s a invoke (Ok v) o (sendable, is) = sent_get s a invoke v o (nat_le (4 + length (canonical v)) a.size) (has a blocks_with_get) is

same_end : (E : List Event) (s : SessionValue) (a : Association) (form : RequestForm) (o : Outcome) → Asks E s a form o → fails o.own (stake_of form) ≡ fails s (stake_of form)
same_end E s a (get_normal invoke d selector) o (result, shown, gives) = ap (λ (x : SessionValue). says x (get_result invoke 1)) (given_get (without_get s) a invoke result o gives)
same_end E s a (get_next invoke number) o is = ap (λ (x : Outcome). fails x.own (Next invoke number)) is
same_end E s a (set_normal invoke d selector v) o (plan, is_plan, typed, is) = ap (λ (x : Outcome). fails x.own (SetStake invoke)) is
same_end E s a (set_first invoke d selector last number raw) o is =
    ap (λ (x : SessionValue). says x (set_last invoke 1 number)) (steps_put E s invoke number (record { service = Set; descriptor = d; selected = is_some selector }) (first_after last number raw) (first_answer last number raw) o is)
same_end E s a (set_block invoke last number raw) o is =
    ap (λ (x : SessionValue). says x (set_last invoke 1 number)) (further_put E s Set invoke (record { last = last; number = number; raw = raw }) (open_for Set s.target) o is)
same_end E s a (action_normal invoke d parameter) o (plan, is_plan, typed, is) = ap (λ (x : Outcome). fails x.own (ActionStake invoke)) is
same_end E s a (action_first invoke d last number raw) o is =
    ap (λ (x : SessionValue). says x (action_result invoke 1)) (steps_put E s invoke number (record { service = Action; descriptor = d; selected = false }) (first_after last number raw) (first_answer last number raw) o is)
same_end E s a (action_block invoke last number raw) o is =
    ap (λ (x : SessionValue). says x (action_result invoke 1)) (further_put E s Action invoke (record { last = last; number = number; raw = raw }) (open_for Action s.target) o is)

-- ---- an event is accepted only where the answer says success

abbrev IsSilent : Outcome → Type 0
IsSilent o = is_success o.answer ≡ false → o.accepted ≡ []

silent : (o p : Outcome) → o ≡ p → p.accepted ≡ [] → IsSilent o
silent o p is none unsaid = ap (λ (x : Outcome). x.accepted) is ∙ none

-- the forms of a result report success if it is 0
done_by : (s : SessionValue) (form : ℕ → ResponseForm) (e : Event) (cause : Option Refusal) (o : Outcome) → is_success (response_bytes (form 0)) ≡ true
    → o ≡ record { own = without_put s; answer = response_bytes (form (result_by cause)); accepted = accepted_by cause e } → IsSilent o
done_by s form e None o told is unsaid = absurd (cc (sym told ∙ sym (ap (λ (x : Outcome). is_success x.answer) is) ∙ unsaid))
done_by s form e (Some cause) o told is unsaid = ap (λ (x : Outcome). x.accepted) is

done_silent : (E : List Event) (s : SessionValue) (form : ℕ → ResponseForm) (plan : Result Event AccessResult) (o : Outcome) → is_success (response_bytes (form 0)) ≡ true → o ≡ done E (without_put s) form plan → IsSilent o
done_silent E s form (Ok e) o told is = done_by s form e (refusal_after E e) o told is
done_silent E s form (Err r) o told is = silent o _ is refl

ended_says : (service : Service) (invoke number : ℕ) → is_success (response_bytes (ended_form service invoke number 0)) ≡ true
ended_says Set invoke number = refl
ended_says Action invoke number = refl

steps_silent : (E : List Event) (s : SessionValue) (invoke number : ℕ) (t : Target) (coming : Coming) (step : Result PutStep ℕ) (o : Outcome) → Steps E s invoke number t coming step o → IsSilent o
steps_silent E s invoke number t coming (Err code) o is = silent o _ is refl
steps_silent E s invoke number t coming (Ok More) o is = silent o _ is refl
steps_silent E s invoke number t coming (Ok Whole) o (value, plan, is_value, is_plan, typed, is) = done_silent E s (ended_form t.service invoke number) plan o (ended_says t.service invoke number) is

further_silent : (E : List Event) (s : SessionValue) (service : Service) (invoke : ℕ) (b : BlockForm) (found : Option Target) (o : Outcome) → ContinuesFor E s service invoke b found o → IsSilent o
further_silent E s service invoke b None o is = silent o _ is refl
further_silent E s service invoke b (Some t) o is = steps_silent E s invoke b.number t (more_after s.coming.taken s.coming b.last b.number b.raw) (more_answer s.coming.taken s.coming.joined b.last b.number b.raw) o is

sent_silent : (s : SessionValue) (a : Association) (invoke : ℕ) (v : Value) (o : Outcome) (fits in_parts : Bool)
    → o ≡ (if fits then says s (get_data invoke v) else if in_parts then in_blocks s a invoke (canonical v) else says s (get_result invoke (number_of OtherReason))) → IsSilent o
sent_silent s a invoke v o true in_parts is = silent o _ is refl
sent_silent s a invoke v o false true is = silent o _ is refl
sent_silent s a invoke v o false false is = silent o _ is refl

given_silent : (s : SessionValue) (a : Association) (invoke : ℕ) (result : Result Value AccessResult) (o : Outcome) → Gives s a invoke result o → IsSilent o
given_silent s a invoke (Err r) o is = silent o _ is refl
given_silent s a invoke (Ok v) o (sendable, is) = sent_silent s a invoke v o (nat_le (4 + length (canonical v)) a.size) (has a blocks_with_get) is

asks_silent : (E : List Event) (s : SessionValue) (a : Association) (form : RequestForm) (o : Outcome) → Asks E s a form o → IsSilent o
asks_silent E s a (get_normal invoke d selector) o (result, shown, gives) = given_silent (without_get s) a invoke result o gives
asks_silent E s a (get_next invoke number) o is = silent o _ is refl
asks_silent E s a (set_normal invoke d selector v) o (plan, is_plan, typed, is) = done_silent E s (set_result invoke) plan o refl is
asks_silent E s a (set_first invoke d selector last number raw) o is = steps_silent E s invoke number (record { service = Set; descriptor = d; selected = is_some selector }) (first_after last number raw) (first_answer last number raw) o is
asks_silent E s a (set_block invoke last number raw) o is = further_silent E s Set invoke (record { last = last; number = number; raw = raw }) (open_for Set s.target) o is
asks_silent E s a (action_normal invoke d parameter) o (plan, is_plan, typed, is) = done_silent E s (action_result invoke) plan o refl is
asks_silent E s a (action_first invoke d last number raw) o is = steps_silent E s invoke number (record { service = Action; descriptor = d; selected = false }) (first_after last number raw) (first_answer last number raw) o is
asks_silent E s a (action_block invoke last number raw) o is = further_silent E s Action invoke (record { last = last; number = number; raw = raw }) (open_for Action s.target) o is

-- ---- want of memory is no success

-- neither success nor an event
record Nothing (o : Outcome) : Type 0 where
  fails : is_success o.answer ≡ false
  none : o.accepted ≡ []

nothing : (o p : Outcome) → o ≡ p → is_success p.answer ≡ false → p.accepted ≡ [] → Nothing o
nothing o p is unsaid none = record { fails = ap (λ (x : Outcome). is_success x.answer) is ∙ unsaid; none = ap (λ (x : Outcome). x.accepted) is ∙ none }

lacks_nothing : (E : List Event) (s : SessionValue) (a : Association) (form : RequestForm) (o : Outcome) → LacksToAnswer E s a form o → Nothing o
lacks_nothing E s a (get_normal invoke d selector) o h = nothing o _ h.1 refl refl
lacks_nothing E s a (get_next invoke number) o h = nothing o _ h.1 refl refl
lacks_nothing E s a _ o h = absurd h

-- ---- a request within an association

permitted_silent : (E : List Event) (s : SessionValue) (a : Association) (form : RequestForm) (b : Bool) (o : Outcome) → Permitted E s a form b o → IsSilent o
permitted_silent E s a form true o h = asks_silent E s a form o h
permitted_silent E s a form false o h = silent o _ h refl

requested_silent : (choice : Choice) (E : List Event) (s : SessionValue) (a : Association) (form : RequestForm) (o : Outcome) → Requested choice E s a form o → IsSilent o
requested_silent FindsMemory E s a form o h = permitted_silent E s a form (permits a form) o h
requested_silent LacksMemoryToRead E s a form o h = silent o _ h.1.1 refl
requested_silent LacksMemoryToAnswer E s a form o h = λ unsaid. (lacks_nothing E s a form o h.1).none

-- no stake, no event
pub alone_by : (E : List Event) (s : SessionValue) (a : Association) (form : RequestForm) (own : SessionValue) (answer : List ℕ) (event : Option Event) (stake : Stake) (result : Served)
    → ((choice : Choice) × Requested choice E s a form (outcome_of own answer event)) → result.event ≡ event → result.stake ≡ (if is_success answer then Some stake else None)
    → result.stake ≡ None → listed result.event ≡ []
alone_by E s a form own answer event stake result told same is none = ap listed same ∙ requested_silent told.0 E s a form (outcome_of own answer event) told.1 (no_stake (is_success answer) (sym is ∙ none))
  where
    no_stake : (b : Bool) → (if b then Some stake else None) ≡ None → b ≡ false
    no_stake true e = absurd cc
    no_stake false e = refl

permitted_end : (E : List Event) (s : SessionValue) (a : Association) (form : RequestForm) (b : Bool) (o : Outcome) → Permitted E s a form b o → is_success o.answer ≡ true → fails o.own (stake_of form) ≡ fails s (stake_of form)
permitted_end E s a form true o h told = same_end E s a form o h
permitted_end E s a form false o h told = absurd (cc (sym told ∙ ap (λ (x : Outcome). is_success x.answer) h))

found_memory : (choice : Choice) (E : List Event) (s : SessionValue) (a : Association) (form : RequestForm) (o : Outcome) → Requested choice E s a form o → is_success o.answer ≡ true → Requested FindsMemory E s a form o
found_memory FindsMemory E s a form o h told = h
found_memory LacksMemoryToRead E s a form o h told = absurd (cc (sym told ∙ (nothing o _ h.1.1 refl refl).fails))
found_memory LacksMemoryToAnswer E s a form o h told = absurd (cc (sym told ∙ (lacks_nothing E s a form o h.1).fails))

-- what is at stake, and how it fails
pub fails_by : (E : List Event) (s : SessionValue) (a : Association) (form : RequestForm) (apdu : List ℕ) (own : SessionValue) (answer : List ℕ) (event : Option Event) (result : Served) (at_request stake : Stake) (kept : Bool)
    → request_at apdu ≡ Ok form → s.opened ≡ Some a → ((choice : Choice) × Requested choice E s a form (outcome_of own answer event))
    → result.event ≡ event → at_request ≡ stake_of form → result.stake ≡ (if is_success answer then Some at_request else None) → result.stake ≡ Some stake
    → FailsBy (Within FindsMemory E s apdu s.opened) kept s apdu (failing kept own stake (listed result.event))
fails_by E s a form apdu own answer event result at_request stake kept read opened told same at is here =
    let o : Outcome = outcome_of own answer event in
    let told_so = said (is_success answer) (sym is ∙ here) in
    let found = found_memory told.0 E s a form o told.1 told_so.0 in
    let ends = permitted_end E s a form (permits a form) o found told_so.0 in (
      form,
      read,
      o,
      subst (λ (x : Option Association). Within FindsMemory E s apdu x o) (sym opened) (subst (λ (r : Result RequestForm Unread). Read FindsMemory E s a r o) (sym read) found),
      told_so.0,
      ap (λ (x : Stake). failing kept own x (listed result.event)) (sym told_so.1)
          ∙ ap (λ (x : Outcome). record x { accepted = if kept then listed result.event else [] }) ends
          ∙ ap (λ (e : Option Event). failing kept s (stake_of form) (listed e)) same,
    )
  where
    said : (b : Bool) → (if b then Some at_request else None) ≡ Some stake → (b ≡ true) × (stake_of form ≡ stake)
    said true e = (refl, cc (e, at))
    said false e = absurd cc

-- the association's answers are neither success nor data
pub judged_fails : (v : Verdict) → is_success (aare_bytes v) ≡ false
judged_fails (Accepted conformance size) = refl
judged_fails (Refused diagnostic initiate) = refl

-- an APDU that is read is neither an association request nor a release
other_tag : (tag b : ℕ) (rest : List ℕ) (form : RequestForm) → request_at (tag ∷ rest) ≡ Err NoChoice → request_at (b ∷ rest) ≡ Ok form → (b == tag) ≡ false
other_tag tag b rest form unread read = elim (cases_eq b tag) [
  | inl e ↦ absurd (cc (sym unread ∙ ap (λ (n : ℕ). request_at (n ∷ rest)) (sym e) ∙ read))
  | inr e ↦ ne_eqb b tag e
]

no_tag : (tag : ℕ) (apdu : List ℕ) (form : RequestForm) → ((rest : List ℕ) → request_at (tag ∷ rest) ≡ Err NoChoice) → request_at apdu ≡ Ok form → begins_with tag apdu ≡ false
no_tag tag [] form unread read = refl
no_tag tag (b ∷ rest) form unread read = other_tag tag b rest form (unread rest) read

pub failed_elsewhere : (kept : Bool) (E : List Event) (s : SessionValue) (apdu : List ℕ) (o : Outcome) → FailsBy (Within FindsMemory E s apdu s.opened) kept s apdu o → Fails kept E s apdu o
unfolding request_at
failed_elsewhere kept E s apdu o (form, read, would, within, told, is) = (
  form,
  read,
  would,
  subst (λ (b : Bool). Associated FindsMemory E s apdu b would) (sym (no_tag 0x60 apdu form (λ rest. refl) read))
      (subst (λ (b : Bool). Released FindsMemory E s apdu b would) (sym (no_tag 0x62 apdu form (λ rest. refl) read)) within),
  told,
  is,
)

-- the answer to an association request
pub associated_fails : (s : SessionValue) (secret : List ℕ) (r : Result Request AcseFault) → is_success (associated s secret r).answer ≡ false
associated_fails s secret (Ok r) = judged_fails (verdict r s.client secret)
associated_fails s secret (Err e) = refl
