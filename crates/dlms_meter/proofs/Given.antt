-- The blocks of one GET, whatever comes between them.
use Rattle.std.proofs.Common.{arith, ◌≡◌, ◌∙◌, ℕ, ◌+◌, ◌-◌, ◌==◌, refl, sym, ap, subst, inl, inr, append_assoc, append-nil, length-append, add-one, Bool, true, false, if◌then◌else◌, List, [], ◌∷◌, ◌++◌, length, map, Option, Some, None, is_some, Result, Ok, Err, ◌⊎◌, nat_le}
use Rattle.std.specs.Prelude.{◌&&◌, ◌||◌, IfSome}
use Rattle.dlms_acse.specs.Reading.{aarq_at}
use Rattle.dlms_acse.specs.Verdict.{Request, verdict}
use Rattle.dlms_acse.specs.Writing.{aare_bytes}
use Rattle.dlms_acse.specs.declared.fault.AcseFault.{AcseFault}
use Rattle.dlms_acse.specs.declared.outcome.Verdict.{Verdict}
use Rattle.dlms_acse.specs.declared.outcome.Verdict.TheVariants.{Accepted, Refused}
use Rattle.dlms_blocks.specs.Block.{block, block_bytes, is_last, blocks_up_to}
use Rattle.dlms_blocks.specs.Coming.{Coming, first_answer, first_after, more_answer, more_after}
use Rattle.dlms_blocks.specs.Going.{Going, beginning}
use Rattle.dlms_blocks.specs.declared.block.PutStep.{PutStep}
use Rattle.dlms_blocks.specs.declared.block.PutStep.TheVariants.{More, Whole}
use Rattle.dlms_blocks.proofs.BlockLemmas.{beginning_of, whole_of}
use Rattle.dlms_apdu.specs.Forms.{RequestForm, ResponseForm, get_normal, get_next, set_normal, set_first, set_block, action_normal, action_first, action_block, get_data, get_result, get_block, get_block_result, set_result, set_last, action_result}
use Rattle.dlms_apdu.specs.Forms as apdu
use Rattle.dlms_apdu.specs.Reading.{request_at}
use Rattle.dlms_apdu.specs.Writing.{response_bytes}
use Rattle.dlms_apdu.specs.declared.fault.Refusal.{Refusal}
use Rattle.dlms_data.specs.Value.{Value}
use Rattle.dlms_data.specs.Writing.{canonical}
use Rattle.dlms_data.specs.declared.descriptor.Descriptor.{Descriptor}
use Rattle.dlms_frame.specs.declared.client.Client.{Client}
use Rattle.dlms_state.specs.StateValue.{state_of}
use Rattle.dlms_state.specs.declared.event.Event.{Event}
use Rattle.dlms_classes.specs.Access.{number_of}
use Rattle.dlms_classes.specs.declared.access.AccessResult.{AccessResult}
use Rattle.dlms_classes.specs.declared.access.AccessResult.TheVariants.{OtherReason}
use Rattle.dlms_service.specs.declared.association.Association.{Association}
use Rattle.dlms_service.specs.declared.target.Target.{Target}
use Rattle.dlms_service.specs.declared.target.Service.{Service}
use Rattle.dlms_service.specs.declared.target.Service.TheVariants.{Set, Action}
use Rattle.dlms_service.specs.Session.{SessionValue, Outcome, fresh, says, without_get, without_put, has, blocks_with_get}
use Rattle.dlms_service.specs.Planned.{done, result_of}
use Rattle.dlms_service.specs.Stake.{failing, stake_of}
use Rattle.dlms_classes.specs.Answer.{IsShown}
use Rattle.dlms_service.specs.Shown.{asked, Gives, block_form, in_blocks, goes_on}
use Rattle.dlms_service.specs.Blocks.{Steps, ContinuesFor, open_for, taken_form, ended_form, code_for}
use Rattle.dlms_service.specs.Serves.{Choice, FindsMemory, LacksMemoryToRead, LacksMemoryToAnswer, Asks, LacksToAnswer, Permitted, Requested, Read, Within, Released, Associated, secret_for, associated, permits, begins_with}
use Rattle.dlms_meter.specs.Run.{Choice as Chosen, Served, DeviceFails, Does}
use Rattle.dlms_meter.specs.Transfers.{Own, Cleared, Asked, Exchange, InTurn, own_of, is_get_normal, is_block, begins, NoneBegins, blocks_in, Block, spelled, joined, has_last, GoesOut, JoinBlocks, BlocksJoin, NoBlockUnasked}
use Rattle.dlms_meter.proofs.InTurn.{in_turn}

-- ---- one APDU

-- no block is given: the transfer is gone, as it was, or over
abbrev Quiet : Option Going → Option Going → Type 0
Quiet before after = (after ≡ None) ⊎ ((after ≡ before) ⊎ ((g : Going) × (before ≡ Some g) × (after ≡ Some (record g { over = true }))))

-- the transfer with one block more
abbrev further : Going → Going
further g = record g { given = g.given + 1; over = is_last g.encoding g.room (g.given + 1) }

-- its block
abbrev block_of : ℕ → Going → Block
block_of invoke g = record { invoke = invoke; last = is_last g.encoding g.room (g.given + 1); number = g.given + 1; raw = block_bytes g.encoding g.room (g.given + 1) }

-- the next block is given
record Next (request : Result RequestForm Refusal) (s : SessionValue) (o : Outcome) : Type 0 where
  invoke : ℕ
  going : Going
  other : is_get_normal request ≡ false
  getting : s.getting ≡ Some going
  still : going.over ≡ false
  says : o.answer ≡ spelled (block_of invoke going)
  after : o.own.getting ≡ Some (further going)

-- the first block of a value is given
record First (E : List Event) (request : Result RequestForm Refusal) (s : SessionValue) (o : Outcome) : Type 0 where
  invoke : ℕ
  descriptor : Descriptor
  selector : Option apdu.Selection
  asks : request ≡ Ok (get_normal invoke descriptor selector)
  association : Association
  opened : s.opened ≡ Some association
  value : Value
  is_shown : IsShown (state_of E) s.client descriptor (asked s.client association descriptor selector) (Ok value)
  leads : o ≡ in_blocks (without_get s) association invoke (canonical value)

record Moved (E : List Event) (request : Result RequestForm Refusal) (s : SessionValue) (o : Outcome) : Type 0 where
  client : o.own.client ≡ s.client
  move : ((is_block o.answer ≡ false) × Quiet s.getting o.own.getting) ⊎ (Next request s o ⊎ First E request s o)

module _ (E : List Event) (request : Result RequestForm Refusal) (s : SessionValue) (o : Outcome) where
  quiet : (p : Outcome) → o ≡ p → p.own.client ≡ s.client → is_block p.answer ≡ false → Quiet s.getting p.own.getting → Moved E request s o
  quiet p is client none kept = subst (λ (x : Outcome). Moved E request s x) (sym is) (record { client = client; move = inl (none, kept) })

  -- a transfer is left as it is by an answer alone, and by a plan that was done
  said : (own : SessionValue) (form : ResponseForm) → o ≡ says own form → own.client ≡ s.client → own.getting ≡ s.getting → is_block (response_bytes form) ≡ false → Moved E request s o
  said own form is client same none = quiet (says own form) is client none (inr (inl same))

  was_done : (form : ℕ → ResponseForm) (plan : Result Event AccessResult) → o ≡ done E (without_put s) form plan → is_block (response_bytes (form (result_of E plan))) ≡ false → Moved E request s o
  was_done form plan is none = quiet (done E (without_put s) form plan) is refl none (inr (inl refl))

  -- a GET that gives no block drops it
  dropped : (form : ResponseForm) → o ≡ says (without_get s) form → is_block (response_bytes form) ≡ false → Moved E request s o
  dropped form is none = quiet (says (without_get s) form) is refl none (inl refl)

ended_no_block : (service : Service) (invoke number code : ℕ) → is_block (response_bytes (ended_form service invoke number code)) ≡ false
ended_no_block Set invoke number code = refl
ended_no_block Action invoke number code = refl

taken_no_block : (service : Service) (invoke number : ℕ) → is_block (response_bytes (taken_form service invoke number)) ≡ false
taken_no_block Set invoke number = refl
taken_no_block Action invoke number = refl

stepped : (E : List Event) (request : Result RequestForm Refusal) (s : SessionValue) (invoke number : ℕ) (t : Target) (coming : Coming) (step : Result PutStep ℕ) (o : Outcome)
    → Steps E s invoke number t coming step o → Moved E request s o
stepped E request s invoke number t coming (Err code) o e =
    let form : ResponseForm = ended_form t.service invoke number (code_for t.service code) in
    said E request s o (without_put s) form e refl refl (ended_no_block t.service invoke number (code_for t.service code))
stepped E request s invoke number t coming (Ok More) o e =
    said E request s o (record s { target = Some t; coming = coming }) (taken_form t.service invoke number) e refl refl (taken_no_block t.service invoke number)
stepped E request s invoke number t coming (Ok Whole) o (v, plan, is_v, is_plan, typed, e) =
    was_done E request s o (ended_form t.service invoke number) plan e (ended_no_block t.service invoke number (result_of E plan))

continued : (E : List Event) (request : Result RequestForm Refusal) (s : SessionValue) (service : Service) (invoke : ℕ) (b : apdu.BlockForm) (target : Option Target) (o : Outcome)
    → ContinuesFor E s service invoke b target o → Moved E request s o
continued E request s service invoke b None o e =
    said E request s o (without_put s) (ended_form service invoke b.number (code_for service 18)) e refl refl (ended_no_block service invoke b.number (code_for service 18))
continued E request s service invoke b (Some t) o h =
    stepped E request s invoke b.number t (more_after s.coming.taken s.coming b.last b.number b.raw) (more_answer s.coming.taken s.coming.joined b.last b.number b.raw) o h

-- GET of the next block
next_is : (over same : Bool) (E : List Event) (request : Result RequestForm Refusal) (g : Going) (s : SessionValue) (invoke number : ℕ) (o : Outcome) → is_get_normal request ≡ false
    → s.getting ≡ Some g → g.over ≡ over
    → o ≡ says (record s { getting = Some (if over then g else if same then further g else record g { over = true }) })
    (block_form invoke number (if over then Err 16
    else if same then Ok (block g.encoding g.room (g.given + 1))
    else Err 19))
    → Moved E request s o
next_is true same E request g s invoke number o other is e leads =
    said E request s o (record s { getting = Some g }) (get_block_result invoke number 16) leads refl (sym is) refl
next_is false false E request g s invoke number o other is e leads =
    quiet E request s o (says (record s { getting = Some (record g { over = true }) }) (get_block_result invoke number 19)) leads refl refl (inr (inr (g, is, refl)))
next_is false true E request g s invoke number o other is e leads = record {
  client = ap (λ (x : Outcome). x.own.client) leads;
  move = inr (inl (record {
    invoke = invoke;
    going = g;
    other = other;
    getting = is;
    still = e;
    says = ap (λ (x : Outcome). x.answer) leads;
    after = ap (λ (x : Outcome). x.own.getting) leads;
  }));
}

went_on : (getting : Option Going) (E : List Event) (request : Result RequestForm Refusal) (s : SessionValue) (invoke number : ℕ) (o : Outcome) → is_get_normal request ≡ false
    → s.getting ≡ getting → o ≡ goes_on (record s { getting = getting }) invoke number → Moved E request s o
went_on None E request s invoke number o other is e = quiet E request s o (goes_on (record s { getting = None }) invoke number) e refl refl (inl refl)
went_on (Some g) E request s invoke number o other is e = next_is g.over (number == g.given) E request g s invoke number o other is refl e

-- GET of an attribute
sent_is : (fits in_parts : Bool) (E : List Event) (s : SessionValue) (a : Association) (invoke : ℕ) (d : Descriptor) (selector : Option apdu.Selection) (v : Value) (o : Outcome) → s.opened ≡ Some a
    → IsShown (state_of E) s.client d (asked s.client a d selector) (Ok v)
    → o ≡ (if fits then says (without_get s) (get_data invoke v)
    else if in_parts then in_blocks (without_get s) a invoke (canonical v)
    else says (without_get s) (get_result invoke (number_of OtherReason)))
    → Moved E (Ok (get_normal invoke d selector)) s o
sent_is true in_parts E s a invoke d selector v o opened shown e = dropped E (Ok (get_normal invoke d selector)) s o (get_data invoke v) e refl
sent_is false false E s a invoke d selector v o opened shown e = dropped E (Ok (get_normal invoke d selector)) s o (get_result invoke (number_of OtherReason)) e refl
sent_is false true E s a invoke d selector v o opened shown e = record {
  client = ap (λ (x : Outcome). x.own.client) e;
  move = inr (inr (record {
    invoke = invoke;
    descriptor = d;
    selector = selector;
    asks = refl;
    association = a;
    opened = opened;
    value = v;
    is_shown = shown;
    leads = e;
  }));
}

given : (E : List Event) (s : SessionValue) (a : Association) (invoke : ℕ) (d : Descriptor) (selector : Option apdu.Selection) (result : Result Value AccessResult) (o : Outcome) → s.opened ≡ Some a
    → IsShown (state_of E) s.client d (asked s.client a d selector) result → Gives (without_get s) a invoke result o → Moved E (Ok (get_normal invoke d selector)) s o
given E s a invoke d selector (Err r) o opened shown e = dropped E (Ok (get_normal invoke d selector)) s o (get_result invoke (number_of r)) e refl
given E s a invoke d selector (Ok v) o opened shown (sendable, e) =
    sent_is (nat_le (4 + length (canonical v)) a.size) (has a blocks_with_get) E s a invoke d selector v o opened shown e

asked_is : (E : List Event) (s : SessionValue) (a : Association) (form : RequestForm) (o : Outcome) → s.opened ≡ Some a → Asks E s a form o → Moved E (Ok form) s o
asked_is E s a (get_normal invoke d selector) o opened (result, shown, gives) = given E s a invoke d selector result o opened shown gives
asked_is E s a (get_next invoke number) o opened h = went_on s.getting E (Ok (get_next invoke number)) s invoke number o refl refl h
asked_is E s a (set_normal invoke d selector v) o opened (plan, is_plan, typed, e) = was_done E (Ok (set_normal invoke d selector v)) s o (set_result invoke) plan e refl
asked_is E s a (set_first invoke d selector last number raw) o opened h =
    stepped E (Ok (set_first invoke d selector last number raw)) s invoke number (record { service = Set; descriptor = d; selected = is_some selector }) (first_after last number raw) (first_answer last number raw) o h
asked_is E s a (set_block invoke last number raw) o opened h =
    continued E (Ok (set_block invoke last number raw)) s Set invoke (record { last = last; number = number; raw = raw }) (open_for Set s.target) o h
asked_is E s a (action_normal invoke d parameter) o opened (plan, is_plan, typed, e) = was_done E (Ok (action_normal invoke d parameter)) s o (action_result invoke) plan e refl
asked_is E s a (action_first invoke d last number raw) o opened h =
    stepped E (Ok (action_first invoke d last number raw)) s invoke number (record { service = Action; descriptor = d; selected = false }) (first_after last number raw) (first_answer last number raw) o h
asked_is E s a (action_block invoke last number raw) o opened h =
    continued E (Ok (action_block invoke last number raw)) s Action invoke (record { last = last; number = number; raw = raw }) (open_for Action s.target) o h

-- an exception leaves all as it was
excepted : (E : List Event) (request : Result RequestForm Refusal) (s : SessionValue) (o : Outcome) (state service : ℕ) → o ≡ says s (apdu.exception state service) → Moved E request s o
excepted E request s o state service e = said E request s o s (apdu.exception state service) e refl refl refl

lacked : (E : List Event) (s : SessionValue) (a : Association) (form : RequestForm) (o : Outcome) → LacksToAnswer E s a form o → Moved E (Ok form) s o
lacked E s a (get_normal invoke d selector) o h = dropped E (Ok (get_normal invoke d selector)) s o (get_result invoke 2) h.1 refl
lacked E s a (get_next invoke number) o h = excepted E (Ok (get_next invoke number)) s o 1 3 h.1
lacked E s a _ o h = absurd h

permitted : (b : Bool) (E : List Event) (s : SessionValue) (a : Association) (form : RequestForm) (o : Outcome) → s.opened ≡ Some a → Permitted E s a form b o → Moved E (Ok form) s o
permitted true E s a form o opened h = asked_is E s a form o opened h
permitted false E s a form o opened h = excepted E (Ok form) s o 1 2 h

requested : (choice : Choice) (E : List Event) (s : SessionValue) (a : Association) (form : RequestForm) (o : Outcome) → s.opened ≡ Some a → Requested choice E s a form o → Moved E (Ok form) s o
requested FindsMemory E s a form o opened h = permitted (permits a form) E s a form o opened h
requested LacksMemoryToRead E s a form o opened h = excepted E (Ok form) s o 1 3 h.1.1
requested LacksMemoryToAnswer E s a form o opened h = lacked E s a form o h.1

read : (choice : Choice) (E : List Event) (request : Result RequestForm Refusal) (s : SessionValue) (a : Association) (o : Outcome) → s.opened ≡ Some a → Read choice E s a request o → Moved E request s o
read choice E (Ok form) s a o opened h = requested choice E s a form o opened h
read choice E (Err refusal) s a o opened h = excepted E (Err refusal) s o 2 2 h

within : (opened : Option Association) (choice : Choice) (E : List Event) (s : SessionValue) (bytes : List ℕ) (o : Outcome) → s.opened ≡ opened → Within choice E s bytes opened o → Moved E (request_at bytes) s o
within None choice E s bytes o is h = excepted E (request_at bytes) s o 1 1 h
within (Some a) choice E s bytes o is h = read choice E (request_at bytes) s a o is h

released_or : (b : Bool) (choice : Choice) (E : List Event) (s : SessionValue) (bytes : List ℕ) (o : Outcome) → Released choice E s bytes b o → Moved E (request_at bytes) s o
released_or true choice E s bytes o h = quiet E (request_at bytes) s o _ h refl refl (inl refl)
released_or false choice E s bytes o h = within s.opened choice E s bytes o refl h

no_block : (v : Verdict) → is_block (aare_bytes v) ≡ false
no_block (Accepted conformance size) = refl
no_block (Refused diagnostic initiate) = refl

judged_is : (E : List Event) (request : Result RequestForm Refusal) (s : SessionValue) (secret : List ℕ) (r : Result Request AcseFault) (o : Outcome) → o ≡ associated s secret r → Moved E request s o
judged_is E request s secret (Ok r) o e = quiet E request s o (associated s secret (Ok r)) e refl (no_block (verdict r s.client secret)) (inl refl)
judged_is E request s secret (Err fault) o e = quiet E request s o (associated s secret (Err fault)) e refl refl (inl refl)

associated_or : (b : Bool) (choice : Choice) (E : List Event) (s : SessionValue) (bytes : List ℕ) (o : Outcome) → Associated choice E s bytes b o → Moved E (request_at bytes) s o
associated_or true choice E s bytes o h = judged_is E (request_at bytes) s (secret_for s.client E) (aarq_at bytes) o h
associated_or false choice E s bytes o h = released_or (begins_with 0x62 bytes) choice E s bytes o h

-- a device that failed
failed : (kept : Bool) (E : List Event) (request : Result RequestForm Refusal) (s : SessionValue) (form : RequestForm) (events : List Event) (o : Outcome) → o ≡ failing kept s (stake_of form) events → Moved E request s o
failed kept E request s (get_normal invoke d selector) events o e = quiet E request s o _ e refl refl (inl refl)
failed kept E request s (get_next invoke number) events o e = quiet E request s o _ e refl refl (inl refl)
failed kept E request s (set_normal invoke d selector v) events o e = quiet E request s o _ e refl refl (inr (inl refl))
failed kept E request s (set_first invoke d selector last number raw) events o e = quiet E request s o _ e refl refl (inr (inl refl))
failed kept E request s (set_block invoke last number raw) events o e = quiet E request s o _ e refl refl (inr (inl refl))
failed kept E request s (action_normal invoke d parameter) events o e = quiet E request s o _ e refl refl (inr (inl refl))
failed kept E request s (action_first invoke d last number raw) events o e = quiet E request s o _ e refl refl (inr (inl refl))
failed kept E request s (action_block invoke last number raw) events o e = quiet E request s o _ e refl refl (inr (inl refl))

moved_by : (choice : Chosen) (E : List Event) (s : SessionValue) (bytes : List ℕ) (o : Outcome) → Does choice E s bytes o → Moved E (request_at bytes) s o
moved_by (Served memory) E s bytes o h = associated_or (begins_with 0x60 bytes) memory E s bytes o h
moved_by (DeviceFails kept wanted) E s bytes o ((form, at, would, leads, success, e), wants) = failed kept E (request_at bytes) s form would.accepted o e

moved : (x : Exchange) (s : SessionValue) → Does x.choice x.before s x.apdu x.outcome → Moved x.before (request_at x.apdu) s x.outcome
moved x s does = moved_by x.choice x.before s x.apdu x.outcome does

-- ---- blocks, one after another

-- the blocks returned so far, and the transfer's position, if it is still open
record SoFar (text : List ℕ) (size : ℕ) (getting : Option Going) (blocks : List Block) : Type 0 where
  bytes : joined blocks ≡ blocks_up_to text size (length blocks)
  final : has_last blocks ≡ true → is_last text size (length blocks) ≡ true
  stands : IfSome getting (λ g. (g.encoding ≡ text) × (g.room ≡ size) × (g.given ≡ length blocks) × (has_last blocks ≡ true → g.over ≡ true))

joined_more : (blocks : List Block) (b : Block) → joined (blocks ++ b ∷ []) ≡ joined blocks ++ b.raw
joined_more [] b = append-nil b.raw
joined_more (x ∷ blocks) b = ap (λ (rest : List ℕ). x.raw ++ rest) (joined_more blocks b) ∙ sym (append_assoc x.raw (joined blocks) b.raw)

or_none : (a : Bool) → (a || false) ≡ a
or_none true = refl
or_none false = refl

or_more : (a : Bool) (x y z : Bool) → x ≡ (y || z) → (a || x) ≡ ((a || y) || z)
or_more true x y z e = refl
or_more false x y z e = e

last_more : (blocks : List Block) (b : Block) → has_last (blocks ++ b ∷ []) ≡ (has_last blocks || b.last)
last_more [] b = or_none b.last
last_more (x ∷ blocks) b = or_more x.last (has_last (blocks ++ b ∷ [])) (has_last blocks) b.last (last_more blocks b)

length_more : (blocks : List Block) (b : Block) → length (blocks ++ b ∷ []) ≡ length blocks + 1
length_more blocks b = omega (arith, length-append blocks (b ∷ []))

not_both : {X : Type 0} {b : Bool} → b ≡ false → b ≡ true → X
not_both e h = absurd cc

-- if none was the last before, it is the last now
only_now : (before now : Bool) → (before ≡ true → now ≡ true) → (before || now) ≡ true → now ≡ true
only_now true now was h = was refl
only_now false now was h = h

is_at : {A : Type 0} (f : List ℕ → ℕ → ℕ → A) (text : List ℕ) (size n : ℕ) (g : Going) → g.encoding ≡ text → g.room ≡ size → g.given ≡ n → f g.encoding g.room (g.given + 1) ≡ f text size (n + 1)
is_at f text size n g encoding room at =
    ap (λ (e : List ℕ). f e g.room (g.given + 1)) encoding ∙ ap (λ (r : ℕ). f text r (g.given + 1)) room ∙ ap (λ (m : ℕ). f text size (m + 1)) at

-- one block more
grow : (text : List ℕ) (size invoke : ℕ) (g : Going) (blocks : List Block) → g.over ≡ false → SoFar text size (Some g) blocks → SoFar text size (Some (further g)) (blocks ++ block_of invoke g ∷ [])
grow text size invoke g blocks still so_far =
    let b : Block = block_of invoke g in
    let n : ℕ = length blocks in
    let more : length (blocks ++ b ∷ []) ≡ n + 1 = length_more blocks b in
    let raw : b.raw ≡ block_bytes text size (n + 1) = is_at block_bytes text size n g so_far.stands.0 so_far.stands.1 so_far.stands.2 in
    let last : b.last ≡ is_last text size (n + 1) = is_at is_last text size n g so_far.stands.0 so_far.stands.1 so_far.stands.2 in
    let told = λ (e : has_last (blocks ++ b ∷ []) ≡ true). only_now (has_last blocks) b.last (λ was. not_both still (so_far.stands.3 was)) (sym (last_more blocks b) ∙ e) in
    record {
      bytes = joined_more blocks b ∙ ap (λ (front : List ℕ). front ++ b.raw) so_far.bytes ∙ ap (λ (back : List ℕ). blocks_up_to text size n ++ back) raw
          ∙ ap (λ (m : ℕ). blocks_up_to text size m) (sym (add-one n)) ∙ ap (λ (m : ℕ). blocks_up_to text size m) (sym more);
      final = λ e. ap (λ (m : ℕ). is_last text size m) more ∙ sym last ∙ told e;
      stands = (so_far.stands.0, so_far.stands.1, ap (λ (m : ℕ). m + 1) so_far.stands.2 ∙ sym more, told);
    }

-- no block more
keep : (text : List ℕ) (size : ℕ) (before after : Option Going) (blocks : List Block) → Quiet before after → SoFar text size before blocks → SoFar text size after blocks
keep text size before after blocks (inl none) so_far =
    subst (λ (x : Option Going). SoFar text size x blocks) (sym none) (record { bytes = so_far.bytes; final = so_far.final; stands = tt })
keep text size before after blocks (inr (inl same)) so_far = subst (λ (x : Option Going). SoFar text size x blocks) (sym same) so_far
keep text size before after blocks (inr (inr (g, was, is))) so_far =
    let stood : SoFar text size (Some g) blocks = subst (λ (x : Option Going). SoFar text size x blocks) was so_far in
    subst (λ (x : Option Going). SoFar text size x blocks) (sym is) (record {
      bytes = stood.bytes;
      final = stood.final;
      stands = (stood.stands.0, stood.stands.1, stood.stands.2, λ e. refl);
    })

-- the blocks that further APDUs gave
record Gave (text : List ℕ) (size : ℕ) (front : List Block) (xs : List Own) : Type 0 where
  blocks : List Block
  are : map spelled blocks ≡ blocks_in xs
  bytes : joined (front ++ blocks) ≡ blocks_up_to text size (length (front ++ blocks))
  final : has_last (front ++ blocks) ≡ true → is_last text size (length (front ++ blocks)) ≡ true

begins_first : (x : Exchange) (s : SessionValue) → First x.before (request_at x.apdu) s x.outcome → begins x ≡ true
begins_first x s first =
    ap (λ (r : Result RequestForm Refusal). is_get_normal r && is_block x.outcome.answer) first.asks ∙ ap (λ (o : Outcome). is_block o.answer) first.leads

unless_block : (x : Exchange) (xs : List Own) (b : Bool) → is_block x.outcome.answer ≡ b → blocks_in (Asked x ∷ xs) ≡ (if b then x.outcome.answer ∷ blocks_in xs else blocks_in xs)
unless_block x xs b is = ap (λ (c : Bool). if c then x.outcome.answer ∷ blocks_in xs else blocks_in xs) is

gave_more : (text : List ℕ) (size : ℕ) (front : List Block) (b : Block) (x : Exchange) (xs : List Own) → x.outcome.answer ≡ spelled b → Gave text size (front ++ b ∷ []) xs → Gave text size front (Asked x ∷ xs)
gave_more text size front b x xs says rest =
    let all : (front ++ b ∷ []) ++ rest.blocks ≡ front ++ b ∷ rest.blocks = append_assoc front (b ∷ []) rest.blocks in
    let is : is_block x.outcome.answer ≡ true = ap is_block says in
    record {
      blocks = b ∷ rest.blocks;
      are = ap (λ (bytes : List ℕ). bytes ∷ map spelled rest.blocks) (sym says) ∙ ap (λ (others : List (List ℕ)). x.outcome.answer ∷ others) rest.are ∙ sym (unless_block x xs true is);
      bytes = subst (λ (blocks : List Block). joined blocks ≡ blocks_up_to text size (length blocks)) all rest.bytes;
      final = subst (λ (blocks : List Block). has_last blocks ≡ true → is_last text size (length blocks) ≡ true) all rest.final;
    }

gave_none : (text : List ℕ) (size : ℕ) (front : List Block) (x : Exchange) (xs : List Own) → is_block x.outcome.answer ≡ false → Gave text size front xs → Gave text size front (Asked x ∷ xs)
gave_none text size front x xs none rest = record { blocks = rest.blocks; are = rest.are ∙ sym (unless_block x xs false none); bytes = rest.bytes; final = rest.final }

all_given : (xs : List Own) (text : List ℕ) (size : ℕ) (s s' : SessionValue) (front : List Block) → SoFar text size s.getting front → InTurn s xs s' → NoneBegins xs → Gave text size front xs
all_given [] text size s s' front so_far run none =
    let all : front ≡ front ++ [] = sym (append-nil front) in
    record {
      blocks = [];
      are = refl;
      bytes = subst (λ (blocks : List Block). joined blocks ≡ blocks_up_to text size (length blocks)) all so_far.bytes;
      final = subst (λ (blocks : List Block). has_last blocks ≡ true → is_last text size (length blocks) ≡ true) all so_far.final;
    }
all_given (Cleared ∷ xs) text size s s' front so_far run none =
    let rest : Gave text size front xs = all_given xs text size (fresh s.client) s' front (keep text size s.getting None front (inl refl) so_far) run none in
    record { blocks = rest.blocks; are = rest.are; bytes = rest.bytes; final = rest.final }
all_given (Asked x ∷ xs) text size s s' front so_far (does, run) (other, none) =
    elim (moved x s does).move as (λ _. Gave text size front (Asked x ∷ xs)) [
      | inl (silent, kept) ↦ gave_none text size front x xs silent
          (all_given xs text size x.outcome.own s' front (keep text size s.getting x.outcome.own.getting front kept so_far) run none)
      | inr (inl next) ↦
          let before : SoFar text size (Some next.going) front = subst (λ (g : Option Going). SoFar text size g front) next.getting so_far in
          let b : Block = block_of next.invoke next.going in
          let after : SoFar text size x.outcome.own.getting (front ++ b ∷ []) =
          subst (λ (g : Option Going). SoFar text size g (front ++ b ∷ [])) (sym next.after) (grow text size next.invoke next.going front next.still before) in
          gave_more text size front b x xs next.says (all_given xs text size x.outcome.own s' (front ++ b ∷ []) after run none)
      | inr (inr first) ↦ not_both other (begins_first x s first)
    ]

-- ---- in a run

-- what those before one of them left
record Parted (s s' : SessionValue) (before : List Own) (x : Exchange) (behind : List Own) : Type 0 where
  session : SessionValue
  to : InTurn s before session
  client : session.client ≡ s.client
  does : Does x.choice x.before session x.apdu x.outcome
  from : InTurn x.outcome.own behind s'

parted : (before : List Own) (x : Exchange) (behind : List Own) (s s' : SessionValue) → InTurn s (before ++ Asked x ∷ behind) s' → Parted s s' before x behind
parted [] x behind s s' run = record { session = s; to = refl; client = refl; does = run.0; from = run.1 }
parted (Cleared ∷ before) x behind s s' run =
    let rest : Parted (fresh s.client) s' before x behind = parted before x behind (fresh s.client) s' run in
    record { session = rest.session; to = rest.to; client = rest.client; does = rest.does; from = rest.from }
parted (Asked y ∷ before) x behind s s' run =
    let rest : Parted y.outcome.own s' before x behind = parted before x behind y.outcome.own s' run.1 in
    record { session = rest.session; to = (run.0, rest.to); client = rest.client ∙ (moved y s run.0).client; does = rest.does; from = rest.from }

both : (a b : Bool) → (a && b) ≡ true → (a ≡ true) × (b ≡ true)
both true true h = (refl, refl)
both false b h = absurd cc
both true false h = absurd cc

first_of_them : (x : Exchange) (s : SessionValue) → begins x ≡ true → Moved x.before (request_at x.apdu) s x.outcome → First x.before (request_at x.apdu) s x.outcome
first_of_them x s begun one =
    let tests = both (is_get_normal (request_at x.apdu)) (is_block x.outcome.answer) begun in
    elim one.move as (λ _. First x.before (request_at x.apdu) s x.outcome) [
      | inl (silent, kept) ↦ not_both silent tests.1
      | inr (inl next) ↦ not_both next.other tests.0
      | inr (inr first) ↦ first
    ]

pub join_blocks : (who : Client) (s s' : SessionValue) (all : List Own) → InTurn s all s' → JoinBlocks who s all
join_blocks who s s' all in_turn before behind x own is begun none =
    let parts : Parted s s' before x behind = parted before x behind s s' (subst (λ (xs : List Own). InTurn s xs s') is in_turn) in
    let first : First x.before (request_at x.apdu) parts.session x.outcome = first_of_them x parts.session begun (moved x parts.session parts.does) in
    let out : GoesOut who s before x = record {
      invoke = first.invoke;
      descriptor = first.descriptor;
      selector = first.selector;
      asks = first.asks;
      session = parts.session;
      in_turn = parts.to;
      association = first.association;
      opened = first.opened;
      value = first.value;
      is_shown = subst (λ (c : Client). IsShown (state_of x.before) c first.descriptor (asked c first.association first.descriptor first.selector) (Ok first.value)) (parts.client ∙ own) first.is_shown;
      leads = first.leads;
    } in
    let text : List ℕ = canonical first.value in
    let size : ℕ = first.association.size - 12 in
    let g : Going = beginning text size in
    let b : Block = block_of first.invoke g in
    let begun_with : SoFar text size (Some (further g)) (b ∷ []) =
    grow text size first.invoke g [] refl (record { bytes = refl; final = λ e. not_both refl e; stands = (refl, refl, refl, λ e. not_both refl e) }) in
    let rest : Gave text size (b ∷ []) behind =
    all_given behind text size x.outcome.own s' (b ∷ [])
    (subst (λ (o : Outcome). SoFar text size o.own.getting (b ∷ [])) (sym first.leads) begun_with) parts.from none in
    let whole : Gave text size [] (Asked x ∷ behind) = gave_more text size [] b x behind (ap (λ (o : Outcome). o.answer) first.leads) rest in (
      out,
      whole.blocks,
      whole.are,
      whole.bytes ∙ beginning_of text size (length whole.blocks),
      λ e. whole.bytes ∙ whole_of text size (length whole.blocks) (whole.final e),
    )

pub blocks_join : BlocksJoin
blocks_join who w w' steps run =
    join_blocks who (w.records who).session (w'.records who).session (own_of who w steps w' run) (in_turn who w w' steps run)

-- ---- without a transfer

still_none : (before after : Option Going) → before ≡ None → Quiet before after → after ≡ None
still_none before after none (inl gone) = gone
still_none before after none (inr (inl same)) = same ∙ none
still_none before after none (inr (inr (g, was, is))) = absurd cc

pub no_block_given : (xs : List Own) (s s' : SessionValue) → s.getting ≡ None → InTurn s xs s' → NoneBegins xs → blocks_in xs ≡ []
no_block_given [] s s' gone run none = refl
no_block_given (Cleared ∷ xs) s s' gone run none = no_block_given xs (fresh s.client) s' refl run none
no_block_given (Asked x ∷ xs) s s' gone (does, run) (other, none) =
    elim (moved x s does).move as (λ _. blocks_in (Asked x ∷ xs) ≡ []) [
      | inl (silent, kept) ↦ unless_block x xs false silent ∙ no_block_given xs x.outcome.own s' (still_none s.getting x.outcome.own.getting gone kept) run none
      | inr (inl next) ↦ absurd (cc (gone, next.getting))
      | inr (inr first) ↦ not_both other (begins_first x s first)
    ]

pub no_block_unasked : NoBlockUnasked
no_block_unasked who w w' steps run gone none = no_block_given (own_of who w steps w' run) (w.records who).session (w'.records who).session gone (in_turn who w w' steps run) none
