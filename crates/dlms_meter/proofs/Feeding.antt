-- A call of feed.
use Rattle.std.proofs.Common.{length, ◌≤◌, ◌≡◌, inl, inr, refl, sym, ◌∙◌, ap, subst, ℕ, Bool, true, false, if◌then◌else◌, List, [], ◌∷◌, ◌++◌, Option, Some, None}
use Rattle.std.specs.Prelude.{IfSome, ◌≢◌}
use Rattle.dlms_frame.specs.Frame.{Parts}
use Rattle.dlms_frame.specs.Stream.{Fits, Kept, Takes as TakesBytes}
use Rattle.dlms_frame.specs.declared.client.Client.{Client}
use Rattle.dlms_frame.specs.declared.client.Client.TheVariants.{Public, Management, Reader}
use Rattle.dlms_link.specs.Server.{ServerRecord, server_on}
use Rattle.dlms_link.specs.declared.out.LinkOut.{LinkOut}
use Rattle.dlms_link.specs.declared.out.LinkOut.TheVariants.{Nothing, Reply, Apdu, Oversize, BadLlc, Up, Down}
use Rattle.dlms_pages.specs.Device.{Rules}
use Rattle.dlms_pages.specs.declared.device.Pages.{Ghosts}
use Rattle.dlms_service.specs.Session.{SessionValue, Outcome}
use Rattle.dlms_service.specs.Serves.{FindsMemory}
use Rattle.dlms_service.specs.Stake.{is_success, fails, stake_of}
use Rattle.dlms_service.specs.declared.stake.Stake.{Stake}
use Rattle.dlms_service.specs.declared.stake.Stake.TheVariants.{Get, Next as NextBlock, Set, SetLast, Action}
use Rattle.dlms_state.specs.declared.event.Event.{Event}
use Rattle.dlms_store.specs.World.{StoreWorld, StoreStep, Next, StoreRun}
use Rattle.dlms_store.specs.World.StoreWorld.{Runs, InDoubt, Rests}
use Rattle.dlms_store.specs.World.StoreStep.{Settles}
use Rattle.dlms_store.specs.Going.{Goes}
use Rattle.dlms_store.proofs.Going.{none}
use Rattle.dlms_meter.specs.ClientRecord.{ClientRecord}
use Rattle.dlms_meter.specs.declared.meter.Meter.{Meter}
use Rattle.dlms_meter.specs.Run.{MeterWorld, Records, Turn, Choice, Served, DeviceFails, Does, Handled, Handles, Answered, Takes, IsSettling, StoredFor, Stored, pending_in, Feeds, Stands, Handling, Replies, MayChoose, client_at, is_same, record_for, with_record, after_turn, grown, events_of}
use Rattle.dlms_meter.proofs.Apart.{same-is, not_same}
use Rattle.dlms_meter.proofs.RunLemmas.{none_ended}

-- ---- an answer of success leaves nothing pending

settled_last : (before now : StoreWorld) → Next before Settles now → pending_in now ≡ []
settled_last (Runs s p) now next = ap pending_in next
settled_last (InDoubt s p) now next = absurd next
settled_last (Rests events) now next = absurd next

run_settled : (steps : List StoreStep) (before now : StoreWorld) → StoreRun before (steps ++ Settles ∷ []) now → pending_in now ≡ []
run_settled [] before now (mid, next, same) = ap pending_in same ∙ settled_last before mid next
run_settled (step ∷ steps) before now (mid, next, run) = run_settled steps mid now run

abbrev pub IsUnsaid : Option (List ℕ) → Type 0
IsUnsaid answer = IfSome answer (λ bytes. is_success bytes ≡ false)

-- result 1 is no success
unsaid_by : (s : SessionValue) (stake : Stake) → is_success (fails s stake).answer ≡ false
unsaid_by s (Get invoke) = refl
unsaid_by s (NextBlock invoke number) = refl
unsaid_by s (Set invoke) = refl
unsaid_by s (SetLast invoke number) = refl
unsaid_by s (Action invoke) = refl

pub unsaid_answer : (kept : Bool) (wanted E : List Event) (s : SessionValue) (apdu : List ℕ) (o : Outcome) → Does (DeviceFails kept wanted) E s apdu o → is_success o.answer ≡ false
unsaid_answer kept wanted E s apdu o ((form, read, would, leads, told, same), wants) = ap (λ (x : Outcome). is_success x.answer) same ∙ unsaid_by s (stake_of form)

pub unsaid : (kept : Bool) (wanted : List Event) (E : List Event) (r : ServerRecord) (s : SessionValue) (out : LinkOut) (h : Handled) → Answered (DeviceFails kept wanted) E r s out h → IsUnsaid h.answer
unsaid kept wanted E r s Nothing h is = absurd is
unsaid kept wanted E r s (Reply frame) h is = absurd is
unsaid kept wanted E r s (Up frame) h is = absurd is
unsaid kept wanted E r s (Down frame) h is = absurd is
unsaid kept wanted E r s Oversize h is = absurd is
unsaid kept wanted E r s BadLlc h is = absurd is
unsaid kept wanted E r s Apdu h (o, does, is) = subst (λ (x : Handled). IsUnsaid x.answer) (sym is) (unsaid_answer kept wanted E s r.apdu o does)

pub promised : (choice : Choice) (answer : Option (List ℕ)) (accepted : List Event) (steps : List StoreStep) (before now : StoreWorld) → ((kept : Bool) (wanted : List Event) → choice ≡ DeviceFails kept wanted → IsUnsaid answer)
    → Stored choice answer accepted steps → StoreRun before steps now → IfSome answer (λ bytes. is_success bytes ≡ true → pending_in now ≡ [])
promised choice None accepted steps before now fails stored run = tt
promised (Served memory) (Some bytes) accepted steps before now fails stored run = λ says.
    let settles : IsSettling accepted steps = subst (λ (b : Bool). StoredFor b accepted steps) says stored in
    run_settled settles.0 before now (subst (λ (x : List StoreStep). StoreRun before x now) settles.2 run)
promised (DeviceFails kept wanted) (Some bytes) accepted steps before now fails stored run = λ says. absurd (cc (says, fails kept wanted refl))

-- ---- a frame

record Led {P A : Type 0} {ghosts : Ghosts P} (w : MeterWorld) (f : Parts) (reply : Option (List ℕ)) (old new : Meter P A ghosts) (who : Option Client) : Type 0 where
  choice : Choice
  records : Records
  answer : Option (List ℕ)
  accepted : List Event
  steps : List StoreStep
  now : StoreWorld
  takes : (from to : ℕ) → Takes (events_of w) w.records (record { from = from; to = to; frame = f; choice = choice; records = records; reply = reply; answer = answer; accepted = accepted; steps = steps; store = now }) who
  stored : Stored choice answer accepted steps
  promise : IfSome answer (λ bytes. is_success bytes ≡ true → pending_in now ≡ [])
  may : MayChoose old.store new.store choice
  own : (c : Client) → records c ≡ record_for new c
  kept : new.deframer ≡ old.deframer
  goes : Goes w.store steps now old.store new.store
  short : IfSome answer (λ bytes. length bytes ≤ 1024)

promised_by : {P A : Type 0} {ghosts : Ghosts P} (own : ClientRecord) (f : Parts) (reply : Option (List ℕ)) (w : MeterWorld) (old new : Meter P A ghosts) (own' : ClientRecord) (h : Handling own f reply own' w.store old.store new.store)
    → IfSome h.answer (λ bytes. is_success bytes ≡ true → pending_in h.now ≡ [])
promised_by own f reply w old new own' h =
    let made : Handled = record { own = own'; reply = reply; answer = h.answer; accepted = h.accepted } in
    promised h.choice h.answer h.accepted h.steps w.store h.now
    (λ kept wanted e. unsaid kept wanted (events_of w) (server_on own.link f).0 own.session (server_on own.link f).1 made (subst (λ (c : Choice). Handles c (events_of w) own f made) e h.handles))
    h.stored h.goes.run

-- each client's record, if one of them changed
pub own_records : {P A : Type 0} {ghosts : Ghosts P} (who : Client) (w : MeterWorld) (old new : Meter P A ghosts) → Stands old w → ((other : Client) → other ≢ who → record_for new other ≡ record_for old other)
    → (c : Client) → with_record w.records who (record_for new who) c ≡ record_for new c
own_records who w old new stands others c = by_test (is_same who c) refl
  where
    by_test : (b : Bool) → is_same who c ≡ b → (if b then record_for new who else w.records c) ≡ record_for new c
    by_test true e = ap (λ (x : Client). record_for new x) (same-is who c e)
    by_test false e = stands.own c ∙ sym (others c (not_same who c e))

led : {P A : Type 0} {ghosts : Ghosts P} (who : Option Client) (w : MeterWorld) (f : Parts) (reply : Option (List ℕ)) (old new : Meter P A ghosts) → ((ghosts.view old.store.device).honest ≡ true → Rules (ghosts.view old.store.device))
    → Stands old w → Replies old f reply new who → Led w f reply old new who
led None w f reply old new rules stands (same, silent) = record {
  choice = Served FindsMemory;
  records = w.records;
  answer = None;
  accepted = [];
  steps = [];
  now = w.store;
  takes = λ from to. (refl, silent, refl, refl);
  stored = (refl, refl);
  promise = tt;
  may = tt;
  own = λ c. stands.own c ∙ ap (λ m. record_for m c) (sym same);
  kept = ap (λ m. m.deframer) same;
  goes = subst (λ m. Goes w.store [] w.store old.store m.store) (sym same) (none w.store old.store rules stands.store);
  short = tt;
}
led (Some who) w f reply old new rules stands (handling, kept, others) =
    let h = handling w.store stands.store in
    let own : ClientRecord = record_for new who in
    record {
      choice = h.choice;
      records = with_record w.records who own;
      answer = h.answer;
      accepted = h.accepted;
      steps = h.steps;
      now = h.now;
      takes = λ from to. (own, subst (λ (r : ClientRecord). Handles h.choice (events_of w) r f (record { own = own; reply = reply; answer = h.answer; accepted = h.accepted })) (sym (stands.own who)) h.handles, refl);
      stored = h.stored;
      promise = promised_by (record_for old who) f reply w old new own h;
      may = h.may;
      own = own_records who w old new stands others;
      kept = kept;
      goes = h.goes;
      short = h.short;
    }

-- ---- calls

abbrev pub with_kept : {P A : Type 0} → {ghosts : Ghosts P} → Meter P A ghosts → Kept → Meter P A ghosts
with_kept m kept = record { alloc = m.alloc; deframer = kept; public = m.public; management = m.management; reader = m.reader; store = m.store }

-- no client's record changes by what is kept of the line
same_records : {P A : Type 0} {ghosts : Ghosts P} (m : Meter P A ghosts) (kept : Kept) (c : Client) → record_for m c ≡ record_for (with_kept m kept) c
same_records m kept Public = refl
same_records m kept Management = refl
same_records m kept Reader = refl

-- one that ended no frame
pub fed_none : {P A : Type 0} {ghosts : Ghosts P} (old : Meter P A ghosts) (taken : List ℕ) (kept : Kept) → ((ghosts.view old.store.device).honest ≡ true → Rules (ghosts.view old.store.device))
    → TakesBytes old.deframer.bytes taken None kept.bytes → Feeds old taken None (with_kept old kept)
fed_none old taken kept rules takes = λ w stands.
    let fits : Fits kept.bytes (w.stretch ++ taken) w.place = takes w.stretch w.place stands.line in (
      grown w taken,
      [],
      inl (none_ended kept.bytes (w.stretch ++ taken) w.place fits, refl, refl, refl),
      record { line = fits; own = λ c. stands.own c ∙ same_records old kept c; store = stands.store },
      none w.store old.store rules stands.store,
    )

-- one that ended a frame
pub fed_one : {P A : Type 0} {ghosts : Ghosts P} (old : Meter P A ghosts) (taken : List ℕ) (kept : Kept) (f : Parts) (reply : Option (List ℕ)) (new : Meter P A ghosts)
    → ((ghosts.view old.store.device).honest ≡ true → Rules (ghosts.view old.store.device))
    → TakesBytes old.deframer.bytes taken (Some f) kept.bytes → Replies (with_kept old kept) f reply new (client_at f.src) → Feeds old taken reply new
fed_one old taken kept f reply new rules takes replies = λ w stands.
    let found = takes w.stretch w.place stands.line in
    let at : MeterWorld = record { stretch = w.stretch ++ taken; place = found.1; records = w.records; store = w.store } in
    let mid : Stands (with_kept old kept) at = record { line = found.4; own = λ c. stands.own c ∙ same_records old kept c; store = stands.store } in
    let leads = led (client_at f.src) at f reply (with_kept old kept) new rules mid replies in
    let turn : Turn = record { from = found.0; to = found.1; frame = f; choice = leads.choice; records = leads.records; reply = reply; answer = leads.answer; accepted = leads.accepted; steps = leads.steps; store = leads.now } in (
      after_turn (grown w taken) turn,
      leads.steps,
      inr (turn, record { next = found.3; takes = leads.takes found.0 found.1; stored = leads.stored; run = leads.goes.run; short = leads.short }, leads.may, leads.promise, found.2, refl, refl, refl),
      record { line = subst (λ (k : Kept). Fits k.bytes (w.stretch ++ taken) found.1) (sym leads.kept) found.4; own = leads.own; store = leads.goes.knows },
      leads.goes,
    )
