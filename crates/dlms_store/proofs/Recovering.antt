-- The checkpoint that a recovery makes, and the store after it.
use Rattle.std.proofs.Common.{◌≡◌, ◌<◌, ◌≤◌, ◌+◌, ◌⊎◌, ⊎_elim, inl, inr, Result, ℕ, true, false, arith, sym, List, [], ◌++◌, length, replicate, refl, ◌∙◌, ap, subst}
use Rattle.std.proofs.lemmas.List.{append-nil, get_or-set_same}
use Rattle.std.proofs.lemmas.Bool.{cases_lt}
use Rattle.std.specs.Prelude.{slice_set}
use Rattle.dlms_pages.specs.Device.{View, Image, Outcome, Rules, page_at}
use Rattle.dlms_pages.specs.Device.Outcome.{Old, New, Torn}
use Rattle.dlms_pages.specs.Stops.{IsFixed, LeavesOnly}
use Rattle.dlms_pages.specs.declared.device.Pages.{Ghosts}
use Rattle.dlms_pages.specs.declared.device.PageRead.{PageRead}
use Rattle.dlms_pages.specs.declared.device.PageRead.TheVariants.{Content, Damaged}
use Rattle.dlms_pages.proofs.Moments.{no_call, seen_is, weaker}
use Rattle.dlms_checkpoint.specs.declared.version.Version.TheVariants.{Rings, Columns}
use Rattle.dlms_state.specs.declared.event.Event.{Event}
use Rattle.dlms_state.specs.StateValue.{StateValue, IsStateOf}
use Rattle.dlms_journal.specs.declared.kind.PageKind.TheVariants.{Journal}
use Rattle.dlms_store.specs.declared.layout.Slot.{Slot}
use Rattle.dlms_store.specs.declared.layout.TheConstants.{JOURNAL}
use Rattle.dlms_store.specs.declared.open.Found.{Found}
use Rattle.dlms_store.specs.declared.page.Edition.{Edition}
use Rattle.dlms_store.specs.declared.store.Store.{Store}
use Rattle.dlms_store.specs.declared.fault.OpenFault.{OpenFault}
use Rattle.dlms_store.specs.declared.fault.OpenFault.TheVariants as opening
use Rattle.dlms_store.specs.Steady.{HasCheckpoint, Steady}
use Rattle.dlms_store.proofs.Slots.{same_edition}
use Rattle.dlms_store.specs.Active.{HasMore, IsFound, IsStale}
use Rattle.dlms_store.specs.Fitting.{GivesBack, IsRefusal, LeftBy, OpensAs}
use Rattle.dlms_store.specs.Image.{IsLeftFor, Quiet, Reads, Records, Renewable, Stands, StandsFor, all_of}
use Rattle.dlms_store.specs.Layout.{other_of}
use Rattle.dlms_store.specs.Page.{IsOf, next_of, present}
use Rattle.dlms_store.specs.Store.{records_in, state_in}
use Rattle.dlms_store.specs.World.StoreWorld.{Runs, Rests}
use Rattle.dlms_store.specs.Writing.{Brings, IsBare, IsBlanked, IsCleared, IsClearOf}
use Rattle.dlms_store.proofs.Counting.{counted}
use Rattle.dlms_store.proofs.Images.{headed, unread}
use Rattle.dlms_store.proofs.Reopening.{as_found, may_renew, not_next, remembered}
use Rattle.dlms_store.proofs.Starting.{bare_journal}

-- ---- the journal's first page cleared

bare_records : (e : Edition) (page : PageRead) → IsBare page → (events : List Event) → Records e 0 events page → ⊥
bare_records e page (inl zeros) events records = bare_journal 0 e page zeros (headed Journal 0 e records.payload page records.is_page)
bare_records e page (inr damaged) events records = (let gone = subst (λ (p : PageRead). IsOf Journal 0 e p) damaged (headed Journal 0 e records.payload page records.is_page) in gone)

blanked_reads : (slot : Slot) (e : Edition) (base : List Event) (pages : List (List Event)) (image c : Image) → Reads slot e base pages image → IsBlanked (next_of e) image c → Reads slot e base pages c
blanked_reads slot e base pages image c reads (inl same) = subst (Reads slot e base pages) (sym same) reads
blanked_reads slot e base pages image c reads (inr (of, (page, bare, same))) =
    ⊎_elim
    (λ (some : 0 < length pages). absurd (not_next e base pages image reads.journal some of))
    (λ (none : length pages ≤ 0).
    let first : length pages ≡ 0 = omega (arith, none) in
    let place : JOURNAL + length pages ≡ JOURNAL = omega (arith, first) in
    let there = unread slot e base pages image reads (omega (arith, first)) page (λ events records. bare_records e page bare events (subst (λ (n : ℕ). Records e n events page) first records)) in
    subst (Reads slot e base pages) (ap (λ (n : ℕ). slice_set image n page) place ∙ sym same) there)
    (cases_lt 0 (length pages))

cleared_reads : (slot : Slot) (e : Edition) (base : List Event) (pages : List (List Event)) (image c : Image) → Reads slot e base pages image → IsCleared e image c → Reads slot e base pages c
cleared_reads slot e base pages image c reads (inl same) = subst (Reads slot e base pages) (sym same) reads
cleared_reads slot e base pages image c reads (inr (older, blanked)) = blanked_reads slot e base pages image c reads blanked

-- on what a store left there is nothing to clear
pub cleared_nothing : (slot : Slot) (e : Edition) (base : List Event) (pages : List (List Event)) (image c : Image) → Stands slot e base pages image → IsCleared e image c → c ≡ image
cleared_nothing slot e base pages image c stands (inl same) = same
cleared_nothing slot e base pages image c stands (inr (older, inl same)) = same
cleared_nothing slot e base pages image c stands (inr (older, inr (of, (page, bare, same)))) =
    ⊎_elim
    (λ (some : 0 < length pages). absurd (not_next e base pages image stands.reads.journal some of))
    (λ (none : length pages ≤ 0). (let late : e.generation + 1 ≤ e.generation = stands.quiet.newer 0 (next_of e) none (omega arith) of in absurd (omega (arith, late))))
    (cases_lt 0 (length pages))

cleared_present : (e : Edition) (image c : Image) → e.version ≡ Columns → IsCleared e image c → c ≡ image
cleared_present e image c version (inl same) = same
cleared_present e image c version (inr (older, blanked)) = absurd (cc (older, version))

-- a page of zeros is written there
pub blank_outcome : (next : Edition) (image : Image) (mid : Image → Type 0) → ((d : Image) → mid d → d ≡ image) → IsOf Journal 0 next (page_at image JOURNAL) → (c : Image) → Outcome JOURNAL (replicate 512 0) mid c → IsBlanked next image c
blank_outcome next image mid only of c (Old left) = inl (only c left)
blank_outcome next image mid only of c (New d left same) = inr (of, (Content (replicate 512 0), inl refl, same ∙ ap (λ (i : Image). slice_set i JOURNAL (Content (replicate 512 0))) (only d left)))
blank_outcome next image mid only of c (Torn d left same) = inr (of, (Damaged, inr refl, same ∙ ap (λ (i : Image). slice_set i JOURNAL Damaged) (only d left)))

pub blank_none : (next : Edition) (old c : Image) → JOURNAL < length old → c ≡ slice_set old JOURNAL (Content (replicate 512 0)) → IsOf Journal 0 next (page_at c JOURNAL) → ⊥
blank_none next old c room same of =
    bare_journal 0 next (page_at c JOURNAL) (ap (λ (i : Image). page_at i JOURNAL) same ∙ get_or-set_same old JOURNAL (Content (replicate 512 0)) Damaged room) of

stale_more : {A : Type 0} (found : Found A) → found.edition.version ≡ Columns → IsStale found → HasMore found.journal
stale_more found version (inl more) = more
stale_more found version (inr older) = absurd (cc (older, version))

-- once it is cleared a recovery may renew it
pub cleared_renewable : {A : Type 0} (image c : Image) (base : List Event) (pages : List (List Event)) (found : Found A) → IsFound image base pages found → IsStale found → IsClearOf found.edition image c → Renewable found.slot found.edition base pages c
cleared_renewable image c base pages found is stale clear =
    (elim found.edition.version as (λ v. found.edition.version ≡ v → Renewable found.slot found.edition base pages c) [
      | Rings ↦ λ version. record {
        reads = cleared_reads found.slot found.edition base pages image c is.reads clear.cleared;
        empty = λ events records. clear.none version (headed Journal 0 (next_of found.edition) records.payload (page_at c JOURNAL) records.is_page);
      }
      | Columns ↦ λ version. subst (Renewable found.slot found.edition base pages) (sym (cleared_present found.edition image c version clear.cleared)) (may_renew image base pages found is (stale_more found version stale))
    ]) refl

pub cleared_stands_for : {A : Type 0} (image c : Image) (base : List Event) (pages : List (List Event)) (found : Found A) → IsFound image base pages found → IsCleared found.edition image c → StandsFor (base ++ all_of pages) c
cleared_stands_for image c base pages found is cleared = record { slot = found.slot; edition = found.edition; base = base; pages = pages; spelled = refl; reads = cleared_reads found.slot found.edition base pages image c is.reads cleared }

pub found_left : {A : Type 0} (image : Image) (base : List Event) (pages : List (List Event)) (found : Found A) → IsFound image base pages found → Quiet found.edition.generation (length pages) image → IsLeftFor (base ++ all_of pages) image
found_left image base pages found is quiet = record { slot = found.slot; edition = found.edition; base = base; pages = pages; spelled = refl; stands = record { reads = is.reads; quiet = quiet } }

pub either_left : (slot : Slot) (e : Edition) (base : List Event) (pages : List (List Event)) (c : Image) → Stands slot e base pages c ⊎ Stands (other_of slot) (next_of e) (base ++ all_of pages) [] c → IsLeftFor (base ++ all_of pages) c
either_left slot e base pages c (inl stands) = record { slot = slot; edition = e; base = base; pages = pages; spelled = refl; stands = stands }
either_left slot e base pages c (inr stands) = record { slot = other_of slot; edition = next_of e; base = base ++ all_of pages; pages = []; spelled = append-nil (base ++ all_of pages); stands = stands }

-- ---- the store behind it

-- a call that brought these, in a device that rests
pub rested : {T E : Type 0} (events : List Event) (AtLast : Image → Type 0) (old new : View) (result : Result T E) → Brings (IsLeftFor events) AtLast old new result → LeavesOnly old new (LeftBy (Rests events))
rested events AtLast old new result brings = weaker old new (IsLeftFor events) (LeftBy (Rests events)) (λ c left. (events, refl, left)) brings.any_moment

pub rests_still : (events : List Event) (v : View) → Rules v → ((c : Image) → v.may_leave c → IsLeftFor events c) → LeavesOnly v v (LeftBy (Rests events))
rests_still events v rules left = no_call v (LeftBy (Rests events)) (λ c may. (events, refl, left c may)) rules

-- a store made at a slot and a generation
pub record IsAt {P A : Type 0} {ghosts : Ghosts P} (store : Store P A ghosts) (device : P) (slot : Slot) (generation : ℕ) (s : StateValue) : Type 0 where
  pub device_is : store.device ≡ device
  pub state : state_in store ≡ s
  pub slot_is : store.slot ≡ slot
  pub generation_is : store.generation ≡ generation
  pub runs : store.stopped ≡ false
  pub none : records_in store ≡ []
  pub next : store.next ≡ 0
  pub captured : store.captured ≡ 0

pub opens_at : {P A : Type 0} {ghosts : Ghosts P} (events : List Event) (old : View) (s : StateValue) (store : Store P A ghosts) (device : P) (slot : Slot) (generation : ℕ) → IsAt store device slot generation s → IsLeftFor events old.seen → IsStateOf events s
    → LeavesOnly old (ghosts.view device) (LeftBy (Rests events)) → (ghosts.view device).honest ≡ true → ((c : Image) → (ghosts.view device).may_leave c → Stands slot (present generation) events [] c) → OpensAs (Rests events) old store
opens_at {P} {A} {ghosts} events old s store device slot generation at there is moments honest stands = record {
  found = events;
  read = there;
  now = Runs events [];
  next = (refl, refl);
  fits = (
    record {
      runs = at.runs;
      base = events;
      pages = [];
      spelled = append-nil events;
      next = at.next;
      captured = (let rows : (state_in store).rows.next ≡ s.rows.next = ap (λ (t : StateValue). t.rows.next) at.state in omega (arith, rows, at.captured, counted events s is));
      device = record {
        honest = subst (λ d. (ghosts.view d).honest ≡ true) (sym at.device_is) honest;
        each = λ c left. subst (λ (k : Slot). Stands k (present store.generation) events [] c) (sym at.slot_is)
            (subst (λ (n : ℕ). Stands slot (present n) events [] c) (sym at.generation_is) (stands c (subst (λ d. (ghosts.view d).may_leave c) at.device_is left)));
      };
    },
    remembered events s store is at.state at.none,
  );
  any_moment = subst (λ d. LeavesOnly old (ghosts.view d) (LeftBy (Rests events))) (sym at.device_is) moments;
}

pub steady_at : {P A : Type 0} {ghosts : Ghosts P} (events : List Event) (old : View) (s : StateValue) (store : Store P A ghosts) (device : P) (slot : Slot) (generation : ℕ) → IsAt store device slot generation s → Steady events old (ghosts.view device) → Steady events old (ghosts.view store.device)
steady_at {P} {A} {ghosts} events old s store device slot generation at steady = subst (λ d. Steady events old (ghosts.view d)) (sym at.device_is) steady

pub stands_at : {P A : Type 0} {ghosts : Ghosts P} (events : List Event) (s : StateValue) (store : Store P A ghosts) (device : P) (slot : Slot) (generation : ℕ) → IsAt store device slot generation s → ((c : Image) → (ghosts.view device).may_leave c → Reads slot (present generation) events [] c) → HasCheckpoint events store
stands_at {P} {A} {ghosts} events s store device slot generation at reads c left =
    subst (λ (k : Slot). Reads k (present store.generation) events [] c) (sym at.slot_is)
    (subst (λ (n : ℕ). Reads slot (present n) events [] c) (sym at.generation_is) (reads c (subst (λ d. (ghosts.view d).may_leave c) at.device_is left)))

pub given_back : (events : List Event) (old new : View) (fault : OpenFault) → IsLeftFor events old.seen → (fault ≡ opening.Device) ⊎ (fault ≡ opening.Exhausted) → new.honest ≡ true → LeavesOnly old new (LeftBy (Rests events)) → ((c : Image) → new.may_leave c → IsLeftFor events c) → GivesBack (Rests events) old new fault
given_back events old new fault there cause honest moments each = record {
  now = Rests events;
  next = refl;
  fits = record { honest = honest; each = each };
  any_moment = moments;
  cause = ⊎_elim (λ (same : fault ≡ opening.Device). subst IsRefusal (sym same) tt) (λ (same : fault ≡ opening.Exhausted). subst IsRefusal (sym same) tt) cause;
  read = there;
}

-- ---- where nothing is due

pub not_older : {A : Type 0} (found : Found A) → (IsStale found → ⊥) → found.edition.version ≡ Columns
not_older found fresh = (elim found.edition.version as (λ v. found.edition.version ≡ v → v ≡ Columns) [ Rings ↦ λ older. absurd (fresh (inr older)) | Columns ↦ λ same. refl ]) refl

pub nothing_read : {A : Type 0} (found : Found A) → (IsStale found → ⊥) → found.journal.pages ≡ 0
nothing_read found fresh =
    ⊎_elim
    (λ (some : 0 < found.journal.pages). absurd (fresh (inl (inl some))))
    (λ (none : found.journal.pages ≤ 0). omega (arith, none))
    (cases_lt 0 found.journal.pages)

own_edition : (e : Edition) → e.version ≡ Columns → e ≡ present e.generation
own_edition e version = same_edition e (present e.generation) version refl

pub reads_fresh : {A : Type 0} (image : Image) (base : List Event) (pages : List (List Event)) (found : Found A) → IsFound image base pages found → (IsStale found → ⊥) → (c : Image) → c ≡ image → Reads found.slot (present found.edition.generation) (base ++ all_of pages) [] c
reads_fresh image base pages found is fresh c same =
    subst (λ (e : Edition). Reads found.slot e (base ++ all_of pages) [] c) (own_edition found.edition (not_older found fresh)) (as_found image base pages found is (nothing_read found fresh) c same)

pub stands_fresh : {A : Type 0} (image : Image) (base : List Event) (pages : List (List Event)) (found : Found A) → IsFound image base pages found → (IsStale found → ⊥) → Quiet found.edition.generation (length pages) image → (c : Image) → c ≡ image → Stands found.slot (present found.edition.generation) (base ++ all_of pages) [] c
stands_fresh image base pages found is fresh quiet c same = record {
  reads = reads_fresh image base pages found is fresh c same;
  quiet = subst (Quiet found.edition.generation 0) (sym same) (subst (λ (n : ℕ). Quiet found.edition.generation n image) (sym is.read.count ∙ nothing_read found fresh) quiet);
}

-- if reads return what they returned before from what a recovery left
pub left_seen : {A : Type 0} (v : View) (image : Image) (base : List Event) (pages : List (List Event)) (found : Found A) → IsFixed v image → Rules v → IsFound image base pages found → Quiet found.edition.generation (length pages) image → IsLeftFor (base ++ all_of pages) v.seen
left_seen v image base pages found fixed rules is quiet = subst (IsLeftFor (base ++ all_of pages)) (sym (seen_is v image fixed rules)) (found_left image base pages found is quiet)
