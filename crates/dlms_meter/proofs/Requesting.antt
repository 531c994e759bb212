-- A call of request, and one of disconnect.
use Rattle.std.proofs.Common.{length, ◌≤◌, ◌<◌, ◌≡◌, ◌∙◌, arith, refl, sym, ap, subst, ℕ, Bool, true, false, List, [], Some}
use Rattle.std.specs.Prelude.{nat_le, ◌≢◌}
use Rattle.std.proofs.lemmas.Bool.{leb-true, leb-false, true≢false}
use Rattle.dlms_frame.specs.Stream.{Fits, Kept}
use Rattle.dlms_frame.specs.declared.client.Client.{Client}
use Rattle.dlms_frame.specs.declared.client.Client.TheVariants.{Public, Management, Reader}
use Rattle.dlms_link.specs.Server.{ServerRecord}
use Rattle.dlms_meter.specs.declared.connection.TheConstants.{MOST_OCTETS}
use Rattle.dlms_pages.specs.Device.{Rules}
use Rattle.dlms_pages.specs.declared.device.Pages.{Ghosts}
use Rattle.dlms_service.specs.Session.{SessionValue, Outcome, not_possible}
use Rattle.dlms_service.specs.Serves.{FindsMemory}
use Rattle.dlms_store.specs.World.{StoreWorld}
use Rattle.dlms_store.specs.Going.{Goes, Knows}
use Rattle.dlms_store.specs.declared.store.Store.{Store}
use Rattle.dlms_store.proofs.Going.{none}
use Rattle.dlms_meter.specs.ClientRecord.{ClientRecord}
use Rattle.dlms_meter.specs.declared.meter.Meter.{Meter}
use Rattle.dlms_meter.specs.Messages.{IsRequest, KeepsOthers, MeetsBy, Requests, Responding, answers}
use Rattle.dlms_meter.specs.Run.{MeterWorld, Choice, Served, Does, MayChoose, Stands, events_of, record_for, with_record}
use Rattle.dlms_meter.proofs.Feeding.{own_records, promised, unsaid_answer}

abbrev pub with_public : {P A : Type 0} {ghosts : Ghosts P} → Meter P A ghosts → Kept → ClientRecord → Store P A ghosts → Meter P A ghosts
with_public m kept own store = record { alloc = m.alloc; deframer = kept; public = own; management = m.management; reader = m.reader; store = store }

abbrev pub with_management : {P A : Type 0} {ghosts : Ghosts P} → Meter P A ghosts → Kept → ClientRecord → Store P A ghosts → Meter P A ghosts
with_management m kept own store = record { alloc = m.alloc; deframer = kept; public = m.public; management = own; reader = m.reader; store = store }

abbrev pub with_reader : {P A : Type 0} {ghosts : Ghosts P} → Meter P A ghosts → Kept → ClientRecord → Store P A ghosts → Meter P A ghosts
with_reader m kept own store = record { alloc = m.alloc; deframer = kept; public = m.public; management = m.management; reader = own; store = store }

pub others : {P A : Type 0} {ghosts : Ghosts P} (who : Client) (old new : Meter P A ghosts) → (who ≢ Public → new.public ≡ old.public) → (who ≢ Management → new.management ≡ old.management) → (who ≢ Reader → new.reader ≡ old.reader)
    → KeepsOthers who old new
others who old new p m r Public ne = p (λ e. ne (sym e))
others who old new p m r Management ne = m (λ e. ne (sym e))
others who old new p m r Reader ne = r (λ e. ne (sym e))

module _ {P A : Type 0} {ghosts : Ghosts P} (who : Client) (old new : Meter P A ghosts) where
  -- what one client's record became, and all else of the line and the records as it was
  pub record Changes : Type 0 where
    pub line : new.deframer ≡ old.deframer
    pub link : (record_for new who).link ≡ (record_for old who).link
    pub others : KeepsOthers who old new

  stands_after : (w : MeterWorld) (own : ClientRecord) (now : StoreWorld) → Changes → Stands old w → own ≡ record_for new who → Knows new.store now
      → Stands new (record { stretch = w.stretch; place = w.place; records = with_record w.records who own; store = now })
  stands_after w own now changes stands is knows = record {
    line = subst (λ (kept : Kept). Fits kept.bytes w.stretch w.place) (sym changes.line) stands.line;
    own = λ c. ap (λ (r : ClientRecord). with_record w.records who r c) is ∙ own_records who w old new stands changes.others c;
    store = knows;
  }

  own_after : (w : MeterWorld) → Changes → Stands old w → (s : SessionValue) → s ≡ (record_for new who).session → record (w.records who) { session = s } ≡ record_for new who
  own_after w changes stands s is =
      ap (λ (x : SessionValue). (let r : ClientRecord = record { link = (w.records who).link; session = x } in r)) is
      ∙ ap (λ (l : ServerRecord). (let r : ClientRecord = record { link = l; session = (record_for new who).session } in r)) (ap (λ (r : ClientRecord). r.link) (stands.own who) ∙ sym changes.link)

  served : (apdu answer : List ℕ) (w : MeterWorld) → nat_le (length apdu) MOST_OCTETS ≡ true → length answer ≤ MOST_OCTETS → Changes → Stands old w
      → Responding (record_for old who).session apdu answer (record_for new who).session w.store old.store new.store
      → (w' : MeterWorld) × (is : IsRequest w who apdu answer w') × MayChoose old.store new.store is.choice × Stands new w' × Goes w.store is.steps w'.store old.store new.store
  served apdu answer w short fits changes stands h =
      let o : Outcome = record { own = (record_for new who).session; answer = answer; accepted = h.accepted } in
      let own : ClientRecord = (answers (w.records who) o).own in
      let w' : MeterWorld = record { stretch = w.stretch; place = w.place; records = with_record w.records who own; store = h.now } in
      let does : Does h.choice (events_of w) (w.records who).session apdu o = subst (λ (r : ClientRecord). Does h.choice (events_of w) r.session apdu o) (sym (stands.own who)) h.does in
      let is : IsRequest w who apdu answer w' = record {
        choice = h.choice;
        outcome = o;
        answered = refl;
        steps = h.steps;
        store = h.now;
        meets = subst (λ (b : Bool). MeetsBy b h.choice (events_of w) (w.records who).session apdu o) (sym short) does;
        stored = h.stored;
        run = h.goes.run;
        promise = promised h.choice (Some answer) h.accepted h.steps w.store h.now
            (λ kept wanted e. unsaid_answer kept wanted (events_of w) (w.records who).session apdu o (subst (λ (c : Choice). Does c (events_of w) (w.records who).session apdu o) e does)) h.stored h.goes.run;
        short = fits;
        same = refl;
      } in
      (w', is, h.may, stands_after w own h.now changes stands (own_after w changes stands o.own refl) h.goes.knows, h.goes)

  refused : (apdu answer : List ℕ) (w : MeterWorld) → nat_le (length apdu) MOST_OCTETS ≡ false → Changes → Stands old w → ((ghosts.view old.store.device).honest ≡ true → Rules (ghosts.view old.store.device))
      → answer ≡ (not_possible (record_for old who).session).answer → record_for new who ≡ record_for old who → new.store ≡ old.store
      → (w' : MeterWorld) × (is : IsRequest w who apdu answer w') × MayChoose old.store new.store is.choice × Stands new w' × Goes w.store is.steps w'.store old.store new.store
  refused apdu answer w long changes stands rules says same store =
      let s : SessionValue = (w.records who).session in
      let o : Outcome = not_possible s in
      let own : ClientRecord = (answers (w.records who) o).own in
      let w' : MeterWorld = record { stretch = w.stretch; place = w.place; records = with_record w.records who own; store = w.store } in
      let goes : Goes w.store [] w.store old.store new.store = subst (λ (x : Store P A ghosts). Goes w.store [] w.store old.store x) (sym store) (none w.store old.store rules stands.store) in
      let is : IsRequest w who apdu answer w' = record {
        choice = Served FindsMemory;
        outcome = o;
        answered = says;
        steps = [];
        store = w.store;
        meets = subst (λ (b : Bool). MeetsBy b (Served FindsMemory) (events_of w) s apdu o) (sym long) refl;
        stored = (refl, refl);
        run = refl;
        promise = λ success. absurd (true≢false (sym success));
        short = omega arith;
        same = refl;
      } in
      (w', is, tt, stands_after w own w.store changes stands (stands.own who ∙ sym same) goes.knows, goes)

  pub requested : (apdu answer : List ℕ) → length answer ≤ MOST_OCTETS → Changes → ((ghosts.view old.store.device).honest ≡ true → Rules (ghosts.view old.store.device))
      → (length apdu ≤ MOST_OCTETS → (before : StoreWorld) → Knows old.store before → Responding (record_for old who).session apdu answer (record_for new who).session before old.store new.store)
      → (MOST_OCTETS < length apdu → (answer ≡ (not_possible (record_for old who).session).answer) × (record_for new who ≡ record_for old who) × (new.store ≡ old.store))
      → Requests old who apdu answer new
  requested apdu answer fits changes rules short long w stands = by_test (nat_le (length apdu) MOST_OCTETS) refl
    where
      by_test : (b : Bool) → nat_le (length apdu) MOST_OCTETS ≡ b
          → (w' : MeterWorld) × (is : IsRequest w who apdu answer w') × MayChoose old.store new.store is.choice × Stands new w' × Goes w.store is.steps w'.store old.store new.store
      by_test true e = served apdu answer w e fits changes stands (short (leb-true (length apdu) MOST_OCTETS e) w.store stands.store)
      by_test false e = let is = long (leb-false (length apdu) MOST_OCTETS e) in refused apdu answer w e changes stands rules is.0 is.1 is.2
