-- How the calls of a meter make a run.
use Rattle.std.specs.Prelude.{IfSome}
use Rattle.std.proofs.Common.{arith, refl, sym, ap, subst, append-nil, ◌∙◌, ◌≡◌, ◌≤◌, ◌<◌, ℕ, Bool, true, false, List, [], ◌++◌, length, if◌then◌else◌}
use Rattle.std.specs.Prelude.{Some}
use Rattle.dlms_frame.specs.Frame.{Parts, spelling}
use Rattle.dlms_frame.specs.Stream.{FrameAt, Fits}
use Rattle.dlms_frame.proofs.StreamLemmas.{frame_room}
use Rattle.dlms_link.specs.Server.{ServerRecord, server_on, server_send}
use Rattle.dlms_link.specs.declared.out.LinkOut.{LinkOut}
use Rattle.dlms_link.specs.declared.out.LinkOut.TheVariants.{Apdu}
use Rattle.dlms_pages.specs.Device.{Rules}
use Rattle.dlms_pages.specs.declared.device.Pages.{Ghosts}
use Rattle.dlms_service.specs.Session.{Outcome, SessionValue}
use Rattle.dlms_service.specs.Serves.{FindsMemory}
use Rattle.dlms_service.specs.Stake.{Fails, failing}
use Rattle.dlms_service.specs.declared.stake.Stake.{Stake}
use Rattle.dlms_state.specs.declared.event.Event.{Event}
use Rattle.dlms_state.specs.StateValue.{StateValue, IsStateOf}
use Rattle.dlms_store.specs.Store.{Remembers}
use Rattle.dlms_store.specs.World.{StoreWorld, StoreStep}
use Rattle.dlms_store.specs.World.StoreWorld.{Runs, InDoubt, Rests}
use Rattle.dlms_store.specs.Going.{Knows, Goes}
use Rattle.dlms_store.specs.declared.store.Store.{Store}
use Rattle.dlms_store.proofs.Going.{none}
use Rattle.dlms_meter.specs.ClientRecord.{ClientRecord}
use Rattle.dlms_meter.specs.Run.{Choice, Served, DeviceFails, Does, Handled, Answered, sends, IsSettling, StoredFor, Stored, HasNoFrame, Handling, MayChoose, events_in}

-- what is kept awaits every frame: none has ended
pub none_ended : (kept stretch : List ℕ) (place : ℕ) → Fits kept stretch place → HasNoFrame stretch place
none_ended kept stretch place fits = λ i j f behind at.
    let here : FrameAt (stretch ++ []) i j f = subst (λ (s : List ℕ). FrameAt s i j f) (sym (append-nil stretch)) at in
    let late : length stretch ≤ j = (fits.awaited [] i j f behind here).1 in
    let room : j < length stretch = frame_room stretch i j f at in
    absurd (omega arith)

-- ---- a frame of a client

-- the state after what is settled and pending
pub state_known : {P A : Type 0} {ghosts : Ghosts P} (before : StoreWorld) (store : Store P A ghosts) (s : StateValue) → Knows store before
    → ((settled pending : List Event) → Remembers settled pending store → IsStateOf (settled ++ pending) s) → IsStateOf (events_in before) s
state_known (Runs settled pending) store s knows after = after settled pending knows.1
state_known (InDoubt settled pending) store s knows after = after settled pending knows.1
state_known (Rests events) store s knows after = absurd knows

-- the link alone replies
pub on_link : {P A : Type 0} {ghosts : Ghosts P} (own : ClientRecord) (f : Parts) (link : ServerRecord) (given : LinkOut) (h : Handled) (before : StoreWorld) (store : Store P A ghosts)
    → ((ghosts.view store.device).honest ≡ true → Rules (ghosts.view store.device)) → Knows store before → given ≡ (server_on own.link f).1 → link ≡ (server_on own.link f).0
    → ((E : List Event) → Answered (Served FindsMemory) E link own.session given h) → Stored (Served FindsMemory) h.answer h.accepted [] → IfSome h.answer (λ bytes. length bytes ≤ 1024)
    → Handling own f h.reply h.own before store store
on_link own f link given h before store rules knows out is answered stored short = record {
  choice = Served FindsMemory;
  answer = h.answer;
  accepted = h.accepted;
  steps = [];
  now = before;
  handles = subst (λ (r : ServerRecord). Answered (Served FindsMemory) (events_in before) r own.session (server_on own.link f).1 h) is
      (subst (λ (o : LinkOut). Answered (Served FindsMemory) (events_in before) link own.session o h) out (answered (events_in before)));
  stored = stored;
  may = tt;
  goes = none before store rules knows;
  short = short;
}

-- an answer in its frame
pub one_answer : (link after : ServerRecord) (reply : List ℕ) (o : Outcome) → after ≡ (server_send link o.answer).0 → reply ≡ spelling (server_send link o.answer).1
    → record { own = record { link = after; session = o.own }; reply = Some reply; answer = Some o.answer; accepted = o.accepted } ≡ sends link o
one_answer link after reply o sent frame =
    ap (λ (r : ServerRecord). (let h : Handled = record { own = record { link = r; session = o.own }; reply = Some reply; answer = Some o.answer; accepted = o.accepted } in h)) sent
    ∙ ap (λ (bytes : List ℕ). (let h : Handled = record { own = record { link = (server_send link o.answer).0; session = o.own }; reply = Some bytes; answer = Some o.answer; accepted = o.accepted } in h)) frame

-- an APDU that was answered, in the frame in which its answer went out
pub apdu_handled : {P A : Type 0} {ghosts : Ghosts P} (own : ClientRecord) (f : Parts) (link after : ServerRecord) (apdu : List ℕ) (o : Outcome) (reply : List ℕ) (choice : Choice) (before now : StoreWorld) (steps : List StoreStep) (old new : Store P A ghosts)
    → Apdu ≡ (server_on own.link f).1 → link ≡ (server_on own.link f).0 → apdu ≡ link.apdu → Does choice (events_in before) own.session apdu o
    → after ≡ (server_send link o.answer).0 → reply ≡ spelling (server_send link o.answer).1
    → Stored choice (Some o.answer) o.accepted steps → MayChoose old new choice → Goes before steps now old new → length o.answer ≤ 1024
    → Handling own f (Some reply) (record { link = after; session = o.own }) before old new
apdu_handled own f link after apdu o reply choice before now steps old new out is handed does sent frame stored may goes short =
    let h : Handled = record { own = record { link = after; session = o.own }; reply = Some reply; answer = Some o.answer; accepted = o.accepted } in
    let same : h ≡ sends link o = one_answer link after reply o sent frame in
    let answered : Answered choice (events_in before) link own.session Apdu h = (o, subst (λ (bytes : List ℕ). Does choice (events_in before) own.session bytes o) handed does, same) in
    record {
      choice = choice;
      answer = Some o.answer;
      accepted = o.accepted;
      steps = steps;
      now = now;
      handles = subst (λ (r : ServerRecord). Answered choice (events_in before) r own.session (server_on own.link f).1 h) is
          (subst (λ (given : LinkOut). Answered choice (events_in before) link own.session given h) out answered);
      stored = stored;
      may = may;
      goes = goes;
      short = short;
    }

-- an answer that calls no store, and one that settles all
pub uncalled : (b : Bool) (accepted : List Event) → b ≡ false → accepted ≡ [] → StoredFor b accepted []
uncalled b accepted is nothing = subst (λ (x : Bool). StoredFor x accepted []) (sym is) (nothing, refl)

pub settling : (b : Bool) (accepted : List Event) (steps : List StoreStep) → b ≡ true → IsSettling accepted steps → StoredFor b accepted steps
settling b accepted steps is settles = subst (λ (x : Bool). StoredFor x accepted steps) (sym is) settles

-- the event that is accepted if the device failed after it is the one that the answer would have had
pub wants : (kept : Bool) (E : List Event) (s own : SessionValue) (apdu : List ℕ) (stake : Stake) (events : List Event) → Fails true E s apdu (failing true own stake events)
    → Does (DeviceFails kept events) E s apdu (failing kept own stake events)
wants kept E s own apdu stake events (form, read, would, leads, success, same) =
    ((form, read, would, leads, success, ap (λ (x : Outcome). record x { accepted = if kept then x.accepted else [] }) same), sym (ap (λ (x : Outcome). x.accepted) same))
