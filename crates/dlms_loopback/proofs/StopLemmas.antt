-- The loopback's meter: the events that it takes, and its stops.
use Rattle.std.proofs.Common.{refl, sym, ◌∙◌, ap, ◌≡◌, ◌++◌, ◌<◌, ◌⊎◌, ℕ, Bool, true, false, List, [], ◌∷◌, length, subst, inl, inr, append-nil, append_assoc, take}
use Rattle.std.specs.Prelude.{Result, Ok, Err, IsErrAnd, MatchResult, if◌then◌else◌}
use Rattle.dlms_meter.specs.Run.{Judges, MeterWorld, Stands, events_of, recovered, with_store}
use Rattle.dlms_meter.specs.declared.meter.Meter.{Meter}
use Rattle.dlms_meter.proofs.Events.{added_one}
use Rattle.dlms_pages.specs.Device.{Image, View, page_at}
use Rattle.dlms_pages.specs.Disk.{Disk, at_first, disk_after, was_written}
use Rattle.dlms_pages.specs.Memory.{Memory, disk_of}
use Rattle.dlms_pages.specs.Pick.{page_left}
use Rattle.dlms_pages.specs.Stops.{IsFixed}
use Rattle.dlms_pages.specs.declared.device.Pages.{Ghosts}
use Rattle.dlms_pages.specs.declared.memory.Call.{Call}
use Rattle.dlms_pages.specs.declared.pick.PageChoice.TheVariants.{Old}
use Rattle.dlms_state.specs.declared.event.Event.{Event}
use Rattle.dlms_store.specs.Fitting.{DeviceFits, GivesUp, OpensAs, StoreFits}
use Rattle.dlms_store.specs.Image.{IsLeftFor}
use Rattle.dlms_store.specs.Store.{Remembers}
use Rattle.dlms_store.specs.World.{Next, StoreStep, StoreWorld}
use Rattle.dlms_store.specs.World.StoreStep.{Closes, ClosesInDoubt, Stops}
use Rattle.dlms_store.specs.World.StoreWorld.{InDoubt, Rests, Runs}
use Rattle.dlms_store.specs.Writing.{Leaves}
use Rattle.dlms_store.specs.declared.fault.AddFault.{AddFault}
use Rattle.dlms_ends.specs.declared.fault.RunFault.{RunFault}
use Rattle.dlms_ends.specs.declared.fault.RunFault.TheVariants.{Add, Memory as OutOfMemory}
use Rattle.dlms_loopback.specs.Stops.{Finds, IsBegun, LosesUnsynced, MakesNone, Takes, TakesAll, Took}
use Rattle.dlms_loopback.specs.Stops.MakesNone.{NoPages}

-- ---- events

pub took_none : {P A : Type 0} {ghosts : Ghosts P} (meter : Meter P A ghosts) → Takes meter meter []
took_none meter w stands = record { store = w.store; stands = stands; accepted = sym (append-nil (events_of w)); fits = λ fits. fits }

-- one more event was accepted
pub took_more : {P A : Type 0} {ghosts : Ghosts P} (old mid new : Meter P A ghosts) (events : List Event) (event : Event) → Takes old mid events → Judges mid event (Ok tt) new → Takes old new (events ++ event ∷ [])
took_more old mid new events event takes judges w stands =
    let before : Took old mid events w = takes w stands in
    let (w', step, judged, told, now_stands, goes) = judges (with_store w before.store) before.stands in
    record {
      store = judged.2;
      stands = subst (λ (x : MeterWorld). Stands new x) judged.4 now_stands;
      accepted = added_one step event before.store judged.2 judged.1 judged.3 ∙ ap (λ (es : List Event). es ++ event ∷ []) before.accepted ∙ append_assoc (events_of w) events (event ∷ []);
      fits = λ fits. subst (λ (x : MeterWorld). StoreFits new.store x.store) judged.4 (goes.fits (before.fits fits));
    }

-- after these events were accepted the next one failed
pub takes_part : {P A T : Type 0} {ghosts : Ghosts P} (old mid new : Meter P A ghosts) (front : List Event) (event : Event) (rest : List Event) (why : AddFault) (r : Result T RunFault)
    → IsErrAnd r (λ given. given ≡ Add why) → Takes old mid front → Judges mid event (Err why) new → TakesAll old new (front ++ event ∷ rest) r
takes_part old mid new front event rest why (Ok done) is takes judges = absurd is
takes_part old mid new front event rest why (Err fault) is takes judges =
    (why, is, record { front = front; event = event; rest = rest; mid = mid; split = refl; took = takes; judged = judges })

-- ---- a new meter

pub no_pages : {P A : Type 0} (ghosts : Ghosts P) (alloc : A) (r : Result (Meter P A ghosts) RunFault) → IsErrAnd r (λ given. given ≡ OutOfMemory) → MatchResult r IsBegun (MakesNone ghosts alloc)
no_pages ghosts alloc (Ok meter) is = absurd is
no_pages ghosts alloc (Err fault) is = NoPages is

-- ---- a stop

same_either : {X : Type 0} (b : Bool) (x : X) → (if b then x else x) ≡ x
same_either true x = refl
same_either false x = refl

-- if the old content is picked, a page holds its content at the last sync
pub left_old : (disk : Disk) (k : ℕ) → page_left disk Old k ≡ page_at disk.stable k
left_old disk k = same_either (was_written disk.since k) (page_at disk.stable k)

pub loses_unsynced : (old new : Memory) → length new.first ≡ length old.first → ((k : ℕ) → k < length old.first → page_at new.first k ≡ page_left (disk_of old) Old k) → new.calls ≡ [] → LosesUnsynced old new
loses_unsynced old new count pages calls = record { count = count; page = λ k below. pages k below ∙ left_old (disk_of old) k; calls = calls }

-- without a call since, reads return the pages' initial content
pub seen_first : (first : Image) (calls : List Call) → calls ≡ [] → (disk_after (at_first first) calls).seen ≡ first
seen_first first calls none = ap (λ (cs : List Call). (disk_after (at_first first) cs).seen) none

module _ {P A : Type 0} {ghosts : Ghosts P} where
  -- a device that rests with these events was opened
  rested : (back : Meter P A ghosts) (left : View) (image : Image) (before mid : StoreWorld) (closing : StoreStep) (events : List Event) → (closing ≡ Closes) ⊎ (closing ≡ ClosesInDoubt) → Next before closing mid
      → Next mid Stops (Rests events) → IsLeftFor events image → IsFixed left image → ((at : StoreWorld) → DeviceFits left at → OpensAs at left back.store)
      → ((found : List Event) → Remembers found [] back.store → Stands back (recovered found)) → Finds before back
  rested back left image before mid closing events closes closed stopped stood fixed opens stands =
      let leaves : Leaves left (IsLeftFor events) = record { honest = fixed.honest; each = λ other may. subst (λ (i : Image). IsLeftFor events i) (sym (fixed.only other may)) stood } in
      let opened : OpensAs (Rests events) left back.store = opens (Rests events) leaves in
      let fits : StoreFits back.store (Runs opened.found []) = subst (λ (x : StoreWorld). StoreFits back.store x) opened.next.1 opened.fits in
      record {
        closing = closing;
        closes = closes;
        found = opened.found;
        run = (mid, closed, (Rests events, stopped, (Runs opened.found [], (opened.next.0, refl), refl)));
        stands = stands opened.found fits.1;
        fits = fits;
      }

  -- the events that were settled when the device was returned, and a prefix of the others, are found
  pub found_by : (old back : Meter P A ghosts) (was given left : View) (image : Image) (before : StoreWorld) → StoreFits old.store before → GivesUp Closes before was given ⊎ GivesUp ClosesInDoubt before was given
      → given.may_leave image → IsFixed left image → ((at : StoreWorld) → DeviceFits left at → OpensAs at left back.store)
      → ((found : List Event) → Remembers found [] back.store → Stands back (recovered found)) → Finds before back
  found_by old back was given left image (Runs s p) fits (inl gives) may fixed opens stands =
      let rests = subst (λ (x : StoreWorld). DeviceFits given x) gives.next gives.fits in
      rested back left image (Runs s p) (Rests (s ++ p)) Closes (s ++ p) (inl refl) refl refl (rests.each image may) fixed opens stands
  found_by old back was given left image (Runs s p) fits (inr gives) may fixed opens stands =
      let doubt = subst (λ (x : StoreWorld). DeviceFits given x) gives.next gives.fits in
      let stood = doubt.each image may in
      rested back left image (Runs s p) (InDoubt s p) ClosesInDoubt (s ++ take stood.0 p) (inr refl) refl (s ++ take stood.0 p, (stood.0, refl), refl) stood.1 fixed opens stands
  found_by old back was given left image (InDoubt s p) fits (inl gives) may fixed opens stands = absurd gives.next
  found_by old back was given left image (InDoubt s p) fits (inr gives) may fixed opens stands =
      let doubt = subst (λ (x : StoreWorld). DeviceFits given x) gives.next gives.fits in
      let stood = doubt.each image may in
      rested back left image (InDoubt s p) (InDoubt s p) ClosesInDoubt (s ++ take stood.0 p) (inr refl) refl (s ++ take stood.0 p, (stood.0, refl), refl) stood.1 fixed opens stands
  found_by old back was given left image (Rests events) fits gives may fixed opens stands = absurd fits
