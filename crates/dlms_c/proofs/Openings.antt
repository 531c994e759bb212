-- What was opened over pages that were just loaded, or made.
use Rattle.std.proofs.Common.{◌≡◌, ◌≢◌, ◌⊎◌, ◌↔◌, ◌<◌, ℕ, List, [], length, inl, inr, refl, sym, ◌∙◌, ap, subst, arith, None, Some, Ok, Err, Option, Result}
use Rattle.std.specs.Prelude.{replicate, IfOk, IfErr, MatchOption, MatchResult}
use Rattle.std.proofs.lemmas.List.{length-replicate}
use Rattle.dlms_meter.specs.Run.{Stands, events_in, first_world, recovered}
use Rattle.dlms_meter.specs.declared.meter.Meter.{Meter}
use Rattle.dlms_pages.specs.Device.{Rose, View}
use Rattle.dlms_pages.specs.Disk.{at_first, disk_after}
use Rattle.dlms_pages.specs.Memory.{IsNew as IsNewMemory, Memory, view_of as memory_view}
use Rattle.dlms_pages.specs.MemoryRules.{memory_rules}
use Rattle.dlms_pages.specs.Stops.{IsFixed}
use Rattle.dlms_pages.specs.declared.device.PageRead.TheVariants.{Content}
use Rattle.dlms_pages.specs.declared.device.Pages.{Ghosts}
use Rattle.dlms_relay.specs.Loaded.{IsLoaded}
use Rattle.dlms_state.specs.declared.event.Event.{Event}
use Rattle.dlms_store.specs.Cause.{IsCause}
use Rattle.dlms_store.specs.Fitting.{DeviceFits, GivesBack, GivesUp, IsOpened, IsRefusal, OpensAs, StoreFits}
use Rattle.dlms_store.specs.Image.{IsLeftFor}
use Rattle.dlms_store.specs.Store.{CommitIsExhausted, IsStopped, IsTooSmall, Remembers, view_of}
use Rattle.dlms_store.specs.World.StoreStep.{Closes as Closing}
use Rattle.dlms_store.specs.World.StoreWorld.{Rests, Runs}
use Rattle.dlms_store.specs.World.{StoreWorld}
use Rattle.dlms_store.specs.Writing.{IsFormatted, Leaves}
use Rattle.dlms_store.specs.declared.fault.OpenFault.{OpenFault}
use Rattle.dlms_store.specs.declared.fault.OpenFault.TheVariants as opening
use Rattle.dlms_c.specs.Codes.{open_code}
use Rattle.dlms_c.specs.Meter.{IsGivenBack}
use Rattle.dlms_c.specs.Opening.{IsNew, IsOpenedFrom, IsUnopened, IsUnrecovered}

-- ---- pages that were just loaded

-- reads give what was loaded
pub seen_first : (memory : Memory) → IsFixed (memory_view memory) memory.first → (memory_view memory).seen ≡ memory.first
seen_first memory fixed = fixed.only (memory_view memory).seen (memory_rules memory).seen

pub loaded_seen : (slots : List ℕ) (memory : Memory) → IsLoaded slots 62 memory.first → IsFixed (memory_view memory) memory.first → IsLoaded slots 62 (memory_view memory).seen
loaded_seen slots memory loaded fixed = subst (IsLoaded slots 62) (sym (seen_first memory fixed)) loaded

-- if a store left what was loaded, the device rests so
pub rests_so : (memory : Memory) → IsFixed (memory_view memory) memory.first → (events : List Event) → IsLeftFor events (memory_view memory).seen → DeviceFits (memory_view memory) (Rests events)
rests_so memory fixed events left = record {
  honest = refl;
  each = λ image may. subst (IsLeftFor events) (seen_first memory fixed ∙ sym (fixed.only image may)) left;
}

unopened : (slots : List ℕ) (old : View) (fault : OpenFault) → IsLoaded slots 62 old.seen → IsCause fault old.seen
    → ((events : List Event) → IsLeftFor events old.seen → IsRefusal fault) → ((fault ≡ opening.Size) ↔ IsTooSmall old) → IsUnopened slots fault
unopened slots old fault loaded cause left size = record {
  image = old.seen;
  loaded = loaded;
  cause = cause;
  left = left;
  size = λ is. let few : length old.seen < 62 = size.0 is in absurd (omega (arith, few, loaded.counted));
}

-- want of memory and a failed device are all that may be
made_code : (fault : OpenFault) → fault ≢ opening.NoCheckpoint → ((page : ℕ) → fault ≢ opening.Corrupt page) → fault ≢ opening.Exhausted → fault ≢ opening.Size
    → (open_code fault ≡ 32) ⊎ (open_code fault ≡ 33)
made_code opening.Device none corrupt exhausted size = inr refl
made_code opening.Memory none corrupt exhausted size = inl refl
made_code opening.NoCheckpoint none corrupt exhausted size = absurd (none refl)
made_code (opening.Corrupt page) none corrupt exhausted size = absurd (corrupt page refl)
made_code opening.Exhausted none corrupt exhausted size = absurd (exhausted refl)
made_code opening.Size none corrupt exhausted size = absurd (size refl)

module _ {P A : Type 0} {ghosts : Ghosts P} where
  opened_from : (slots : List ℕ) (old : View) (meter : Meter P A ghosts) → IsLoaded slots 62 old.seen → old.moment ≡ 0
      → ((events : List Event) → IsLeftFor events old.seen → OpensAs (Rests events) old meter.store)
      → ((events : List Event) → Remembers events [] meter.store → Stands meter (recovered events)) → IsOpened old.seen meter.store → IsOpenedFrom slots meter
  opened_from slots old meter loaded first opens stands opened = record {
    image = old.seen;
    loaded = loaded;
    opened = opened;
    stands = stands;
    fits = λ events left.
        let so = opens events left in
        subst (StoreFits meter.store) (so.next.1 ∙ ap (λ found. Runs found []) so.next.0) so.fits;
    any_moment = λ events left image since.
        let so = (opens events left).any_moment.each image (subst (λ t. (view_of meter.store).left_since t image) (sym first) since) in
        subst (λ found. IsLeftFor found image) (ap events_in so.1) so.2;
  }

  -- the statement about a recovery of the loaded device
  pub recovers_from : (slots : List ℕ) (old : View) (opened : Result (Meter P A ghosts) (P × OpenFault)) → IsLoaded slots 62 old.seen → old.moment ≡ 0
      → ((events : List Event) → IsLeftFor events old.seen → DeviceFits old (Rests events))
      → ((before : StoreWorld) → DeviceFits old before → IfOk opened (λ meter. OpensAs before old meter.store))
      → IfOk opened (λ meter. (events : List Event) → Remembers events [] meter.store → Stands meter (recovered events))
      → ((before : StoreWorld) → DeviceFits old before → IfErr opened (λ e. GivesBack before old (ghosts.view e.0) e.1))
      → MatchResult opened (λ meter. IsOpened old.seen meter.store) (λ e. IsCause e.1 old.seen)
      → IfErr opened (λ e. (e.1 ≡ opening.Size) ↔ IsTooSmall old)
      → MatchResult opened (λ meter. IsOpenedFrom slots meter) (λ e. IsUnrecovered slots (open_code e.1))
  recovers_from slots old (Ok meter) loaded first rests opens stands back exact size =
      opened_from slots old meter loaded first (λ events left. opens (Rests events) (rests events left)) stands exact
  recovers_from slots old (Err e) loaded first rests opens stands back exact size =
      inr (e.1, refl, unopened slots old e.1 loaded exact (λ events left. (back (Rests events) (rests events left)).cause) size)

  -- the statement about a format of the new device
  pub formats : (old : View) (opened : Result (Meter P A ghosts) (P × OpenFault)) → length old.seen ≡ 62
      → IfOk opened (λ meter. Stands meter first_world)
      → IfOk opened (λ meter. StoreFits meter.store (Runs [] []))
      → IfOk opened (λ meter. Leaves (view_of meter.store) IsFormatted)
      → IfErr opened (λ e. (e.1 ≡ opening.Size) ↔ IsTooSmall old)
      → IfErr opened (λ e. (e.1 ≢ opening.NoCheckpoint) × ((page : ℕ) → e.1 ≢ opening.Corrupt page) × (e.1 ≢ opening.Exhausted))
      → MatchResult opened (λ meter. IsNew meter) (λ e. (open_code e.1 ≡ 32) ⊎ (open_code e.1 ≡ 33))
  formats old (Ok meter) count stands fits formatted size faults = record { stands = stands; fits = fits; formatted = formatted }
  formats old (Err e) count stands fits formatted size faults =
      made_code e.1 faults.0 faults.1 faults.2 (λ is. let few : length old.seen < 62 = size.0 is in absurd (omega (arith, few, count)))

pub new_count : (memory : Memory) → IsNewMemory 62 memory → length (memory_view memory).seen ≡ 62
new_count memory new =
    let seen : (memory_view memory).seen ≡ memory.first = ap (λ calls. (disk_after (at_first memory.first) calls).seen) new.calls in
    ap length (seen ∙ new.first) ∙ length-replicate 62 (Content (replicate 512 0))

-- ---- a meter that was closed

unrisen : (before now : ℕ) → now ≡ 0 → Rose before now → ⊥
unrisen before now none rose = omega (arith, none, rose)

pub given_back : {P A : Type 0} {ghosts : Ghosts P} (meter : Meter P A ghosts) (device : P) (code : ℕ) → (code ≡ 0) ↔ ((ghosts.view device).faults ≡ 0)
    → ((IsStopped meter.store → ⊥) → (Rose (view_of meter.store).faults (ghosts.view device).faults → ⊥) → (CommitIsExhausted meter.store → ⊥)
    → (before : StoreWorld) → StoreFits meter.store before → GivesUp Closing before (view_of meter.store) (ghosts.view device))
    → IsGivenBack (Some meter) code
given_back {ghosts = ghosts} meter device code told settles = (
  device,
  told,
  λ settled pending done fits more.
      settles (λ stopped. absurd (cc (sym fits.0.runs ∙ stopped))) (unrisen (view_of meter.store).faults (ghosts.view device).faults (told.0 done)) more (Runs settled pending) fits,
)

-- ---- the meter of an opened store

module _ {X Y : Type 0} where
  -- what is so of each meter that was opened is so of the one that is kept
  kept_as : (opened : Result X Y) (kept : Option X) (P : X → Type 0) (Q : Y → Type 0) → MatchResult opened P Q
      → MatchOption kept ⊥ (λ meter. opened ≡ Ok meter) → MatchOption kept ⊥ P
  kept_as opened None P Q is none = none
  kept_as opened (Some meter) P Q is same = subst (λ r. MatchResult r P Q) same is

  -- and a property of each fault's code is one of the returned code
  told_as : (opened : Result X Y) (P : X → Type 0) (R : ℕ → Type 0) (code_of : Y → ℕ) (code : ℕ) → MatchResult opened P (λ e. R (code_of e))
      → MatchResult opened (λ meter. ⊥) (λ e. code ≡ code_of e) → R code
  told_as (Ok meter) P R code_of code is none = absurd none
  told_as (Err e) P R code_of code is same = subst R (sym same) is

  pub begun_as : {K : Type 0} (made : Result K ℕ) (opened : Result X Y) (B : K → Type 0) (meter_of : K → Option X) (P : X → Type 0) (R : ℕ → Type 0) (code_of : Y → ℕ)
      → MatchResult opened P (λ e. R (code_of e))
      → MatchResult made (λ k. B k × MatchOption (meter_of k) ⊥ (λ meter. opened ≡ Ok meter)) (λ code. MatchResult opened (λ meter. ⊥) (λ e. code ≡ code_of e))
      → MatchResult made (λ k. B k × MatchOption (meter_of k) ⊥ P) R
  begun_as (Ok k) opened B meter_of P R code_of is there = (there.0, kept_as opened (meter_of k) P (λ e. R (code_of e)) is there.1)
  begun_as (Err code) opened B meter_of P R code_of is there = told_as opened P R code_of code is there

-- a property of each new meter is one of the meter in the handle, and a property of each code is one of the returned code
pub made_in : {X : Type 0} (made : Result X ℕ) (value : Option X) (code : ℕ) (P : X → Type 0) (Q : ℕ → Type 0) → MatchResult made P Q → Q 32
    → MatchOption value ((code ≡ 32) ⊎ (made ≡ Err code)) (λ new. (code ≡ 0) × (made ≡ Ok new)) → MatchOption value (Q code) (λ new. (code ≡ 0) × P new)
made_in made None code P Q is memory (inl same) = subst Q (sym same) memory
made_in made None code P Q is memory (inr same) = subst (λ r. MatchResult r P Q) same is
made_in made (Some new) code P Q is memory there = (there.0, subst (λ r. MatchResult r P Q) there.1 is)
