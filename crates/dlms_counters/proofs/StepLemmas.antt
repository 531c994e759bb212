-- Each call is a step of a run.
use Rattle.std.proofs.Common.{◌≡◌, ◌<◌, ◌-◌, ◌^◌, nat_eq, nat_le, length, if◌then◌else◌, ⊎_elim, inl, inr, ℕ, Bool, true, false, List, Option, Some, None, Result, Ok, Err, IfOk, refl, sym, ap, ◌∙◌, subst}
use Rattle.dlms_pages.specs.Device.{Image, Rules}
use Rattle.dlms_pages.specs.Stops.{LeavesOnly}
use Rattle.dlms_pages.specs.declared.device.Pages.{Ghosts}
use Rattle.dlms_pages.proofs.Moments.{no_call, weaker}
use Rattle.dlms_counters.specs.Slot.{CounterState}
use Rattle.dlms_counters.specs.Table.{is_full, is_known, last_of}
use Rattle.dlms_counters.specs.Change.{accepting, after_accept, reserving}
use Rattle.dlms_counters.specs.File.{Attempts, Changes, MayChange, view_of}
use Rattle.dlms_counters.specs.Writing.{IsEither, IsSettled}
use Rattle.dlms_counters.specs.Run.{World, settled, Event, IsStep, LeftDuring, Leads, Fits, AtLeast, IsWorld}
use Rattle.dlms_counters.proofs.RunLemmas.{at_least_same}
use Rattle.dlms_counters.specs.Run.Event.{Reserves, Accepts}
use Rattle.dlms_counters.specs.declared.fault.CounterFault.{CounterFault}
use Rattle.dlms_counters.specs.declared.fault.CounterFault.TheVariants.{Device, Exhausted, Full, Stopped}
use Rattle.dlms_counters.specs.declared.file.CounterFile.{CounterFile}

-- a file that runs is in a world of the laws
pub running_world : {P : Type 0} {ghosts : Ghosts P} (file : CounterFile P ghosts) (w : World) → Fits file w → file.stopped ≡ false
    → file.counters.reserved < 2 ^ 32 → IsWorld w
running_world file w fits runs small =
    let known : w.known.reserved < 2 ^ 32 = subst (λ (c : CounterState). c.reserved < 2 ^ 32) fits.known small in
    let same : w.known ≡ w.maybe = sym (fits.runs runs) in
    record {
      higher = subst (AtLeast w.known) same (at_least_same w.known);
      known = known;
      maybe = subst (λ (c : CounterState). c.reserved < 2 ^ 32) same known;
    }

module _ {P : Type 0} {ghosts : Ghosts P} (old new : CounterFile P ghosts) (w : World) (fits : Fits old w) where
  -- while the file runs its contents are settled
  settled_then : old.stopped ≡ false → IsSettled (view_of old) old.counters
  settled_then runs = record {
    honest = fits.honest;
    each = λ image left. ⊎_elim
        (λ known. known ∙ ap (λ (c : CounterState). Some c) (sym fits.known))
        (λ maybe. maybe ∙ ap (λ (c : CounterState). Some c) (fits.runs runs ∙ sym fits.known))
        (fits.each image left);
  }

  -- the contents after a call that succeeded
  fits_done : {T : Type 0} (next : CounterState) (x : T) → old.stopped ≡ false → Attempts next old new (Ok x) → Fits new (settled next)
  fits_done next x runs a = record {
    honest = a.device.honest ∙ fits.honest;
    known = a.done.0;
    each = λ image left. inl ((a.settled (settled_then runs)).each image left);
    runs = λ _. refl;
  }

  either_next : (next : CounterState) (image : Image) → IsEither old.counters next image → IsEither w.known next image
  either_next next image h = ⊎_elim
      (λ was. inl (was ∙ ap (λ (c : CounterState). Some c) fits.known))
      (λ is. inr is)
      h

  -- and after one that failed
  fits_failed : {T : Type 0} (next : CounterState) (fault : CounterFault) → old.stopped ≡ false → Attempts {T = T} next old new (Err fault) → Fits new (record w { maybe = next })
  fits_failed next fault runs a = record {
    honest = a.device.honest ∙ fits.honest;
    known = a.failed.0 ∙ fits.known;
    each = λ image left. either_next next image ((a.stores (settled_then runs)).after image left);
    runs = λ r. absurd (let no : true ≡ false = sym a.failed.1 ∙ r in cc);
  }

  fits_same : new ≡ old → Fits new w
  fits_same same = subst (λ (f : CounterFile P ghosts). Fits f w) (sym same) fits

  -- ---- reserve

  reserving_runs : (stopped : Bool) (n : ℕ) (next : CounterState) → reserving stopped n old.counters ≡ Ok next
      → (stopped ≡ false) × (reserving false n w.known ≡ Ok next)
  reserving_runs true n next e = absurd (let no : Err Stopped ≡ Ok next = e in cc)
  reserving_runs false n next e = (refl, ap (reserving false n) (sym fits.known) ∙ e)

  reserve_made : (n : ℕ) (next : CounterState) (result : Result ℕ CounterFault) → reserving old.stopped n old.counters ≡ Ok next
      → Attempts next old new result → IfOk result (λ end. end ≡ new.counters.reserved) → Leads w (Reserves n result) new
  reserve_made n next (Ok end) e a is =
      let runs = reserving_runs old.stopped n next e in
      (settled next, (next, runs.1, is ∙ ap (λ (c : CounterState). c.reserved) a.done.0, refl), fits_done next end runs.0 a)
  reserve_made n next (Err fault) e a is =
      let runs = reserving_runs old.stopped n next e in
      (record w { maybe = next }, inr (next, runs.1, refl), fits_failed next fault runs.0 a)

  pub reserve_leads : (n : ℕ) (result : Result ℕ CounterFault) → Changes (reserving old.stopped n old.counters) old new result
      → IfOk result (λ end. end ≡ new.counters.reserved) → Leads w (Reserves n result) new
  reserve_leads n result changes is = by_change (reserving old.stopped n old.counters) refl changes
    where
      by_change : (r : Result CounterState CounterFault) → reserving old.stopped n old.counters ≡ r → Changes r old new result → Leads w (Reserves n result) new
      by_change (Err fault) e h = (w, subst (λ (r : Result ℕ CounterFault). IsStep w (Reserves n r) w) (sym h.0) (inl refl), fits_same h.1)
      by_change (Ok next) e h = reserve_made n next result e h is

  -- ---- accept

  accepting_runs : (stopped : Bool) (title : List ℕ) (n : ℕ) (next : Option CounterState) → accepting stopped title n old.counters ≡ Ok next
      → (stopped ≡ false) × (accepting false title n w.known ≡ Ok next)
  accepting_runs true title n next e = absurd (let no : Err Stopped ≡ Ok next = e in cc)
  accepting_runs false title n next e = (refl, ap (accepting false title n) (sym fits.known) ∙ e)

  accept_made : (title : List ℕ) (n : ℕ) (next : CounterState) (result : Result (Unit {0}) CounterFault) → accepting old.stopped title n old.counters ≡ Ok (Some next)
      → Attempts next old new result → Leads w (Accepts title n result) new
  accept_made title n next (Ok done) e a =
      let runs = accepting_runs old.stopped title n (Some next) e in
      (settled next, inr (next, runs.1, refl), fits_done next done runs.0 a)
  accept_made title n next (Err fault) e a =
      let runs = accepting_runs old.stopped title n (Some next) e in
      (record w { maybe = next }, inr (next, runs.1, refl), fits_failed next fault runs.0 a)

  accepting_none : (title : List ℕ) (n : ℕ) (c : CounterState) → accepting false title n c ≡ Ok None → is_known (last_of c.peers title) n ≡ true
  accepting_none title n c e = by_known (is_known (last_of c.peers title) n) refl
    where
      by_last : (b : Bool) → nat_eq c.sequence (2 ^ 64 - 1) ≡ b
          → (if nat_eq c.sequence (2 ^ 64 - 1) then Err Exhausted else Ok (Some (after_accept title n c))) ≡ Ok None → is_known (last_of c.peers title) n ≡ true
      by_last true t h = absurd (let no : Err Exhausted ≡ Ok None = rw t at h in cc)
      by_last false t h = absurd (let no : Ok (Some (after_accept title n c)) ≡ Ok None = rw t at h in cc)

      by_full : (b : Bool) → is_full (last_of c.peers title) (nat_le 39 (length c.peers)) ≡ b
          → (if is_full (last_of c.peers title) (nat_le 39 (length c.peers)) then Err Full else if nat_eq c.sequence (2 ^ 64 - 1) then Err Exhausted else Ok (Some (after_accept title n c))) ≡ Ok None → is_known (last_of c.peers title) n ≡ true
      by_full true t h = absurd (let no : Err Full ≡ Ok None = rw t at h in cc)
      by_full false t h = by_last (nat_eq c.sequence (2 ^ 64 - 1)) refl (rw t at h)

      by_known : (b : Bool) → is_known (last_of c.peers title) n ≡ b → is_known (last_of c.peers title) n ≡ true
      by_known true t = t
      by_known false t = by_full (is_full (last_of c.peers title) (nat_le 39 (length c.peers))) refl (rw t at e)

  pub accept_leads : (title : List ℕ) (n : ℕ) (result : Result (Unit {0}) CounterFault) → MayChange (accepting old.stopped title n old.counters) old new result
      → Leads w (Accepts title n result) new
  accept_leads title n result changes = by_change (accepting old.stopped title n old.counters) refl changes
    where
      by_change : (r : Result (Option CounterState) CounterFault) → accepting old.stopped title n old.counters ≡ r → MayChange r old new result → Leads w (Accepts title n result) new
      by_change (Err fault) e h = (w, subst (λ (r : Result (Unit {0}) CounterFault). IsStep w (Accepts title n r) w) (sym h.0) (inl refl), fits_same h.1)
      by_change (Ok None) e h =
          let runs = accepting_runs old.stopped title n None e in
          (w, subst (λ (r : Result (Unit {0}) CounterFault). IsStep w (Accepts title n r) w) (sym h.0) (inl (accepting_none title n w.known runs.1, refl)), fits_same h.1)
      by_change (Ok (Some next)) e h = accept_made title n next result e h

  -- ---- stops inside

  left_same : (e : Event) → IsStep w e w → (image : Image) → (view_of old).may_leave image → LeftDuring w e image
  left_same e s image left = ⊎_elim
      (λ known. (w, s, w.known, inl refl, known))
      (λ maybe. (w, s, w.maybe, inr refl, maybe))
      (fits.each image left)

  left_next : (e : Event) (next : CounterState) → IsStep w e w → IsStep w e (record w { maybe = next }) → (image : Image) → IsEither old.counters next image → LeftDuring w e image
  left_next e next s t image h = ⊎_elim
      (λ was. (w, s, w.known, inl refl, was ∙ ap (λ (c : CounterState). Some c) fits.known))
      (λ is. (record w { maybe = next }, t, next, inr refl, is))
      h

  same_inside : (e : Event) → IsStep w e w → Rules (view_of old) → new ≡ old → LeavesOnly (view_of old) (view_of new) (LeftDuring w e)
  same_inside e s rules same = subst (λ (f : CounterFile P ghosts). LeavesOnly (view_of old) (view_of f) (LeftDuring w e)) (sym same)
      (no_call (view_of old) (LeftDuring w e) (left_same e s) rules)

  pub reserve_inside : (n : ℕ) (result : Result ℕ CounterFault) → Rules (view_of old) → Changes (reserving old.stopped n old.counters) old new result
      → LeavesOnly (view_of old) (view_of new) (LeftDuring w (Reserves n (Err Device)))
  reserve_inside n result rules changes = by_change (reserving old.stopped n old.counters) refl changes
    where
      by_change : (r : Result CounterState CounterFault) → reserving old.stopped n old.counters ≡ r → Changes r old new result
          → LeavesOnly (view_of old) (view_of new) (LeftDuring w (Reserves n (Err Device)))
      by_change (Err fault) e h = same_inside (Reserves n (Err Device)) (inl refl) rules h.1
      by_change (Ok next) e h =
          let runs = reserving_runs old.stopped n next e in
          weaker (view_of old) (view_of new) (IsEither old.counters next) (LeftDuring w (Reserves n (Err Device)))
          (left_next (Reserves n (Err Device)) next (inl refl) (inr (next, runs.1, refl))) (h.stores (settled_then runs.0)).any_moment

  pub accept_inside : (title : List ℕ) (n : ℕ) (result : Result (Unit {0}) CounterFault) → Rules (view_of old) → MayChange (accepting old.stopped title n old.counters) old new result
      → LeavesOnly (view_of old) (view_of new) (LeftDuring w (Accepts title n (Err Device)))
  accept_inside title n result rules changes = by_change (accepting old.stopped title n old.counters) refl changes
    where
      by_change : (r : Result (Option CounterState) CounterFault) → accepting old.stopped title n old.counters ≡ r → MayChange r old new result
          → LeavesOnly (view_of old) (view_of new) (LeftDuring w (Accepts title n (Err Device)))
      by_change (Err fault) e h = same_inside (Accepts title n (Err Device)) (inl refl) rules h.1
      by_change (Ok None) e h = same_inside (Accepts title n (Err Device)) (inl refl) rules h.1
      by_change (Ok (Some next)) e h =
          let runs = accepting_runs old.stopped title n (Some next) e in
          weaker (view_of old) (view_of new) (IsEither old.counters next) (LeftDuring w (Accepts title n (Err Device)))
          (left_next (Accepts title n (Err Device)) next (inl refl) (inr (next, runs.1, refl))) (h.stores (settled_then runs.0)).any_moment
