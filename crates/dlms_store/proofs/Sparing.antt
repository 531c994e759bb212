-- The contents of a device that is not opened.
use Rattle.std.proofs.Common.{◌≡◌, ◌⊎◌, ⊎_elim, inl, inr, Result, Ok, Err, refl, subst, sym, List, ◌++◌}
use Rattle.std.specs.Prelude.{IfErr, MatchResult}
use Rattle.dlms_pages.specs.Device.{View, Image, Elapses, Rules}
use Rattle.dlms_pages.specs.Stops.{Looks}
use Rattle.dlms_pages.specs.declared.device.Pages.{Ghosts}
use Rattle.dlms_pages.proofs.Moments.{no_call, one_call, then_also, weaker}
use Rattle.dlms_state.specs.declared.event.Event.{Event}
use Rattle.dlms_store.specs.Active.{IsFound}
use Rattle.dlms_store.specs.Image.{StandsFor, all_of}
use Rattle.dlms_store.specs.Steady.{IsSpared, Spares, Steady}
use Rattle.dlms_store.specs.declared.fault.OpenFault.{OpenFault}
use Rattle.dlms_store.specs.declared.fault.OpenFault.TheVariants.{Device, NoCheckpoint, Corrupt, Size, Memory, Exhausted}
use Rattle.dlms_store.specs.declared.open.Found.{Found}
use Rattle.dlms_store.specs.declared.store.Store.{Store}

pub spared_still : (old : View) → Rules old → Spares old old
spared_still old rules = record { any_moment = no_call old old.may_leave (λ c left. left) rules; each = λ c left. left }

pub spared_sync : (old synced : View) → Rules old → Elapses old synced → ((c : Image) → synced.may_leave c → old.may_leave c) → Spares old synced
spared_sync old synced rules time crash = record { any_moment = one_call old synced old.may_leave (λ c left. left) rules time crash; each = crash }

pub spared_look : (old synced mid : View) → Rules old → Spares old synced → Looks synced mid old.seen → Spares old mid
spared_look old synced mid rules first looks = record {
  any_moment = then_also old synced mid old.may_leave first.any_moment
      (weaker synced mid (λ c. c ≡ old.seen) old.may_leave (λ c same. subst old.may_leave (sym same) rules.seen) looks.any_moment);
  each = λ c left. subst old.may_leave (sym (looks.fixed.only c left)) rules.seen;
}

-- a refusal after which nothing was written
pub refused : (old new : View) (fault : OpenFault) → Spares old new → new.seen ≡ old.seen → IsSpared old new fault
refused old new Device spares same = inl spares
refused old new NoCheckpoint spares same = (spares, same)
refused old new (Corrupt page) spares same = (spares, same)
refused old new Size spares same = (spares, same)
refused old new Memory spares same = (spares, same)
refused old new Exhausted spares same = (spares, same)

pub found_stands : {A : Type 0} (image : Image) (base : List Event) (pages : List (List Event)) (found : Found A) → IsFound image base pages found → StandsFor (base ++ all_of pages) image
found_stands image base pages found is = record { slot = found.slot; edition = found.edition; base = base; pages = pages; spelled = refl; reads = is.reads }

-- a recovery that found events, and may have failed at their checkpoint
pub begun : {P A : Type 0} {ghosts : Ghosts P} (result : Result (Store P A ghosts) (P × OpenFault)) (old : View) (device : P) (events : List Event) → Spares old (ghosts.view device) → (ghosts.view device).seen ≡ old.seen → StandsFor events old.seen
    → MatchResult result (λ store. Steady events (ghosts.view device) (ghosts.view store.device)) (λ e. Steady events (ghosts.view device) (ghosts.view e.0))
    → IfErr result (λ e. (e.1 ≡ Device) ⊎ (e.1 ≡ Exhausted)) → IfErr result (λ e. e.1 ≡ Exhausted → e.0 ≡ device) → IfErr result (λ e. IsSpared old (ghosts.view e.0) e.1)
begun (Ok store) old device events spares same stood steady faults back = tt
begun {P} {A} {ghosts} (Err e) old device events spares same stood steady faults back =
    ⊎_elim
    (λ (failed : e.1 ≡ Device). subst (IsSpared old (ghosts.view e.0)) (sym failed) (inr (record {
      events = events;
      stood = stood;
      any_moment = then_also old (ghosts.view device) (ghosts.view e.0) (λ image. old.may_leave image ⊎ StandsFor events image)
          (weaker old (ghosts.view device) old.may_leave (λ image. old.may_leave image ⊎ StandsFor events image) (λ c left. inl left) spares.any_moment)
          (weaker (ghosts.view device) (ghosts.view e.0) (StandsFor events) (λ image. old.may_leave image ⊎ StandsFor events image) (λ c stands. inr stands) steady.any_moment);
      each = steady.each;
    })))
    (λ (last : e.1 ≡ Exhausted). subst (λ d. IsSpared old (ghosts.view d) e.1) (sym (back last)) (refused old (ghosts.view device) e.1 spares same))
    faults
