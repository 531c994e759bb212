-- A file that is opened after a stop.
use Rattle.std.proofs.Common.{◌≡◌, ◌≢◌, inl, ℕ, true, false, List, length, Some, Result, Ok, Err, refl, sym, ap, ◌∙◌}
use Rattle.std.specs.Prelude.{◌↔◌, IfOk, IfErr, MatchResult}
use Rattle.std.specs.Str.{bytes_eq}
use Rattle.std.proofs.lemmas.Slice.Eq.{bytes_eq-Decides}
use Rattle.dlms_pages.specs.Device.{Image}
use Rattle.dlms_pages.specs.declared.device.Pages.{Ghosts}
use Rattle.dlms_counters.specs.Slot.{CounterState}
use Rattle.dlms_counters.specs.Image.{opened, recovered}
use Rattle.dlms_counters.specs.File.{view_of}
use Rattle.dlms_counters.specs.Writing.{IsSettled}
use Rattle.dlms_counters.specs.Run.{Fits, settled}
use Rattle.dlms_counters.specs.declared.fault.OpenFault.{OpenFault}
use Rattle.dlms_counters.specs.declared.fault.OpenFault.TheVariants.{Device, Size, Damaged, AnotherTitle, AnotherKey}
use Rattle.dlms_counters.specs.declared.file.CounterFile.{CounterFile}

opened_own : (own key : List ℕ) (c : CounterState) → c.own ≡ own → c.fingerprint ≡ key → opened own key (Some c) ≡ Ok c
opened_own own key c is_own is_key =
    let t : bytes_eq c.own own ≡ true = (bytes_eq-Decides c.own own).1 is_own in
    let k : bytes_eq c.fingerprint key ≡ true = (bytes_eq-Decides c.fingerprint key).1 is_key in
    rw (t, k) refl

by_fault : (f : OpenFault) (c : CounterState) (r : Result CounterState OpenFault) → r ≡ Ok c → (f ≡ Size → ⊥)
    → (f ≢ Size → f ≢ Device → r ≡ Err f) → f ≡ Device
by_fault Device c r is size exact = refl
by_fault Size c r is size exact = absurd (size refl)
by_fault Damaged c r is size exact = absurd (let no : Ok c ≡ Err Damaged = sym is ∙ exact (λ x. cc) (λ x. cc) in cc)
by_fault AnotherTitle c r is size exact = absurd (let no : Ok c ≡ Err AnotherTitle = sym is ∙ exact (λ x. cc) (λ x. cc) in cc)
by_fault AnotherKey c r is size exact = absurd (let no : Ok c ≡ Err AnotherKey = sym is ∙ exact (λ x. cc) (λ x. cc) in cc)

module _ {P : Type 0} (ghosts : Ghosts P) (image : Image) (c : CounterState) (device : P) (own key : List ℕ) (two : length image ≡ 2) (found : recovered image ≡ Some c) (is_own : c.own ≡ own) (is_key : c.fingerprint ≡ key) (seen : (ghosts.view device).seen ≡ image) where
  here : opened own key (recovered (ghosts.view device).seen) ≡ Ok c
  here = ap (λ (i : Image). opened own key (recovered i)) seen ∙ ap (opened own key) found ∙ opened_own own key c is_own is_key

  pub fits_opened : (result : Result (CounterFile P ghosts) (P × OpenFault))
      → IfErr result (λ e. (e.1 ≡ Size) ↔ (length (ghosts.view device).seen ≢ 2))
      → MatchResult result (λ file. opened own key (recovered (ghosts.view device).seen) ≡ Ok file.counters)
      (λ e. e.1 ≢ Size → e.1 ≢ Device → opened own key (recovered (ghosts.view device).seen) ≡ Err e.1)
      → IfOk result (λ file. IsSettled (view_of file) file.counters)
      → IfOk result (λ file. file.stopped ≡ false)
      → MatchResult result (λ file. Fits file (settled c)) (λ e. e.1 ≡ Device)
  fits_opened (Ok file) size exact is runs =
      let same : file.counters ≡ c = (let both : Ok file.counters ≡ Ok c = sym exact ∙ here in cc) in
      record {
        honest = is.honest;
        known = same;
        each = λ i left. inl (is.each i left ∙ ap (λ (x : CounterState). Some x) same);
        runs = λ _. refl;
      }
  fits_opened (Err e) size exact is runs =
      by_fault e.1 c (opened own key (recovered (ghosts.view device).seen)) here
      (λ at_size. size.0 at_size (ap (λ (i : Image). length i) seen ∙ two)) exact
