-- What a run of device calls leaves.
use Rattle.std.proofs.Common.{◌≡◌, ◌≢◌, ◌<◌, ◌≤◌, ◌⊎◌, inl, inr, ⊎_elim, ℕ, List, [], ◌∷◌, length, get_or, set, refl, sym, ◌∙◌, ap, subst, arith}
use Rattle.std.proofs.lemmas.List.{get_or-set_other, get_or-set_same, get_or_past, length-set}
use Rattle.std.proofs.lemmas.Bool.{cases_eq, cases_lt}
use Rattle.dlms_pages.specs.declared.device.PageRead.{PageRead}
use Rattle.dlms_pages.specs.declared.device.PageRead.TheVariants.{Content, Damaged}
use Rattle.dlms_pages.specs.Device.{View, Image, Outcome, Rules, page_at}
use Rattle.dlms_pages.specs.Device.Outcome.{Old, New, Torn}
use Rattle.dlms_pages.specs.Disk.{Disk, Left, IsImage}
use Rattle.dlms_pages.specs.Laws.{Run}
use Rattle.dlms_pages.specs.Laws.Run.{Begins, ThenRead, ThenWrite, ThenFailedSync}
use Rattle.dlms_pages.specs.Stops.{IsFixed}

-- the image with these writes since
abbrev disk_with : Image → List (ℕ × List ℕ) → Disk
disk_with image writes = record { stable = image; seen = image; since = writes }

-- one more write may have done nothing
nothing : (image : Image) (write : ℕ × List ℕ) (writes : List (ℕ × List ℕ)) (c : Image) → IsImage (disk_with image writes) c → IsImage (disk_with image (write ∷ writes)) c
nothing image write writes c is = record { count = is.count; page = λ k. ⊎_elim (λ old. inl old) (λ left. inr (inr left)) (is.page k) }

-- or have left this page
something : (image : Image) (index : ℕ) (bytes : List ℕ) (writes : List (ℕ × List ℕ)) (page : PageRead) → ((page ≡ Content bytes) ⊎ (page ≡ Damaged)) → (d : Image) → IsImage (disk_with image writes) d → IsImage (disk_with image ((index, bytes) ∷ writes)) (set d index page)
something image index bytes writes page left d is =
    let new = set d index page in
    record {
      count = length-set d index page ∙ is.count;
      page = λ k. ⊎_elim
          (λ (same : k ≡ index). ⊎_elim
          (λ (there : index < length d).
          let now : get_or new k Damaged ≡ page = ap (λ (j : ℕ). get_or new j Damaged) same ∙ get_or-set_same d index page Damaged there in
          inr (inl (sym same, subst (λ p. (p ≡ Content bytes) ⊎ (p ≡ Damaged)) (sym now) left)))
          (λ (past : length d ≤ index). inr (inl (sym same, inr (get_or_past new k Damaged (omega (arith, length-set d index page))))))
          (cases_lt index (length d)))
          (λ (apart : k ≢ index).
          let other = get_or-set_other d index k page Damaged apart in
          ⊎_elim
          (λ old. inl (other ∙ old))
          (λ more. inr (inr (subst (Left writes k) (sym other) more)))
          (is.page k))
          (cases_eq k index);
    }

after_write : (image : Image) (index : ℕ) (bytes : List ℕ) (writes : List (ℕ × List ℕ)) (old : Image → Type 0) → ((d : Image) → old d → IsImage (disk_with image writes) d) → (c : Image) → Outcome index bytes old c → IsImage (disk_with image ((index, bytes) ∷ writes)) c
after_write image index bytes writes old so_far c (Old was) = nothing image (index, bytes) writes c (so_far c was)
after_write image index bytes writes old so_far c (New d was is) = subst (IsImage (disk_with image ((index, bytes) ∷ writes))) (sym is) (something image index bytes writes (Content bytes) (inl refl) d (so_far d was))
after_write image index bytes writes old so_far c (Torn d was is) = subst (IsImage (disk_with image ((index, bytes) ∷ writes))) (sym is) (something image index bytes writes Damaged (inr refl) d (so_far d was))

pub run_leaves : {P : Type 0} (view : P → View) (start : P) (image : Image) → IsFixed (view start) image → (writes : List (ℕ × List ℕ)) (now : P) → Run view start writes now → (c : Image) → (view now).may_leave c → IsImage (disk_with image writes) c
run_leaves view start image fixed _ _ Begins c left = record { count = ap length (fixed.only c left); page = λ k. inl (ap (λ (i : Image). page_at i k) (fixed.only c left)) }
run_leaves view start image fixed writes _ (ThenRead {mid = mid} now index result run reads) c left = run_leaves view start image fixed writes mid run c (reads.crash c left)
run_leaves view start image fixed _ _ (ThenWrite {writes = writes} {mid = mid} now index bytes result run writing) c left = after_write image index bytes writes (view mid).may_leave (run_leaves view start image fixed writes mid run) c (writing.crash c left)
run_leaves view start image fixed writes _ (ThenFailedSync {mid = mid} now fault run syncs) c left = run_leaves view start image fixed writes mid run c (syncs.crash c left)

later : {P : Type 0} (view : P → View) (start : P) (writes : List (ℕ × List ℕ)) (now : P) → Run view start writes now → (view start).moment ≤ (view now).moment
later view start _ _ Begins = omega arith
later view start writes _ (ThenRead {mid = mid} now index result run reads) = omega (arith, later view start writes mid run, reads.time.later)
later view start _ _ (ThenWrite {writes = writes} {mid = mid} now index bytes result run writing) = omega (arith, later view start writes mid run, writing.time.later)
later view start writes _ (ThenFailedSync {mid = mid} now fault run syncs) = omega (arith, later view start writes mid run, syncs.time.later)

pub run_left : {P : Type 0} (view : P → View) (start : P) (image : Image) → IsFixed (view start) image → Rules (view start) → (writes : List (ℕ × List ℕ)) (now : P) → Run view start writes now → (c : Image) → (view now).left_since (view start).moment c → IsImage (disk_with image writes) c
run_left view start image fixed rules _ _ Begins c left = run_leaves view start image fixed [] start Begins c (rules.only_now c left)
run_left view start image fixed rules writes _ (ThenRead {mid = mid} now index result run reads) c left = ⊎_elim
    (λ past. run_left view start image fixed rules writes mid run c past)
    (λ here. run_leaves view start image fixed writes now (ThenRead {mid = mid} now index result run reads) c here)
    (reads.time.nothing_else (view start).moment c (later view start writes mid run) left)
run_left view start image fixed rules _ _ (ThenWrite {writes = writes} {mid = mid} now index bytes result run writing) c left = ⊎_elim
    (λ past. nothing image (index, bytes) writes c (run_left view start image fixed rules writes mid run c past))
    (λ here. run_leaves view start image fixed ((index, bytes) ∷ writes) now (ThenWrite {mid = mid} now index bytes result run writing) c here)
    (writing.time.nothing_else (view start).moment c (later view start writes mid run) left)
run_left view start image fixed rules writes _ (ThenFailedSync {mid = mid} now fault run syncs) c left = ⊎_elim
    (λ past. run_left view start image fixed rules writes mid run c past)
    (λ here. run_leaves view start image fixed writes now (ThenFailedSync {mid = mid} now fault run syncs) c here)
    (syncs.time.nothing_else (view start).moment c (later view start writes mid run) left)
