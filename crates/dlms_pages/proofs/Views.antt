-- How a call of pages in memory changes what is known of them.
use Rattle.std.proofs.Common.{◌≡◌, ◌<◌, ◌≤◌, ◌⊎◌, ◌+◌, inl, inr, ⊎_elim, ℕ, List, [], ◌∷◌, ◌++◌, length, refl, sym, ◌∙◌, ap, subst, arith, length-append, Result, Ok, Err, OnOk, OnErr}
use Rattle.std.proofs.lemmas.List.{take_all, take-append-le}
use Rattle.std.proofs.lemmas.Bool.{cases_lt}
use Rattle.dlms_pages.specs.declared.device.DeviceFault.{DeviceFault}
use Rattle.dlms_pages.specs.declared.memory.Call.{Call}
use Rattle.dlms_pages.specs.declared.memory.Call.TheVariants.{Write, Sync}
use Rattle.dlms_pages.specs.Disk.{Disk, at_first, after, disk_after, IsImage}
use Rattle.dlms_pages.specs.Memory.{Memory, LeftSince, view_of, disk_of, Passes, Fails}
use Rattle.dlms_pages.specs.MemoryRules.{seen_is_image}
use Rattle.dlms_pages.specs.Device.Outcome.{Old}
use Rattle.dlms_pages.specs.Device.{Image, Rose, Elapses, Goes, Writes, Syncs, page_at}
use Rattle.dlms_pages.proofs.Calls.{one_more, outcome_of_write, only_seen, length-seen}

-- the record goes on
grows : (first : Image) (calls : List Call) (call : Call) (t : ℕ) (c : Image) → LeftSince first (calls ++ call ∷ []) t c → LeftSince first calls t c ⊎ IsImage (disk_after (at_first first) (calls ++ call ∷ [])) c
grows first calls call t c left =
    let more : length (calls ++ call ∷ []) ≡ length calls + 1 = length-append calls (call ∷ []) in
    ⊎_elim
    (λ (last : length calls < left.number). inr (subst (λ l. IsImage (disk_after (at_first first) l) c) (take_all left.number (calls ++ call ∷ []) (omega (arith, more, last, left.passed))) left.left))
    (λ (earlier : left.number ≤ length calls). inl (record { number = left.number; since = left.since; passed = earlier; left = subst (λ l. IsImage (disk_after (at_first first) l) c) (take-append-le left.number calls (call ∷ []) earlier) left.left }))
    (cases_lt (length calls) left.number)

kept : (first : Image) (calls : List Call) (call : Call) (t : ℕ) (c : Image) → LeftSince first calls t c → LeftSince first (calls ++ call ∷ []) t c
kept first calls call t c left =
    let more : length (calls ++ call ∷ []) ≡ length calls + 1 = length-append calls (call ∷ []) in
    record { number = left.number; since = left.since; passed = omega (arith, more, left.passed); left = subst (λ l. IsImage (disk_after (at_first first) l) c) (sym (take-append-le left.number calls (call ∷ []) left.passed)) left.left }

same_disk : (old new : Memory) → new.first ≡ old.first → new.calls ≡ old.calls → disk_of new ≡ disk_of old
same_disk old new first calls = λ i. disk_after (at_first (first i)) (calls i)

more_disk : (old new : Memory) (call : Call) → new.first ≡ old.first → new.calls ≡ old.calls ++ call ∷ [] → disk_of new ≡ after (disk_of old) call
more_disk old new call first calls = (λ i. disk_after (at_first (first i)) (calls i)) ∙ one_more (at_first old.first) old.calls call

stands_still : (old new : Memory) → new.first ≡ old.first → new.calls ≡ old.calls → Elapses (view_of old) (view_of new)
stands_still old new first calls = record {
  later = subst (λ (l : List Call). length old.calls ≤ length l) (sym calls) (omega arith);
  nothing_else = λ t c le left. inl (subst (λ f. LeftSince f old.calls t c) first (subst (λ l. LeftSince new.first l t c) calls left));
  keeps = λ t c le left. subst (λ l. LeftSince new.first l t c) (sym calls) (subst (λ f. LeftSince f old.calls t c) (sym first) left);
}

goes_on : (old new : Memory) (call : Call) → new.first ≡ old.first → new.calls ≡ old.calls ++ call ∷ [] → Elapses (view_of old) (view_of new)
goes_on old new call first calls = record {
  later = subst (λ (l : List Call). length old.calls ≤ length l) (sym calls) (omega (arith, length-append old.calls (call ∷ [])));
  nothing_else = λ t c le left.
      let was : LeftSince old.first (old.calls ++ call ∷ []) t c = subst (λ f. LeftSince f (old.calls ++ call ∷ []) t c) first (subst (λ l. LeftSince new.first l t c) calls left) in
      let now : disk_after (at_first old.first) (old.calls ++ call ∷ []) ≡ disk_of new = λ i. disk_after (at_first (sym first i)) (sym calls i) in
      ⊎_elim (λ past. inl past) (λ here. inr (subst (λ d. IsImage d c) now here)) (grows old.first old.calls call t c was);
  keeps = λ t c le left. subst (λ l. LeftSince new.first l t c) (sym calls) (subst (λ f. LeftSince f (old.calls ++ call ∷ []) t c) (sym first) (kept old.first old.calls call t c left));
}

-- the pages stay as many
counts : (old new : Memory) → new.first ≡ old.first → length (disk_of new).seen ≡ length (disk_of old).seen
counts old new first = length-seen (at_first new.first) new.calls ∙ ap (λ (l : Image). length l) first ∙ sym (length-seen (at_first old.first) old.calls)

still_left : (old new : Memory) → new.first ≡ old.first → new.calls ≡ old.calls → (c : Image) → IsImage (disk_of new) c → IsImage (disk_of old) c
still_left old new first calls c left = subst (λ d. IsImage d c) (same_disk old new first calls) left

-- a call that failed
same_seen : (old new : Memory) → new.first ≡ old.first → new.calls ≡ old.calls → (disk_of new).seen ≡ (disk_of old).seen
same_seen old new first calls = ap (λ (d : Disk). d.seen) (same_disk old new first calls)

module _ {T : Type 0} (old new : Memory) (fails : Fails old new) where
  pub failed_goes : (r : Result T DeviceFault) → Goes (view_of old) (view_of new) r
  failed_goes (Ok x) = record { honest = refl; count = counts old new fails.first; later = fails.later; fault = tt }
  failed_goes (Err e) = record { honest = refl; count = counts old new fails.first; later = fails.later; fault = subst (λ n. Rose old.faults n) (sym fails.faults) (omega arith) }

  pub failed_write : (index : ℕ) (bytes : List ℕ) (e : DeviceFault) → Writes {T = T} index bytes (view_of old) (view_of new) (Err e)
  failed_write index bytes e = record {
    written = tt;
    others = λ k apart. ap (λ (i : Image). page_at i k) (same_seen old new fails.first fails.calls);
    crash = λ c left. Old (still_left old new fails.first fails.calls c left);
    time = stands_still old new fails.first fails.calls;
  }

  pub failed_sync : (e : DeviceFault) → Syncs {T = T} (view_of old) (view_of new) (Err e)
  failed_sync e = record { durable = tt; same = tt; crash = still_left old new fails.first fails.calls; time = stands_still old new fails.first fails.calls }

-- a call that passed
passed_goes : {T : Type 0} (old new : Memory) (calls : List Call) (x : T) → Passes old new calls → Goes (view_of old) (view_of new) (Ok x)
passed_goes old new calls x passes = record { honest = refl; count = counts old new passes.first; later = subst (λ n. old.faults ≤ n) (sym passes.faults) (omega arith); fault = tt }

passed_write : {T : Type 0} (old new : Memory) (index : ℕ) (bytes : List ℕ) (x : T) → index < length (disk_of old).seen → Passes old new (old.calls ++ Write index bytes ∷ []) → Writes index bytes (view_of old) (view_of new) (Ok x)
passed_write old new index bytes x there passes =
    let is_now = more_disk old new (Write index bytes) passes.first passes.calls in
    record {
      written = ap (λ (d : Disk). d.seen) is_now;
      others = tt;
      crash = λ c left. outcome_of_write (disk_of old) index bytes there c (subst (λ d. IsImage d c) is_now left);
      time = goes_on old new (Write index bytes) passes.first passes.calls;
    }

passed_sync : {T : Type 0} (old new : Memory) (x : T) → Passes old new (old.calls ++ Sync ∷ []) → Syncs (view_of old) (view_of new) (Ok x)
passed_sync old new x passes =
    let is_now = more_disk old new Sync passes.first passes.calls in
    let only : (c : Image) → IsImage (disk_of new) c → c ≡ (disk_of old).seen = λ c left. only_seen (disk_of old) c (subst (λ d. IsImage d c) is_now left) in
    record {
      durable = only;
      same = ap (λ (d : Disk). d.seen) is_now;
      crash = λ c left. subst (IsImage (disk_of old)) (sym (only c left)) (seen_is_image old.first old.calls);
      time = goes_on old new Sync passes.first passes.calls;
    }

-- either
module _ {T : Type 0} (old new : Memory) where
  pub write_goes : (index : ℕ) (bytes : List ℕ) (r : Result T DeviceFault) → OnOk r (Passes old new (old.calls ++ Write index bytes ∷ [])) → OnErr r (Fails old new) → Goes (view_of old) (view_of new) r
  write_goes index bytes (Ok x) passes fails = passed_goes old new _ x passes
  write_goes index bytes (Err e) passes fails = failed_goes old new fails (Err e)

  pub sync_goes : (r : Result T DeviceFault) → OnOk r (Passes old new (old.calls ++ Sync ∷ [])) → OnErr r (Fails old new) → Goes (view_of old) (view_of new) r
  sync_goes (Ok x) passes fails = passed_goes old new _ x passes
  sync_goes (Err e) passes fails = failed_goes old new fails (Err e)

  pub write_writes : (index : ℕ) (bytes : List ℕ) (r : Result T DeviceFault) → index < length (disk_of old).seen → OnOk r (Passes old new (old.calls ++ Write index bytes ∷ [])) → OnErr r (Fails old new) → Writes index bytes (view_of old) (view_of new) r
  write_writes index bytes (Ok x) there passes fails = passed_write old new index bytes x there passes
  write_writes index bytes (Err e) there passes fails = failed_write old new fails index bytes e

  pub sync_syncs : (r : Result T DeviceFault) → OnOk r (Passes old new (old.calls ++ Sync ∷ [])) → OnErr r (Fails old new) → Syncs (view_of old) (view_of new) r
  sync_syncs (Ok x) passes fails = passed_sync old new x passes
  sync_syncs (Err e) passes fails = failed_sync old new fails e
