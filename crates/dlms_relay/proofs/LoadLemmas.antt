-- Pages that are written one after another, and the choice for each.
use Rattle.std.proofs.Common.{◌≡◌, ◌≢◌, ◌<◌, ◌≤◌, ◌+◌, ◌∙◌, ⊎_elim, ap, sym, subst, arith, set, get_or, ℕ, Bool, true, false, ◌||◌, cond, nat_eq, length, List, [], ◌∷◌, ◌++◌, refl}
use Rattle.std.proofs.lemmas.List.{get_or-set_same, get_or-set_other, length-set}
use Rattle.std.proofs.lemmas.Bool.{cases_eq, eqb-true, eq-eqb}
use Rattle.dlms_pages.specs.declared.device.PageRead.{PageRead}
use Rattle.dlms_pages.specs.declared.device.PageRead.TheVariants.{Content, Damaged}
use Rattle.dlms_pages.specs.declared.memory.Call.{Call}
use Rattle.dlms_pages.specs.declared.memory.Call.TheVariants.{Write}
use Rattle.dlms_pages.specs.declared.pick.PageChoice.{PageChoice}
use Rattle.dlms_pages.specs.declared.pick.PageChoice.TheVariants.{Old}
use Rattle.dlms_pages.specs.Device.{Image, page_at}
use Rattle.dlms_pages.specs.Disk.{Disk, after, at_first, disk_after, was_written}
use Rattle.dlms_pages.specs.Memory.{Memory, disk_of}
use Rattle.dlms_pages.specs.Pick.{chosen, page_left}
use Rattle.dlms_pages.specs.Seal.{ReadsSlot}
use Rattle.dlms_pages.proofs.Calls.{length-seen, one_more}
use Rattle.dlms_relay.specs.Loaded.{slot_in}

-- the first i pages are written
pub record Loads (octets : List ℕ) (count i : ℕ) (memory : Memory) (choices : List PageChoice) : Type 0 where
  pub counted : length memory.first ≡ count
  pub chosen_too : length choices ≡ count
  pub page : (k : ℕ) → k < i → ReadsSlot k (slot_in octets k) (page_left (disk_of memory) (get_or choices k Old) k)

pub room : (memory : Memory) → length (disk_of memory).seen ≡ length memory.first
room memory = length-seen (at_first memory.first) memory.calls

left_by : (disk : Disk) (index : ℕ) (bytes : List ℕ) (choice : PageChoice) (k : ℕ) (b : Bool) → nat_eq index k ≡ b → k ≢ index → page_left (after disk (Write index bytes)) choice k ≡ page_left disk choice k
left_by disk index bytes choice k true same apart = absurd (apart (sym (eqb-true index k same)))
left_by disk index bytes choice k false other apart =
    let w = was_written disk.since k in
    let stable = page_at disk.stable k in
    ap (λ (b : Bool). cond (b || w) (chosen choice stable (page_at (set disk.seen index (Content bytes)) k)) stable) other ∙ ap (λ (p : PageRead). cond w (chosen choice stable p) stable) (get_or-set_other disk.seen index k (Content bytes) Damaged apart)

left_other : (disk : Disk) (index : ℕ) (bytes : List ℕ) (choice : PageChoice) (k : ℕ) → k ≢ index → page_left (after disk (Write index bytes)) choice k ≡ page_left disk choice k
left_other disk index bytes choice k apart = left_by disk index bytes choice k (nat_eq index k) refl apart

left_same : (disk : Disk) (index : ℕ) (bytes : List ℕ) (choice : PageChoice) → index < length disk.seen → page_left (after disk (Write index bytes)) choice index ≡ chosen choice (page_at disk.stable index) (Content bytes)
left_same disk index bytes choice small =
    let w = was_written disk.since index in
    let stable = page_at disk.stable index in
    let new = page_at (set disk.seen index (Content bytes)) index in
    ap (λ (b : Bool). cond (b || w) (chosen choice stable new) stable) (eq-eqb index index refl) ∙ ap (λ (p : PageRead). chosen choice stable p) (get_or-set_same disk.seen index (Content bytes) Damaged small)

-- one more is written
pub loads_more : (octets : List ℕ) (count i : ℕ) (memory after_write : Memory) (choices : List PageChoice) (content : List ℕ) (choice : PageChoice) (page : PageRead) → i < count
    → Loads octets count i memory choices → ReadsSlot i (slot_in octets i) page → ((stable : PageRead) → chosen choice stable (Content content) ≡ page)
    → after_write.first ≡ memory.first → after_write.calls ≡ memory.calls ++ Write i content ∷ [] → Loads octets count (i + 1) after_write (set choices i choice)
loads_more octets count i memory new choices content choice page small before reads is first calls =
    let disk = disk_of memory in
    let then : disk_of new ≡ after disk (Write i content) =
    ap (λ (image : Image). disk_after (at_first image) new.calls) first ∙ ap (λ (l : List Call). disk_after (at_first memory.first) l) calls ∙ one_more (at_first memory.first) memory.calls (Write i content) in
    record {
      counted = ap (λ (image : Image). length image) first ∙ before.counted;
      chosen_too = length-set choices i choice ∙ before.chosen_too;
      page = λ k low. subst (λ (d : Disk). ReadsSlot k (slot_in octets k) (page_left d (get_or (set choices i choice) k Old) k)) (sym then) (⊎_elim
          (λ (same : k ≡ i). subst (λ (j : ℕ). ReadsSlot j (slot_in octets j) (page_left (after disk (Write i content)) (get_or (set choices i choice) j Old) j)) (sym same)
          (subst (λ (c : PageChoice). ReadsSlot i (slot_in octets i) (page_left (after disk (Write i content)) c i)) (sym (get_or-set_same choices i choice Old (omega (arith, before.chosen_too, small))))
          (subst (λ (p : PageRead). ReadsSlot i (slot_in octets i) p) (sym (left_same disk i content choice (omega (arith, room memory, before.counted, small)) ∙ is (page_at disk.stable i))) reads)))
          (λ (apart : k ≢ i).
          subst (λ (c : PageChoice). ReadsSlot k (slot_in octets k) (page_left (after disk (Write i content)) c k)) (sym (get_or-set_other choices i k choice Old apart))
          (subst (λ (p : PageRead). ReadsSlot k (slot_in octets k) p) (sym (left_other disk i content (get_or choices k Old) k apart)) (before.page k (omega (arith, low, apart)))))
          (cases_eq k i));
    }
