-- What memory keeps of its calls leads to the same disk as all of them.
use Rattle.std.proofs.Common.{◌≡◌, ◌<◌, ◌^◌, ℕ, List, [], ◌∷◌, ◌++◌, length, drop, take, set, sym, ◌∙◌, ap, subst, arith}
use Rattle.std.proofs.lemmas.List.{append-nil, length-set, take_all}
use Rattle.std.proofs.Math.ListN.{drop_of_length-le}
use Rattle.dlms_pages.specs.declared.device.PageRead.TheVariants.{Content}
use Rattle.dlms_pages.specs.declared.memory.Call.{Call}
use Rattle.dlms_pages.specs.declared.memory.Call.TheVariants.{Write, Sync}
use Rattle.dlms_pages.specs.Disk.{Disk, at_first, after, disk_after}
use Rattle.dlms_pages.specs.Memory.{IsKept}
use Rattle.dlms_pages.specs.Device.{Image}
use Rattle.dlms_pages.proofs.Calls.{one_more}

-- pages that take the place of as many
pub refilled : (count : ℕ) (olds news : Image) → count ≡ length olds → length news ≡ length olds → take count (news ++ drop (length news) olds) ≡ news
refilled count olds news all same =
    ap (λ (l : Image). take count (news ++ l)) (drop_of_length-le olds (omega (arith, same))) ∙ ap (take count) (append-nil news) ∙ take_all count news (omega (arith, all, same))

module _ (first : Image) (calls : List Call) (synced : Image) (since : List Call) (pages : Image) (is : IsKept first calls synced since pages) where
  pub kept_write : (calls_now since_now : List Call) (index : ℕ) (bytes : List ℕ) → calls_now ≡ calls ++ Write index bytes ∷ [] → since_now ≡ since ++ Write index bytes ∷ [] → IsKept first calls_now synced since_now (set pages index (Content bytes))
  kept_write calls_now since_now index bytes more newer =
      let call = Write index bytes in
      let kept : disk_after (at_first synced) since_now ≡ after (disk_after (at_first synced) since) call = ap (disk_after (at_first synced)) newer ∙ one_more (at_first synced) since call in
      record {
        rest = ap (disk_after (at_first first)) more ∙ one_more (at_first first) calls call ∙ ap (λ (d : Disk). after d call) is.rest ∙ sym kept;
        same = ap (λ (l : Image). set l index (Content bytes)) is.same ∙ sym (ap (λ (d : Disk). d.seen) kept);
        count = is.count ∙ sym (length-set pages index (Content bytes));
        as_many = is.as_many ∙ sym (length-set pages index (Content bytes));
        small = subst (λ n. n < 2 ^ 16) (sym (length-set pages index (Content bytes))) is.small;
      }

  -- after a sync the pages are what it keeps
  pub kept_sync : (calls_now : List Call) (synced_now : Image) (since_now : List Call) → calls_now ≡ calls ++ Sync ∷ [] → synced_now ≡ pages → since_now ≡ [] → IsKept first calls_now synced_now since_now pages
  kept_sync calls_now synced_now since_now more copied none =
      let all : disk_after (at_first first) calls_now ≡ after (disk_after (at_first first) calls) Sync = ap (disk_after (at_first first)) more ∙ one_more (at_first first) calls Sync in
      let now : disk_after (at_first synced_now) since_now ≡ at_first pages = (λ i. disk_after (at_first (copied i)) (none i)) in
      record {
        rest = all ∙ ap (λ (d : Disk). at_first d.seen) is.rest ∙ ap at_first (sym is.same) ∙ sym now;
        same = sym (ap (λ (d : Disk). d.seen) now);
        count = ap (λ (l : Image). length l) copied;
        as_many = is.as_many;
        small = is.small;
      }
