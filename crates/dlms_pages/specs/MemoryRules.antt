-- Pages in memory keep the rules that hold at each moment.
use Rattle.std.proofs.Common.{◌≡◌, ◌≢◌, ◌<◌, ◌≤◌, inl, inr, ⊎_elim, ℕ, List, [], ◌∷◌, length, get_or, set, refl, sym, ◌∙◌, ap, subst, arith}
use Rattle.std.proofs.lemmas.List.{get_or-set_other, get_or-set_same, get_or_past, length-set, take_all}
use Rattle.std.proofs.lemmas.Bool.{cases_eq, cases_lt}
use Rattle.dlms_pages.specs.declared.device.PageRead.TheVariants.{Content, Damaged}
use Rattle.dlms_pages.specs.declared.memory.Call.{Call}
use Rattle.dlms_pages.specs.declared.memory.Call.TheVariants.{Write, Sync}
use Rattle.dlms_pages.specs.Disk.{Disk, at_first, after, disk_after, Left, IsImage}
use Rattle.dlms_pages.specs.Memory.{Memory, view_of}
use Rattle.dlms_pages.specs.Device.{Image, Rules}

-- what a reader sees is one of the images
seen_after_write : (disk : Disk) (index : ℕ) (bytes : List ℕ) → IsImage disk disk.seen
    → IsImage (after disk (Write index bytes)) (after disk (Write index bytes)).seen
seen_after_write disk index bytes is =
    let page = Content bytes in
    let new = set disk.seen index page in
    record {
      count = refl;
      page = λ k. ⊎_elim
          (λ (same : k ≡ index). ⊎_elim
          (λ (there : index < length disk.seen). inr
          (inl (
            sym same,
            inl
                (ap (λ (j : ℕ). get_or new j Damaged) same ∙ get_or-set_same disk.seen index page Damaged there),
          )))
          (λ (past : length disk.seen ≤ index). inr
          (inl (
            sym same,
            inr (get_or_past new k Damaged
                (omega (arith, length-set disk.seen index page))),
          )))
          (cases_lt index (length disk.seen)))
          (λ (apart : k ≢ index).
          let other = get_or-set_other disk.seen index k page Damaged apart in
          ⊎_elim
          (λ old. inl (other ∙ old))
          (λ left. inr (inr (subst (Left disk.since k) (sym other) left)))
          (is.page k))
          (cases_eq k index);
    }

pub seen_after : (disk : Disk) (calls : List Call) → IsImage disk disk.seen
    → IsImage (disk_after disk calls) (disk_after disk calls).seen
seen_after disk [] is = is
seen_after disk (Write index bytes ∷ calls) is =
    seen_after (after disk (Write index bytes)) calls (seen_after_write disk index bytes is)
seen_after disk (Sync ∷ calls) is = seen_after (after disk Sync) calls (record {
  count = refl;
  page = λ k. inl refl;
})

pub seen_is_image : (first : Image) (calls : List Call)
    → IsImage (disk_after (at_first first) calls) (disk_after (at_first first) calls).seen
seen_is_image first calls = seen_after (at_first first) calls (record {
  count = refl;
  page = λ k. inl refl;
})

pub memory_rules : (memory : Memory) → Rules (view_of memory)
memory_rules memory = record {
  seen = seen_is_image memory.first memory.calls;
  count = λ c image. image.count;
  counts_now = λ t c le now. record {
    number = length memory.calls;
    since = le;
    passed = omega arith;
    left = subst (λ l. IsImage (disk_after (at_first memory.first) l) c)
        (sym (take_all (length memory.calls) memory.calls (omega arith))) now;
  };
  only_now = λ c left. subst (λ l. IsImage (disk_after (at_first memory.first) l) c)
      (take_all left.number memory.calls left.since) left.left;
}
