-- The first contents of a file.
use Rattle.std.proofs.Common.{◌≡◌, ◌≤◌, ◌%◌, inl, inr, ℕ, List, length, get_or, set, Option, Some, None, refl, ap, ◌∙◌, arith}
use Rattle.dlms_pages.specs.Device.{Image, View, Outcome}
use Rattle.dlms_pages.specs.Device.Outcome.{Old, New, Torn}
use Rattle.dlms_pages.specs.Stops.{IsFixed, LeavesOnly}
use Rattle.dlms_pages.specs.declared.device.PageRead.{PageRead}
use Rattle.dlms_pages.specs.declared.device.PageRead.TheVariants.{Content, Damaged}
use Rattle.dlms_pages.proofs.Moments.{then_also, weaker}
use Rattle.dlms_counters.specs.Slot.{CounterState, counters_in}
use Rattle.dlms_counters.specs.Image.{slot_in, newer, recovered}
use Rattle.dlms_counters.specs.Create.{Begins, IsBegun, IsUnused}
use Rattle.dlms_counters.specs.Writing.{IsBlank, Spares}
use Rattle.dlms_counters.proofs.ImageLemmas.{second_page, slot_new}

-- a page that holds nothing is no slot
blank_slot : (place : ℕ) (page : PageRead) → IsBlank page → slot_in place page ≡ None
blank_slot place (Content bytes) blank = ap (λ (b : List ℕ). slot_in place (Content b)) blank
blank_slot place Damaged blank = refl

module _ (seen : Image) (c : CounterState) (bytes : List ℕ) (two : 2 ≤ length seen) (unused : IsUnused seen) where
  first : slot_in 0 (get_or seen 0 Damaged) ≡ None
  first = blank_slot 0 (get_or seen 0 Damaged) unused.0

  pub unused_before : recovered seen ≡ None
  unused_before = (λ i. newer (first i) (blank_slot 1 (get_or seen 1 Damaged) unused.1 i))

  pub unused_torn : recovered (set seen 1 Damaged) ≡ None
  unused_torn = second_page seen Damaged two ∙ ap (λ (o : Option CounterState). newer o None) first

  pub unused_new : counters_in bytes ≡ Some c → c.sequence ≡ 1 → recovered (set seen 1 (Content bytes)) ≡ Some c
  unused_new reads turn =
      let odd : c.sequence % 2 ≡ 1 = ap (λ (n : ℕ). n % 2) turn in
      second_page seen (Content bytes) two ∙ ap (λ (o : Option CounterState). newer o (slot_in 1 (Content bytes))) first ∙ slot_new 1 bytes c reads odd

-- spared so far
pub begins_spared : (old new : View) (c : CounterState) → Spares old new → Begins c old new
begins_spared old new c spared = record {
  any_moment = weaker old new old.may_leave (IsBegun c old.may_leave) (λ image left. inl left) spared.any_moment;
  after = λ image left. inl (spared.each image left);
}

module _ (old mid new : View) (c : CounterState) (bytes : List ℕ) (spared : Spares old mid) (fixed : IsFixed mid old.seen) (two : length old.seen ≡ 2) (unused : IsUnused old.seen) (reads : counters_in bytes ≡ Some c) (turn : c.sequence ≡ 1) where
  room : 2 ≤ length old.seen
  room = omega (arith, two)

  outcome : (image : Image) → Outcome 1 bytes mid.may_leave image → IsBegun c old.may_leave image
  outcome image (Old left) = inr (inl (ap recovered (fixed.only image left) ∙ unused_before old.seen c bytes room unused))
  outcome image (New before left same) = inr (inr (ap recovered same ∙ ap (λ (i : Image). recovered (set i 1 (Content bytes))) (fixed.only before left) ∙ unused_new old.seen c bytes room unused reads turn))
  outcome image (Torn before left same) = inr (inl (ap recovered same ∙ ap (λ (i : Image). recovered (set i 1 Damaged)) (fixed.only before left) ∙ unused_torn old.seen c bytes room unused))

  pub begins_put : LeavesOnly mid new (Outcome 1 bytes mid.may_leave) → ((image : Image) → new.may_leave image → Outcome 1 bytes mid.may_leave image) → Begins c old new
  begins_put moment after = record {
    any_moment = then_also old mid new (IsBegun c old.may_leave)
        (weaker old mid old.may_leave (IsBegun c old.may_leave) (λ image left. inl left) spared.any_moment)
        (weaker mid new (Outcome 1 bytes mid.may_leave) (IsBegun c old.may_leave) outcome moment);
    after = λ image left. outcome image (after image left);
  }
