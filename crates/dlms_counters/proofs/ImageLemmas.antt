-- What a recovery finds after a slot was written.
use Rattle.std.proofs.Common.{◌≡◌, ◌≢◌, ◌<◌, ◌≤◌, ◌+◌, ◌%◌, ◌⊎◌, inl, inr, ⊎_elim, ℕ, Bool, true, false, List, length, get_or, set, nat_lt, nat_eq, Option, Some, None, refl, sym, ap, ◌∙◌, arith}
use Rattle.std.specs.Prelude.{option_and_then}
use Rattle.std.proofs.lemmas.List.{get_or-set_other, get_or-set_same}
use Rattle.std.proofs.lemmas.Bool.{cases_eq}
use Rattle.std.proofs.lemmas.Nat.{mod_below}
use Rattle.dlms_pages.specs.Device.{Image, View, Rules, Outcome}
use Rattle.dlms_pages.specs.Device.Outcome.{Old, New, Torn}
use Rattle.dlms_pages.specs.declared.device.PageRead.{PageRead}
use Rattle.dlms_pages.specs.declared.device.PageRead.TheVariants.{Content, Damaged}
use Rattle.dlms_pages.proofs.Moments.{weaker}
use Rattle.std.specs.Prelude.{Result}
use Rattle.std.proofs.lemmas.Result.{on_ok_weaker}
use Rattle.dlms_counters.specs.Slot.{CounterState, counters_in}
use Rattle.dlms_counters.specs.Image.{of_turn, slot_in, newer, recovered}
use Rattle.dlms_counters.specs.Writing.{IsSettled, IsEither, Puts, Stores}

-- contents that are read at a place belong there
turned : (place : ℕ) (o : Option CounterState) (d : CounterState) → option_and_then (of_turn place) o ≡ Some d → d.sequence % 2 ≡ place
turned place None d e = absurd cc
turned place (Some c) d e = by_turn (nat_eq (c.sequence % 2) place) refl
  where
    by_turn : (b : Bool) → nat_eq (c.sequence % 2) place ≡ b → d.sequence % 2 ≡ place
    by_turn true t =
        let s : Some c ≡ Some d = rw t at e in
        let same : c ≡ d = cc in
        let here : c.sequence % 2 ≡ place = grind (arith, t) in
        ap (λ (x : CounterState). x.sequence % 2) (sym same) ∙ here
    by_turn false t = absurd (let s : None ≡ Some d = rw t at e in cc)

slot_turn : (place : ℕ) (page : PageRead) (d : CounterState) → slot_in place page ≡ Some d → d.sequence % 2 ≡ place
slot_turn place (Content bytes) d e = turned place (counters_in bytes) d e
slot_turn place Damaged d e = absurd cc

pub slot_new : (place : ℕ) (bytes : List ℕ) (d : CounterState) → counters_in bytes ≡ Some d → d.sequence % 2 ≡ place → slot_in place (Content bytes) ≡ Some d
slot_new place bytes d reads turn =
    let t : nat_eq (d.sequence % 2) place ≡ true = grind (arith, turn) in
    rw (reads, t) refl

newer_from : (A B : Option CounterState) (c : CounterState) → newer A B ≡ Some c → (A ≡ Some c) ⊎ (B ≡ Some c)
newer_from None B c e = inr e
newer_from (Some a) None c e = inl e
newer_from (Some a) (Some b) c e = by_order (nat_lt a.sequence b.sequence) refl
  where
    by_order : (t : Bool) → nat_lt a.sequence b.sequence ≡ t → (Some a ≡ Some c) ⊎ (Some b ≡ Some c)
    by_order true t = inr (rw t at e)
    by_order false t = inl (rw t at e)

with_second : (A B : Option CounterState) (c d : CounterState) → newer A B ≡ Some c → c.sequence < d.sequence → newer A (Some d) ≡ Some d
with_second None B c d e less = refl
with_second (Some a) None c d e less =
    let same : a ≡ c = cc in
    let t : nat_lt a.sequence d.sequence ≡ true = rw same grind (arith, less) in
    rw t refl
with_second (Some a) (Some b) c d e less = by_order (nat_lt a.sequence b.sequence) refl
  where
    by_order : (t : Bool) → nat_lt a.sequence b.sequence ≡ t → newer (Some a) (Some d) ≡ Some d
    by_order true t =
        let s : Some b ≡ Some c = rw t at e in
        let same : b ≡ c = cc in
        let number : b.sequence ≡ c.sequence = ap (λ (x : CounterState). x.sequence) same in
        let u : nat_lt a.sequence d.sequence ≡ true = grind (arith, t, number, less) in
        rw u refl
    by_order false t =
        let s : Some a ≡ Some c = rw t at e in
        let same : a ≡ c = cc in
        let number : a.sequence ≡ c.sequence = ap (λ (x : CounterState). x.sequence) same in
        let u : nat_lt a.sequence d.sequence ≡ true = grind (arith, number, less) in
        rw u refl

with_first : (A B : Option CounterState) (c d : CounterState) → newer A B ≡ Some c → c.sequence < d.sequence → newer (Some d) B ≡ Some d
with_first A None c d e less = refl
with_first None (Some b) c d e less =
    let same : b ≡ c = cc in
    let number : b.sequence ≡ c.sequence = ap (λ (x : CounterState). x.sequence) same in
    let u : nat_lt d.sequence b.sequence ≡ false = grind (arith, number, less) in
    rw u refl
with_first (Some a) (Some b) c d e less = by_order (nat_lt a.sequence b.sequence) refl
  where
    by_order : (t : Bool) → nat_lt a.sequence b.sequence ≡ t → newer (Some d) (Some b) ≡ Some d
    by_order true t =
        let s : Some b ≡ Some c = rw t at e in
        let same : b ≡ c = cc in
        let number : b.sequence ≡ c.sequence = ap (λ (x : CounterState). x.sequence) same in
        let u : nat_lt d.sequence b.sequence ≡ false = grind (arith, number, less) in
        rw u refl
    by_order false t =
        let s : Some a ≡ Some c = rw t at e in
        let same : a ≡ c = cc in
        let number : a.sequence ≡ c.sequence = ap (λ (x : CounterState). x.sequence) same in
        let u : nat_lt d.sequence b.sequence ≡ false = grind (arith, t, number, less) in
        rw u refl

without_second : (A : Option CounterState) → newer A None ≡ A
without_second None = refl
without_second (Some a) = refl

first_page : (image : Image) (page : PageRead) → 2 ≤ length image → recovered (set image 0 page) ≡ newer (slot_in 0 page) (slot_in 1 (get_or image 1 Damaged))
first_page image page two =
    let ne : 1 ≢ 0 = omega arith in
    let here : get_or (set image 0 page) 0 Damaged ≡ page = get_or-set_same image 0 page Damaged (omega arith) in
    let other : get_or (set image 0 page) 1 Damaged ≡ get_or image 1 Damaged = get_or-set_other image 0 1 page Damaged ne in
    (λ i. newer (slot_in 0 (here i)) (slot_in 1 (other i)))

pub second_page : (image : Image) (page : PageRead) → 2 ≤ length image → recovered (set image 1 page) ≡ newer (slot_in 0 (get_or image 0 Damaged)) (slot_in 1 page)
second_page image page two =
    let ne : 0 ≢ 1 = omega arith in
    let here : get_or (set image 1 page) 1 Damaged ≡ page = get_or-set_same image 1 page Damaged (omega arith) in
    let other : get_or (set image 1 page) 0 Damaged ≡ get_or image 0 Damaged = get_or-set_other image 1 0 page Damaged ne in
    (λ i. newer (slot_in 0 (other i)) (slot_in 1 (here i)))

module _ (image : Image) (c d : CounterState) (bytes : List ℕ) (two : 2 ≤ length image) (found : recovered image ≡ Some c) (next : d.sequence ≡ c.sequence + 1) (reads : counters_in bytes ≡ Some d) where
  less : c.sequence < d.sequence
  less = omega (arith, next)

  new_first : d.sequence % 2 ≡ 0 → recovered (set image 0 (Content bytes)) ≡ Some d
  new_first turn = first_page image (Content bytes) two ∙ ap (λ (o : Option CounterState). newer o (slot_in 1 (get_or image 1 Damaged))) (slot_new 0 bytes d reads turn) ∙ with_first (slot_in 0 (get_or image 0 Damaged)) (slot_in 1 (get_or image 1 Damaged)) c d found less

  new_second : d.sequence % 2 ≡ 1 → recovered (set image 1 (Content bytes)) ≡ Some d
  new_second turn = second_page image (Content bytes) two ∙ ap (λ (o : Option CounterState). newer (slot_in 0 (get_or image 0 Damaged)) o) (slot_new 1 bytes d reads turn) ∙ with_second (slot_in 0 (get_or image 0 Damaged)) (slot_in 1 (get_or image 1 Damaged)) c d found less

  torn_first : d.sequence % 2 ≡ 0 → recovered (set image 0 Damaged) ≡ Some c
  torn_first turn = first_page image Damaged two ∙ ⊎_elim
      (λ first. absurd (let here : c.sequence % 2 ≡ 0 = slot_turn 0 (get_or image 0 Damaged) c first in omega (arith, here, next, turn)))
      (λ second. second)
      (newer_from (slot_in 0 (get_or image 0 Damaged)) (slot_in 1 (get_or image 1 Damaged)) c found)

  torn_second : d.sequence % 2 ≡ 1 → recovered (set image 1 Damaged) ≡ Some c
  torn_second turn = second_page image Damaged two ∙ without_second (slot_in 0 (get_or image 0 Damaged)) ∙ ⊎_elim
      (λ first. first)
      (λ second. absurd (let here : c.sequence % 2 ≡ 1 = slot_turn 1 (get_or image 1 Damaged) c second in omega (arith, here, next, turn)))
      (newer_from (slot_in 0 (get_or image 0 Damaged)) (slot_in 1 (get_or image 1 Damaged)) c found)

  either : (n : ℕ) → (n % 2 ≡ 0) ⊎ (n % 2 ≡ 1)
  either n = ⊎_elim (λ (zero_is : n % 2 ≡ 0). inl zero_is) (λ (other : n % 2 ≢ 0). inr (let below = mod_below n 2 (omega arith) in omega (arith, below, other))) (cases_eq (n % 2) 0)

  pub new_page : recovered (set image (d.sequence % 2) (Content bytes)) ≡ Some d
  new_page = ⊎_elim
      (λ (turn : d.sequence % 2 ≡ 0). ap (λ (p : ℕ). recovered (set image p (Content bytes))) turn ∙ new_first turn)
      (λ (turn : d.sequence % 2 ≡ 1). ap (λ (p : ℕ). recovered (set image p (Content bytes))) turn ∙ new_second turn)
      (either d.sequence)

  pub torn_page : recovered (set image (d.sequence % 2) Damaged) ≡ Some c
  torn_page = ⊎_elim
      (λ (turn : d.sequence % 2 ≡ 0). ap (λ (p : ℕ). recovered (set image p Damaged)) turn ∙ torn_first turn)
      (λ (turn : d.sequence % 2 ≡ 1). ap (λ (p : ℕ). recovered (set image p Damaged)) turn ∙ torn_second turn)
      (either d.sequence)

module _ (old new : View) (c d : CounterState) (bytes : List ℕ) (rules : Rules old) (two : length old.seen ≡ 2) (settled : IsSettled old c) (next : d.sequence ≡ c.sequence + 1) (reads : counters_in bytes ≡ Some d) where
  room : (image : Image) → old.may_leave image → 2 ≤ length image
  room image left = let count = rules.count image left in omega (arith, count, two)

  outcome : (image : Image) → Outcome (d.sequence % 2) bytes old.may_leave image → IsEither c d image
  outcome image (Old left) = inl (settled.each image left)
  outcome image (New before left same) = inr (ap recovered same ∙ new_page before c d bytes (room before left) (settled.each before left) next reads)
  outcome image (Torn before left same) = inl (ap recovered same ∙ torn_page before c d bytes (room before left) (settled.each before left) next reads)

  pub stored : {T E : Type 0} (result : Result T E) → Puts (d.sequence % 2) bytes old new result → Stores c d old new result
  stored result puts = record {
    any_moment = weaker old new (Outcome (d.sequence % 2) bytes old.may_leave) (IsEither c d) outcome puts.any_moment;
    after = λ image left. outcome image (puts.after image left);
    at_last = on_ok_weaker result (λ last. λ image left. ap recovered (last image left) ∙ new_page old.seen c d bytes (room old.seen rules.seen) (settled.each old.seen rules.seen) next reads) puts.at_last;
  }
