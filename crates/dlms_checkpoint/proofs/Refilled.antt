-- What is restored, page by page.
use Rattle.std.proofs.Common.{◌≡◌, ℕ, zero, suc, ◌+◌, ◌-◌, ◌*◌, ◌/◌, ◌%◌, ◌<◌, ◌≤◌, ◌^◌, List, [], ◌∷◌, ◌++◌, Option, None, Some, Result, Ok, Err, IfOk, IfSome, length, drop, refl, sym, ap, ◌∙◌, subst, arith, ⊎_elim, mul-le-mul_left}
use Rattle.std.proofs.lemmas.List.{length-append, length-drop, drop-append-le}
use Rattle.std.proofs.lemmas.List.Elements.{All-append}
use Rattle.std.specs.Result.{result_ok}
use Rattle.std.proofs.lemmas.Bool.{cases_lt}
use Rattle.std.proofs.Math.Nat.{mul-div_cancel_left, zero-div}
use Rattle.dlms_profile.specs.declared.rows.Row.{Row}
use Rattle.dlms_profile.specs.Rows.{first_number, none_before}
use Rattle.dlms_state.specs.Columns.{IsRowOf}
use Rattle.dlms_state.specs.StateValue.{StateValue}
use Rattle.dlms_checkpoint.specs.Bodies.{columns_said, first_said, next_said}
use Rattle.dlms_checkpoint.specs.Reading.{ArePlaces, Filled, IsFilledBy, IsRefilled, IsWhole, MayTake, Refilled, RowsFit, awaited_page, first_page, open_page, page_length, parts_at, row_at, rows_at, rows_before, state_with, with_page, with_places, with_rows}
use Rattle.dlms_checkpoint.proofs.Bodies.{lengths}
use Rattle.dlms_checkpoint.proofs.Rows.{AreOctets, length-rows_at, row_further, row_of_front}
use Rattle.dlms_checkpoint.proofs.Filled.{columns_few, columns_some, is_filled, more_pages, one_page_more, rows_behind, said, started}

-- ---- rows of two stretches

none_long : (xs : List ℕ) → length xs ≡ 0 → xs ≡ []
none_long [] e = refl
none_long (x ∷ xs) e = absurd (omega (arith, e))

rows_split : (w a b : ℕ) (front back : List ℕ) → length front ≡ 4 * w * a → rows_at w (a + b) (front ++ back) ≡ rows_at w a front ++ rows_at w b back
rows_split w zero b front back long =
    let none : 0 + b ≡ b = omega arith in
    ap (λ (n : ℕ). rows_at w n (front ++ back)) none ∙ ap (λ (l : List ℕ). rows_at w b (l ++ back)) (none_long front (omega (arith, long)))
rows_split w (suc a) b front back long =
    let next : suc a + b ≡ suc (a + b) = omega arith in
    let wide : 4 * w ≤ length front = omega (arith, long) in
    let rest : length (drop (4 * w) front) ≡ 4 * w * a = omega (arith, long, length-drop (4 * w) front) in
    ap (λ (n : ℕ). rows_at w n (front ++ back)) next
    ∙ ap (λ (r : Row). r ∷ rows_at w (a + b) (drop (4 * w) (front ++ back))) (row_of_front w front back wide)
    ∙ ap (λ (l : List Row). row_at w 0 front ∷ l) (ap (rows_at w (a + b)) (drop-append-le (4 * w) front back wide) ∙ rows_split w a b (drop (4 * w) front) back rest)

-- Rows that go on in a further stretch: the first one's rows end with it, or it is empty.
pub rows_on : (w s a b k t : ℕ) (ring more : List ℕ) → length ring ≡ 4 * w * k → k + t ≡ s + a → (k ≡ 0 → a ≡ 0) → (0 < k → t ≡ 0) → s ≤ k + t
    → rows_at w a (drop (4 * w * s) ring) ++ rows_at w b (drop (4 * w * t) more) ≡ rows_at w (a + b) (drop (4 * w * s) (ring ++ more))
rows_on w s a b k t ring more long sum none some within =
    ⊎_elim
    (λ (empty : k < 1).
    let off : k ≡ 0 = omega (arith, empty) in
    let is_a : a ≡ 0 = none off in
    let same : t ≡ s = omega (arith, sum, off, is_a) in
    let bare : ring ≡ [] = none_long ring (long ∙ ap (λ (n : ℕ). 4 * w * n) off ∙ omega arith) in
    ap (λ (n : ℕ). rows_at w n (drop (4 * w * s) ring) ++ rows_at w b (drop (4 * w * t) more)) is_a
    ∙ ap (λ (n : ℕ). rows_at w b (drop (4 * w * n) more)) same
    ∙ ap (λ (l : List ℕ). rows_at w b (drop (4 * w * s) (l ++ more))) (sym bare)
    ∙ ap (λ (n : ℕ). rows_at w n (drop (4 * w * s) (ring ++ more))) (omega (arith, is_a)))
    (λ (full : 1 ≤ k).
    let here : t ≡ 0 = some (omega (arith, full)) in
    let ends : k ≡ s + a = omega (arith, sum, here) in
    let fits : 4 * w * s ≤ length ring = omega (arith, long, ap (λ (n : ℕ). 4 * w * n) ends) in
    let start : 4 * w * t ≡ 0 = ap (λ (n : ℕ). 4 * w * n) here ∙ omega arith in
    ap (λ (n : ℕ). rows_at w a (drop (4 * w * s) ring) ++ rows_at w b (drop n more)) start
    ∙ sym (rows_split w a b (drop (4 * w * s) ring) more (omega (arith, length-drop (4 * w * s) ring, long, ap (λ (n : ℕ). 4 * w * n) ends)))
    ∙ ap (rows_at w (a + b)) (sym (drop-append-le (4 * w * s) ring more fits)))
    (cases_lt k 1)

-- rows of the columns after the skipped places
pub fit_from : (v : List ℕ) (first from skipped count : ℕ) (places : List ℕ) → RowsFit v first from places → first ≤ from + skipped → 4 * length v * (skipped + count) ≤ length places
    → (i : ℕ) → i < count → IsRowOf v (row_at (length v) (4 * length v * i) (drop (4 * length v * skipped) places))
fit_from v first from skipped count places fit past within i low =
    let next : (skipped + i) + 1 ≤ skipped + count = omega (arith, low) in
    subst (IsRowOf v) (sym (row_further (length v) skipped i places))
    (fit (skipped + i) (omega (arith, past)) (omega (arith, within, mul-le-mul_left (4 * length v) next)))

-- ---- where a refilling stands

pub record Where (r : Refilled) (ring : List ℕ) : Type 0 where
  pub some : 0 < length (columns_said r.bytes)
  pub few : length (columns_said r.bytes) ≤ 4
  pub from : first_page r.bytes ≤ r.page
  pub to : r.page ≤ open_page r.bytes
  pub long : length ring ≡ 4 * length (columns_said r.bytes) * (30 * (r.page - first_page r.bytes))
  pub order : first_said r.bytes ≤ next_said r.bytes
  pub room : next_said r.bytes ≤ first_said r.bytes + 960
  pub last : next_said r.bytes ≤ 2 ^ 64

not_more : (page turns most : ℕ) → 0 < page → page * turns ≤ page * most → turns ≤ most
not_more page turns most some within =
    ⊎_elim
    (λ (past : most < turns). (let next : most + 1 ≤ turns = omega (arith, past) in absurd (omega (arith, some, within, mul-le-mul_left page next))))
    (λ (low : turns ≤ most). low)
    (cases_lt most turns)

pub where_it_is : (r : Refilled) (ring : List ℕ) → IsRefilled r ring → Where r ring
where_it_is r ring is =
    let filled : Filled = record { bytes = r.bytes; ring = ring } in
    let w = length (columns_said r.bytes) in
    let page = 4 * w * 30 in
    let turns = length ring / page in
    let some : 0 < w = columns_some filled is.filling in
    let wide : 0 < page = omega (arith, some) in
    let whole : length ring ≡ page * turns = (more_pages page (length ring) wide is.filling.pages).1 in
    let here : r.page ≡ first_page r.bytes + turns = is.page in
    let most : turns ≤ open_page r.bytes - first_page r.bytes = not_more page turns (open_page r.bytes - first_page r.bytes) wide (omega (arith, whole, is.filling.few)) in
    let s = is.filling.bodies.spelled.0 in
    let of = is.filling.bodies.spelled.1 in
    let ordered : first_said r.bytes ≤ next_said r.bytes = is.filling.bodies.head.order in
    let done : turns ≡ r.page - first_page r.bytes = omega (arith, here) in
    record {
      some = some;
      few = columns_few filled is.filling;
      from = omega (arith, here);
      to = omega (arith, here, most, ordered);
      long = whole ∙ parted w turns ∙ ap (λ (n : ℕ). 4 * w * (30 * n)) done;
      order = ordered;
      room = is.filling.bodies.head.few;
      last = omega (arith, (lengths s r.bytes of).head.next_is, of.legal.numbers);
    }
  where
    parted : (w d : ℕ) → 4 * w * 30 * d ≡ 4 * w * (30 * d)
    parted w d = omega arith

-- the columns of the state that a head says
columns_are : (bytes : List ℕ) (k : ℕ) → (parts_at bytes k).columns ≡ columns_said bytes
unfolding parts_at
columns_are bytes k = refl

-- ---- rows more

-- this many more rows of a further stretch
pub state_on : (bytes : List ℕ) (a b k t : ℕ) (ring more : List ℕ) → length ring ≡ 4 * length (columns_said bytes) * k → k + t ≡ first_said bytes % 30 + a → (k ≡ 0 → a ≡ 0) → (0 < k → t ≡ 0) → first_said bytes % 30 ≤ k + t
    → with_rows (state_with bytes a ring) more t b ≡ state_with bytes (a + b) (ring ++ more)
state_on bytes a b k t ring more long sum none some within =
    let v = columns_said bytes in
    let w = length v in
    let s = first_said bytes % 30 in
    let p = parts_at bytes 0 in
    let assoc : (first_said bytes + a) + b ≡ first_said bytes + (a + b) = omega arith in
    ap (λ (l : List ℕ). (let with : StateValue = record p { rows = record { items = rows_at w a (drop (4 * w * s) ring) ++ rows_at (length l) b (drop (4 * length l * t) more); next = (first_said bytes + a) + b } } in with)) (columns_are bytes 0)
    ∙ ap (λ (l : List Row). (let with : StateValue = record p { rows = record { items = l; next = (first_said bytes + a) + b } } in with)) (rows_on w s a b k t ring more long sum none some within)
    ∙ ap (λ (n : ℕ). (let with : StateValue = record p { rows = record { items = rows_at w (a + b) (drop (4 * w * s) (ring ++ more)); next = n } } in with)) assoc

-- the rows of the awaited page may be taken
may_take : (bytes : List ℕ) (s : StateValue) (a b t first from : ℕ) (ring places : List ℕ) → s ≡ state_with bytes a ring → first ≡ first_said bytes → RowsFit (columns_said bytes) first from places
    → first ≤ from + t → 4 * length (columns_said bytes) * (t + b) ≤ length places → t ≤ 30 → a + b ≤ 960 → (first_said bytes + a) + b ≤ 2 ^ 64 → MayTake s places t b
may_take bytes s a b t first from ring places is is_first fit past within near room numbers =
    let v = columns_said bytes in
    let columns : s.columns ≡ v = ap (λ (u : StateValue). u.columns) is ∙ columns_are bytes 0 in
    let count : length s.rows.items ≡ a = ap (λ (u : StateValue). length u.rows.items) is ∙ length-rows_at (length v) a (drop (4 * length v * (first_said bytes % 30)) ring) in
    let next : s.rows.next ≡ first_said bytes + a = ap (λ (u : StateValue). u.rows.next) is in
    record {
      within = subst (λ (l : List ℕ). 4 * length l * (t + b) ≤ length places) (sym columns) within;
      near = near;
      room = omega (arith, count, room);
      numbers = omega (arith, next, numbers);
      rows = λ i low. subst (λ (l : List ℕ). IsRowOf l (row_at (length l) (4 * length l * i) (drop (4 * length l * t) places))) (sym columns) (fit_from v first from t b places fit past within i low);
    }

pub page_may : (r : Refilled) (ring places : List ℕ) (first from t : ℕ) → IsRefilled r ring → r.page < open_page r.bytes → first ≡ first_said r.bytes → from ≡ 30 * r.page → t ≡ first - from → length places ≡ page_length (columns_said r.bytes)
    → RowsFit (columns_said r.bytes) first from places → IfSome r.state (λ s. MayTake s places t (30 - t))
page_may r ring places first from t is low is_first is_from is_t long fit =
    let at = where_it_is r ring is in
    let w = length (columns_said r.bytes) in
    let near : t ≤ 30 = omega (arith, is_first, is_from, is_t, at.from) in
    let all : t + (30 - t) ≡ 30 = omega (arith, near) in
    each r.state is.rows
    (λ s same. may_take r.bytes s (rows_before r.bytes r.page) (30 - t) t first from ring places same is_first fit (omega (arith, is_t))
    (omega (arith, long, ap (λ (n : ℕ). 4 * w * n) all)) near (omega (arith, is_first, is_from, is_t, at.from, at.room, at.order, low)) (omega (arith, is_first, is_from, is_t, at.from, at.last, at.order, low)))
  where
    each : (found : Option StateValue) → IfSome found (λ s. s ≡ state_with r.bytes (rows_before r.bytes r.page) ring) → ((s : StateValue) → s ≡ state_with r.bytes (rows_before r.bytes r.page) ring → MayTake s places t (30 - t)) → IfSome found (λ s. MayTake s places t (30 - t))
    each None same may = tt
    each (Some s) same may = may s same

-- one page more is restored
pub page_taken_too : (r : Refilled) (ring places : List ℕ) → IsRefilled r ring → r.page < open_page r.bytes → AreOctets places → ArePlaces (columns_said r.bytes) (first_said r.bytes) r.page places → IsRefilled (with_page r places) (ring ++ places)
page_taken_too r ring places is low octets are =
    let filled : Filled = record { bytes = r.bytes; ring = ring } in
    let at = where_it_is r ring is in
    let v = columns_said r.bytes in
    let w = length v in
    let page = 4 * w * 30 in
    let first = first_said r.bytes in
    let awaited : awaited_page filled < open_page r.bytes = omega (arith, low, is.page) in
    let t = first - 30 * r.page in
    let k = 30 * (r.page - first_page r.bytes) in
    let wide : 0 < page = omega (arith, at.some) in
    let turns = length ring / page in
    let next = more_pages page (length ring) wide is.filling.pages in
    let pages : (length ring + page) / page ≡ turns + 1 = one_more page turns (length ring) wide next.1 in
    let joined : length (ring ++ places) ≡ length ring + page = length-append ring places ∙ ap (λ (n : ℕ). length ring + n) are.long in
    let fits = subst (λ (n : ℕ). RowsFit v first (30 * n) places) is.page are.rows in
    record {
      filling = one_page_more filled places is.filling awaited are.long fits;
      octets = All-append (λ byte. byte < 2 ^ 8) ring places is.octets octets;
      page = omega (arith, is.page, ap (λ (n : ℕ). n / page) joined, pages);
      rows = each r.state is.rows
          (λ s same.
          let count : rows_before r.bytes r.page + (30 - t) ≡ rows_before r.bytes (r.page + 1) = omega (arith, at.from) in
          ap (λ (u : StateValue). with_rows u places t (30 - t)) same
          ∙ state_on r.bytes (rows_before r.bytes r.page) (30 - t) k t ring places at.long (omega (arith, at.from)) (λ off. omega (arith, off, at.from)) (λ on. omega (arith, on, at.from)) (omega (arith, at.from))
          ∙ ap (λ (n : ℕ). state_with r.bytes n (ring ++ places)) count);
    }
  where
    one_more : (page turns long : ℕ) → 0 < page → long ≡ page * turns → (long + page) / page ≡ turns + 1
    one_more page turns long some is = ap (λ (n : ℕ). n / page) (ap (λ (n : ℕ). n + page) is ∙ omega arith) ∙ mul-div_cancel_left (turns + 1) some

    each : (found : Option StateValue) → IfSome found (λ s. s ≡ state_with r.bytes (rows_before r.bytes r.page) ring)
        → ((s : StateValue) → s ≡ state_with r.bytes (rows_before r.bytes r.page) ring → with_rows s places (first_said r.bytes - 30 * r.page) (30 - (first_said r.bytes - 30 * r.page)) ≡ state_with r.bytes (rows_before r.bytes (r.page + 1)) (ring ++ places))
        → IfSome (with_places found places (first_said r.bytes - 30 * r.page)) (λ s. s ≡ state_with r.bytes (rows_before r.bytes (r.page + 1)) (ring ++ places))
    each None same made = tt
    each (Some s) same made = made s same

bare : (bytes : List ℕ) → parts_at bytes (first_said bytes) ≡ state_with bytes 0 []
unfolding parts_at
bare bytes =
    let same : first_said bytes ≡ first_said bytes + 0 = omega arith in
    ap (λ (n : ℕ). (let with : StateValue = record (parts_at bytes 0) { rows = record { items = []; next = n } } in with)) same

-- the state that memory was given for
pub given : {E : Type 0} (answer : Result StateValue E) (found : Option StateValue) (p q : StateValue) → found ≡ result_ok answer → IfOk answer (λ s. s ≡ p) → p ≡ q → IfSome found (λ s. s ≡ q)
given (Ok s) found p q is same to = subst (λ (f : Option StateValue). IfSome f (λ t. t ≡ q)) (sym is) (same ∙ to)
given (Err e) found p q is same to = subst (λ (f : Option StateValue). IfSome f (λ t. t ≡ q)) (sym is) tt

-- no ring page yet
pub begun : (bytes : List ℕ) (page : ℕ) (state : Option StateValue) → IsWhole bytes → page ≡ first_page bytes → IfSome state (λ s. s ≡ parts_at bytes (first_said bytes)) → IsRefilled (record { bytes = bytes; page = page; state = state }) []
begun bytes page state is here rows =
    let w = length (columns_said bytes) in
    let none : 30 * page - first_said bytes ≡ 0 = omega (arith, here) in
    record {
      filling = started bytes is.head is.all is.spelled;
      octets = λ i d low. absurd (omega (arith, low));
      page = here ∙ omega (arith, no_pages (4 * w * 30));
      rows = each state rows (λ s same. same ∙ bare bytes ∙ ap (λ (n : ℕ). state_with bytes n []) (sym none));
    }
  where
    no_pages : (page : ℕ) → 0 / page ≡ 0
    no_pages page = zero-div page

    each : (found : Option StateValue) → IfSome found (λ s. s ≡ parts_at bytes (first_said bytes)) → ((s : StateValue) → s ≡ parts_at bytes (first_said bytes) → s ≡ state_with bytes (rows_before bytes page) []) → IfSome found (λ s. s ≡ state_with bytes (rows_before bytes page) [])
    each None same made = tt
    each (Some s) same made = made s same

-- ---- by what is reckoned

are_rows_of : (v columns : List ℕ) (first told from page k : ℕ) (places : List ℕ) → columns ≡ v → told ≡ first → page ≡ k → from ≡ page * 30 → RowsFit columns told from places → RowsFit v first (30 * k) places
are_rows_of v columns first told from page k places is_columns is_first is_page is_from fit =
    let there : from ≡ 30 * k = omega (arith, is_from, is_page) in
    subst (λ (l : List ℕ). RowsFit l first (30 * k) places) is_columns (subst (λ (n : ℕ). RowsFit columns n (30 * k) places) is_first (subst (λ (n : ℕ). RowsFit columns told n places) there fit))

pub are_places : (r now : Refilled) (columns places : List ℕ) (told from page : ℕ) → r ≡ now → columns ≡ columns_said r.bytes → told ≡ first_said r.bytes → page ≡ r.page → from ≡ page * 30 → length places ≡ 4 * length columns * 30 → RowsFit columns told from places
    → ArePlaces (columns_said now.bytes) (first_said now.bytes) now.page places
are_places r now columns places told from page same is_columns is_first is_page is_from long fit =
    subst (λ (q : Refilled). ArePlaces (columns_said q.bytes) (first_said q.bytes) q.page places) same
    (record { long = long ∙ ap (λ (l : List ℕ). 4 * length l * 30) is_columns; rows = are_rows_of (columns_said r.bytes) columns (first_said r.bytes) told from page r.page places is_columns is_first is_page is_from fit })

pub rows_fit : (r now : Refilled) (columns places : List ℕ) (told from page : ℕ) → r ≡ now → columns ≡ columns_said r.bytes → told ≡ first_said r.bytes → page ≡ r.page → from ≡ page * 30 → ArePlaces (columns_said now.bytes) (first_said now.bytes) now.page places
    → RowsFit columns told from places
rows_fit r now columns places told from page same is_columns is_first is_page is_from are =
    let there : 30 * r.page ≡ from = omega (arith, is_from, is_page) in
    let here = subst (λ (q : Refilled). ArePlaces (columns_said q.bytes) (first_said q.bytes) q.page places) (sym same) are in
    subst (λ (n : ℕ). RowsFit columns told n places) there (subst (λ (n : ℕ). RowsFit columns n (30 * r.page) places) (sym is_first) (subst (λ (l : List ℕ). RowsFit l (first_said r.bytes) (30 * r.page) places) (sym is_columns) here.rows))

pub page_made : (r now : Refilled) (state : Option StateValue) (places : List ℕ) (told from page t : ℕ) → r ≡ now → told ≡ first_said r.bytes → page ≡ r.page → from ≡ page * 30 → t ≡ told - from → state ≡ with_places r.state places t
    → record { bytes = r.bytes; page = r.page + 1; state = state } ≡ with_page now places
page_made r now state places told from page t same is_first is_page is_from is_t is =
    let there : t ≡ first_said r.bytes - 30 * r.page = omega (arith, is_t, is_first, is_from, is_page) in
    ap (λ (s : Option StateValue). (let made : Refilled = record { bytes = r.bytes; page = r.page + 1; state = s } in made)) (is ∙ ap (with_places r.state places) there)
    ∙ ap (λ (q : Refilled). with_page q places) same

-- ---- all of it restored

-- The rows in the bodies after those of the ring pages.
record Behind (r : Refilled) (ring behind : List ℕ) : Type 0 where
  here : r.page ≡ next_said r.bytes / 30
  long : length behind ≡ 4 * length (columns_said r.bytes) * (next_said r.bytes % 30)
  fit : RowsFit (columns_said r.bytes) (first_said r.bytes) (next_said r.bytes - next_said r.bytes % 30) behind

behind_of : (r : Refilled) (ring behind : List ℕ) → IsRefilled r ring → open_page r.bytes ≤ r.page → behind ≡ drop 324 r.bytes → AreOctets behind → Behind r ring behind
behind_of r ring behind is all is_behind octets =
    let s = is.filling.bodies.spelled.0 in
    let of = is.filling.bodies.spelled.1 in
    let head = (lengths s r.bytes of).head in
    let numbers = said s (record { bytes = r.bytes; ring = ring }) behind of is_behind in
    let next : next_said r.bytes ≡ s.rows.next = head.next_is in
    record {
      here = omega (arith, all, (where_it_is r ring is).to);
      long = numbers.long ∙ ap (λ (l : List ℕ). 4 * length l * (s.rows.next % 30)) (sym head.columns_are) ∙ ap (λ (n : ℕ). 4 * length (columns_said r.bytes) * (n % 30)) (sym next);
      fit = subst (λ (l : List ℕ). RowsFit l (first_said r.bytes) (next_said r.bytes - next_said r.bytes % 30) behind) (sym head.columns_are)
          (rows_behind s r.bytes behind (first_said r.bytes) (next_said r.bytes) of is_behind head.first_is next octets);
    }

some_is : (found : Option StateValue) (s : StateValue) (P : StateValue → Type 0) → found ≡ Some s → IfSome found P → P s
some_is found s P is has = (let here : IfSome (Some s) P = subst (λ (f : Option StateValue). IfSome f P) is has in here)

pub rest_may : (r : Refilled) (ring behind : List ℕ) (s : StateValue) (a n t : ℕ) → IsRefilled r ring → open_page r.bytes ≤ r.page → behind ≡ drop 324 r.bytes → AreOctets behind → r.state ≡ Some s → a ≡ first_said r.bytes → n ≡ next_said r.bytes → t ≡ a - (n - n % 30)
    → MayTake s behind t (n % 30 - t)
rest_may r ring behind s a n t is all is_behind octets found is_a is_n is_t =
    let at = where_it_is r ring is in
    let it = behind_of r ring behind is all is_behind octets in
    let w = length (columns_said r.bytes) in
    let edge : n - n % 30 ≡ next_said r.bytes - next_said r.bytes % 30 = ap (λ (k : ℕ). k - k % 30) is_n in
    let low : t ≤ n % 30 = omega (arith, is_t, is_a, is_n, at.order) in
    let both : t + (n % 30 - t) ≡ next_said r.bytes % 30 = omega (arith, low, is_n) in
    may_take r.bytes s (rows_before r.bytes r.page) (n % 30 - t) t (first_said r.bytes) (next_said r.bytes - next_said r.bytes % 30) ring behind (some_is r.state s (λ u. u ≡ state_with r.bytes (rows_before r.bytes r.page) ring) found is.rows) refl it.fit
    (omega (arith, is_t, is_a, edge)) (omega (arith, it.long, ap (λ (k : ℕ). 4 * w * k) both)) (omega (arith, low))
    (omega (arith, is_t, is_a, is_n, it.here, at.order, at.room)) (omega (arith, is_t, is_a, is_n, it.here, at.order, at.last))

pub rest_made : (r : Refilled) (ring behind : List ℕ) (s : StateValue) (a n t : ℕ) → IsRefilled r ring → open_page r.bytes ≤ r.page → behind ≡ drop 324 r.bytes → AreOctets behind → r.state ≡ Some s → a ≡ first_said r.bytes → n ≡ next_said r.bytes → t ≡ a - (n - n % 30)
    → with_rows s behind t (n % 30 - t) ≡ state_with r.bytes (next_said r.bytes - first_said r.bytes) (ring ++ behind)
rest_made r ring behind s a n t is all is_behind octets found is_a is_n is_t =
    let at = where_it_is r ring is in
    let it = behind_of r ring behind is all is_behind octets in
    let k = 30 * (r.page - first_page r.bytes) in
    let count : rows_before r.bytes r.page + (n % 30 - t) ≡ next_said r.bytes - first_said r.bytes = omega (arith, is_t, is_a, is_n, it.here, at.order) in
    ap (λ (u : StateValue). with_rows u behind t (n % 30 - t)) (some_is r.state s (λ u. u ≡ state_with r.bytes (rows_before r.bytes r.page) ring) found is.rows)
    ∙ state_on r.bytes (rows_before r.bytes r.page) (n % 30 - t) k t ring behind at.long (omega (arith, is_t, is_a, is_n, it.here, at.order)) (λ off. omega (arith, off, it.here, at.order, at.from)) (λ on. omega (arith, on, is_t, is_a, is_n, it.here)) (omega (arith, is_t, is_a, is_n, it.here))
    ∙ ap (λ (m : ℕ). state_with r.bytes m (ring ++ behind)) count

read_is : (s : StateValue) (bytes places : List ℕ) (a n : ℕ) → first_said bytes ≡ a → next_said bytes ≡ n → a ≤ n → columns_said bytes ≡ s.columns → parts_at bytes 0 ≡ record s { rows = none_before 0 }
    → state_with bytes (next_said bytes - first_said bytes) places ≡ record s { rows = record { items = rows_at (length s.columns) (n - a) (drop (4 * length s.columns * (a % 30)) places); next = n } }
read_is s bytes places a n first next order columns parts =
    let v = columns_said bytes in
    let whole : a + (n - a) ≡ n = omega (arith, order) in
    ap (λ (p : StateValue). (let with : StateValue = record p { rows = record { items = rows_at (length v) (next_said bytes - first_said bytes) (drop (4 * length v * (first_said bytes % 30)) places); next = first_said bytes + (next_said bytes - first_said bytes) } } in with)) parts
    ∙ ap (λ (k : ℕ). (let with : StateValue = record s { rows = record { items = rows_at (length v) (next_said bytes - k) (drop (4 * length v * (k % 30)) places); next = k + (next_said bytes - k) } } in with)) first
    ∙ ap (λ (k : ℕ). (let with : StateValue = record s { rows = record { items = rows_at (length v) (k - a) (drop (4 * length v * (a % 30)) places); next = a + (k - a) } } in with)) next
    ∙ ap (λ (l : List ℕ). (let with : StateValue = record s { rows = record { items = rows_at (length l) (n - a) (drop (4 * length l * (a % 30)) places); next = a + (n - a) } } in with)) columns
    ∙ ap (λ (k : ℕ). (let with : StateValue = record s { rows = record { items = rows_at (length s.columns) (n - a) (drop (4 * length s.columns * (a % 30)) places); next = k } } in with)) whole

-- the state with all rows is the one that is spelled
pub all_spelled : (r : Refilled) (ring behind : List ℕ) → IsRefilled r ring → open_page r.bytes ≤ r.page → behind ≡ drop 324 r.bytes → AreOctets behind → IsFilledBy (state_with r.bytes (next_said r.bytes - first_said r.bytes) (ring ++ behind)) (record { bytes = r.bytes; ring = ring })
all_spelled r ring behind is all is_behind octets =
    let filled : Filled = record { bytes = r.bytes; ring = ring } in
    let s = is.filling.bodies.spelled.0 in
    let of = is.filling.bodies.spelled.1 in
    let it = lengths s r.bytes of in
    let every : open_page filled.bytes ≤ awaited_page filled = omega (arith, all, is.page) in
    let read = read_is s r.bytes (ring ++ behind) (first_number s.rows) s.rows.next it.head.first_is it.head.next_is it.order it.head.columns_are (it.head.parts 0) in
    subst (λ (t : StateValue). IsFilledBy t filled) (sym read) (is_filled s filled behind of is_behind is.filling every is.octets octets)
