-- The state that bodies and ring pages spell: the rows are read place by place, and no other state has these places.
use Rattle.std.proofs.Common.{◌≡◌, ℕ, zero, suc, ◌+◌, ◌-◌, ◌*◌, ◌/◌, ◌%◌, ◌<◌, ◌≤◌, ◌^◌, List, [], ◌∷◌, ◌++◌, length, take, drop, replicate, get_or, slice_index, refl, sym, ap, ◌∙◌, subst, arith, All, ⊎_elim, nat_eq, if◌then◌else◌, true, mul-le-mul_left}
use Rattle.std.proofs.lemmas.List.{length-replicate, drop-replicate, drop-take, ext_get_or, length-append, length-drop, length-take, drop-drop, take-take}
use Rattle.std.proofs.lemmas.List.Elements.{All-get_or, All-from_get_or, All-append}
use Rattle.std.proofs.lemmas.Bool.{cases_lt}
use Rattle.std.proofs.Math.Nat.{mul-mod_right, zero-mod}
use Rattle.byteorder.specs.Endian.{big_from}
use Rattle.dlms_profile.specs.declared.rows.Row.{Row}
use Rattle.dlms_profile.specs.Rows.{RowsValue, IsRow, first_number, none_before}
use Rattle.dlms_profile.specs.Rows as profile
use Rattle.dlms_state.specs.Columns.{IsRowOf, fits_columns}
use Rattle.dlms_state.specs.StateValue.{StateValue, IsWithinLimits, FitsTypes}
use Rattle.dlms_checkpoint.specs.Bodies.{columns_said, first_said, whole_length, awaited}
use Rattle.dlms_checkpoint.specs.Checkpoint.{head_bytes, first_written, next_written, row_bytes, row_numbered, HoldsRows}
use Rattle.dlms_checkpoint.specs.Layouts.{IsCheckpointOf}
use Rattle.dlms_checkpoint.specs.Reading.{HasHead, values_at, row_at, rows_at, Filled, IsFilling, IsFilledBy, RowsFit, first_page, open_page, awaited_page, page_length, page_taken}
use Rattle.dlms_checkpoint.specs.declared.version.Version.TheVariants.{Columns}
use Rattle.dlms_checkpoint.proofs.Bodies.{lengths}
use Rattle.dlms_checkpoint.proofs.Rows.{AreOctets, row_count, row_further, row_in_front, row_in_back, get-rows_at, length-rows_at, all_rows, octets_behind, is_row, placed, one_row}
use Rattle.dlms_checkpoint.proofs.Whole.{head_alone, known, spelled}

-- ---- places within a stretch

-- a place before the last one ends within all of them
pub within_them : (w i count long : ℕ) → long ≡ 4 * w * count → i < count → 4 * w * (i + 1) ≤ long
within_them w i count long is low =
    let next : i + 1 ≤ count = omega (arith, low) in
    omega (arith, is, mul-le-mul_left (4 * w) next)

page_within : (w j pages long : ℕ) → long ≡ 4 * w * (30 * pages) → j < pages → 4 * w * 30 * j + 4 * w * 30 ≤ long
page_within w j pages long is low =
    let next : j + 1 ≤ pages = omega (arith, low) in
    omega (arith, is, mul-le-mul_left (4 * w * 30) next)

-- a part of the first ones
in_page : (i part whole : ℕ) (xs : List ℕ) → i + part ≤ whole → take part (drop i (take whole xs)) ≡ take part (drop i xs)
in_page i part whole xs fits =
    let parted : whole ≡ i + (whole - i) = omega (arith, fits) in
    ap (λ (n : ℕ). take part (drop i (take n xs))) parted ∙ ap (take part) (drop-take i (whole - i) xs) ∙ take-take part (whole - i) (drop i xs) (omega (arith, fits))

-- ---- the rows that are read

-- the rows from the one numbered a to the one before n, of the places of the ring and those after it
abbrev pub read_rows : (w a n : ℕ) (ring behind : List ℕ) → List Row
read_rows w a n ring behind = rows_at w (n - a) (drop (4 * w * (a % 30)) (ring ++ behind))

-- the state with these rows
abbrev pub read_state : StateValue → (ring behind : List ℕ) → StateValue
read_state s ring behind = record s { rows = record { items = read_rows (length s.columns) (first_number s.rows) s.rows.next ring behind; next = s.rows.next } }

module _ (v : List ℕ) (a n pages : ℕ) (order : a ≤ n) (seam : n / 30 ≡ a / 30 + pages) (ring behind : List ℕ) (ring_long : length ring ≡ 4 * length v * (30 * pages)) (behind_long : length behind ≡ 4 * length v * (n % 30)) where
  abbrev w : ℕ
  w = length v

  abbrev rows : RowsValue
  rows = record { items = read_rows w a n ring behind; next = n }

  pub first_is : first_number rows ≡ a
  first_is = omega (arith, length-rows_at w (n - a) (drop (4 * w * (a % 30)) (ring ++ behind)))

  -- a row by its number
  row_is : (m : ℕ) → a ≤ m → m < n → row_numbered rows m ≡ row_at w (4 * w * (m - 30 * (a / 30))) (ring ++ behind)
  row_is m past before =
      let here : m - first_number rows ≡ m - a = ap (λ (k : ℕ). m - k) first_is in
      let place : a % 30 + (m - a) ≡ m - 30 * (a / 30) = omega (arith, past) in
      ap (λ (k : ℕ). get_or rows.items k (profile.row_at 0)) here
      ∙ get-rows_at w (n - a) (drop (4 * w * (a % 30)) (ring ++ behind)) (m - a) (profile.row_at 0) (omega (arith, past, before))
      ∙ row_further w (a % 30) (m - a) (ring ++ behind)
      ∙ ap (λ (k : ℕ). row_at w (4 * w * k) (ring ++ behind)) place

  pub row_in_ring : (m : ℕ) → a ≤ m → m < 30 * (n / 30) → row_numbered rows m ≡ row_at w (4 * w * (m - 30 * (a / 30))) ring
  row_in_ring m past before =
      row_is m past (omega (arith, before))
      ∙ row_in_front w ring behind (m - 30 * (a / 30)) (within_them w (m - 30 * (a / 30)) (30 * pages) (length ring) ring_long (omega (arith, past, before, seam)))

  pub row_behind : (m : ℕ) → a ≤ m → 30 * (n / 30) ≤ m → m < n → row_numbered rows m ≡ row_at w (4 * w * (m - 30 * (n / 30))) behind
  row_behind m past from before =
      let place : m - 30 * (a / 30) ≡ 30 * pages + (m - 30 * (n / 30)) = omega (arith, past, order, from, seam) in
      row_is m past before
      ∙ ap (λ (k : ℕ). row_at w (4 * w * k) (ring ++ behind)) place
      ∙ row_in_back w ring behind (m - 30 * (n / 30)) (30 * pages) ring_long

  -- the places that are read hold the rows
  pub holds_behind : AreOctets behind → HoldsRows v rows (n - n % 30) (n % 30) behind
  holds_behind octets = record {
    long = behind_long;
    each = λ m past from before.
        let edge : 30 * (n / 30) ≡ n - n % 30 = omega arith in
        let kept : a ≤ m = omega (arith, past, first_is) in
        ap (λ (k : ℕ). take (4 * w) (drop (4 * w * (m - k)) behind)) (sym edge)
        ∙ placed w behind (m - 30 * (n / 30)) (within_them w (m - 30 * (n / 30)) (n % 30) (length behind) behind_long (omega (arith, from, before, edge))) octets
        ∙ ap row_bytes (sym (row_behind m kept (omega (arith, edge, from)) (omega (arith, edge, from, before))));
  }

  pub holds_page : AreOctets ring → (k : ℕ) → a / 30 ≤ k → k < n / 30 → HoldsRows v rows (30 * k) 30 (take (4 * w * 30) (drop (4 * w * 30 * (k - a / 30)) ring))
  holds_page octets k after before =
      let j = k - a / 30 in
      let whole = page_within w j pages (length ring) ring_long (omega (arith, after, before, seam)) in
      record {
        long = omega (arith, length-take (4 * w * 30) (drop (4 * w * 30 * j) ring), length-drop (4 * w * 30 * j) ring, whole);
        each = λ m past from low.
            let kept : a ≤ m = omega (arith, past, first_is) in
            let i = m - 30 * k in
            let inside : 4 * w * i + 4 * w ≤ 4 * w * 30 = omega (arith, within_them w i 30 (4 * w * 30) refl (omega (arith, from, low))) in
            let place : 4 * w * 30 * j + 4 * w * i ≡ 4 * w * (30 * j + i) = omega arith in
            let number : 30 * j + i ≡ m - 30 * (a / 30) = omega (arith, after, from) in
            in_page (4 * w * i) (4 * w) (4 * w * 30) (drop (4 * w * 30 * j) ring) inside
            ∙ ap (take (4 * w)) (drop-drop (4 * w * i) (4 * w * 30 * j) ring ∙ ap (λ (x : ℕ). drop x ring) (place ∙ ap (λ (x : ℕ). 4 * w * x) number))
            ∙ placed w ring (m - 30 * (a / 30)) (within_them w (m - 30 * (a / 30)) (30 * pages) (length ring) ring_long (omega (arith, kept, after, before, from, low, seam))) octets
            ∙ ap row_bytes (sym (row_in_ring m kept (omega (arith, before, low))));
      }

-- ---- the state that is read

pub some_columns : (ids : List ℕ) → fits_columns ids ≡ true → 0 < length ids
some_columns [] e = absurd (cc e)
some_columns (id ∷ ids) e = omega arith

-- the numbers that bodies of a state say, and how long everything is
pub record Said (s : StateValue) (filled : Filled) (behind : List ℕ) : Type 0 where
  pub order : first_number s.rows ≤ s.rows.next
  pub few : s.rows.next ≤ first_number s.rows + 960
  pub first : first_page filled.bytes ≡ first_number s.rows / 30
  pub last : open_page filled.bytes ≡ s.rows.next / 30
  pub columns : columns_said filled.bytes ≡ s.columns
  pub long : length behind ≡ 4 * length s.columns * (s.rows.next % 30)
  pub some : 0 < length s.columns
  pub most : length s.columns ≤ 4

pub said : (s : StateValue) (filled : Filled) (behind : List ℕ) → IsCheckpointOf Columns s filled.bytes → behind ≡ drop 324 filled.bytes → Said s filled behind
said s filled behind is is_behind =
    let of = lengths s filled.bytes is in
    record {
      order = of.order;
      few = of.few;
      first = ap (λ (k : ℕ). k / 30) of.head.first_is;
      last = ap (λ (k : ℕ). k / 30) of.head.next_is;
      columns = of.head.columns_are;
      long = ap length is_behind ∙ omega (arith, length-drop 324 filled.bytes, of.length_is);
      some = some_columns s.columns is.legal.within.columns;
      most = is.legal.fits.columns.count;
    }

-- all pages that are named were taken, of these columns
record Taken (v : List ℕ) (filled : Filled) : Type 0 where
  long : length filled.ring ≡ 4 * length v * (30 * (open_page filled.bytes - first_page filled.bytes))
  rows : RowsFit v (first_said filled.bytes) (30 * first_page filled.bytes) filled.ring

whole_pages : (page long first last : ℕ) → 0 < page → long % page ≡ 0 → long ≤ page * (last - first) → last ≤ first + long / page → long ≡ page * (last - first)
whole_pages page long first last some whole few all =
    let enough : last - first ≤ long / page = omega (arith, all) in
    omega (arith, mul-le-mul_left page enough, whole, few)

taken_of : (v : List ℕ) (filled : Filled) → columns_said filled.bytes ≡ v → 0 < length v → IsFilling filled → open_page filled.bytes ≤ awaited_page filled → Taken v filled
taken_of v filled is_columns some is all =
    subst (λ (l : List ℕ). Taken l filled) is_columns
    record {
      long = whole_pages (4 * length (columns_said filled.bytes) * 30) (length filled.ring) (first_page filled.bytes) (open_page filled.bytes) (omega (arith, some, ap length is_columns)) is.pages is.few all
          ∙ parted (length (columns_said filled.bytes)) (open_page filled.bytes - first_page filled.bytes);
      rows = is.rows;
    }
  where
    parted : (w d : ℕ) → 4 * w * 30 * d ≡ 4 * w * (30 * d)
    parted w d = omega arith

-- a row that a state keeps
kept_row : (s : StateValue) (m : ℕ) → All IsRow s.rows.items → All (IsRowOf s.columns) s.rows.items → length s.rows.items ≤ s.rows.next → first_number s.rows ≤ m → m < s.rows.next → IsRow (row_numbered s.rows m) × IsRowOf s.columns (row_numbered s.rows m)
kept_row s m fit of room past before =
    let low : m - first_number s.rows < length s.rows.items = omega (arith, past, before, room) in
    (All-get_or IsRow s.rows.items (m - first_number s.rows) (profile.row_at 0) low fit, All-get_or (IsRowOf s.columns) s.rows.items (m - first_number s.rows) (profile.row_at 0) low of)

-- the unfilled page's rows are those of any state that has these places
pub same_places_row : (s : StateValue) (places : List ℕ) (m : ℕ) → IsWithinLimits s → FitsTypes s → HoldsRows s.columns s.rows (s.rows.next - s.rows.next % 30) (s.rows.next % 30) places → AreOctets places → first_number s.rows ≤ m → 30 * (s.rows.next / 30) ≤ m → m < s.rows.next
    → row_at (length s.columns) (4 * length s.columns * (m - 30 * (s.rows.next / 30))) places ≡ row_numbered s.rows m
same_places_row s places m within fits holds octets past from before =
    let w = length s.columns in
    let i = m - 30 * (s.rows.next / 30) in
    let edge : 30 * (s.rows.next / 30) ≡ s.rows.next - s.rows.next % 30 = omega arith in
    let is = kept_row s m fits.rows within.rows fits.order past before in
    one_row w _ _ (is_row w (4 * w * i) places fits.columns.count octets) is.0 (row_count w (4 * w * i) places) is.1.count
    (sym (placed w places i (within_them w i (s.rows.next % 30) (length places) holds.long (omega (arith, from, before))) octets)
    ∙ ap (λ (k : ℕ). take (4 * w) (drop (4 * w * (m - k)) places)) edge
    ∙ holds.each m past (omega (arith, edge, from)) (omega (arith, edge, before)))

module _ (s : StateValue) (filled : Filled) (behind : List ℕ) (is : IsCheckpointOf Columns s filled.bytes) (is_behind : behind ≡ drop 324 filled.bytes) (filling : IsFilling filled) (all : open_page filled.bytes ≤ awaited_page filled)
    (ring_octets : AreOctets filled.ring) (behind_octets : AreOctets behind) where
  abbrev made : StateValue
  made = read_state s filled.ring behind

  abbrev pages : ℕ
  pages = s.rows.next / 30 - first_number s.rows / 30

  of : Said s filled behind
  of = said s filled behind is is_behind

  taken : Taken s.columns filled
  taken = taken_of s.columns filled of.columns of.some filling all

  ring_long : length filled.ring ≡ 4 * length s.columns * (30 * pages)
  ring_long =
      let same : open_page filled.bytes - first_page filled.bytes ≡ pages = omega (arith, of.first, of.last) in
      taken.long ∙ ap (λ (p : ℕ). 4 * length s.columns * (30 * p)) same

  seam : s.rows.next / 30 ≡ first_number s.rows / 30 + pages
  seam = let ordered : first_number s.rows ≤ s.rows.next = of.order in omega (arith, ordered)

  made_first : first_number made.rows ≡ first_number s.rows
  made_first = first_is s.columns (first_number s.rows) s.rows.next pages of.order seam filled.ring behind ring_long of.long

  -- each row that is read is one of the columns
  fits_at : (m : ℕ) → first_number s.rows ≤ m → m < s.rows.next → IsRowOf s.columns (row_numbered made.rows m)
  fits_at m past before =
      ⊎_elim
      (λ (inside : m < 30 * (s.rows.next / 30)).
      let first : first_page filled.bytes ≡ first_number s.rows / 30 = of.first in
      subst (IsRowOf s.columns) (sym (row_in_ring s.columns (first_number s.rows) s.rows.next pages of.order seam filled.ring behind ring_long of.long m past inside))
      (taken.rows (m - 30 * (first_number s.rows / 30)) (omega (arith, past, first, first_said_is))
      (within_them (length s.columns) (m - 30 * (first_number s.rows / 30)) (30 * pages) (length filled.ring) ring_long (omega (arith, past, inside, seam)))))
      (λ (outside : 30 * (s.rows.next / 30) ≤ m).
      subst (IsRowOf s.columns) (sym (row_behind s.columns (first_number s.rows) s.rows.next pages of.order seam filled.ring behind ring_long of.long m past outside before
      ∙ same_places_row s behind m is.legal.within is.legal.fits (known s filled.bytes (take 324 filled.bytes) behind is refl is_behind).holds behind_octets past outside before))
      (kept_row s m is.legal.fits.rows is.legal.within.rows is.legal.fits.order past before).1)
      (cases_lt m (30 * (s.rows.next / 30)))
    where
      first_said_is : first_said filled.bytes ≡ first_number s.rows
      first_said_is = (lengths s filled.bytes is).head.first_is

  made_length : length made.rows.items ≡ s.rows.next - first_number s.rows
  made_length = length-rows_at (length s.columns) (s.rows.next - first_number s.rows) (drop (4 * length s.columns * (first_number s.rows % 30)) (filled.ring ++ behind))

  pub all_fit : All (IsRowOf s.columns) made.rows.items
  all_fit =
      All-from_get_or (IsRowOf s.columns) made.rows.items (profile.row_at 0)
      (λ i low. subst (λ (k : ℕ). IsRowOf s.columns (get_or made.rows.items k (profile.row_at 0))) (place i) (fits_at (first_number s.rows + i) (omega arith) (omega (arith, low, made_length))))
    where
      place : (i : ℕ) → (first_number s.rows + i) - first_number made.rows ≡ i
      place i = omega (arith, made_first)

  rows_fit : All IsRow made.rows.items
  rows_fit =
      let w = length s.columns in
      let bytes = drop (4 * w * (first_number s.rows % 30)) (filled.ring ++ behind) in
      all_rows IsRow w (s.rows.next - first_number s.rows) bytes
      (λ k few. is_row w (4 * w * k) bytes of.most (octets_behind (4 * w * (first_number s.rows % 30)) (filled.ring ++ behind) (All-append (λ byte. byte < 2 ^ 8) filled.ring behind ring_octets behind_octets)))

  -- the bodies and the pages spell the state that is read
  pub is_filled : IsFilledBy made filled
  is_filled =
      let it = known s filled.bytes (take 324 filled.bytes) behind is refl is_behind in
      let a = first_number s.rows in
      let n = s.rows.next in
      let within = is.legal.within in
      let fits = is.legal.fits in
      record {
        bodies = record {
          spelled = spelled made filled.bytes (take 324 filled.bytes) behind refl is_behind
              (head_alone s made.rows (first_written made.rows) (next_written made.rows) ∙ ap (λ (k : ℕ). head_bytes s (if nat_eq k (2 ^ 64) then 1 else k) (next_written s.rows)) made_first
              ∙ sym (ap (λ (p : StateValue). head_bytes p (first_written s.rows) (next_written s.rows)) (it.head_is.parts 0) ∙ head_alone s (none_before 0) (first_written s.rows) (next_written s.rows)) ∙ it.same 0)
              (holds_behind s.columns a n pages of.order seam filled.ring behind ring_long of.long behind_octets);
          legal = record {
            within = record { not_before = within.not_before; not_after = within.not_after; period = within.period; secret = within.secret; reader_secret = within.reader_secret; columns = within.columns; rows = all_fit };
            fits = record { count = fits.count; registers = fits.registers; last = fits.last; text = fits.text; secret = fits.secret; reader_secret = fits.reader_secret; columns = fits.columns; room = omega (arith, made_length, of.few); order = omega (arith, made_length); rows = rows_fit };
            numbers = is.legal.numbers;
          };
        };
        ring = λ k after before.
            subst (λ (l : List ℕ). HoldsRows s.columns made.rows (30 * k) 30 (take (page_length l) (drop (page_length l * (k - first_page filled.bytes)) filled.ring))) (sym of.columns)
            (subst (λ (l : List ℕ). HoldsRows s.columns made.rows (30 * k) 30 l) (ap (λ (f : ℕ). take (4 * length s.columns * 30) (drop (4 * length s.columns * 30 * (k - f)) filled.ring)) (sym of.first))
            (holds_page s.columns a n pages of.order seam filled.ring behind ring_long of.long ring_octets k (omega (arith, after, of.first)) (omega (arith, before, of.last))));
      }

-- ---- one state

-- places that hold the rows of both hold the same row
same_places : (columns : List ℕ) (some others : RowsValue) (from count m : ℕ) (places : List ℕ) → HoldsRows columns some from count places → HoldsRows columns others from count places
    → first_number some ≤ m → first_number others ≤ m → from ≤ m → m < from + count → row_bytes (row_numbered some m) ≡ row_bytes (row_numbered others m)
same_places columns some others from count m places is also kept too after before = sym (is.each m kept after before) ∙ also.each m too after before

same_row : (filled : Filled) (s t : StateValue) (is : IsFilledBy s filled) (also : IsFilledBy t filled) (m : ℕ) → s.columns ≡ t.columns → s.rows.next ≡ t.rows.next → first_number s.rows ≤ m → first_number t.rows ≤ m → m < s.rows.next
    → row_bytes (row_numbered s.rows m) ≡ row_bytes (row_numbered t.rows m)
same_row filled s t is also m columns next kept too before =
    let behind = drop 324 filled.bytes in
    let left = known s filled.bytes (take 324 filled.bytes) behind is.bodies refl refl in
    let right = known t filled.bytes (take 324 filled.bytes) behind also.bodies refl refl in
    let it = said s filled behind is.bodies refl in
    ⊎_elim
    (λ (inside : m < 30 * (s.rows.next / 30)).
    let k = m / 30 in
    let after : first_page filled.bytes ≤ k = omega (arith, it.first, kept) in
    let filled_up : k < open_page filled.bytes = omega (arith, it.last, inside) in
    same_places s.columns s.rows t.rows (30 * k) 30 m (page_taken filled k) (is.ring k after filled_up)
    (subst (λ (l : List ℕ). HoldsRows l t.rows (30 * k) 30 (page_taken filled k)) (sym columns) (also.ring k after filled_up)) kept too (omega arith) (omega arith))
    (λ (outside : 30 * (s.rows.next / 30) ≤ m).
    same_places s.columns s.rows t.rows (s.rows.next - s.rows.next % 30) (s.rows.next % 30) m behind left.holds
    (subst (λ (n : ℕ). HoldsRows s.columns t.rows (n - n % 30) (n % 30) behind) (sym next)
    (subst (λ (l : List ℕ). HoldsRows l t.rows (t.rows.next - t.rows.next % 30) (t.rows.next % 30) behind) (sym columns) right.holds)) kept too (omega (arith, outside)) (omega (arith, before)))
    (cases_lt m (30 * (s.rows.next / 30)))

pub one_state : (filled : Filled) (s t : StateValue) → IsFilledBy s filled → IsFilledBy t filled → s ≡ t
one_state filled s t is also =
    let left = lengths s filled.bytes is.bodies in
    let right = lengths t filled.bytes also.bodies in
    let next : s.rows.next ≡ t.rows.next = sym left.head.next_is ∙ right.head.next_is in
    let first : first_number s.rows ≡ first_number t.rows = sym left.head.first_is ∙ right.head.first_is in
    let columns : s.columns ≡ t.columns = sym left.head.columns_are ∙ right.head.columns_are in
    let parts : (let bare : StateValue = record s { rows = none_before 0 } in bare) ≡ record t { rows = none_before 0 } = sym (left.head.parts 0) ∙ right.head.parts 0 in
    let few = is.bodies.legal.fits.order in
    let few_too = also.bodies.legal.fits.order in
    let row : (i : ℕ) → i < length s.rows.items → get_or s.rows.items i (profile.row_at 0) ≡ get_or t.rows.items i (profile.row_at 0) =
    λ i low.
    let m = first_number s.rows + i in
    let here : m - first_number s.rows ≡ i = omega arith in
    let there : m - first_number t.rows ≡ i = omega (arith, first) in
    let also_low : i < length t.rows.items = omega (arith, low, next, first, few, few_too) in
    let wide : length (get_or t.rows.items i (profile.row_at 0)).values.items ≡ length s.columns =
    (All-get_or (IsRowOf t.columns) t.rows.items i (profile.row_at 0) also_low also.bodies.legal.within.rows).count ∙ ap length (sym columns) in
    one_row (length s.columns) _ _ (All-get_or IsRow s.rows.items i (profile.row_at 0) low is.bodies.legal.fits.rows) (All-get_or IsRow t.rows.items i (profile.row_at 0) also_low also.bodies.legal.fits.rows)
    (All-get_or (IsRowOf s.columns) s.rows.items i (profile.row_at 0) low is.bodies.legal.within.rows).count wide
    (ap (λ (k : ℕ). row_bytes (get_or s.rows.items k (profile.row_at 0))) (sym here)
    ∙ same_row filled s t is also m columns next (omega arith) (omega (arith, first)) (omega (arith, low, few))
    ∙ ap (λ (k : ℕ). row_bytes (get_or t.rows.items k (profile.row_at 0))) there) in
    same s t parts (ext_get_or (profile.row_at 0) s.rows.items t.rows.items (omega (arith, next, first, few, few_too)) (λ i low. row i low)) next
  where
    same : (s t : StateValue) → (let bare : StateValue = record s { rows = none_before 0 } in bare) ≡ record t { rows = none_before 0 } → s.rows.items ≡ t.rows.items → s.rows.next ≡ t.rows.next → s ≡ t
    same s t e f g =
        ap (λ (items : List Row). (let made : StateValue = record s { rows = record { items = items; next = s.rows.next } } in made)) f
        ∙ ap (λ (n : ℕ). (let made : StateValue = record s { rows = record { items = t.rows.items; next = n } } in made)) g
        ∙ ap (λ (u : StateValue). (let made : StateValue = record u { rows = t.rows } in made)) e

-- ---- one page more

pub more_pages : (page long : ℕ) → 0 < page → long % page ≡ 0 → ((long + page) % page ≡ 0) × (long ≡ page * (long / page))
more_pages page long some whole =
    let k = long / page in
    let is : long ≡ page * k = omega (arith, whole) in
    let next : long + page ≡ page * (k + 1) = omega (arith, is) in
    (ap (λ (x : ℕ). x % page) next ∙ mul-mod_right page (k + 1), is)

pub columns_some : (filled : Filled) → IsFilling filled → 0 < length (columns_said filled.bytes)
columns_some filled is =
    let s = is.bodies.spelled.0 in
    let it = is.bodies.spelled.1 in
    let some = some_columns s.columns it.legal.within.columns in
    omega (arith, some, ap length (lengths s filled.bytes it).head.columns_are)

pub columns_few : (filled : Filled) → IsFilling filled → length (columns_said filled.bytes) ≤ 4
columns_few filled is =
    let s = is.bodies.spelled.0 in
    let it = is.bodies.spelled.1 in
    let few = it.legal.fits.columns.count in
    omega (arith, few, ap length (lengths s filled.bytes it).head.columns_are)

pub all_there : (bytes : List ℕ) → HasHead bytes → awaited bytes ≡ 0 → length bytes ≡ whole_length bytes
all_there bytes has none = omega (arith, has.within, none)

-- bodies that were joined, and no ring page yet
pub started : (bytes : List ℕ) → HasHead bytes → length bytes ≡ whole_length bytes → (s : StateValue) × IsCheckpointOf Columns s bytes → IsFilling (record { bytes = bytes; ring = [] })
started bytes has all spelled =
    let s = spelled.0 in
    let some = some_columns s.columns spelled.1.legal.within.columns in
    let wide : 0 < length (columns_said bytes) = omega (arith, some, ap length (lengths s bytes spelled.1).head.columns_are) in
    record {
      bodies = record { head = has; all = all; spelled = spelled };
      pages = zero-mod (4 * length (columns_said bytes) * 30);
      few = omega arith;
      rows = λ i past within. absurd (omega (arith, wide, within));
    }

pub one_page_more : (filled : Filled) (places : List ℕ) → IsFilling filled → awaited_page filled < open_page filled.bytes → length places ≡ page_length (columns_said filled.bytes)
    → RowsFit (columns_said filled.bytes) (first_said filled.bytes) (30 * awaited_page filled) places → IsFilling (record { bytes = filled.bytes; ring = filled.ring ++ places })
one_page_more filled places is awaited long fit =
    let v = columns_said filled.bytes in
    let w = length v in
    let page = 4 * w * 30 in
    let first = first_page filled.bytes in
    let last = open_page filled.bytes in
    let some : 0 < w = columns_some filled is in
    let turns = length filled.ring / page in
    let more = more_pages page (length filled.ring) (omega (arith, some)) is.pages in
    let k = 30 * turns in
    let whole : length filled.ring ≡ 4 * w * k = more.1 ∙ parted w turns in
    let joined = length-append filled.ring places in
    let room : turns + 1 ≤ last - first = omega (arith, awaited) in
    record {
      bodies = is.bodies;
      pages = ap (λ (x : ℕ). x % page) (joined ∙ ap (λ (x : ℕ). length filled.ring + x) long) ∙ more.0;
      few = omega (arith, joined, long, more.1, mul-le-mul_left page room);
      rows = λ i past within.
          ⊎_elim
          (λ (inside : i < k). let low = within_them w i k (length filled.ring) whole inside in subst (IsRowOf v) (sym (row_in_front w filled.ring places i low)) (is.rows i past low))
          (λ (outside : k ≤ i).
          let parts : k + (i - k) ≡ i = omega (arith, outside) in
          let here : row_at w (4 * w * i) (filled.ring ++ places) ≡ row_at w (4 * w * (i - k)) places = ap (λ (x : ℕ). row_at w (4 * w * x) (filled.ring ++ places)) (sym parts) ∙ row_in_back w filled.ring places (i - k) k whole in
          subst (IsRowOf v) (sym here) (fit (i - k) (omega (arith, past, outside)) (further w i k (i - k) (length filled.ring) (length places) (length (filled.ring ++ places)) whole joined (sym parts) within)))
          (cases_lt i k);
    }
  where
    parted : (w d : ℕ) → 4 * w * 30 * d ≡ 4 * w * (30 * d)
    parted w d = omega arith

    further : (w i k j ring more all : ℕ) → ring ≡ 4 * w * k → all ≡ ring + more → i ≡ k + j → 4 * w * (i + 1) ≤ all → 4 * w * (j + 1) ≤ more
    further w i k j ring more all is_ring is_all is_i within =
        let same : 4 * w * (i + 1) ≡ 4 * w * ((k + j) + 1) = ap (λ (x : ℕ). 4 * w * (x + 1)) is_i in
        omega (arith, is_ring, is_all, within, same)

-- ---- the state of bodies alone, with rows of zeros in the ring pages

zero_at : (k i : ℕ) → slice_index (replicate k 0) i ≡ 0
zero_at zero i = refl
zero_at (suc k) zero = refl
zero_at (suc k) (suc i) = zero_at k i

zeros_from : (i n k : ℕ) → big_from i n (replicate k 0) ≡ 0
zeros_from i zero k = refl
zeros_from i (suc n) k =
    ap (λ (x : ℕ). x * 256 ^ n + big_from (suc i) n (replicate k 0)) (zero_at k i) ∙ ap (λ (r : ℕ). 0 * 256 ^ n + r) (zeros_from (suc i) n k) ∙ omega arith

zero_values : (n k i : ℕ) → slice_index (values_at n (replicate k 0)) i ≡ 0
zero_values zero k i = refl
zero_values (suc n) k zero = zeros_from 0 4 k
zero_values (suc n) k (suc i) = ap (λ (l : List ℕ). slice_index (values_at n l) i) (drop-replicate 4 k 0) ∙ zero_values n (k - 4) i

zero_row : (v : List ℕ) (place k : ℕ) → IsRowOf v (row_at (length v) place (replicate k 0))
unfolding row_at
zero_row v place k = record {
  count = row_count (length v) place (replicate k 0);
  clock = λ i low is. omega (arith, ap (λ (l : List ℕ). slice_index (values_at (length v) l) i) (drop-replicate place k 0), zero_values (length v) (k - place) i);
}

zeros_are_octets : (k : ℕ) → AreOctets (replicate k 0)
zeros_are_octets k = All-from_get_or (λ byte. byte < 2 ^ 8) (replicate k 0) 0 (λ i low. omega (arith, zero_at k i))

module _ (v : List ℕ) (a n pages : ℕ) (order : a ≤ n) (seam : n / 30 ≡ a / 30 + pages) (ring behind : List ℕ) (ring_long : length ring ≡ 4 * length v * (30 * pages)) (behind_long : length behind ≡ 4 * length v * (n % 30))
    (front : RowsFit v a (30 * (a / 30)) ring) (back : RowsFit v a (30 * (n / 30)) behind) where
  by_number : (m : ℕ) → a ≤ m → m < n → IsRowOf v (row_numbered (record { items = read_rows (length v) a n ring behind; next = n }) m)
  by_number m past before =
      ⊎_elim
      (λ (inside : m < 30 * (n / 30)). subst (IsRowOf v) (sym (row_in_ring v a n pages order seam ring behind ring_long behind_long m past inside))
      (front (m - 30 * (a / 30)) (omega (arith, past)) (within_them (length v) (m - 30 * (a / 30)) (30 * pages) (length ring) ring_long (omega (arith, past, inside, seam)))))
      (λ (outside : 30 * (n / 30) ≤ m). subst (IsRowOf v) (sym (row_behind v a n pages order seam ring behind ring_long behind_long m past outside before))
      (back (m - 30 * (n / 30)) (omega (arith, past, outside)) (within_them (length v) (m - 30 * (n / 30)) (n % 30) (length behind) behind_long (omega (arith, before, outside)))))
      (cases_lt m (30 * (n / 30)))

  pub rows_read : All (IsRowOf v) (read_rows (length v) a n ring behind)
  rows_read =
      All-from_get_or (IsRowOf v) (read_rows (length v) a n ring behind) (profile.row_at 0)
      (λ i low. subst (λ (k : ℕ). IsRowOf v (get_or (read_rows (length v) a n ring behind) k (profile.row_at 0))) (place i) (by_number (a + i) (omega arith) (omega (arith, low, long))))
    where
      long : length (read_rows (length v) a n ring behind) ≡ n - a
      long = length-rows_at (length v) (n - a) (drop (4 * length v * (a % 30)) (ring ++ behind))

      place : (i : ℕ) → (a + i) - (n - length (read_rows (length v) a n ring behind)) ≡ i
      place i = omega (arith, long, order)

pub from_parts : (p : StateValue) (a n : ℕ) (bytes head behind : List ℕ) → a ≤ n → n ≤ a + 960 → n ≤ 2 ^ 64 → head ≡ take 324 bytes → behind ≡ drop 324 bytes → length behind ≡ 4 * length p.columns * (n % 30)
    → head_bytes p (if nat_eq a (2 ^ 64) then 1 else a) (if nat_eq n (2 ^ 64) then 0 else n) ≡ head → IsWithinLimits p → FitsTypes p → AreOctets behind → RowsFit p.columns a (n - n % 30) behind → (s : StateValue) × IsCheckpointOf Columns s bytes
from_parts p a n bytes head behind order few last is_head is_behind long same within fits octets back =
    let v = p.columns in
    let w = length v in
    let pages = n / 30 - a / 30 in
    let seam : n / 30 ≡ a / 30 + pages = omega (arith, order) in
    let count = 4 * w * (30 * pages) in
    let zeros : List ℕ = replicate count 0 in
    let zeros_long : length zeros ≡ 4 * w * (30 * pages) = length-replicate count 0 in
    let items = read_rows w a n zeros behind in
    let length_is : length items ≡ n - a = length-rows_at w (n - a) (drop (4 * w * (a % 30)) (zeros ++ behind)) in
    let s : StateValue = record p { rows = record { items = items; next = n } } in
    let edge : n - n % 30 ≡ 30 * (n / 30) = omega arith in
    let first : first_number s.rows ≡ a = omega (arith, length_is, order) in (
      s,
      record {
        spelled = spelled s bytes head behind is_head is_behind
            (head_alone p s.rows (first_written s.rows) (next_written s.rows) ∙ ap (λ (k : ℕ). head_bytes p (if nat_eq k (2 ^ 64) then 1 else k) (next_written s.rows)) first ∙ same)
            (holds_behind v a n pages order seam zeros behind zeros_long long octets);
        legal = record {
          within = record {
            not_before = within.not_before;
            not_after = within.not_after;
            period = within.period;
            secret = within.secret;
            reader_secret = within.reader_secret;
            columns = within.columns;
            rows = rows_read v a n pages order seam zeros behind zeros_long long (λ i past low. zero_row v (4 * w * i) count) (subst (λ (k : ℕ). RowsFit v a k behind) edge back);
          };
          fits = record {
            count = fits.count;
            registers = fits.registers;
            last = fits.last;
            text = fits.text;
            secret = fits.secret;
            reader_secret = fits.reader_secret;
            columns = fits.columns;
            room = omega (arith, length_is, few);
            order = omega (arith, length_is);
            rows = all_rows IsRow w (n - a) (drop (4 * w * (a % 30)) (zeros ++ behind)) (λ k low. is_row w (4 * w * k) (drop (4 * w * (a % 30)) (zeros ++ behind)) fits.columns.count (octets_behind (4 * w * (a % 30)) (zeros ++ behind) (All-append (λ byte. byte < 2 ^ 8) zeros behind (zeros_are_octets count) octets)));
          };
          numbers = last;
        };
      },
    )

-- the rows in the bodies of a state's bytes are of its columns
pub rows_behind : (s : StateValue) (bytes behind : List ℕ) (a n : ℕ) → IsCheckpointOf Columns s bytes → behind ≡ drop 324 bytes → a ≡ first_number s.rows → n ≡ s.rows.next → AreOctets behind → RowsFit s.columns a (n - n % 30) behind
rows_behind s bytes behind a n is is_behind is_a is_n octets i past within =
    let w = length s.columns in
    let it = known s bytes (take 324 bytes) behind is refl is_behind in
    let edge : 30 * (s.rows.next / 30) ≡ s.rows.next - s.rows.next % 30 = omega arith in
    let m = 30 * (s.rows.next / 30) + i in
    let here : m - 30 * (s.rows.next / 30) ≡ i = omega arith in
    let order : length s.rows.items ≤ s.rows.next = is.legal.fits.order in
    let kept : first_number s.rows ≤ m = omega (arith, past, is_a, is_n, edge) in
    let some = some_columns s.columns is.legal.within.columns in
    let low : i < s.rows.next % 30 = before_end w i (s.rows.next % 30) (length behind) some it.holds.long within in
    let before : m < s.rows.next = omega (arith, low, edge) in
    let same : row_at w (4 * w * i) behind ≡ row_numbered s.rows m =
    ap (λ (k : ℕ). row_at w (4 * w * k) behind) (sym here) ∙ same_places_row s behind m is.legal.within is.legal.fits it.holds octets kept (omega arith) before in
    subst (IsRowOf s.columns) (sym same) (kept_row s m is.legal.fits.rows is.legal.within.rows order kept before).1
  where
    before_end : (w i count long : ℕ) → 0 < w → long ≡ 4 * w * count → 4 * w * (i + 1) ≤ long → i < count
    before_end w i count long some is within =
        ⊎_elim
        (λ (low : i < count). low)
        (λ (past : count ≤ i). absurd (omega (arith, some, is, within, mul-le-mul_left (4 * w) past)))
        (cases_lt i count)
