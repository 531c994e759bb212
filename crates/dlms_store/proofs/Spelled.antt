-- Bodies that fit, as bytes, and ring pages, as rows: one more joins them, and an image spells one state.
use Rattle.std.proofs.Common.{true, None, ◌≡◌, ◌≢◌, ◌<◌, ◌≤◌, ◌+◌, ◌-◌, ◌*◌, ◌%◌, ⊎_elim, ℕ, zero, suc, min, List, [], ◌∷◌, ◌++◌, length, take, drop, refl, sym, ◌∙◌, ap, subst, arith}
use Rattle.std.proofs.lemmas.List.{length-append, length-take, length-drop, take-append-drop, take_all, take-append-le, drop-append-le, drop-take, take-take}
use Rattle.std.proofs.lemmas.Bool.{cases_eq}
use Rattle.std.proofs.Math.Nat.{lt_of_mul-lt-mul_left}
use Rattle.std.proofs.Math.Seq.{take-append_seam, drop-append_seam}
use Rattle.dlms_pages.specs.Device.{Image, page_at}
use Rattle.dlms_journal.specs.declared.kind.PageKind.TheVariants.{Body, Ring}
use Rattle.dlms_state.specs.StateValue.{StateValue}
use Rattle.dlms_checkpoint.specs.Bodies.{awaited, body_at, body_count, column_count, columns_said, first_fault, next_said, whole_length}
use Rattle.dlms_checkpoint.specs.Checkpoint.{HoldsRows, IsLegalState, IsNamed, row_bytes, row_numbered}
use Rattle.dlms_checkpoint.specs.Layouts.{IsCheckpointOf, as_present, head_length, missing}
use Rattle.dlms_checkpoint.specs.declared.version.Version.{Version}
use Rattle.dlms_checkpoint.specs.declared.version.Version.TheVariants.{Columns}
use Rattle.dlms_checkpoint.proofs.Presents.{few_missing, from_present, head_enough, in_present, present_long, present_take, whole_head}
use Rattle.dlms_state.specs.Columns.{IsRowOf, fits_columns}
use Rattle.dlms_checkpoint.specs.Reading.{ArePlaces, Filled, IsFilledBy, first_page, open_page, page_length, page_taken, row_at}
use Rattle.dlms_checkpoint.proofs.Bodies.{IsFirst, all_bodies, counts_of_head, few_places, first_is_taken, front_whole, is_first, lengths, one_body_more, presented, some_bodies}
use Rattle.dlms_checkpoint.proofs.Filled.{one_state}
use Rattle.dlms_checkpoint.proofs.Rows.{row_again, row_drop}
use Rattle.dlms_profile.specs.declared.rows.Row.{Row}
use Rattle.dlms_profile.specs.Rows.{IsRow, first_number}
use Rattle.dlms_profile.specs.Rows as profile
use Rattle.std.proofs.lemmas.List.Elements.{All-get_or}
use Rattle.dlms_store.specs.declared.page.Edition.{Edition}
use Rattle.dlms_store.specs.Cause.{AllFit, AreOf, AreTaken, Fit}
use Rattle.dlms_store.specs.Image.{AreRings, Serves, Spells}
use Rattle.dlms_store.specs.Layout.{gate_of, ring_place}
use Rattle.dlms_store.specs.Page.{HasPage, of_version}
use Rattle.dlms_store.specs.declared.layout.Slot.{Slot}
use Rattle.dlms_store.proofs.Looking.{none_awaited, one_payload}

-- ---- the first body

-- a first body says of at most 788 bytes
few_bytes : (version : Version) (body : List ℕ) → first_fault version body ≡ None → whole_length (as_present version body) ≤ 788
few_bytes version body none =
    let said = as_present version body in
    let of = is_first version body none in
    let few = few_places (column_count said) (next_said said) (counts_of_head said of.fit) in
    omega (arith, few)

-- the front of bytes says how long they are
whole_front : (version : Version) (n : ℕ) (bytes : List ℕ) → head_length version ≤ n → head_length version ≤ length bytes → whole_length (as_present version (take n bytes)) ≡ whole_length (as_present version bytes)
whole_front version n bytes low long =
    let enough = head_enough version in
    let head = whole_head version in
    ap (λ (l : List ℕ). whole_length l) (present_take version n bytes (omega (arith, low, enough)) (omega (arith, long, enough)))
    ∙ front_whole (n + missing version) (as_present version bytes) (omega (arith, low, head))

-- how long the bytes of a version are in all
abbrev whole_in : Version → List ℕ → ℕ
whole_in version bytes = whole_length (as_present version bytes) - missing version

whole_some : (bytes : List ℕ) → 324 ≤ whole_length bytes
whole_some bytes = omega arith

short_head : (version : Version) → head_length version ≤ 324
short_head version = omega (arith, whole_head version)

-- ---- bytes cut into bodies

-- the bodies before this place stay the same if more bytes follow
body_stays : (bytes more : List ℕ) (k : ℕ) → 496 * (k + 1) ≤ length bytes → body_at k (bytes ++ more) ≡ body_at k bytes
body_stays bytes more k long =
    ap (λ (l : List ℕ). take 496 l) (drop-append-le (496 * k) bytes more (omega arith))
    ∙ take-append-le 496 (drop (496 * k) bytes) more (omega (arith, long, length-drop (496 * k) bytes))

-- the body after bytes that fill this many
body_behind : (bytes body : List ℕ) (k : ℕ) → length bytes ≡ 496 * k → length body ≤ 496 → body_at k (bytes ++ body) ≡ body
body_behind bytes body k long few =
    ap (λ (n : ℕ). take 496 (drop n (bytes ++ body))) (sym long) ∙ ap (λ (l : List ℕ). take 496 l) (drop-append_seam bytes body) ∙ take_all 496 body few

-- bytes of the same bodies begin alike
same_front : (a b : List ℕ) (k : ℕ) → ((j : ℕ) → j < k → body_at j a ≡ body_at j b) → take (496 * k) a ≡ take (496 * k) b
same_front a b zero same = refl
same_front a b (suc k) same =
    let next : 496 * suc k ≡ 496 * (k + 1) = omega arith in
    ap (λ (n : ℕ). take n a) next ∙ one_body_more a k ∙ ap (λ (l : List ℕ). l ++ body_at k a) (same_front a b k (λ j small. same j (omega (arith, small))))
    ∙ ap (λ (l : List ℕ). take (496 * k) b ++ l) (same k (omega arith)) ∙ sym (one_body_more b k) ∙ ap (λ (n : ℕ). take n b) (sym next)

-- ---- bodies that fit

module _ (gate : ℕ) (g : Edition) (image : Image) (k : ℕ) (some : 0 < k) (bytes : List ℕ) (fit : Fit gate g image k bytes) where
  abbrev v : Version
  v = g.version

  -- bytes after which a body is awaited fill their pages
  pub filled : awaited (as_present v bytes) ≢ 0 → length bytes ≡ 496 * k
  filled more = omega (arith, fit.long, more, present_long v bytes)

  first_of : IsFirst v (body_at 0 bytes)
  first_of = is_first v (body_at 0 bytes) (fit.first some)

  head_there : head_length v ≤ length bytes
  head_there = (let of = first_of.long in omega (arith, of, length-take 496 bytes))

  -- no body is awaited after the last page
  pub none_behind_all : k ≡ 2 → awaited (as_present v bytes) ≡ 0
  none_behind_all all =
      let few = few_bytes v (body_at 0 bytes) (fit.first some) in
      let whole = whole_front v 496 bytes (omega (arith, short_head v)) head_there in
      omega (arith, fit.long, few, whole, present_long v bytes)

  module _ (more : awaited (as_present v bytes) ≢ 0) where
    pub joined : (body : List ℕ) → HasPage Body k g body (page_at image (gate + 1 + k)) → length body ≡ awaited (as_present v bytes) → Fit gate g image (k + 1) (bytes ++ body)
    joined body has long =
        let full = filled more in
        let whole : whole_length (as_present v bytes) ≡ whole_length (as_present v (bytes ++ body)) = ap (λ (l : List ℕ). whole_length (as_present v l)) (sym (take-append_seam bytes body))
        ∙ whole_front v (length bytes) (bytes ++ body) (omega (arith, full, some, short_head v)) (omega (arith, full, some, short_head v, length-append bytes body)) in
        record {
          each = λ j small. ⊎_elim
              (λ (last : j ≡ k). subst (λ (n : ℕ). HasPage Body n g (body_at n (bytes ++ body)) (page_at image (gate + 1 + n))) (sym last)
              (subst (λ (b : List ℕ). HasPage Body k g b (page_at image (gate + 1 + k))) (sym (body_behind bytes body k full (omega (arith, long)))) has))
              (λ (off : j ≢ k). subst (λ (b : List ℕ). HasPage Body j g b (page_at image (gate + 1 + j))) (sym (body_stays bytes body j (omega (arith, full, off, small)))) (fit.each j (omega (arith, off, small))))
              (cases_eq j k);
          first = λ _. ap (λ (b : List ℕ). first_fault v b) (body_stays bytes body 0 (omega (arith, full, some))) ∙ fit.first some;
          long = omega (arith, length-append bytes body, full, long, whole, fit.long, present_long v bytes);
        }

    -- a longer one has the same bodies before, and then one that is as long as is awaited
    pub longer_has : (longer : List ℕ) → Fit gate g image (k + 1) longer → length (body_at k longer) ≡ awaited (as_present v bytes)
    longer_has longer also =
        let full = filled more in
        let front : take (496 * k) longer ≡ bytes = same_front longer bytes k (λ j small. one_payload Body j g g (body_at j longer) (body_at j bytes) (page_at image (gate + 1 + j)) (also.each j (omega (arith, small))) (fit.each j small))
        ∙ take_all (496 * k) bytes (omega (arith, full)) in
        let there : head_length v ≤ length longer = (let enough = head_there in let cut : length (take (496 * k) longer) ≡ length bytes = ap (λ (l : List ℕ). length l) front in omega (arith, enough, cut, length-take (496 * k) longer)) in
        let whole : whole_length (as_present v bytes) ≡ whole_length (as_present v longer) = ap (λ (l : List ℕ). whole_length (as_present v l)) (sym front) ∙ whole_front v (496 * k) longer (omega (arith, some, short_head v)) there in
        omega (arith, also.long, full, whole, present_long v bytes, length-take 496 (drop (496 * k) longer), length-drop (496 * k) longer)

-- ---- bodies that fit, and those of a state

module _ (gate : ℕ) (g : Edition) (image : Image) (s : StateValue) (bytes : List ℕ) (is : IsCheckpointOf g.version s bytes) (spells : Spells gate g bytes image) where
  abbrev own : Version
  own = g.version

  -- all of a state's bytes are as long as they say
  whole_is : length bytes ≡ whole_in own bytes
  whole_is =
      let it = presented own s bytes is in
      let whole : whole_length (as_present own bytes) ≡ 324 + 4 * length s.columns * (s.rows.next % 30) = ap (λ (c : ℕ). 324 + 4 * c * (next_said (as_present own bytes) % 30)) it.of.head.columns ∙ ap (λ (m : ℕ). 324 + 4 * length s.columns * (m % 30)) it.of.head.next_is in
      omega (arith, it.long, it.of.length_is, whole)

  enough : head_length own ≤ length bytes
  enough = (presented own s bytes is).enough

  some : 0 < body_count bytes
  some = (some_bodies own bytes s is).0

  -- this many of them fit
  pub fits_up_to : (k : ℕ) → k ≤ body_count bytes → Fit gate g image k (take (496 * k) bytes)
  fits_up_to k few =
      let front : (j : ℕ) → j < k → body_at j (take (496 * k) bytes) ≡ body_at j bytes = λ j small. body_front j k bytes small in
      record {
        each = λ j small. subst (λ (b : List ℕ). HasPage Body j g b (page_at image (gate + 1 + j))) (sym (front j small)) (spells.each j (omega (arith, small, few)));
        first = λ some. ap (λ (b : List ℕ). first_fault own b) (front 0 some) ∙ first_is_taken own bytes s is;
        long = long k;
      }
    where
      body_front : (j k : ℕ) (xs : List ℕ) → j < k → body_at j (take (496 * k) xs) ≡ body_at j xs
      body_front j k xs small =
          let parted : 496 * k ≡ 496 * j + (496 * k - 496 * j) = omega (arith, small) in
          let room : 496 ≤ 496 * k - 496 * j = omega (arith, small) in
          ap (λ (n : ℕ). take 496 (drop (496 * j) (take n xs))) parted ∙ ap (λ (l : List ℕ). take 496 l) (drop-take (496 * j) (496 * k - 496 * j) xs) ∙ take-take 496 (496 * k - 496 * j) (drop (496 * j) xs) room

      long : (k : ℕ) → length (take (496 * k) bytes) ≡ min (496 * k) (whole_in own (take (496 * k) bytes))
      long zero = omega (arith, length-take (496 * 0) bytes)
      long (suc k) = omega (arith, length-take (496 * suc k) bytes, whole_is, whole_front own (496 * suc k) bytes (omega (arith, short_head own)) enough)

  -- if this many others fit, the bodies that both have are the same
  same_body : (count : ℕ) (others : List ℕ) → Fit gate g image count others → (j : ℕ) → j < count → j < body_count bytes → body_at j others ≡ body_at j bytes
  same_body count others fit j small few = one_payload Body j g g (body_at j others) (body_at j bytes) (page_at image (gate + 1 + j)) (fit.each j small) (spells.each j few)

  same_whole : (count : ℕ) (others : List ℕ) → Fit gate g image count others → 0 < count → whole_length (as_present own others) ≡ whole_length (as_present own bytes)
  same_whole count others fit one =
      sym (whole_front own 496 others (omega (arith, short_head own)) (head_there gate g image count one others fit)) ∙ ap (λ (b : List ℕ). whole_length (as_present own b)) (same_body count others fit 0 one some) ∙ whole_front own 496 bytes (omega (arith, short_head own)) enough

  -- where more are awaited, fewer fit than the state has
  pub fewer : (count : ℕ) (others : List ℕ) → Fit gate g image count others → awaited (as_present own others) ≢ 0 → count < body_count bytes
  fewer zero others fit more = some
  fewer (suc count) others fit more =
      let whole = same_whole (suc count) others fit (omega arith) in
      omega (arith, whole, whole_is, fit.long, more, present_long own others)

  -- where all fit, they are the state's
  pub same_bytes : (others : List ℕ) → AllFit gate g others image → others ≡ bytes
  same_bytes others all =
      let count = all.count in
      let one : 0 < count = one_fits count others all.fit all.all in
      let whole = same_whole count others all.fit one in
      let long : length others ≡ length bytes = omega (arith, whole, whole_is, all.fit.long, all.all, present_long own others) in
      let n = body_count bytes in
      let few : n ≤ count = omega (arith, long, all.fit.long) in
      sym (all_bodies others n (omega (arith, long)))
      ∙ same_front others bytes n (λ j small. same_body count others all.fit j (omega (arith, small, few)) small)
      ∙ all_bodies bytes n (omega arith)
    where
      one_fits : (count : ℕ) (others : List ℕ) → Fit gate g image count others → awaited (as_present own others) ≡ 0 → 0 < count
      one_fits count others fit none = omega (arith, none, fit.long, present_long own others, few_missing own, whole_some (as_present own others))

  pub all_fit : AllFit gate g bytes image
  all_fit = record { count = body_count bytes; fit = subst (λ (b : List ℕ). Fit gate g image (body_count bytes) b) (all_bodies bytes (body_count bytes) (omega arith)) (fits_up_to (body_count bytes) (omega arith)); all = none_awaited own bytes s is }

-- ---- ring pages of w bytes each, one behind another

within_them : (w i n : ℕ) (ring : List ℕ) → length ring ≡ w * n → i < n → w * i + w ≤ length ring
within_them w i n ring long less = grind arith

pub page_before : (w : ℕ) (ring places : List ℕ) (i n : ℕ) → length ring ≡ w * n → i < n → take w (drop (w * i) (ring ++ places)) ≡ take w (drop (w * i) ring)
page_before w ring places i n long small =
    let within : w * i + w ≤ length ring = within_them w i n ring long small in
    ap (λ (l : List ℕ). take w l) (drop-append-le (w * i) ring places (omega (arith, within)))
    ∙ take-append-le w (drop (w * i) ring) places (omega (arith, within, length-drop (w * i) ring))

pub page_last : (w : ℕ) (ring places : List ℕ) (i : ℕ) → length ring ≡ w * i → length places ≡ w → take w (drop (w * i) (ring ++ places)) ≡ places
page_last w ring places i long one =
    ap (λ (n : ℕ). take w (drop n (ring ++ places))) (sym long) ∙ ap (λ (l : List ℕ). take w l) (drop-append_seam ring places) ∙ take_all w places (omega (arith, one))

-- ---- the ring pages that the bytes of a state name

module _ (s : StateValue) (bytes : List ℕ) (is : IsCheckpointOf Columns s bytes) (k : ℕ) where
  pub named_by : first_page bytes ≤ k → k < open_page bytes → IsNamed s.rows k
  named_by past before =
      let of = lengths s bytes is in
      let first = of.head.first_is in
      let next = of.head.next_is in
      record { some = omega (arith, past, first); filled = omega (arith, before, next) }

  pub named_from : IsNamed s.rows k → first_page bytes ≤ k
  named_from named = let of = lengths s bytes is in omega (arith, named.some, of.head.first_is)

  pub named_to : IsNamed s.rows k → k < open_page bytes
  named_to named = let of = lengths s bytes is in omega (arith, named.filled, of.head.next_is)

-- they are at most 32
pub few_named : (s : StateValue) (bytes : List ℕ) → IsCheckpointOf Columns s bytes → open_page bytes ≤ first_page bytes + 32
few_named s bytes is = let of = lengths s bytes is in omega (arith, of.few, of.head.first_is, of.head.next_is)

-- the columns that the bytes say are the state's
pub columns_are : (s : StateValue) (bytes : List ℕ) → IsCheckpointOf Columns s bytes → columns_said bytes ≡ s.columns
columns_are s bytes is = (lengths s bytes is).head.columns_are

-- the row that places hold
row_there : (width place : ℕ) (row : Row) (places : List ℕ) → IsRow row → length row.values.items ≡ width → take (4 * width) (drop place places) ≡ row_bytes row → row_at width place places ≡ row
row_there width place row places is count same =
    sym (row_drop width place places) ∙ ap (λ (l : List ℕ). row_at width 0 l) (sym (take-append-drop (4 * width) (drop place places)))
    ∙ ap (λ (l : List ℕ). row_at width 0 (l ++ drop (4 * width) (drop place places))) same ∙ row_again width row (drop (4 * width) (drop place places)) is count

fewer_places : (w i n : ℕ) → 0 < w → n ≡ w * 30 → w * (i + 1) ≤ n → i < 30
fewer_places w i n some long within = let less : w * i < w * 30 = grind arith in lt_of_mul-lt-mul_left w less

some_column : (columns : List ℕ) → fits_columns columns ≡ true → 0 < 4 * length columns
some_column [] fits = cc
some_column (id ∷ ids) fits = omega arith

-- places that hold a state's rows hold rows of its columns
pub are_places : (s : StateValue) (k : ℕ) (places : List ℕ) → IsLegalState s → IsNamed s.rows k → HoldsRows s.columns s.rows (30 * k) 30 places → ArePlaces s.columns (first_number s.rows) k places
are_places s k places legal named holds = record {
  long = holds.long;
  rows = λ i past within.
      let n = 30 * k + i in
      let here : i ≡ n - 30 * k = omega arith in
      let few : i < 30 = fewer_places (4 * length s.columns) i (length places) (some_column s.columns legal.within.columns) holds.long within in
      let order : length s.rows.items ≤ s.rows.next = legal.fits.order in
      let low : n - first_number s.rows < length s.rows.items = omega (arith, past, few, order, named.filled) in
      let row : Row = row_numbered s.rows n in
      let same : take (4 * length s.columns) (drop (4 * length s.columns * i) places) ≡ row_bytes row = ap (λ (j : ℕ). take (4 * length s.columns) (drop (4 * length s.columns * j) places)) here ∙ holds.each n past (omega arith) (omega (arith, few)) in
      let of : IsRowOf s.columns row = All-get_or (IsRowOf s.columns) s.rows.items (n - first_number s.rows) (profile.row_at 0) low legal.within.rows in
      let fits : IsRow row = All-get_or IsRow s.rows.items (n - first_number s.rows) (profile.row_at 0) low legal.fits.rows in
      subst (IsRowOf s.columns) (sym (row_there (length s.columns) (4 * length s.columns * i) row places fits of.count same)) of;
}

-- a ring page of such bytes has some
pub some_width : (s : StateValue) (bytes : List ℕ) → IsCheckpointOf Columns s bytes → 0 < page_length (columns_said bytes)
some_width s bytes is =
    let some = some_column s.columns is.legal.within.columns in
    subst (λ (columns : List ℕ). 0 < page_length columns) (sym (columns_are s bytes is)) (omega (arith, some))

-- ---- an image spells one state

-- this many consecutive pages of w bytes from that one on, each of which holds the rows of both
record Gathered (w : ℕ) (s t : StateValue) (from count : ℕ) (ring : List ℕ) : Type 0 where
  long : length ring ≡ w * count
  left : (k : ℕ) → from ≤ k → k < from + count → HoldsRows s.columns s.rows (30 * k) 30 (take w (drop (w * (k - from)) ring))
  right : (k : ℕ) → from ≤ k → k < from + count → HoldsRows t.columns t.rows (30 * k) 30 (take w (drop (w * (k - from)) ring))

-- one page more of the rows of one state
page_more : (w : ℕ) (s : StateValue) (from count : ℕ) (ring places : List ℕ) → length ring ≡ w * count → length places ≡ w → HoldsRows s.columns s.rows (30 * (from + count)) 30 places
    → ((k : ℕ) → from ≤ k → k < from + count → HoldsRows s.columns s.rows (30 * k) 30 (take w (drop (w * (k - from)) ring)))
    → (k : ℕ) → from ≤ k → k < from + suc count → HoldsRows s.columns s.rows (30 * k) 30 (take w (drop (w * (k - from)) (ring ++ places)))
page_more w s from count ring places long one holds before k past small =
    ⊎_elim
    (λ (last : k ≡ from + count).
    let here : count ≡ k - from = omega (arith, last) in
    let page : places ≡ take w (drop (w * (k - from)) (ring ++ places)) = sym (page_last w ring places count long one) ∙ ap (λ (i : ℕ). take w (drop (w * i) (ring ++ places))) here in
    subst (HoldsRows s.columns s.rows (30 * k) 30) page (subst (λ (j : ℕ). HoldsRows s.columns s.rows (30 * j) 30 places) (sym last) holds))
    (λ (off : k ≢ from + count).
    let inside : k < from + count = omega (arith, off, small) in
    subst (HoldsRows s.columns s.rows (30 * k) 30) (sym (page_before w ring places (k - from) count long (omega (arith, past, inside)))) (before k past inside))
    (cases_eq k (from + count))

longer_by : (w n m k : ℕ) → n ≡ w * k → m ≡ w → n + m ≡ w * suc k
longer_by w n m k long one = grind arith

none_long : (w : ℕ) → 0 ≡ w * 0
none_long w = omega arith

module _ (slot : Slot) (g : Edition) (image : Image) (s t : StateValue) (one : AreRings slot g s image) (two : AreRings slot g t image) (from : ℕ) where
  abbrev w : ℕ
  w = page_length s.columns

  gather : (count : ℕ) → ((k : ℕ) → from ≤ k → k < from + count → IsNamed s.rows k × IsNamed t.rows k) → (ring : List ℕ) × Gathered w s t from count ring
  gather zero named = ([], record { long = none_long w; left = λ k past before. absurd (omega (arith, past, before)); right = λ k past before. absurd (omega (arith, past, before)) })
  gather (suc count) named =
      let rest = gather count (λ k past before. named k past (omega (arith, before))) in
      let k = from + count in
      let both = named k (omega arith) (omega arith) in
      let page = one.ring k both.0 in
      let other = two.ring k both.1 in
      let same : other.places ≡ page.places = one_payload Ring (k % 40) (of_version other.own k) (of_version page.own k) other.places page.places (page_at image (ring_place k)) other.is_page page.is_page in
      let ring = rest.0 ++ page.places in (
        ring,
        record {
          long = length-append rest.0 page.places ∙ longer_by w (length rest.0) (length page.places) count rest.1.long page.holds.long;
          left = page_more w s from count rest.0 page.places rest.1.long page.holds.long page.holds rest.1.left;
          right = page_more w t from count rest.0 page.places rest.1.long page.holds.long (subst (HoldsRows t.columns t.rows (30 * k) 30) same other.holds) rest.1.right;
        },
      )

pub one_state_spelled : (slot : Slot) (g : Edition) (image : Image) (s t : StateValue) → IsLegalState s → IsLegalState t → AreRings slot g s image → AreRings slot g t image → s ≡ t
one_state_spelled slot g image s t legal too one two =
    let is : IsCheckpointOf g.version s one.bytes = record { spelled = one.are; legal = legal } in
    let other : IsCheckpointOf g.version t two.bytes = record { spelled = two.are; legal = too } in
    let gate = gate_of slot in
    let same : two.bytes ≡ one.bytes = same_bytes gate g image s one.bytes is one.bodies two.bytes (all_fit gate g image t two.bytes other two.bodies) in
    let also : IsCheckpointOf g.version t one.bytes = subst (IsCheckpointOf g.version t) same other in
    let bytes = as_present g.version one.bytes in
    let here = in_present g.version s one.bytes is in
    let there = in_present g.version t one.bytes also in
    let from = first_page bytes in
    let count = open_page bytes - from in
    let pages = gather slot g image s t one two from count
    (λ k past before. let inside : k < open_page bytes = omega (arith, past, before) in (named_by s bytes here k past inside, named_by t bytes there k past inside)) in
    let filled : Filled = record { bytes = bytes; ring = pages.0 } in
    let width : page_length s.columns ≡ page_length (columns_said bytes) = ap (λ (c : List ℕ). page_length c) (sym (columns_are s bytes here)) in
    one_state filled s t
    (record { bodies = here; ring = λ k past before. subst (λ (w : ℕ). HoldsRows s.columns s.rows (30 * k) 30 (take w (drop (w * (k - from)) pages.0))) width (pages.1.left k past (omega (arith, past, before))) })
    (record { bodies = there; ring = λ k past before. subst (λ (w : ℕ). HoldsRows t.columns t.rows (30 * k) 30 (take w (drop (w * (k - from)) pages.0))) width (pages.1.right k past (omega (arith, past, before))) })

-- ---- what was taken is the image's

pub are_of : (slot : Slot) (g : Edition) (s : StateValue) (bytes : List ℕ) (filled : Filled) (image : Image) → filled.bytes ≡ as_present g.version bytes → AllFit (gate_of slot) g bytes image → AreTaken g.version filled (open_page filled.bytes) image → IsFilledBy s filled → AreOf slot g s image
are_of slot g s bytes filled image present fit taken is =
    let here : IsCheckpointOf g.version s bytes = from_present g.version s bytes (subst (IsCheckpointOf Columns s) present is.bodies) in
    let columns = columns_are s filled.bytes is.bodies in
    record {
      rings = record {
        bytes = bytes;
        are = here.spelled;
        bodies = record {
          few = (some_bodies g.version bytes s here).1;
          each = λ k small. fit.fit.each k (bodies_fit g.version bytes s here fit.count k fit.fit.long small);
        };
        ring = λ k named.
            let from = named_from s filled.bytes is.bodies k named in
            let to = named_to s filled.bytes is.bodies k named in
            let page = taken k from to in
            record { places = page_taken filled k; own = page.own; serves = subst (λ (c : List ℕ). Serves g.version c page.own) columns page.serves; is_page = page.is_page; holds = is.ring k from to };
      };
      legal = is.bodies.legal;
    }
  where
    bodies_fit : (version : Version) (bytes : List ℕ) (s : StateValue) → IsCheckpointOf version s bytes → (count k : ℕ) → length bytes ≡ min (496 * count) (whole_length (as_present version bytes) - missing version) → k < body_count bytes → k < count
    bodies_fit version bytes s is count k long small = omega (arith, small, long)
