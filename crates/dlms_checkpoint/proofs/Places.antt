-- Places as they are written hold their rows.
use Rattle.std.proofs.Common.{◌≡◌, ◌<◌, ◌≤◌, ◌+◌, ◌*◌, ◌-◌, ⊎_elim, ℕ, zero, suc, List, ◌++◌, length, take, drop, replicate, refl, sym, ◌∙◌, ap, arith, length-append, All}
use Rattle.std.proofs.lemmas.List.{drop-append-le, length-drop, length-replicate, take-append-le, take_all}
use Rattle.std.proofs.lemmas.List.Elements.{All-get_or}
use Rattle.std.proofs.lemmas.Bool.{cases_eq, cases_lt, le-ltb, lt-ltb}
use Rattle.std.proofs.Math.Seq.{drop-append_seam}
use Rattle.dlms_profile.specs.Rows.{RowsValue, first_number}
use Rattle.dlms_profile.specs.Rows as profile
use Rattle.dlms_state.specs.Columns.{IsRowOf}
use Rattle.dlms_state.specs.StateValue.{StateValue}
use Rattle.dlms_checkpoint.specs.Checkpoint.{AreBytes, HoldsRows, row_bytes, row_numbered, place_of, places_of, unfilled, unfilled_from, checkpoint_bytes}
use Rattle.dlms_checkpoint.proofs.Rows.{length-row}

module _ (columns : List ℕ) (rows : RowsValue) (fit : All (IsRowOf columns) rows.items) (order : length rows.items ≤ rows.next) where
  abbrev w : ℕ
  w = 4 * length columns

  pub zeros_there : (n : ℕ) → n < first_number rows → place_of columns rows n ≡ replicate w 0
  zeros_there n before = rw (lt-ltb n (first_number rows) before) refl

  pub row_there : (n : ℕ) → first_number rows ≤ n → place_of columns rows n ≡ row_bytes (row_numbered rows n)
  row_there n past = rw (le-ltb n (first_number rows) past) refl

  pub row_long : (n : ℕ) → first_number rows ≤ n → n < rows.next → length (row_bytes (row_numbered rows n)) ≡ w
  row_long n past captured =
      let is : IsRowOf columns (row_numbered rows n) = All-get_or (IsRowOf columns) rows.items (n - first_number rows) (profile.row_at 0) (omega (arith, past, captured, order)) fit in
      length-row (row_numbered rows n) ∙ ap (λ (k : ℕ). 4 * k) is.count

  pub place_long : (n : ℕ) → n < rows.next → length (place_of columns rows n) ≡ w
  place_long n captured =
      ⊎_elim
      (λ (before : n < first_number rows). ap length (zeros_there n before) ∙ length-replicate w 0)
      (λ (past : first_number rows ≤ n). ap length (row_there n past) ∙ row_long n past captured)
      (cases_lt n (first_number rows))

  pub places_long : (from count : ℕ) → from + count ≤ rows.next → length (places_of columns rows from count) ≡ w * count
  places_long from zero captured = omega arith
  places_long from (suc count) captured =
      length-append (places_of columns rows from count) (place_of columns rows (from + count)) ∙ omega (arith, places_long from count (omega (arith, captured)), place_long (from + count) (omega (arith, captured)))

  there : (from count i : ℕ) → from + count ≤ rows.next → i < count → take w (drop (w * i) (places_of columns rows from count)) ≡ place_of columns rows (from + i)
  there from zero i captured small = absurd (omega (arith, small))
  there from (suc count) i captured small =
      let before = places_of columns rows from count in
      let last = place_of columns rows (from + count) in
      let long = places_long from count (omega (arith, captured)) in
      ⊎_elim
      (λ (same : i ≡ count).
      let behind : drop (w * i) (before ++ last) ≡ last = ap (λ (n : ℕ). drop n (before ++ last)) (ap (λ (j : ℕ). w * j) same ∙ sym long) ∙ drop-append_seam before last in
      ap (λ (l : List ℕ). take w l) behind ∙ take_all w last (omega (arith, place_long (from + count) (omega (arith, captured)))) ∙ ap (λ (j : ℕ). place_of columns rows (from + j)) (sym same))
      (λ (off : i ≡ count → ⊥).
      let less : i < count = omega (arith, off, small) in
      let within : w * i + w ≤ length before = within_them i count before less long in
      ap (λ (l : List ℕ). take w l) (drop-append-le (w * i) before last (omega (arith, within)))
      ∙ take-append-le w (drop (w * i) before) last (omega (arith, within, length-drop (w * i) before))
      ∙ there from count i (omega (arith, captured)) less)
      (cases_eq i count)
    where
      within_them : (i count : ℕ) (before : List ℕ) → i < count → length before ≡ w * count → w * i + w ≤ length before
      within_them i count before less long = grind arith

  pub places_hold : (from count : ℕ) → from + count ≤ rows.next → HoldsRows columns rows from count (places_of columns rows from count)
  places_hold from count captured = record {
    long = places_long from count captured;
    each = λ n past low high.
        let here : from + (n - from) ≡ n = omega (arith, low) in
        there from count (n - from) captured (omega (arith, low, high)) ∙ ap (λ (j : ℕ). place_of columns rows j) here ∙ row_there n past;
  }

-- the bytes that are written are bytes of the state
pub bytes_are : (s : StateValue) → All (IsRowOf s.columns) s.rows.items → length s.rows.items ≤ s.rows.next → AreBytes s (checkpoint_bytes s)
unfolding checkpoint_bytes
bytes_are s fit order = record { places = places_of s.columns s.rows (unfilled_from s.rows) (unfilled s.rows); joined = refl; holds = places_hold s.columns s.rows fit order (unfilled_from s.rows) (unfilled s.rows) (omega arith) }
