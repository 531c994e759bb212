use Rattle.std.proofs.Common.{refl, ◌≡◌, ◌+◌, ◌*◌, ◌++◌, ◌∷◌, [], List, ap, sym, subst, arith, ℕ, ◌∙◌, length, drop, append_assoc}
use Rattle.std.proofs.lemmas.List.{length-append}
use Rattle.dlms_profile.specs.declared.rows.Row.{Row}
use Rattle.dlms_state.specs.Columns.{IsRowOf}
use Rattle.dlms_state.specs.StateValue.{StateValue}
use Rattle.dlms_checkpoint.specs.Reading.{row_at, rows_at}
use Rattle.dlms_checkpoint.proofs.Rows.{rows_at-more, length-rows_at, row_further}
use Rattle.dlms_checkpoint.proofs.row_reading.restore_rows.Goals as goal

abbrev with : StateValue → List Row → ℕ → StateValue
with s items next = record s { rows = record { items = items; next = next } }

-- a state with one row more
appended : (s now next : StateValue) (width i : ℕ) (bytes : List ℕ) (row : Row) → now ≡ with s (s.rows.items ++ rows_at width i bytes) (s.rows.next + i) → row ≡ row_at width (4 * width * i) bytes
    → next ≡ with now (now.rows.items ++ row ∷ []) (now.rows.next + 1) → next ≡ with s (s.rows.items ++ rows_at width (i + 1) bytes) (s.rows.next + (i + 1))
appended s now next width i bytes row is same e =
    let one : (s.rows.next + i) + 1 ≡ s.rows.next + (i + 1) = omega arith in
    e ∙ ap (λ (t : StateValue). with t (t.rows.items ++ row ∷ []) (t.rows.next + 1)) is
    ∙ ap (λ (r : Row). with s ((s.rows.items ++ rows_at width i bytes) ++ r ∷ []) ((s.rows.next + i) + 1)) same
    ∙ ap (λ (l : List Row). with s l ((s.rows.next + i) + 1)) (append_assoc s.rows.items (rows_at width i bytes) (row_at width (4 * width * i) bytes ∷ []) ∙ ap (λ (l : List Row). s.rows.items ++ l) (sym (rows_at-more width i bytes)))
    ∙ ap (λ (n : ℕ). with s (s.rows.items ++ rows_at width (i + 1) bytes) n) one

few_rows : (s now : StateValue) (width i : ℕ) (bytes : List ℕ) → now ≡ with s (s.rows.items ++ rows_at width i bytes) (s.rows.next + i) → length now.rows.items ≡ length s.rows.items + i
few_rows s now width i bytes is = ap (λ (t : StateValue). length t.rows.items) is ∙ length-append s.rows.items (rows_at width i bytes) ∙ ap (λ (n : ℕ). length s.rows.items + n) (length-rows_at width i bytes)

-- the row at a place is the one counted from the first place on
row_there : (columns said : List ℕ) (width skipped i : ℕ) (bytes : List ℕ) (row : Row) → said ≡ columns → width ≡ length said → row ≡ row_at width (4 * width * (skipped + i)) bytes
    → row ≡ row_at (length columns) (4 * length columns * i) (drop (4 * length columns * skipped) bytes)
row_there columns said width skipped i bytes row is_said is_width is =
    let same : width ≡ length columns = is_width ∙ ap length is_said in
    is ∙ ap (λ (w : ℕ). row_at w (4 * w * (skipped + i)) bytes) same ∙ sym (row_further (length columns) skipped i bytes)

pub restore_row-requires-clause-columns : goal.restore_row-requires-clause-columns
restore_row-requires-clause-columns g c =
    let s = c.args.state.now in
    let row = row_there s.columns c.columns-width.result.now (length c.columns-width.result.now) c.args.skipped c.loop-index.index c.args.places.now c.row_of.result c.columns-width.ensures.value refl c.row_of.ensures in
    let columns : s.columns ≡ c.loop-index.state.columns = sym (ap (λ (t : StateValue). t.columns) c.loop-index.invariant) in
    subst (λ (l : List ℕ). IsRowOf l c.row_of.result) columns
    (subst (IsRowOf s.columns) (sym row) (c.requires.rows c.loop-index.index (omega (arith, c.loop-index-test.true))))

pub restore_row-requires-clause-room : goal.restore_row-requires-clause-room
restore_row-requires-clause-room g c =
    let s = c.args.state.now in
    omega (arith, c.requires.room, c.loop-index-test.true, few_rows s c.loop-index.state (length s.columns) c.loop-index.index (drop (4 * length s.columns * c.args.skipped) c.args.places.now) c.loop-index.invariant)

pub loop-index-preserved : goal.loop-index-preserved
loop-index-preserved g c =
    let s = c.args.state.now in
    let row = row_there s.columns c.columns-width.result.now (length c.columns-width.result.now) c.args.skipped c.loop-index.index c.args.places.now c.row_of.result c.columns-width.ensures.value refl c.row_of.ensures in
    appended s c.loop-index.state _ (length s.columns) c.loop-index.index (drop (4 * length s.columns * c.args.skipped) c.args.places.now) c.row_of.result c.loop-index.invariant row c.restore_row.ensures.row
