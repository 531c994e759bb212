use Rattle.std.proofs.Common.{arith, All, length, ◌≤◌, ◌+◌, ◌≡◌, ◌∙◌, ◌++◌, ◌*◌, [], List, ℕ, ap, sym, subst}
use Rattle.dlms_profile.specs.Rows.{RowsValue}
use Rattle.dlms_state.specs.Columns.{IsRowOf}
use Rattle.dlms_checkpoint.specs.Checkpoint.{HoldsRows, places_of}
use Rattle.dlms_checkpoint.proofs.Places.{places_hold}
use Rattle.dlms_checkpoint.proofs.writing.ring_page_of.Goals as goal

held : (columns said : List ℕ) (rows told : RowsValue) (from at count : ℕ) (none places : List ℕ) → All (IsRowOf columns) rows.items → length rows.items ≤ rows.next → from + count ≤ rows.next → none ≡ [] → said ≡ columns → told ≡ rows → at ≡ from
    → places ≡ none ++ places_of said told at count → (places ≡ places_of columns rows from count) × HoldsRows columns rows from count places
held columns said rows told from at count none places fit order captured is_none is_said is_rows is_from is =
    let same : places ≡ places_of columns rows from count =
    is ∙ ap (λ (l : List ℕ). l ++ places_of said told at count) is_none ∙ ap (λ (l : List ℕ). places_of l told at count) is_said ∙ ap (λ (r : RowsValue). places_of columns r at count) is_rows ∙ ap (λ (n : ℕ). places_of columns rows n count) is_from in
    (same, subst (HoldsRows columns rows from count) (sym same) (places_hold columns rows fit order from count captured))

pub returns-clause-holds : goal.returns-clause-holds
returns-clause-holds g c =
    (held c.args.state.now.columns _ c.args.state.now.rows _ (30 * c.args.page) _ 30 _ _
    c.rows-rows.ensures.columns
    (subst (λ (r : RowsValue). length r.items ≤ r.next) c.rows-rows.ensures.value c.next_number-order.ensures.order)
    (omega (arith, c.requires.filled)) c.new-places.ensures c.columns.ensures.value c.rows-rows.ensures.value (ap (λ (n : ℕ). 30 * n) c.from.ensures) c.append_places.ensures.items).1
