use Rattle.std.proofs.Common.{◌≡◌, ◌<◌, ◌≤◌, ◌-◌, ◌*◌, ◌++◌, ℕ, List, ap, sym, ◌∙◌, Some, None, arith, length, get_or}
use Rattle.std.specs.Option.{option_copied}
use Rattle.std.specs.List.{slice_get}
use Rattle.std.proofs.lemmas.List.{take-replicate}
use Rattle.std.proofs.lemmas.Option.{get_or_from_slice_get, slice_get-get_or}
use Rattle.dlms_profile.specs.declared.rows.Row.{Row}
use Rattle.dlms_profile.specs.Rows.{RowsValue, first_number}
use Rattle.dlms_profile.specs.Rows as profile
use Rattle.dlms_checkpoint.specs.Checkpoint.{row_bytes, row_numbered}
use Rattle.dlms_checkpoint.proofs.Places.{zeros_there, row_there, row_long}
use Rattle.dlms_checkpoint.proofs.Rows.{length-row}
use Rattle.dlms_checkpoint.proofs.writing.append_place.Goals as goal

none_is : {A : Type 0} {x : A} → None ≡ Some x → ⊥
none_is e = cc

-- the row that was got is the one of this number
is_numbered : (rows : RowsValue) (n first : ℕ) (row : Row) → first ≡ first_number rows → Some row ≡ slice_get rows.items (n - first) → row_numbered rows n ≡ row
is_numbered rows n first row is_first got =
    ap (λ (k : ℕ). get_or rows.items (n - k) (profile.row_at 0)) (sym is_first) ∙ get_or_from_slice_get rows.items (n - first) row (profile.row_at 0) (sym got)

pub returns-then-number-first-clause-items : goal.returns-then-number-first-clause-items
returns-then-number-first-clause-items g c =
    let w = 4 * length c.args.columns.now in
    let before : c.args.number < first_number c.args.rows.now = omega (arith, c.if-number-first.true, c.first_number-first.ensures) in
    c.append.ensures.items
    ∙ ap (λ (l : List ℕ). c.args.bytes.now.items ++ l) (take-replicate w 16 0 (omega (arith, c.requires.few)) ∙ sym (zeros_there c.args.columns.now c.args.rows.now c.requires.rows c.next_number-order.ensures.order c.args.number before))

pub returns-in-Some-clause-items : goal.returns-in-Some-clause-items
returns-in-Some-clause-items g c =
    let got : Some c.in-Some.row.now ≡ slice_get c.args.rows.now.items (c.args.number - c.first_number-first.result) = sym (ap option_copied c.in-Some.is) ∙ c.get.ensures in
    let past : first_number c.args.rows.now ≤ c.args.number = omega (arith, c.if-number-first.false, c.first_number-first.ensures) in
    c.append_row.ensures.items
    ∙ ap (λ (l : List ℕ). c.args.bytes.now.items ++ l)
    (ap row_bytes (sym (is_numbered c.args.rows.now c.args.number c.first_number-first.result c.in-Some.row.now c.first_number-first.ensures got))
    ∙ sym (row_there c.args.columns.now c.args.rows.now c.requires.rows c.next_number-order.ensures.order c.args.number past))

pub returns-in-Some-clause-len : goal.returns-in-Some-clause-len
returns-in-Some-clause-len g c =
    let got : Some c.in-Some.row.now ≡ slice_get c.args.rows.now.items (c.args.number - c.first_number-first.result) = sym (ap option_copied c.in-Some.is) ∙ c.get.ensures in
    let past : first_number c.args.rows.now ≤ c.args.number = omega (arith, c.if-number-first.false, c.first_number-first.ensures) in
    let same = is_numbered c.args.rows.now c.args.number c.first_number-first.result c.in-Some.row.now c.first_number-first.ensures got in
    let long = row_long c.args.columns.now c.args.rows.now c.requires.rows c.next_number-order.ensures.order c.args.number past c.requires.captured in
    let wide : 4 * length c.in-Some.row.now.values.items ≡ 4 * length c.args.columns.now = sym (length-row c.in-Some.row.now) ∙ ap (λ (r : Row). length (row_bytes r)) (sym same) ∙ long in
    omega (arith, c.append_row.ensures.len, wide)

-- a row that was captured and is kept is got
never_none : (rows : RowsValue) (n first : ℕ) → first ≡ first_number rows → length rows.items ≤ rows.next → first_number rows ≤ n → n < rows.next → None ≡ slice_get rows.items (n - first) → ⊥
never_none rows n first is_first order past captured none =
    none_is (none ∙ slice_get-get_or rows.items (n - first) (profile.row_at 0) (omega (arith, is_first, order, past, captured)))

pub returns-in_default-clause-items : goal.returns-in_default-clause-items
returns-in_default-clause-items g c =
    let past : first_number c.args.rows.now ≤ c.args.number = omega (arith, c.if-number-first.false, c.first_number-first.ensures) in
    absurd (never_none c.args.rows.now c.args.number c.first_number-first.result c.first_number-first.ensures c.next_number-order.ensures.order past c.requires.captured (sym (ap option_copied c.in_default.is) ∙ c.get.ensures))

pub returns-in_default-clause-len : goal.returns-in_default-clause-len
returns-in_default-clause-len g c =
    let past : first_number c.args.rows.now ≤ c.args.number = omega (arith, c.if-number-first.false, c.first_number-first.ensures) in
    absurd (never_none c.args.rows.now c.args.number c.first_number-first.result c.first_number-first.ensures c.next_number-order.ensures.order past c.requires.captured (sym (ap option_copied c.in_default.is) ∙ c.get.ensures))
