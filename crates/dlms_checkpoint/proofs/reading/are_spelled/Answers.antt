use Rattle.std.proofs.Common.{◌+◌, ◌-◌, ◌*◌, ◌%◌, take, drop, ◌≡◌, ◌^◌, ◌∙◌, List, ℕ, sym, ap, subst, arith, length, true, false, Bool, nat_eq, if◌then◌else◌}
use Rattle.std.proofs.lemmas.List.{length-drop, length-take}
use Rattle.dlms_state.specs.StateValue.{StateValue, IsWithinLimits, state_of_parts}
use Rattle.dlms_checkpoint.specs.Bodies.{column_count, columns_said, first_said, next_said}
use Rattle.dlms_checkpoint.specs.Checkpoint.{head_bytes, first_written}
use Rattle.dlms_checkpoint.specs.Reading.{HasHead, RowsFit, parts_at}
use Rattle.dlms_checkpoint.proofs.Bodies.{front_columns, says_front, says_front_first}
use Rattle.dlms_checkpoint.proofs.Whole.{Known, known, without_rows}
use Rattle.dlms_checkpoint.proofs.Filled.{rows_behind, from_parts, some_columns}
use Rattle.dlms_checkpoint.proofs.reading.are_spelled.Goals as goal

was_false : (b : Bool) → b ≡ false → b ≡ true → ⊥
was_false b off on = absurd (cc (off, on))

-- what writing the head of a state's bytes again gives
written : (s : StateValue) (head places : List ℕ) (a n x y : ℕ) → Known s head places → a ≡ first_said head → n ≡ next_said head → x ≡ (if nat_eq a (2 ^ 64) then 1 else a) → y ≡ (if nat_eq n (2 ^ 64) then 0 else n)
    → head_bytes (parts_at head 0) x y ≡ head
written s head places a n x y it is_a is_n is_x is_y =
    let first = is_a ∙ it.head_is.first_is in
    let next = is_n ∙ it.head_is.next_is in
    ap (λ (k : ℕ). head_bytes (parts_at head 0) k y) (is_x ∙ ap (λ (k : ℕ). if nat_eq k (2 ^ 64) then 1 else k) first)
    ∙ ap (λ (k : ℕ). head_bytes (parts_at head 0) (first_written s.rows) k) (is_y ∙ ap (λ (k : ℕ). if nat_eq k (2 ^ 64) then 0 else k) next)
    ∙ it.same 0

pub returns-then-not-are_same-clause-no : goal.returns-then-not-are_same-clause-no
returns-then-not-are_same-clause-no c s is =
    let it = known s c.args.bytes.now c.split_at.result.0.now c.split_at.result.1.now is c.split_at.ensures.front c.split_at.ensures.back in
    absurd (was_false c.are_same.result c.if-not-are_same.true
    (c.are_same.ensures.1 (c.as_slice.ensures.value ∙ c.head_of-again.ensures.items 0 ∙ ap (λ (p : StateValue). head_bytes p c.first_written.result c.next_written.result) (c.parts_of-parts.ensures 0)
    ∙ written s _ _ _ _ _ _ it c.first_of-first.ensures.value c.next_of-next.ensures.value c.first_written.ensures c.next_written.ensures)))

pub returns-then-not-are_within_limits-clause-no : goal.returns-then-not-are_within_limits-clause-no
returns-then-not-are_within_limits-clause-no c s is =
    let it = known s c.args.bytes.now c.split_at.result.0.now c.split_at.result.1.now is c.split_at.ensures.front c.split_at.ensures.back in
    absurd (was_false c.are_within_limits.result c.if-not-are_within_limits.true
    ((c.are_within_limits.ensures 0).1 (subst IsWithinLimits (sym (c.parts_of-parts.ensures 0 ∙ it.head_is.parts 0)) (without_rows s 0 is.legal.within))))

pub returns-clause-no : goal.returns-clause-no
returns-clause-no c s is =
    let it = known s c.args.bytes.now c.split_at.result.0.now c.split_at.result.1.now is c.split_at.ensures.front c.split_at.ensures.back in
    c.are_rows.ensures.1 (subst (λ (l : List ℕ). RowsFit l c.first_of-first.result (c.next_of-next.result - c.next_of-next.result % 30) c.split_at.result.1.now) (sym (c.columns_of.ensures ∙ it.head_is.columns_are))
    (rows_behind s c.args.bytes.now c.split_at.result.1.now c.first_of-first.result c.next_of-next.result is c.split_at.ensures.back (c.first_of-first.ensures.value ∙ it.head_is.first_is) (c.next_of-next.ensures.value ∙ it.head_is.next_is) c.bytes_fit.ensures))

-- the columns that are said are those of the parts
columns_alone : (parts : StateValue) (head columns : List ℕ) → columns ≡ columns_said head → parts ≡ parts_at head 0 → columns ≡ parts.columns
unfolding parts_at
columns_alone parts head columns is parts_are = is ∙ sym (ap (λ (p : StateValue). p.columns) parts_are)

pub are_rows-requires-clause-some : goal.are_rows-requires-clause-some
are_rows-requires-clause-some c =
    let within = (c.are_within_limits.ensures 0).0 c.if-not-are_within_limits.false in
    let same = columns_alone (state_of_parts c.parts_of-parts.result 0) c.split_at.result.0.now c.columns_of.result.now c.columns_of.ensures (c.parts_of-parts.ensures 0) in
    omega (arith, some_columns (state_of_parts c.parts_of-parts.result 0).columns within.columns, ap length same)

pub are_rows-requires-clause-few : goal.are_rows-requires-clause-few
are_rows-requires-clause-few c =
    let same = columns_alone (state_of_parts c.parts_of-parts.result 0) c.split_at.result.0.now c.columns_of.result.now c.columns_of.ensures (c.parts_of-parts.ensures 0) in
    omega (arith, (c.parts_fit.ensures 0).columns.count, ap length same)

-- the length of the places after the head
places_long : (bytes behind : List ℕ) (columns next : ℕ) → behind ≡ drop 324 bytes → length bytes ≡ 324 + 4 * columns * (next % 30) → length behind ≡ 4 * columns * (next % 30)
places_long bytes behind columns next is all = ap length is ∙ omega (arith, length-drop 324 bytes, all)

-- how many columns there are, by the place of their count
count_is : (s : StateValue) (bytes head : List ℕ) → HasHead bytes → head ≡ take 324 bytes → s ≡ parts_at head 0 → column_count bytes ≡ length s.columns
unfolding parts_at
count_is s bytes head has is_head is =
    let count : column_count head ≡ column_count bytes = ap column_count is_head ∙ front_columns 324 bytes (omega arith) in
    let long : length head ≡ 324 = ap length is_head ∙ omega (arith, length-take 324 bytes, has.long) in
    let part : length (columns_said head) ≡ column_count head = omega (arith, length-take ((287 + column_count head) - 287) (drop 287 head), length-drop 287 head, long, count, has.columns) in
    sym count ∙ sym part ∙ sym (ap (λ (p : StateValue). length p.columns) is)

pub returns-clause-yes : goal.returns-clause-yes
returns-clause-yes c taken =
    let bytes = c.args.bytes.now in
    let head = c.split_at.result.0.now in
    let p = state_of_parts c.parts_of-parts.result 0 in
    let same = columns_alone p head c.columns_of.result.now c.columns_of.ensures (c.parts_of-parts.ensures 0) in
    let first : c.first_of-first.result ≡ first_said bytes = c.first_of-first.ensures.value ∙ ap first_said c.split_at.ensures.front ∙ says_front_first 324 bytes (omega arith) in
    let next : c.next_of-next.result ≡ next_said bytes = c.next_of-next.ensures.value ∙ ap next_said c.split_at.ensures.front ∙ says_front 324 bytes (omega arith) in
    let count : column_count bytes ≡ length p.columns = count_is p bytes head c.requires.head c.split_at.ensures.front (c.parts_of-parts.ensures 0) in
    let all : length bytes ≡ 324 + 4 * length p.columns * (c.next_of-next.result % 30) =
    c.requires.all ∙ ap (λ (k : ℕ). 324 + 4 * k * (next_said bytes % 30)) count ∙ ap (λ (k : ℕ). 324 + 4 * length p.columns * (k % 30)) (sym next) in
    from_parts p c.first_of-first.result c.next_of-next.result bytes head c.split_at.result.1.now
    (omega (arith, first, next, c.requires.head.order)) (omega (arith, first, next, c.requires.head.few)) c.next_of-next.ensures.last c.split_at.ensures.front c.split_at.ensures.back
    (places_long bytes c.split_at.result.1.now (length p.columns) c.next_of-next.result c.split_at.ensures.back all)
    (ap (λ (k : ℕ). head_bytes p k (if nat_eq c.next_of-next.result (2 ^ 64) then 0 else c.next_of-next.result)) (sym c.first_written.ensures)
    ∙ ap (λ (k : ℕ). head_bytes p c.first_written.result k) (sym c.next_written.ensures)
    ∙ sym (c.as_slice.ensures.value ∙ c.head_of-again.ensures.items 0) ∙ c.are_same.ensures.0 c.if-not-are_same.false)
    ((c.are_within_limits.ensures 0).0 c.if-not-are_within_limits.false) (c.parts_fit.ensures 0) c.bytes_fit.ensures
    (subst (λ (l : List ℕ). RowsFit l c.first_of-first.result (c.next_of-next.result - c.next_of-next.result % 30) c.split_at.result.1.now) same (c.are_rows.ensures.0 taken))
