-- A row's cells, one after the other.
use Rattle.std.proofs.Common.{◌≡◌, ℕ, zero, suc, ◌+◌, ◌-◌, ◌<◌, ◌≤◌, List, [], ◌∷◌, ◌++◌, length, map, take, drop, set, get_or, Option, Some, None, refl, sym, ap, subst, ◌∙◌, ap₂, append_assoc, arith, add-one}
use Rattle.std.proofs.lemmas.List.{take_more_set, drop-set-lt, map-set, take_all, length-set, length-map, append-nil}
use Rattle.std.proofs.Math.Seq.{drop-cons, drop-length}
use Rattle.dlms_values.specs.declared.value.Value.{Value as Borrowed}
use Rattle.dlms_values.specs.View.{IsNext, value_of}
use Rattle.dlms_values.specs.Value.{Value, Values, null, none, cons, count}
use Rattle.dlms_buffer.specs.declared.cell.Cell.{Cell}
use Rattle.dlms_buffer.specs.Rows.{listed}
use Rattle.dlms_buffer.specs.View.{Shown, cell_view}
use Rattle.dlms_buffer.specs.Steps.{step, steps}

-- the first of the values, and the others
pub next_is : (before : Values) (w : Borrowed) (after : Values) → IsNext before (Some w) after → before ≡ cons (value_of w) after
next_is none w after h = absurd h
next_is (cons v vs) w after h = rw (h.0, h.1) refl

pub next_none : (before : Values) (after : Values) → IsNext before None after → count before ≡ 0
next_none none after h = refl
next_none (cons v vs) after h = absurd h

-- as far as the loop has come: so many cells show the next row, and the others will by the values that are left
pub record Walked (cells : List Shown) (i : ℕ) (left : Values) (total : List Shown) : Type 0 where
  pub shown : take i cells ++ steps (drop i cells) (listed left) ≡ total
  pub many : i + count left ≡ length cells

step_walk : (xs : List Shown) (i : ℕ) (v : Value) (vs : List Value) (y : Shown) → i < length xs → y ≡ step (get_or xs i (null, 0)) v
    → take (i + 1) (set xs i y) ++ steps (drop (i + 1) (set xs i y)) vs ≡ take i xs ++ steps (drop i xs) (v ∷ vs)
step_walk xs i v vs y lt e =
    let front : take (i + 1) (set xs i y) ≡ take i xs ++ y ∷ [] = take_more_set xs i y lt in
    let others : drop (i + 1) (set xs i y) ≡ drop (i + 1) xs = drop-set-lt (i + 1) xs i y (omega arith) in
    let split : drop i xs ≡ get_or xs i (null, 0) ∷ drop (i + 1) xs = rw add-one (drop-cons xs i (null, 0) lt) in
    rw (front, others, split, append_assoc (take i xs) (y ∷ []) (steps (drop (i + 1) xs) vs), e) refl

pub begins : (cells : List Shown) (values : Values) → count values ≡ length cells → Walked cells 0 values (steps cells (listed values))
begins cells values same = record { shown = refl; many = omega (arith, same) }

pub goes_on : (cells : List Shown) (i : ℕ) (left : Values) (w : Borrowed) (after : Values) (y : Shown) (total : List Shown) → i < length cells
    → Walked cells i left total → IsNext left (Some w) after → y ≡ step (get_or cells i (null, 0)) (value_of w) → Walked (set cells i y) (i + 1) after total
goes_on cells i left w after y total lt walked next e =
    let is : left ≡ cons (value_of w) after = next_is left w after next in
    record {
      shown = step_walk cells i (value_of w) (listed after) y lt e ∙ ap (λ (vs : Values). take i cells ++ steps (drop i cells) (listed vs)) (sym is) ∙ walked.shown;
      many = omega (arith, length-set cells i y, walked.many, ap count is);
    }

pub not_over : (cells : List Shown) (i : ℕ) (left after : Values) (total : List Shown) → i < length cells → Walked cells i left total → IsNext left None after → ⊥
not_over cells i left after total lt walked next = omega (arith, walked.many, next_none left after next)

pub ends : (cells : List Shown) (i : ℕ) (left : Values) (total : List Shown) → length cells ≤ i → Walked cells i left total → cells ≡ total
ends cells i left total le walked =
    let n : i ≡ length cells = omega (arith, walked.many) in
    let all : take i cells ≡ cells = ap (λ (k : ℕ). take k cells) n ∙ take_all (length cells) cells (omega arith) in
    let no_more : drop i cells ≡ [] = ap (λ (k : ℕ). drop k cells) n ∙ drop-length cells in
    let whole : take i cells ++ steps (drop i cells) (listed left) ≡ cells ++ [] = ap₂ (λ (a b : List Shown). a ++ steps b (listed left)) all no_more in
    sym (append-nil cells) ∙ sym whole ∙ walked.shown

-- the view of a cell that was looked up
pub item_view : (cells : List Cell) (i : ℕ) (d : Cell) → i < length cells → cell_view (get_or cells i d) ≡ get_or (map cell_view cells) i (null, 0)
item_view [] i d lt = absurd (omega arith)
item_view (x ∷ cells) zero d lt = refl
item_view (x ∷ cells) (suc i) d lt = item_view cells i d (omega arith)

-- the same, if the values are a list
pub record WalkedBy (cells : List Shown) (i : ℕ) (values : List Value) (total : List Shown) : Type 0 where
  pub shown : take i cells ++ steps (drop i cells) (drop i values) ≡ total
  pub same : length values ≡ length cells

pub begins_by : (cells : List Shown) (values : List Value) → length values ≡ length cells → WalkedBy cells 0 values (steps cells values)
begins_by cells values same = record { shown = refl; same = same }

pub goes_on_by : (cells : List Shown) (i : ℕ) (values : List Value) (y : Shown) (total : List Shown) → i < length cells
    → WalkedBy cells i values total → y ≡ step (get_or cells i (null, 0)) (get_or values i null) → WalkedBy (set cells i y) (i + 1) values total
goes_on_by cells i values y total lt walked e =
    let next : drop i values ≡ get_or values i null ∷ drop (i + 1) values = rw add-one (drop-cons values i null (omega (arith, walked.same))) in
    record {
      shown = step_walk cells i (get_or values i null) (drop (i + 1) values) y lt e ∙ ap (λ (vs : List Value). take i cells ++ steps (drop i cells) vs) (sym next) ∙ walked.shown;
      same = walked.same ∙ sym (length-set cells i y);
    }

pub ends_by : (cells : List Shown) (i : ℕ) (values : List Value) (total : List Shown) → i ≡ length values → WalkedBy cells i values total → cells ≡ total
ends_by cells i values total n walked =
    let here : i ≡ length cells = n ∙ walked.same in
    let all : take i cells ≡ cells = ap (λ (k : ℕ). take k cells) here ∙ take_all (length cells) cells (omega arith) in
    let no_more : drop i cells ≡ [] = ap (λ (k : ℕ). drop k cells) here ∙ drop-length cells in
    let whole : take i cells ++ steps (drop i cells) (drop i values) ≡ cells ++ [] = ap₂ (λ (a b : List Shown). a ++ steps b (drop i values)) all no_more in
    sym (append-nil cells) ∙ sym whole ∙ walked.shown

-- the view of a value that was looked up
pub given_view : (values : List Borrowed) (i : ℕ) (d : Borrowed) → i < length values → value_of (get_or values i d) ≡ get_or (map value_of values) i null
given_view [] i d lt = absurd (omega arith)
given_view (x ∷ values) zero d lt = refl
given_view (x ∷ values) (suc i) d lt = given_view values i d (omega arith)
