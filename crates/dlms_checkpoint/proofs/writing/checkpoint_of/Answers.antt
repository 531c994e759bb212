use Rattle.std.proofs.Common.{◌≤◌, length, ◌≡◌, ◌∙◌, ◌++◌, ◌-◌, ◌%◌, ◌^◌, [], List, ℕ, ap, sym, subst, refl, nat_eq, if◌then◌else◌}
use Rattle.dlms_profile.specs.Rows.{RowsValue, none_before, first_number}
use Rattle.dlms_state.specs.StateValue.{StateValue}
use Rattle.dlms_checkpoint.specs.Checkpoint.{AreBytes, head_bytes, first_written, next_written, places_of, unfilled, unfilled_from, checkpoint_bytes}
use Rattle.dlms_checkpoint.proofs.Places.{bytes_are}
use Rattle.dlms_checkpoint.proofs.writing.checkpoint_of.Goals as goal

-- the rows of a state are not in its head
head_alone : (s : StateValue) (n first next : ℕ) → head_bytes (record s { rows = none_before n }) first next ≡ head_bytes s first next
unfolding head_bytes
head_alone s n first next = refl

module _ (s parts : StateValue) (rows : RowsValue) (next first said_first said_next : ℕ) (none head before all said : List ℕ)
    (is_said : said ≡ s.columns) (is_rows : rows ≡ s.rows) (is_next : next ≡ rows.next) (is_first : first ≡ first_number rows)
    (is_parts : parts ≡ record s { rows = none_before s.rows.next })
    (is_said_first : said_first ≡ if nat_eq first (2 ^ 64) then 1 else first) (is_said_next : said_next ≡ if nat_eq next (2 ^ 64) then 0 else next)
    (is_none : none ≡ []) (is_head : head ≡ head_bytes parts said_first said_next) (is_before : before ≡ none ++ head)
    (is_all : all ≡ before ++ places_of said rows (next - next % 30) (next % 30))
  where
    first_is : said_first ≡ first_written s.rows
    first_is =
        is_said_first ∙ ap (λ (n : ℕ). if nat_eq n (2 ^ 64) then 1 else n) is_first ∙ ap first_written is_rows

    next_is : said_next ≡ next_written s.rows
    next_is =
        is_said_next ∙ ap (λ (n : ℕ). if nat_eq n (2 ^ 64) then 0 else n) is_next ∙ ap next_written is_rows

    head_is : head ≡ head_bytes s (first_written s.rows) (next_written s.rows)
    head_is =
        is_head
        ∙ ap (λ (p : StateValue). head_bytes p said_first said_next) is_parts
        ∙ head_alone s s.rows.next said_first said_next
        ∙ ap (λ (n : ℕ). head_bytes s n said_next) first_is
        ∙ ap (head_bytes s (first_written s.rows)) next_is

    places_are : places_of said rows (next - next % 30) (next % 30) ≡ places_of s.columns s.rows (unfilled_from s.rows) (unfilled s.rows)
    places_are =
        ap (λ (n : ℕ). places_of said rows (n - n % 30) (n % 30)) is_next ∙ ap (λ (r : RowsValue). places_of said r (unfilled_from r) (unfilled r)) is_rows ∙ ap (λ (l : List ℕ). places_of l s.rows (unfilled_from s.rows) (unfilled s.rows)) is_said

    written : all ≡ checkpoint_bytes s
    unfolding checkpoint_bytes
    written =
        is_all
        ∙ ap (λ (l : List ℕ). l ++ places_of said rows (next - next % 30) (next % 30)) (is_before ∙ ap (λ (l : List ℕ). l ++ head) is_none ∙ head_is)
        ∙ ap (λ (l : List ℕ). head_bytes s (first_written s.rows) (next_written s.rows) ++ l) places_are

pub returns-clause-bytes : goal.returns-clause-bytes
returns-clause-bytes g c =
    written c.args.state.now _ c.rows-rows.result.now c.next_number-next.result c.first_number.result c.first_written.result c.next_written.result c.new-bytes.result.items _ c.append.new.bytes.items _ c.columns.result.now
    c.columns.ensures.value c.rows-rows.ensures.value c.next_number-next.ensures.value c.first_number.ensures c.parts_of.ensures c.first_written.ensures c.next_written.ensures
    c.new-bytes.ensures (c.head_of-head.ensures.items c.args.state.now.rows.next) (c.append.ensures.items ∙ ap (λ (l : List ℕ). c.new-bytes.result.items ++ l) c.as_slice.ensures.value) c.append_places.ensures.items

pub returns-clause-spelled : goal.returns-clause-spelled
returns-clause-spelled g c =
    subst (AreBytes c.args.state.now) (sym (returns-clause-bytes g c))
    (bytes_are c.args.state.now c.rows-rows.ensures.columns (subst (λ (r : RowsValue). length r.items ≤ r.next) c.rows-rows.ensures.value c.next_number-next.ensures.order))
