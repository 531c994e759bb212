use Rattle.std.proofs.Common.{◌≡◌, ◌≤◌, ◌<◌, ◌^◌, ◌-◌, ◌%◌, ◌∙◌, ◌++◌, All, List, ℕ, drop, take, sym, ap, subst, arith}
use Rattle.dlms_state.specs.StateValue.{StateValue}
use Rattle.dlms_checkpoint.specs.Bodies.{first_said, next_said}
use Rattle.dlms_checkpoint.specs.Reading.{IsFilledBy, IsRefilled, MayTake, Refilled, open_page, state_with, with_rows}
use Rattle.dlms_checkpoint.proofs.Bodies.{says_front, says_front_first}
use Rattle.dlms_checkpoint.proofs.Refilled.{all_spelled, rest_made, rest_may, where_it_is}
use Rattle.dlms_checkpoint.proofs.reading.Refilling.finish.Goals as goal

all_here : (r now : Refilled) → r ≡ now → open_page now.bytes ≤ now.page → open_page r.bytes ≤ r.page
all_here r now same all = subst (λ (q : Refilled). open_page q.bytes ≤ q.page) (sym same) all

some_state : (r now : Refilled) (ring behind : List ℕ) → r ≡ now → IsRefilled now ring → open_page now.bytes ≤ now.page → behind ≡ drop 324 r.bytes → All (λ byte. byte < 2 ^ 8) behind → (s : StateValue) × IsFilledBy s (record { bytes = now.bytes; ring = ring })
some_state r now ring behind same is all is_behind octets =
    (state_with now.bytes (next_said now.bytes - first_said now.bytes) (ring ++ behind), all_spelled now ring behind is all (is_behind ∙ ap (λ (q : Refilled). drop 324 q.bytes) same) octets)

pub returns-in_default-clause-some : goal.returns-in_default-clause-some
returns-in_default-clause-some g c ring is =
    let r : Refilled = record { bytes = c.self.inside.bytes.items; page = c.self.inside.page; state = c.self.inside.state } in
    some_state r c.args.self ring c.split_at.result.1.now c.self.view_is is c.requires (c.split_at.ensures.back ∙ ap (drop 324) c.as_slice.ensures.value) c.bytes_fit.ensures

pub returns-clause-some : goal.returns-clause-some
returns-clause-some g c ring is =
    let r : Refilled = record { bytes = c.self.inside.bytes.items; page = c.self.inside.page; state = c.self.inside.state } in
    some_state r c.args.self ring c.split_at.result.1.now c.self.view_is is c.requires (c.split_at.ensures.back ∙ ap (drop 324) c.as_slice.ensures.value) c.bytes_fit.ensures

-- what a head says is what all bodies say
first_in : (head bytes whole : List ℕ) (told : ℕ) → told ≡ first_said head → head ≡ take 324 bytes → bytes ≡ whole → told ≡ first_said whole
first_in head bytes whole told is is_head same = is ∙ ap first_said is_head ∙ says_front_first 324 bytes (omega arith) ∙ ap first_said same

next_in : (head bytes whole : List ℕ) (told : ℕ) → told ≡ next_said head → head ≡ take 324 bytes → bytes ≡ whole → told ≡ next_said whole
next_in head bytes whole told is is_head same = is ∙ ap next_said is_head ∙ says_front 324 bytes (omega arith) ∙ ap next_said same

pub overflow_cast-skipped : goal.overflow_cast-skipped
overflow_cast-skipped g c =
    let r : Refilled = record { bytes = c.self.inside.bytes.items; page = c.self.inside.page; state = c.self.inside.state } in
    let first = first_in c.split_at.result.0.now c.as_slice.result.now r.bytes c.first_of-first.result c.first_of-first.ensures.value c.split_at.ensures.front c.as_slice.ensures.value in
    let next = next_in c.split_at.result.0.now c.as_slice.result.now r.bytes c.next_of-next.result c.next_of-next.ensures.value c.split_at.ensures.front c.as_slice.ensures.value in
    omega (arith, c.saturating_sub-skipped.ensures, first, next, (where_it_is r c.self.invariant.0 c.self.invariant.1).order)

pub overflow_sub-unfilled : goal.overflow_sub-unfilled
overflow_sub-unfilled g c =
    let r : Refilled = record { bytes = c.self.inside.bytes.items; page = c.self.inside.page; state = c.self.inside.state } in
    let first = first_in c.split_at.result.0.now c.as_slice.result.now r.bytes c.first_of-first.result c.first_of-first.ensures.value c.split_at.ensures.front c.as_slice.ensures.value in
    let next = next_in c.split_at.result.0.now c.as_slice.result.now r.bytes c.next_of-next.result c.next_of-next.ensures.value c.split_at.ensures.front c.as_slice.ensures.value in
    omega (arith, c.saturating_sub-skipped.ensures, first, next, (where_it_is r c.self.invariant.0 c.self.invariant.1).order)

pub restore_rows-requires : goal.restore_rows-requires
restore_rows-requires g c =
    let r : Refilled = record { bytes = c.self.inside.bytes.items; page = c.self.inside.page; state = c.self.inside.state } in
    let behind = c.split_at.result.1.now in
    let first = first_in c.split_at.result.0.now c.as_slice.result.now r.bytes c.first_of-first.result c.first_of-first.ensures.value c.split_at.ensures.front c.as_slice.ensures.value in
    let next = next_in c.split_at.result.0.now c.as_slice.result.now r.bytes c.next_of-next.result c.next_of-next.ensures.value c.split_at.ensures.front c.as_slice.ensures.value in
    subst (λ (s : StateValue). MayTake s behind c.saturating_sub-skipped.result (c.next_of-next.result % 30 - c.saturating_sub-skipped.result)) (sym c.in-Some.state-is)
    (rest_may r c.self.invariant.0 behind c.in-Some.state c.first_of-first.result c.next_of-next.result c.saturating_sub-skipped.result c.self.invariant.1 (all_here r c.args.self c.self.view_is c.requires)
    (c.split_at.ensures.back ∙ ap (drop 324) c.as_slice.ensures.value) c.bytes_fit.ensures c.in-Some.is first next c.saturating_sub-skipped.ensures)

pub returns-clause-state : goal.returns-clause-state
returns-clause-state g c ring is =
    let r : Refilled = record { bytes = c.self.inside.bytes.items; page = c.self.inside.page; state = c.self.inside.state } in
    let behind = c.split_at.result.1.now in
    let first = first_in c.split_at.result.0.now c.as_slice.result.now r.bytes c.first_of-first.result c.first_of-first.ensures.value c.split_at.ensures.front c.as_slice.ensures.value in
    let next = next_in c.split_at.result.0.now c.as_slice.result.now r.bytes c.next_of-next.result c.next_of-next.ensures.value c.split_at.ensures.front c.as_slice.ensures.value in
    let here : IsRefilled r ring = subst (λ (q : Refilled). IsRefilled q ring) (sym c.self.view_is) is in
    let is_behind = c.split_at.ensures.back ∙ ap (drop 324) c.as_slice.ensures.value in
    let all = all_here r c.args.self c.self.view_is c.requires in
    let made : c.restore_rows.new.state ≡ state_with r.bytes (next_said r.bytes - first_said r.bytes) (ring ++ behind) =
    c.restore_rows.ensures.value
    ∙ ap (λ (s : StateValue). with_rows s behind c.saturating_sub-skipped.result (c.next_of-next.result % 30 - c.saturating_sub-skipped.result)) c.in-Some.state-is
    ∙ rest_made r ring behind c.in-Some.state c.first_of-first.result c.next_of-next.result c.saturating_sub-skipped.result here all is_behind c.bytes_fit.ensures c.in-Some.is first next c.saturating_sub-skipped.ensures in
    subst (λ (q : Refilled). IsFilledBy c.restore_rows.new.state (record { bytes = q.bytes; ring = ring })) c.self.view_is
    (subst (λ (s : StateValue). IsFilledBy s (record { bytes = r.bytes; ring = ring })) (sym made) (all_spelled r ring behind here all is_behind c.bytes_fit.ensures))
