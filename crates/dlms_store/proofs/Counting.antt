-- How many rows events capture.
use Rattle.std.proofs.Common.{◌≡◌, ℕ, ◌+◌, ◌-◌, ◌^◌, ◌<◌, ◌≤◌, min, Bool, true, false, cond, List, [], ◌∷◌, ◌++◌, length, refl, ◌∙◌, ap, subst, arith}
use Rattle.std.specs.Prelude.{nat_lt, if◌then◌else◌}
use Rattle.std.proofs.lemmas.Bool.Decides.{nat_tests}
use Rattle.dlms_state.specs.declared.event.Event.{Event}
use Rattle.dlms_state.specs.declared.event.Event.TheVariants.{Pulses, Moment, SetTime, Shift, AdjustMinute, SetPeriod, SetText, SetSecret, ResetRegister, ResetProfile, Capture, SetColumns}
use Rattle.dlms_state.specs.declared.event.SecretOf.TheVariants.{Management, Reader}
use Rattle.dlms_state.specs.Events.{captures, clock_at, passes}
use Rattle.dlms_state.specs.Step.{step, captured, clocked}
use Rattle.dlms_state.specs.StateValue.{StateValue, IsStateOf, HasNumberFor, captures_a_row}
use Rattle.dlms_state.specs.OutlookValue.{captures_by_the_later}
use Rattle.dlms_state.proofs.Captures.{captures-le}
use Rattle.dlms_state.proofs.StateLaw.{state_of-more}
use Rattle.dlms_store.specs.Image.{HasRing}

same_next : (n : ℕ) → n ≡ n + 0
same_next n = omega arith

after_moment : (b : Bool) (n m k : ℕ) → k ≡ n + 1 → m ≡ n → (if b then k else m) ≡ n + cond b 1 0
after_moment true n m k one same = one
after_moment false n m k one same = omega (arith, same)

if_next : (b : Bool) (s t : StateValue) → (if b then s else t).rows.next ≡ (if b then s.rows.next else t.rows.next)
if_next true s t = refl
if_next false s t = refl

-- the number of the next row after one event more
next_after : (e : Event) (s : StateValue) → (step e s).rows.next ≡ s.rows.next + cond (captures_a_row s e) 1 0
next_after (Pulses c n) s = same_next s.rows.next
next_after (Moment t) s =
    let b = passes s.period (clock_at s.last s.offset) (clock_at t s.offset) in
    if_next b (captured (clocked (Moment t) s)) (clocked (Moment t) s) ∙ after_moment b s.rows.next s.rows.next (s.rows.next + 1) refl refl
next_after (SetTime t) s = same_next s.rows.next
next_after (Shift by) s = same_next s.rows.next
next_after AdjustMinute s = same_next s.rows.next
next_after (SetPeriod p) s = same_next s.rows.next
next_after (SetText b) s = same_next s.rows.next
next_after (SetSecret Management b) s = same_next s.rows.next
next_after (SetSecret Reader b) s = same_next s.rows.next
next_after (SetColumns ids) s = same_next s.rows.next
next_after (ResetRegister c) s = same_next s.rows.next
next_after ResetProfile s = same_next s.rows.next
next_after Capture s = refl

-- how many rows one event more captures
pub count_more : (E : List Event) (e : Event) (s : StateValue) → IsStateOf E s → length (captures (E ++ e ∷ [])) ≡ s.rows.next + cond (captures_a_row s e) 1 0
count_more E e s is = ap (λ (t : StateValue). t.rows.next) (state_of-more E e) ∙ subst (λ (t : StateValue). (step e t).rows.next ≡ s.rows.next + cond (captures_a_row s e) 1 0) is.value (next_after e s)

-- a state's next number is how many rows its events captured
pub counted : (E : List Event) (s : StateValue) → IsStateOf E s → s.rows.next ≡ length (captures E)
counted E s is = ap (λ (t : StateValue). t.rows.next) is.value

-- the number of rows that one event captures shows whether it captures one
pub tells_a_row : (b : Bool) (n m k rows : ℕ) → n ≡ k → m ≡ k + cond b 1 0 → rows ≡ min (m - n) 4294967295 → nat_lt 0 rows ≡ b
tells_a_row true n m k rows same more is = (let some : 0 < rows = omega (arith, same, more, is) in grind (arith, nat_tests))
tells_a_row false n m k rows same more is = (let none : rows ≡ 0 = omega (arith, same, more, is) in grind (arith, nat_tests))

one_at_most : (b : Bool) (n m : ℕ) → m ≡ n + cond b 1 0 → (n ≤ m) × (m ≤ n + 1)
one_at_most true n m is = (omega (arith, is), omega (arith, is))
one_at_most false n m is = (omega (arith, is), omega (arith, is))

-- one event captures one row at most
pub one_more : (E : List Event) (e : Event) (s t : StateValue) → IsStateOf E s → IsStateOf (E ++ e ∷ []) t → (s.rows.next ≤ t.rows.next) × (t.rows.next ≤ s.rows.next + 1)
one_more E e s t is also = one_at_most (captures_a_row s e) s.rows.next t.rows.next (counted (E ++ e ∷ []) t also ∙ count_more E e s is)

numbered : (b : Bool) (n m : ℕ) → m ≡ n + cond b 1 0 → m ≤ 2 ^ 64 → b ≡ true → n < 2 ^ 64
numbered true n m is few same = omega (arith, is, few)
numbered false n m is few same = absurd cc

-- a beginning of events whose rows have numbers of 64 bits leaves a number for the next event
pub number_next : (E : List Event) (e : Event) (F : List Event) (s : StateValue) → IsStateOf E s → length (captures ((E ++ e ∷ []) ++ F)) ≤ 2 ^ 64 → HasNumberFor s e
number_next E e F s is few =
    numbered (captures_a_row s e) s.rows.next (length (captures (E ++ e ∷ []))) (count_more E e s is) (let le = captures-le (E ++ e ∷ []) F in omega (arith, le, few))

-- the ring takes the rows of events that were counted
pub ring_takes : (checkpointed : ℕ) (E F : List Event) (s : StateValue) (rows : ℕ) → IsStateOf E s → checkpointed ≤ s.rows.next → rows ≡ min (captures_by_the_later E F) 4294967295 → s.rows.next + rows ≤ checkpointed + 240 → s.rows.next + rows ≤ 2 ^ 64 → HasRing checkpointed (E ++ F)
ring_takes checkpointed E F s rows is before count few numbers =
    let le = captures-le E F in
    record { few = omega (arith, le, counted E s is, before, count, few); numbers = omega (arith, le, counted E s is, before, count, few, numbers) }

-- and it takes them only so
pub taken_by_ring : (checkpointed : ℕ) (E F : List Event) (s : StateValue) (rows : ℕ) → IsStateOf E s → rows ≡ min (captures_by_the_later E F) 4294967295 → HasRing checkpointed (E ++ F) → (s.rows.next + rows ≤ checkpointed + 240) × (s.rows.next + rows ≤ 2 ^ 64)
taken_by_ring checkpointed E F s rows is count ring =
    let le = captures-le E F in
    (omega (arith, le, counted E s is, count, ring.few), omega (arith, le, counted E s is, count, ring.numbers))
