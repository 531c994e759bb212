-- Each state within limits is the state of some legal list: moments, then for each row its clock and registers and a capture,
-- and at last the clock and the registers of the state.
use Rattle.std.proofs.Common.{◌≡◌, ℕ, zero, suc, ◌+◌, ◌-◌, ◌%◌, ◌^◌, ◌<◌, ◌≤◌, min, true, false, List, [], ◌∷◌, ◌++◌, length, None, refl, arith, lit≤, lit<}
use Rattle.std.specs.Prelude.{All, ℤ, pos, ◌-ℤ◌, ◌+ℤ◌, ◌≤ℤ◌, int_le, nat_le, nat_lt}
use Rattle.std.proofs.lemmas.Int.{ints}
use Rattle.std.proofs.lemmas.Bool.Decides.{nat_tests}
use Rattle.std.proofs.lemmas.List.{length-append, append-nil}
use Rattle.std.proofs.Math.Seq.{append_snoc}
use Rattle.circular_buffer.specs.Buffer.{keep_last}
use Rattle.arrayvec.specs.ArrayVec.{ArrayVec}
use Rattle.dlms_profile.specs.declared.rows.Row.{Row}
use Rattle.dlms_profile.specs.Rows.{IsRow, none_before}
use Rattle.dlms_state.specs.declared.event.Event.{Event}
use Rattle.dlms_state.specs.declared.event.Event.TheVariants.{Pulses, Moment, SetTime, SetPeriod, SetText, SetSecret, ResetRegister, ResetProfile, Capture, SetColumns}
use Rattle.dlms_state.specs.declared.event.SecretOf.{SecretOf}
use Rattle.dlms_state.specs.declared.event.SecretOf.TheVariants.{Management, Reader}
use Rattle.dlms_state.specs.declared.event.Refused.TheVariants.{Range}
use Rattle.dlms_state.specs.Types.{FitsType, AreBytes}
use Rattle.dlms_state.specs.Events.{clock_at, first_secret, register_after, moment_after, offset_after, period_after, text_after, secret_after, columns_after, kept_after, captures, ends_in_clearing, ends_in_capture}
use Rattle.dlms_state.specs.Refusal.{refusal, unless, clock_is_in_range}
use Rattle.dlms_state.specs.StateValue.{StateValue, state_of, HasEvents, IsWithinLimits, FitsTypes}
use Rattle.dlms_state.specs.Columns.{fits_columns, first_columns, IsRowOf}
use Rattle.dlms_state.specs.Step.{step}
use Rattle.dlms_state.proofs.ColumnValues.{looked_up, looked_up-lt, looked_up-clock, values_given_back}
use Rattle.dlms_state.proofs.Legal.{IsLegal-none}
use Rattle.dlms_state.proofs.StateLaw.{IsStateOf-step}
use Rattle.dlms_state.specs.declared.event.TheConstants.{LAST_SECOND}
use Rattle.dlms_profile.specs.declared.rows.TheConstants.{CAPACITY}

-- ---- one event more

HasEvents-step : (s : StateValue) (e : Event) → FitsType e → refusal s.last s.offset e ≡ None → HasEvents s → HasEvents (step e s)
HasEvents-step s e fits fine had = record { events = had.events ++ e ∷ []; state = IsStateOf-step s (step e s) e e refl fits fine refl had.events had.state }

abbrev first_state : ℕ → StateValue
first_state next = record { registers = 0 ∷ 0 ∷ 0 ∷ []; last = 0; offset = pos 0; period = 900; text = []; secret = first_secret Management; reader_secret = first_secret Reader; columns = first_columns; rows = none_before next }

first_is : first_state 0 ≡ state_of []
unfolding register_after moment_after offset_after period_after text_after secret_after columns_after kept_after captures ends_in_clearing ends_in_capture
first_is = refl

HasEvents-first : HasEvents (first_state 0)
HasEvents-first = record { events = []; state = record { legal = IsLegal-none; value = first_is } }

-- this many rows captured, and none kept
HasEvents-numbered : (next : ℕ) → HasEvents (first_state next)
HasEvents-numbered zero = HasEvents-first
HasEvents-numbered (suc n) =
    let one : n + 1 ≡ suc n = omega arith in
    let taken = HasEvents-step (first_state n) Capture tt refl (HasEvents-numbered n) in
    rw one at (HasEvents-step _ ResetProfile tt refl taken)

-- ---- events that pass

in_range_passes : (z : ℤ) → pos 0 ≤ℤ z → z ≤ℤ pos LAST_SECOND → unless Range (clock_is_in_range z) ≡ None
in_range_passes z low high =
    let above : int_le (pos 0) z ≡ true = grind (arith, ints) in
    let below : int_le z (pos LAST_SECOND) ≡ true = grind (arith, ints) in
    rw (above, below) refl

moment_passes : (last t : ℕ) (offset : ℤ) → last ≤ t → pos 0 ≤ℤ (pos t +ℤ offset) → (pos t +ℤ offset) ≤ℤ pos LAST_SECOND → refusal last offset (Moment t) ≡ None
moment_passes last t offset on low high =
    let not_back : nat_lt t last ≡ false = grind (arith, nat_tests) in
    rw not_back (in_range_passes (pos t +ℤ offset) low high)

time_passes : (last : ℕ) (offset : ℤ) (t : ℕ) → t ≤ LAST_SECOND → refusal last offset (SetTime t) ≡ None
time_passes last offset t high = in_range_passes (pos t) (omega (arith, ints)) (omega (arith, ints))

period_passes : (last : ℕ) (offset : ℤ) (p : ℕ) → p ≤ 86400 → refusal last offset (SetPeriod p) ≡ None
period_passes last offset p high =
    let fits : nat_le p 86400 ≡ true = grind (arith, nat_tests) in
    rw fits refl

secret_passes : (last : ℕ) (offset : ℤ) (of : SecretOf) (b : ArrayVec ℕ) → 0 < length b.items → refusal last offset (SetSecret of b) ≡ None
secret_passes last offset of b some =
    let fits : nat_lt 0 (length b.items) ≡ true = grind (arith, nat_tests) in
    rw fits refl

columns_pass : (last : ℕ) (offset : ℤ) (ids : ArrayVec ℕ) → fits_columns ids.items ≡ true → refusal last offset (SetColumns ids) ≡ None
columns_pass last offset ids fits = rw fits refl

-- ---- the moment, the period, the text and the secret, with no row

-- the last moment that the clock can pass without being set
abbrev stop_at : ℕ → ℕ
stop_at last = min last LAST_SECOND

-- what is set of a state but for its clock
record Settings : Type 0 where
  period : ℕ
  text : List ℕ
  secret : List ℕ
  reader_secret : List ℕ
  columns : List ℕ

-- a state without rows, its registers at 0, its clock as the moments leave it
abbrev settled : ℕ → ℕ → Settings → StateValue
settled next last set = record { registers = 0 ∷ 0 ∷ 0 ∷ []; last = last; offset = pos 0 -ℤ pos (stop_at last); period = set.period; text = set.text; secret = set.secret; reader_secret = set.reader_secret; columns = set.columns; rows = none_before next }

abbrev first_settings : Settings
first_settings = record { period = 0; text = []; secret = first_secret Management; reader_secret = first_secret Reader; columns = first_columns }

abbrev bytes_of : List ℕ → ArrayVec ℕ
bytes_of bytes = record { items = bytes }

HasEvents-moments : (next last : ℕ) → last < 2 ^ 32 → HasEvents (settled next last first_settings)
HasEvents-moments next last small =
    let stop : ℕ = stop_at last in
    let low : stop ≤ last = omega arith in
    let high : stop ≤ LAST_SECOND = omega arith in
    let near : last ≤ stop + LAST_SECOND = omega arith in
    let quiet = HasEvents-step (first_state next) (SetPeriod 0) (lit< tt) refl (HasEvents-numbered next) in
    let stopped = HasEvents-step _ (Moment stop) (omega arith) (moment_passes 0 stop (pos 0) (omega arith) (omega (arith, ints)) (omega (arith, ints))) quiet in
    let set = HasEvents-step _ (SetTime 0) (lit< tt) (time_passes stop (pos 0) 0 (lit≤ tt)) stopped in
    HasEvents-step _ (Moment last) small (moment_passes stop last (pos 0 -ℤ pos stop) low (omega (arith, ints)) (omega (arith, ints))) set

-- what settings are possible
record AreSettings (set : Settings) : Type 0 where
  day : set.period ≤ 86400
  text : AreBytes 240 set.text
  secret : AreBytes 16 set.secret
  some : 0 < length set.secret
  reader_secret : AreBytes 16 set.reader_secret
  reader_some : 0 < length set.reader_secret
  columns : AreBytes 4 set.columns
  fit : fits_columns set.columns ≡ true

HasEvents-settled : (next last : ℕ) (set : Settings) → last < 2 ^ 32 → AreSettings set → HasEvents (settled next last set)
HasEvents-settled next last set small can =
    let o : ℤ = pos 0 -ℤ pos (stop_at last) in
    let day : set.period ≤ 86400 = can.day in
    let timed = HasEvents-step (settled next last first_settings) (SetPeriod set.period) (omega arith) (period_passes last o set.period day) (HasEvents-moments next last small) in
    let texted = HasEvents-step (settled next last (record first_settings { period = set.period })) (SetText (bytes_of set.text)) can.text refl timed in
    let managed = HasEvents-step (settled next last (record first_settings { period = set.period; text = set.text })) (SetSecret Management (bytes_of set.secret)) can.secret (secret_passes last o Management (bytes_of set.secret) can.some) texted in
    let read = HasEvents-step (settled next last (record first_settings { period = set.period; text = set.text; secret = set.secret })) (SetSecret Reader (bytes_of set.reader_secret)) can.reader_secret (secret_passes last o Reader (bytes_of set.reader_secret) can.reader_some) managed in
    HasEvents-step (settled next last (record set { columns = first_columns })) (SetColumns (bytes_of set.columns)) can.columns (columns_pass last o (bytes_of set.columns) can.fit) read

-- ---- the clock and the registers

abbrev with_values : StateValue → ℕ → ℕ → ℕ → ℤ → StateValue
with_values s x y z offset = record s { registers = x ∷ y ∷ z ∷ []; offset = offset }

abbrev with_rows : StateValue → List Row → ℕ → StateValue
with_rows s rows next = record s { rows = record { items = rows; next = next } }

-- events leave the state, with some clock and some registers
record HasSome (s : StateValue) : Type 0 where
  a : ℕ
  b : ℕ
  c : ℕ
  offset : ℤ
  events : HasEvents (with_values s a b c offset)

counted_up : (x : ℕ) → x < 2 ^ 32 → (0 + x) % 2 ^ 32 ≡ x
counted_up x small = omega arith

HasEvents-values : (s : StateValue) (x y z clock : ℕ) → x < 2 ^ 32 → y < 2 ^ 32 → z < 2 ^ 32 → clock ≤ LAST_SECOND → HasSome s → HasEvents (with_values s x y z (pos clock -ℤ pos s.last))
HasEvents-values s x y z clock fx fy fz high some =
    let o : ℤ = pos clock -ℤ pos s.last in
    let set = HasEvents-step (with_values s some.a some.b some.c some.offset) (SetTime clock) (omega arith) (time_passes s.last some.offset clock high) some.events in
    let none0 = HasEvents-step (with_values s some.a some.b some.c o) (ResetRegister 0) (lit< tt) refl set in
    let none1 = HasEvents-step (with_values s 0 some.b some.c o) (ResetRegister 1) (lit< tt) refl none0 in
    let none2 = HasEvents-step (with_values s 0 0 some.c o) (ResetRegister 2) (lit< tt) refl none1 in
    let one = rw (counted_up x fx) at (HasEvents-step (with_values s 0 0 0 o) (Pulses 0 x) (lit< tt, fx) refl none2) in
    let two = rw (counted_up y fy) at (HasEvents-step (with_values s x 0 0 o) (Pulses 1 y) (lit< tt, fy) refl one) in
    rw (counted_up z fz) at (HasEvents-step (with_values s x y 0 o) (Pulses 2 z) (lit< tt, fz) refl two)

-- ---- the rows

shown : (clock last : ℕ) → clock_at last (pos clock -ℤ pos last) ≡ clock
shown clock last = omega (arith, ints)

all_kept : (rows : List Row) → length rows ≤ CAPACITY → keep_last CAPACITY rows ≡ rows
all_kept rows short =
    let none : length rows - CAPACITY ≡ 0 = omega arith in
    rw none refl

HasSome-row : (s : StateValue) (row : Row) → IsRow row → IsRowOf s.columns row → fits_columns s.columns ≡ true → length s.rows.items < CAPACITY →
    HasSome s → HasSome (with_rows s (s.rows.items ++ row ∷ []) (s.rows.next + 1))
HasSome-row s row fit of columns room some =
    let values : List ℕ = row.values.items in
    let clock : ℕ = looked_up s.columns values 0 in
    let x : ℕ = looked_up s.columns values 1 in
    let y : ℕ = looked_up s.columns values 2 in
    let z : ℕ = looked_up s.columns values 3 in
    let o : ℤ = pos clock -ℤ pos s.last in
    let set = HasEvents-values s x y z clock (looked_up-lt s.columns values 1 fit.values) (looked_up-lt s.columns values 2 fit.values) (looked_up-lt s.columns values 3 fit.values) (looked_up-clock s.columns values of.clock) some in
    let taken = HasEvents-step (with_values s x y z o) Capture tt refl set in
    let short : length (s.rows.items ++ row ∷ []) ≤ CAPACITY = simp length-append (omega arith) in
    let back = values_given_back s.columns values columns of.count in
    record { a = x; b = y; c = z; offset = o; events = rw (all_kept (s.rows.items ++ row ∷ []) short) at (rw back at (rw (shown clock s.last) at taken)) }

HasSome-rows : (rows : List Row) (s : StateValue) → All IsRow rows → All (IsRowOf s.columns) rows → fits_columns s.columns ≡ true → length s.rows.items + length rows ≤ CAPACITY → HasSome s → HasSome (with_rows s (s.rows.items ++ rows) (s.rows.next + length rows))
HasSome-rows [] s fit of columns room some =
    let none : s.rows.next + 0 ≡ s.rows.next = omega arith in
    rw (append-nil s.rows.items, none) some
HasSome-rows (row ∷ rows) s fit of columns room some =
    let first = HasSome-row s row (fit 0 row (omega arith)) (of 0 row (omega arith)) columns (omega arith) some in
    let next : StateValue = with_rows s (s.rows.items ++ row ∷ []) (s.rows.next + 1) in
    let count : length next.rows.items + length rows ≤ CAPACITY = simp length-append (omega arith) in
    let number : (s.rows.next + 1) + length rows ≡ s.rows.next + suc (length rows) = omega arith in
    rw (append_snoc, number) at (HasSome-rows rows next (λ k d low. fit (suc k) d (omega arith)) (λ k d low. of (suc k) d (omega arith)) columns count first)

-- ---- the whole state

back_to : (last : ℕ) (offset : ℤ) → pos 0 ≤ℤ (pos last +ℤ offset) → (pos (clock_at last offset) -ℤ pos last) ≡ offset
back_to last offset low = omega (arith, ints)

clock_le : (last : ℕ) (offset : ℤ) → pos 0 ≤ℤ (pos last +ℤ offset) → (pos last +ℤ offset) ≤ℤ pos LAST_SECOND → clock_at last offset ≤ LAST_SECOND
clock_le last offset low high = grind (arith, ints)

with_registers : (registers : List ℕ) (s : StateValue) → length registers ≡ 3 → All (λ value. value < 2 ^ 32) registers → pos 0 ≤ℤ (pos s.last +ℤ s.offset) → (pos s.last +ℤ s.offset) ≤ℤ pos LAST_SECOND →
    HasSome s → HasEvents (record s { registers = registers })
with_registers [] s count fit low high some = cc
with_registers (x ∷ []) s count fit low high some = cc
with_registers (x ∷ y ∷ []) s count fit low high some = cc
with_registers (x ∷ y ∷ z ∷ w ∷ more) s count fit low high some = cc
with_registers (x ∷ y ∷ z ∷ []) s count fit low high some =
    rw (back_to s.last s.offset low) at (HasEvents-values s x y z (clock_at s.last s.offset) (fit 0 0 (lit< tt)) (fit 1 0 (lit< tt)) (fit 2 0 (lit< tt)) (clock_le s.last s.offset low high) some)

pub HasEvents-within : (s : StateValue) → IsWithinLimits s → FitsTypes s → HasEvents s
HasEvents-within s limits types =
    let first : ℕ = s.rows.next - length s.rows.items in
    let number : first + length s.rows.items ≡ s.rows.next = let order : length s.rows.items ≤ s.rows.next = types.order in omega arith in
    let set : Settings = record { period = s.period; text = s.text; secret = s.secret; reader_secret = s.reader_secret; columns = s.columns } in
    let can : AreSettings set = record { day = limits.period; text = types.text; secret = types.secret; some = limits.secret; reader_secret = types.reader_secret; reader_some = limits.reader_secret; columns = types.columns; fit = limits.columns } in
    let start = HasEvents-settled first s.last set types.last can in
    let settings : StateValue = record s { rows = none_before first } in
    let some : HasSome settings = record { a = 0; b = 0; c = 0; offset = pos 0 -ℤ pos (stop_at s.last); events = start } in
    let filled = rw number at (HasSome-rows s.rows.items settings types.rows limits.rows limits.columns (let room : length s.rows.items ≤ CAPACITY = types.room in omega arith) some) in
    with_registers s.registers s types.count types.registers limits.not_before limits.not_after (record { a = filled.a; b = filled.b; c = filled.c; offset = filled.offset; events = filled.events })
