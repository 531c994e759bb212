-- A legal list leaves a state that fits its types.
use Rattle.std.proofs.Common.{◌≡◌, ℕ, ◌^◌, ◌<◌, ◌≤◌, Bool, true, false, List, [], ◌∷◌, ◌++◌, length, refl, arith, rules, lit≤, lit<}
use Rattle.std.specs.Prelude.{All, pos, ◌+ℤ◌, None, if◌then◌else◌}
use Rattle.std.proofs.lemmas.List.{length-drop}
use Rattle.std.proofs.lemmas.List.Elements.{All-drop, All-append}
use Rattle.circular_buffer.specs.Buffer.{keep_last}
use Rattle.dlms_profile.specs.declared.rows.Row.{Row}
use Rattle.dlms_profile.specs.Rows.{IsRow}
use Rattle.dlms_state.specs.declared.event.Event.{Event}
use Rattle.dlms_state.specs.declared.event.Event.TheVariants.{Pulses, Moment, SetTime, Shift, AdjustMinute, SetPeriod, SetText, SetSecret, ResetRegister, ResetProfile, Capture, SetColumns}
use Rattle.dlms_state.specs.declared.event.SecretOf.TheVariants.{Management, Reader}
use Rattle.dlms_state.specs.Types.{FitsType, AreBytes}
use Rattle.dlms_state.specs.Events.{registers_after, moment_after, text_after, secret_after, columns_after, clock_at, kept_after, ends_in_clearing, ends_in_capture}
use Rattle.dlms_state.specs.Refusal.{IsLegal, refusal}
use Rattle.dlms_state.specs.StateValue.{StateValue, state_of, FitsTypes, IsWithinLimits, row_of}
use Rattle.dlms_state.specs.Step.{step, captured}
use Rattle.dlms_state.proofs.Legal.{IsLegal-beginning}
use Rattle.dlms_state.proofs.Captures.{buffer-le}
use Rattle.dlms_state.proofs.StateLaw.{state_of-more, register_after-lt}
use Rattle.dlms_state.proofs.Limits.{by_more, IsWithinLimits-legal, range_parts, not_back, clock_le}
use Rattle.dlms_state.proofs.ColumnValues.{IsRow-captured}
use Rattle.dlms_state.specs.declared.event.TheConstants.{LAST_SECOND}
use Rattle.dlms_profile.specs.declared.rows.TheConstants.{CAPACITY}

-- three registers of 32 bits
record ThreeWords (words : List ℕ) : Type 0 where
  count : length words ≡ 3
  each : All (λ value. value < 2 ^ 32) words

-- what the types admit, but for the registers
record RestFits (s : StateValue) : Type 0 where
  last : s.last < 2 ^ 32
  text : AreBytes 240 s.text
  secret : AreBytes 16 s.secret
  reader_secret : AreBytes 16 s.reader_secret
  columns : AreBytes 4 s.columns
  room : length s.rows.items ≤ CAPACITY
  rows : All IsRow s.rows.items

three_fit : (a b c : ℕ) → a < 2 ^ 32 → b < 2 ^ 32 → c < 2 ^ 32 → All (λ value. value < 2 ^ 32) (a ∷ b ∷ c ∷ [])
three_fit a b c fa fb fc = search rules

registers_fit : (E : List Event) → ThreeWords (registers_after E)
registers_fit E = record { count = refl; each = three_fit _ _ _ (register_after-lt 0 E) (register_after-lt 1 E) (register_after-lt 2 E) }

one_row : (row : Row) → IsRow row → All IsRow (row ∷ [])
one_row row h = search rules

rows_fit-more : (rows : List Row) (row : Row) → All IsRow rows → IsRow row → All IsRow (keep_last CAPACITY (rows ++ row ∷ []))
rows_fit-more rows row before h = All-drop IsRow _ _ (All-append IsRow rows (row ∷ []) before (one_row row h))

kept_is_short : (rows : List Row) → length (keep_last CAPACITY rows) ≤ CAPACITY
kept_is_short rows = simp length-drop (omega arith)

captured_fits : (s : StateValue) → clock_at s.last s.offset ≤ LAST_SECOND → ThreeWords s.registers → RestFits s → RestFits (captured s)
captured_fits s high three rest = record {
  last = rest.last;
  text = rest.text;
  secret = rest.secret;
  reader_secret = rest.reader_secret;
  columns = rest.columns;
  room = kept_is_short (s.rows.items ++ row_of s ∷ []);
  rows = rows_fit-more s.rows.items (row_of s) rest.rows (IsRow-captured s.columns _ s.registers rest.columns.count (omega arith) three.each);
}

either_fits : (b : Bool) (s : StateValue) → clock_at s.last s.offset ≤ LAST_SECOND → ThreeWords s.registers → RestFits s → RestFits (if b then captured s else s)
either_fits true s high three rest = captured_fits s high three rest
either_fits false s high three rest = rest

moment_high : (s : StateValue) (t : ℕ) → refusal s.last s.offset (Moment t) ≡ None → clock_at t s.offset ≤ LAST_SECOND
moment_high s t fine = let fits = range_parts (pos t +ℤ s.offset) (not_back _ _ _ fine) in clock_le _ _ fits.0 fits.1

step_fits : (e : Event) (s : StateValue) → FitsType e → refusal s.last s.offset e ≡ None → IsWithinLimits s → ThreeWords s.registers → RestFits s → RestFits (step e s)
step_fits (Pulses c n) s fits fine limits three rest = record { last = rest.last; text = rest.text; secret = rest.secret; reader_secret = rest.reader_secret; columns = rest.columns; room = rest.room; rows = rest.rows }
step_fits (Moment t) s fits fine limits three rest = either_fits _ (record s { last = t }) (moment_high s t fine) three (record { last = fits; text = rest.text; secret = rest.secret; reader_secret = rest.reader_secret; columns = rest.columns; room = rest.room; rows = rest.rows })
step_fits (SetTime t) s fits fine limits three rest = record { last = rest.last; text = rest.text; secret = rest.secret; reader_secret = rest.reader_secret; columns = rest.columns; room = rest.room; rows = rest.rows }
step_fits (Shift by) s fits fine limits three rest = record { last = rest.last; text = rest.text; secret = rest.secret; reader_secret = rest.reader_secret; columns = rest.columns; room = rest.room; rows = rest.rows }
step_fits AdjustMinute s fits fine limits three rest = record { last = rest.last; text = rest.text; secret = rest.secret; reader_secret = rest.reader_secret; columns = rest.columns; room = rest.room; rows = rest.rows }
step_fits (SetPeriod p) s fits fine limits three rest = record { last = rest.last; text = rest.text; secret = rest.secret; reader_secret = rest.reader_secret; columns = rest.columns; room = lit≤ tt; rows = search rules }
step_fits (SetText b) s fits fine limits three rest = record { last = rest.last; text = fits; secret = rest.secret; reader_secret = rest.reader_secret; columns = rest.columns; room = rest.room; rows = rest.rows }
step_fits (SetSecret Management b) s fits fine limits three rest = record { last = rest.last; text = rest.text; secret = fits; reader_secret = rest.reader_secret; columns = rest.columns; room = rest.room; rows = rest.rows }
step_fits (SetSecret Reader b) s fits fine limits three rest = record { last = rest.last; text = rest.text; secret = rest.secret; reader_secret = fits; columns = rest.columns; room = rest.room; rows = rest.rows }
step_fits (ResetRegister c) s fits fine limits three rest = record { last = rest.last; text = rest.text; secret = rest.secret; reader_secret = rest.reader_secret; columns = rest.columns; room = rest.room; rows = rest.rows }
step_fits ResetProfile s fits fine limits three rest = record { last = rest.last; text = rest.text; secret = rest.secret; reader_secret = rest.reader_secret; columns = rest.columns; room = lit≤ tt; rows = search rules }
step_fits Capture s fits fine limits three rest = captured_fits s (clock_le _ _ limits.not_before limits.not_after) three rest
step_fits (SetColumns ids) s fits fine limits three rest = record { last = rest.last; text = rest.text; secret = rest.secret; reader_secret = rest.reader_secret; columns = fits; room = lit≤ tt; rows = search rules }

none_fits : RestFits (state_of [])
unfolding moment_after text_after secret_after columns_after kept_after ends_in_clearing ends_in_capture
none_fits = record {
  last = lit< tt;
  text = record { count = lit≤ tt; each = search rules };
  secret = record { count = lit≤ tt; each = search rules };
  reader_secret = record { count = lit≤ tt; each = search rules };
  columns = record { count = lit≤ tt; each = search rules };
  room = lit≤ tt;
  rows = search rules;
}

rest_fits : (E : List Event) → IsLegal E → RestFits (state_of E)
rest_fits =
    by_more (λ E. IsLegal E → RestFits (state_of E)) (λ _. none_fits)
    (λ E e before legal.
    let earlier : IsLegal E = IsLegal-beginning E (e ∷ []) legal in
    let follows = legal.each E e [] refl in
    rw (state_of-more E e) (step_fits e (state_of E) follows.fits follows.passes (IsWithinLimits-legal E earlier) (registers_fit E) (before earlier)))

pub FitsTypes-legal : (E : List Event) → IsLegal E → FitsTypes (state_of E)
FitsTypes-legal E legal =
    let three = registers_fit E in
    let rest = rest_fits E legal in
    record {
      count = three.count;
      registers = three.each;
      last = rest.last;
      text = rest.text;
      secret = rest.secret;
      reader_secret = rest.reader_secret;
      columns = rest.columns;
      room = rest.room;
      order = buffer-le E;
      rows = rest.rows;
    }
