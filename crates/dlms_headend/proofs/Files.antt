-- Lines and files.
use Rattle.std.proofs.Common.{arith, refl, sym, ap, ◌∙◌, ◌≡◌, ◌<◌, ◌≤◌, ◌+◌, ◌^◌, ℕ, List, [], ◌∷◌, ◌++◌, length, append_assoc, All, length-append, slice_index, take, get_or, zero, suc, Bool, true, false, filter, if◌then◌else◌, subst, IfErr, OnErr, Result, Ok, Err, MatchResult}
use Rattle.std.proofs.lemmas.Bool.Decides.{nat_tests}
use Rattle.std.proofs.lemmas.List.Elements.{All-cons, All-nil, All-push, All-head, All-tail}
use Rattle.std.specs.Prelude.{Option}
use Rattle.dlms_headend.specs.declared.row.Row.{Row}
use Rattle.dlms_headend.proofs.Fields.{same_field, field_is_longer}
use Rattle.dlms_headend.specs.Merged.{is_added, is_later, is_reading, readings_in}
use Rattle.dlms_headend.specs.Rows.{AreReadings, HaveRegisters, IsReading}
use Rattle.dlms_headend.specs.Lines.{field, line, lines, text_of, IsFile, BeginsWith, IsFirstFault, Refuses}
use Rattle.dlms_headend.specs.declared.readings_fault.ReadingsFault.{ReadingsFault}
use Rattle.dlms_headend.specs.declared.readings_fault.ReadingsFault.TheVariants.{Line, Memory}
use Rattle.std.specs.Fmt.{decimal}
use Rattle.std.specs.Prelude.{IsErrAnd}
use Rattle.std.proofs.lemmas.List.{take_more}
use Rattle.dlms_data.specs.declared.date_time.TheConstants.{LAST_SECOND}

-- so many lines were read, and the rest follows
pub record HasRead (text : List ℕ) (count : ℕ) (rest : List ℕ) : Type 0 where
  pub rows : List Row
  pub spelled : text ≡ lines rows rest
  pub readings : All IsReading rows
  pub counted : count ≡ length rows
  pub shorter : count + length rest ≤ length text

-- ---- the parts of a row's line

register : (row : Row) → IsReading row → (k : ℕ) → k < 3 → slice_index row.registers k < 2 ^ 32
register row h k within = h.registers k 0 (omega (arith, h.count))

abbrev after_second : Row → List ℕ → List ℕ
after_second row rest = field (slice_index row.registers 2) 10 rest

abbrev after_first : Row → List ℕ → List ℕ
after_first row rest = field (slice_index row.registers 1) 44 (after_second row rest)

abbrev after_clock : Row → List ℕ → List ℕ
after_clock row rest = field (slice_index row.registers 0) 44 (after_first row rest)

clock_fits : (row : Row) → IsReading row → row.clock < 2 ^ 32
clock_fits row h = omega (arith, h.clock)

pub clock_parts : (bytes behind rest : List ℕ) (n : ℕ) (row : Row) → n < 2 ^ 32 → bytes ≡ field n 44 behind → BeginsWith bytes row rest → (n ≡ row.clock) × (behind ≡ after_clock row rest)
clock_parts bytes behind rest n row fits e h = same_field n row.clock 44 behind (after_clock row rest) (omega arith) fits (clock_fits row h.reading) (sym e ∙ h.spelled)

pub first_parts : (bytes behind rest : List ℕ) (n : ℕ) (row : Row) → n < 2 ^ 32 → IsReading row → bytes ≡ after_clock row rest → bytes ≡ field n 44 behind → (n ≡ slice_index row.registers 0) × (behind ≡ after_first row rest)
first_parts bytes behind rest n row fits h e f = same_field n (slice_index row.registers 0) 44 behind (after_first row rest) (omega arith) fits (register row h 0 (omega arith)) (sym f ∙ e)

pub second_parts : (bytes behind rest : List ℕ) (n : ℕ) (row : Row) → n < 2 ^ 32 → IsReading row → bytes ≡ after_first row rest → bytes ≡ field n 44 behind → (n ≡ slice_index row.registers 1) × (behind ≡ after_second row rest)
second_parts bytes behind rest n row fits h e f = same_field n (slice_index row.registers 1) 44 behind (after_second row rest) (omega arith) fits (register row h 1 (omega arith)) (sym f ∙ e)

-- if a field is missing the bytes begin with no line
pub no_clock : (bytes rest : List ℕ) (row : Row) → ((n : ℕ) (more : List ℕ) → n < 2 ^ 32 → bytes ≡ field n 44 more → ⊥) → BeginsWith bytes row rest → ⊥
no_clock bytes rest row none h = none row.clock (after_clock row rest) (clock_fits row h.reading) h.spelled

pub no_first : (bytes behind rest : List ℕ) (n : ℕ) (row : Row) → n < 2 ^ 32 → bytes ≡ field n 44 behind → ((n : ℕ) (more : List ℕ) → n < 2 ^ 32 → behind ≡ field n 44 more → ⊥) → BeginsWith bytes row rest → ⊥
no_first bytes behind rest n row fits e none h =
    none (slice_index row.registers 0) (after_first row rest) (register row h.reading 0 (omega arith)) (clock_parts bytes behind rest n row fits e h).1

pub no_second : (bytes a b rest : List ℕ) (n m : ℕ) (row : Row) → n < 2 ^ 32 → m < 2 ^ 32 → bytes ≡ field n 44 a → a ≡ field m 44 b → ((n : ℕ) (more : List ℕ) → n < 2 ^ 32 → b ≡ field n 44 more → ⊥)
    → BeginsWith bytes row rest → ⊥
no_second bytes a b rest n m row n_fits m_fits e f none h =
    let clock = clock_parts bytes a rest n row n_fits e h in
    let first = first_parts a b rest m row m_fits h.reading clock.1 f in
    none (slice_index row.registers 1) (after_second row rest) (register row h.reading 1 (omega arith)) first.1

pub no_third : (bytes a b c rest : List ℕ) (n m k : ℕ) (row : Row) → n < 2 ^ 32 → m < 2 ^ 32 → k < 2 ^ 32 → bytes ≡ field n 44 a → a ≡ field m 44 b → b ≡ field k 44 c
    → ((n : ℕ) (more : List ℕ) → n < 2 ^ 32 → c ≡ field n 10 more → ⊥) → BeginsWith bytes row rest → ⊥
no_third bytes a b c rest n m k row n_fits m_fits k_fits e f g none h =
    let clock = clock_parts bytes a rest n row n_fits e h in
    let first = first_parts a b rest m row m_fits h.reading clock.1 f in
    let second = second_parts b c rest k row k_fits h.reading first.1 g in
    none (slice_index row.registers 2) rest (register row h.reading 2 (omega arith)) second.1

pub late_clock : (bytes behind rest : List ℕ) (n : ℕ) (row : Row) → n < 2 ^ 32 → bytes ≡ field n 44 behind → LAST_SECOND < n → BeginsWith bytes row rest → ⊥
late_clock bytes behind rest n row fits e late h = let clock = clock_parts bytes behind rest n row fits e h in omega (arith, clock.0, h.reading.clock)

-- ---- lines read

pub read_none : (text : List ℕ) → HasRead text 0 text
read_none text = record { rows = []; spelled = refl; readings = λ k d h. absurd (omega arith); counted = refl; shorter = omega arith }

lines-append : (rows more : List Row) (rest : List ℕ) → lines (rows ++ more) rest ≡ lines rows (lines more rest)
lines-append [] more rest = refl
lines-append (r ∷ rows) more rest = ap (line r) (lines-append rows more rest)

pub read_more : (text rest behind : List ℕ) (count : ℕ) (row : Row) → HasRead text count rest → BeginsWith rest row behind → length behind < length rest → HasRead text (count + 1) behind
read_more text rest behind count row h b shorter = record {
  rows = h.rows ++ row ∷ [];
  spelled = h.spelled ∙ (ap (lines h.rows) b.spelled ∙ sym (lines-append h.rows (row ∷ []) behind));
  readings = All-push IsReading h.rows row h.readings b.reading;
  counted = omega (arith, h.counted, length-append h.rows (row ∷ []));
  shorter = omega (arith, h.shorter);
}

-- nothing follows
pub read_all : (text rest : List ℕ) (count : ℕ) → HasRead text count rest → length rest ≡ 0 → (rows : List Row) × IsFile text rows
read_all text [] count h none = (h.rows, record { spelled = h.spelled; readings = h.readings })
read_all text (b ∷ rest) count h none = absurd (omega arith)

-- no line follows
pub read_fault : (text rest : List ℕ) (count : ℕ) → HasRead text count rest → 0 < length rest → ((row : Row) (behind : List ℕ) → BeginsWith rest row behind → ⊥) → IsFirstFault text (count + 1)
read_fault text rest count h more none = record { rows = h.rows; rest = rest; spelled = h.spelled; readings = h.readings; counted = omega (arith, h.counted); more = more; no_line = none }

-- its clock and its three registers determine a row
same_registers : (xs ys : List ℕ) → length xs ≡ 3 → length ys ≡ 3 → slice_index xs 0 ≡ slice_index ys 0 → slice_index xs 1 ≡ slice_index ys 1 → slice_index xs 2 ≡ slice_index ys 2 → xs ≡ ys
same_registers (a ∷ b ∷ c ∷ []) (d ∷ e ∷ f ∷ []) h k p q r = cc
same_registers _ _ h k p q r = absurd (omega arith)

pub same_row : (r s : Row) → r.clock ≡ s.clock → r.registers ≡ s.registers → r ≡ s
same_row r s clock registers =
    let with_clock : ℕ → Row = λ c. record { clock = c; registers = r.registers } in
    let with_registers : List ℕ → Row = λ xs. record { clock = s.clock; registers = xs } in
    ap with_clock clock ∙ ap with_registers registers

-- a text begins with one line
pub same_line : (text rest more : List ℕ) (r s : Row) → BeginsWith text r rest → BeginsWith text s more → (r ≡ s) × (rest ≡ more)
same_line text rest more r s h k =
    let clock = clock_parts text (after_clock r rest) more r.clock s (clock_fits r h.reading) h.spelled k in
    let first = first_parts (after_clock r rest) (after_first r rest) more (slice_index r.registers 0) s (register r h.reading 0 (omega arith)) k.reading clock.1 refl in
    let second = second_parts (after_first r rest) (after_second r rest) more (slice_index r.registers 1) s (register r h.reading 1 (omega arith)) k.reading first.1 refl in
    let third = same_field (slice_index r.registers 2) (slice_index s.registers 2) 10 rest more (omega arith) (register r h.reading 2 (omega arith)) (register s k.reading 2 (omega arith)) second.1 in
    (same_row r s clock.0 (same_registers r.registers s.registers h.reading.count k.reading.count first.0 second.0 third.0), third.1)

line_is_some : (row : Row) (rest : List ℕ) → 0 < length (line row rest)
line_is_some row rest = omega (arith, field_is_longer row.clock 44 (after_clock row rest))

-- a text is that of one list of rows
pub same_rows : (text : List ℕ) (xs ys : List Row) → IsFile text xs → IsFile text ys → xs ≡ ys
same_rows text [] [] h k = refl
same_rows text [] (y ∷ ys) h k = let none : line y (text_of ys) ≡ [] = sym k.spelled ∙ h.spelled in absurd (omega (arith, line_is_some y (text_of ys), ap length none))
same_rows text (x ∷ xs) [] h k = let none : line x (text_of xs) ≡ [] = sym h.spelled ∙ k.spelled in absurd (omega (arith, line_is_some x (text_of xs), ap length none))
same_rows text (x ∷ xs) (y ∷ ys) h k =
    let same = same_line text (text_of xs) (text_of ys) x y (record { spelled = h.spelled; reading = All-head IsReading x xs h.readings }) (record { spelled = k.spelled; reading = All-head IsReading y ys k.readings }) in
    let rest : xs ≡ ys = same_rows (text_of xs) xs ys (record { spelled = refl; readings = All-tail IsReading x xs h.readings }) (record { spelled = same.1; readings = All-tail IsReading y ys k.readings }) in
    cc (same.0, rest)

-- if a line is missing there is no file
no_file-at : (text : List ℕ) (xs ys : List Row) (rest : List ℕ) → text ≡ lines xs rest → All IsReading xs → 0 < length rest → ((row : Row) (behind : List ℕ) → BeginsWith rest row behind → ⊥) → IsFile text ys → ⊥
no_file-at text [] [] rest e h more none k = let nothing : rest ≡ [] = sym e ∙ k.spelled in omega (arith, more, ap length nothing)
no_file-at text [] (y ∷ ys) rest e h more none k = none y (text_of ys) (record { spelled = sym e ∙ k.spelled; reading = All-head IsReading y ys k.readings })
no_file-at text (x ∷ xs) [] rest e h more none k = let nothing : line x (lines xs rest) ≡ [] = sym e ∙ k.spelled in omega (arith, line_is_some x (lines xs rest), ap length nothing)
no_file-at text (x ∷ xs) (y ∷ ys) rest e h more none k =
    let same = same_line text (lines xs rest) (text_of ys) x y (record { spelled = e; reading = All-head IsReading x xs h }) (record { spelled = k.spelled; reading = All-head IsReading y ys k.readings }) in
    no_file-at (lines xs rest) xs ys rest refl (All-tail IsReading x xs h) more none (record { spelled = same.1; readings = All-tail IsReading y ys k.readings })

pub no_file : (text : List ℕ) (number : ℕ) (rows : List Row) → IsFirstFault text number → IsFile text rows → ⊥
no_file text number rows h k = no_file-at text h.rows rows h.rest h.spelled h.readings h.more h.no_line k

-- ---- rows kept

-- these rows were read and kept, and the rest follows
pub record HasKept (text : List ℕ) (rows : List Row) (rest : List ℕ) : Type 0 where
  pub spelled : text ≡ lines rows rest
  pub readings : All IsReading rows

pub keep_none : (text : List ℕ) → HasKept text [] text
keep_none text = record { spelled = refl; readings = λ k d h. absurd (omega arith) }

pub keep_more : (text rest behind : List ℕ) (rows : List Row) (row : Row) → HasKept text rows rest → BeginsWith rest row behind → HasKept text (rows ++ row ∷ []) behind
keep_more text rest behind rows row h b = record {
  spelled = h.spelled ∙ (ap (lines rows) b.spelled ∙ sym (lines-append rows (row ∷ []) behind));
  readings = All-push IsReading rows row h.readings b.reading;
}

pub keep_all : (text rest : List ℕ) (rows : List Row) → HasKept text rows rest → length rest ≡ 0 → IsFile text rows
keep_all text [] rows h none = record { spelled = h.spelled; readings = h.readings }
keep_all text (b ∷ rest) rows h none = absurd (omega arith)

pub keep_fault : (text rest : List ℕ) (rows : List Row) → HasKept text rows rest → 0 < length rest → ((row : Row) (behind : List ℕ) → BeginsWith rest row behind → ⊥) → IsFirstFault text (length rows + 1)
keep_fault text rest rows h more none = record { rows = rows; rest = rest; spelled = h.spelled; readings = h.readings; counted = refl; more = more; no_line = none }

-- a file of which something is left to be read has rows
left_some : (kept : List Row) (rest : List ℕ) → 0 < length rest → 0 < length (lines kept rest)
left_some [] rest more = more
left_some (row ∷ kept) rest more = line_is_some row (lines kept rest)

pub file_some : (text rest : List ℕ) (kept rows : List Row) → HasKept text kept rest → 0 < length rest → IsFile text rows → 0 < length rows
file_some text rest kept [] h more is = absurd (omega (arith, left_some kept rest more, ap length (sym h.spelled ∙ is.spelled)))
file_some text rest kept (row ∷ rows) h more is = omega arith

-- a text of which something is left to be read has octets
pub text_some : (text rest : List ℕ) (kept : List Row) → HasKept text kept rest → 0 < length rest → 0 < length text
text_some text rest kept h more = subst (λ (t : List ℕ). 0 < length t) (sym h.spelled) (left_some kept rest more)

-- a file that has octets has rows
pub rows_some : (text : List ℕ) (rows : List Row) → 0 < length text → IsFile text rows → 0 < length rows
rows_some text [] more is = absurd (omega (arith, more, ap length is.spelled))
rows_some text (row ∷ rows) more is = omega arith

-- memory was wanting
pub wanted : {X : Type 0} (r : Result X ReadingsFault) (P : ReadingsFault → Type 0) → IsErrAnd r (λ fault. fault ≡ Memory) → P Memory → IfErr r P
wanted (Ok x) P is h = absurd is
wanted (Err fault) P is h = subst P (sym is) h

pub on_err : {X E : Type 0} (r : Result X E) (P : Type 0) → P → OnErr r P
on_err (Ok x) P h = tt
on_err (Err fault) P h = h

-- a row that passes is among those that pass
pub passes_some : (passes : Row → Bool) (rows : List Row) (i : ℕ) (d : Row) → i < length rows → passes (get_or rows i d) ≡ true → 0 < length (filter passes rows)
passes_some passes [] i d within is = absurd (omega arith)
passes_some passes (row ∷ rows) zero d within is = rw is (omega arith)
passes_some passes (row ∷ rows) (suc i) d within is =
    elim (passes row) as (λ (b : Bool). 0 < length (if b then row ∷ filter passes rows else filter passes rows)) [ true ↦ omega arith | false ↦ passes_some passes rows i d (omega arith) is ]

-- the rows that are added are the later ones of the readings
pub added_are : (last : Option ℕ) (rows : List Row) → filter (is_added last) rows ≡ filter (is_later last) (readings_in rows)
added_are last [] = refl
added_are last (row ∷ rows) = one (is_reading row) refl (added_are last rows)
  where
    one : (b : Bool) → is_reading row ≡ b → filter (is_added last) rows ≡ filter (is_later last) (readings_in rows) → filter (is_added last) (row ∷ rows) ≡ filter (is_later last) (readings_in (row ∷ rows))
    one true e same = rw (e, same) refl
    one false e same = rw (e, same) refl

-- a row that passes the test is a reading
reading_is : (row : Row) → is_reading row ≡ true → (length row.registers ≡ 3) × All (λ register. register < 2 ^ 32) row.registers → IsReading row
reading_is row e h = record { clock = grind (arith, nat_tests, e); count = h.0; registers = h.1 }

pub readings_are : (rows : List Row) → HaveRegisters rows → AreReadings (readings_in rows)
readings_are [] h = All-nil IsReading
readings_are (row ∷ rows) h = one (is_reading row) refl (readings_are rows (All-tail (λ (r : Row). (length r.registers ≡ 3) × All (λ register. register < 2 ^ 32) r.registers) row rows h))
  where
    first : (length row.registers ≡ 3) × All (λ register. register < 2 ^ 32) row.registers
    first = All-head (λ (r : Row). (length r.registers ≡ 3) × All (λ register. register < 2 ^ 32) r.registers) row rows h

    one : (b : Bool) → is_reading row ≡ b → AreReadings (readings_in rows) → AreReadings (readings_in (row ∷ rows))
    one true e rest = rw e (All-cons IsReading row (readings_in rows) (reading_is row e first) rest)
    one false e rest = rw e rest

-- of readings each one is a reading
pub all_readings : (rows : List Row) → AreReadings rows → readings_in rows ≡ rows
all_readings [] h = refl
all_readings (row ∷ rows) h =
    let low : row.clock ≤ LAST_SECOND = (All-head IsReading row rows h).clock in
    let first : is_reading row ≡ true = grind (arith, nat_tests, low) in
    rw (first, all_readings rows (All-tail IsReading row rows h)) refl

-- ---- what is read of a text

only-at_fault : (text : List ℕ) (fault : ReadingsFault) (rows : List Row) → Refuses text fault → IsFile text rows → fault ≡ Memory
only-at_fault text (Line number) rows h k = absurd (no_file text number rows h k)
only-at_fault text Memory rows h k = refl

pub only_rows : (text : List ℕ) (r : Result (List Row) ReadingsFault) → MatchResult r (IsFile text) (Refuses text) → (rows : List Row) → IsFile text rows → MatchResult r (λ file. file ≡ rows) (λ fault. fault ≡ Memory)
only_rows text (Ok file) h rows k = same_rows text file rows h k
only_rows text (Err fault) h rows k = only-at_fault text fault rows h k

-- ---- what is written

field-append : (n separator : ℕ) (rest more : List ℕ) → field n separator rest ++ more ≡ field n separator (rest ++ more)
field-append n separator rest more = append_assoc (decimal n) (separator ∷ rest) more

line-append : (row : Row) (rest more : List ℕ) → line row rest ++ more ≡ line row (rest ++ more)
line-append row rest more = simp field-append

lines-followed : (rows : List Row) (rest more : List ℕ) → lines rows rest ++ more ≡ lines rows (rest ++ more)
lines-followed [] rest more = refl
lines-followed (r ∷ rows) rest more = line-append r (lines rows rest) more ∙ ap (line r) (lines-followed rows rest more)

pub text_of_more : (rows : List Row) (i : ℕ) (d : Row) → i < length rows → text_of (take i rows) ++ line (get_or rows i d) [] ≡ text_of (take (i + 1) rows)
text_of_more rows i d within =
    sym (ap text_of (take_more rows i d within) ∙ lines-append (take i rows) (get_or rows i d ∷ []) [] ∙ sym (lines-followed (take i rows) [] (line (get_or rows i d) [])))

-- the same after other text
pub text_grows : (first : List ℕ) (rows : List Row) (i : ℕ) (d : Row) → i < length rows → (first ++ text_of (take i rows)) ++ line (get_or rows i d) [] ≡ first ++ text_of (take (i + 1) rows)
text_grows first rows i d within = append_assoc first (text_of (take i rows)) (line (get_or rows i d) []) ∙ ap (λ (t : List ℕ). first ++ t) (text_of_more rows i d within)
