-- A head is read as it was written.
use Rattle.std.proofs.Common.{◌≡◌, ℕ, ℤ, pos, negsuc, zero, suc, ◌+◌, ◌-◌, ◌<◌, ◌≤◌, ◌^◌, ◌≤ℤ◌, ◌+ℤ◌, List, [], ◌∷◌, ◌++◌, length, take, drop, slice_index, slice_range, replicate, refl, sym, ap, ◌∙◌, arith, append_assoc, nat_eq, nat_lt, ◌&&◌, if◌then◌else◌}
use Rattle.std.proofs.lemmas.List.{take_at, length-append, length-replicate, drop-drop}
use Rattle.std.proofs.lemmas.Bool.Decides.{nat_tests}
use Rattle.std.proofs.lemmas.Int.{ints, to_z-of_z}
use Rattle.std.specs.Int.{cast_unsigned, cast_signed, w64}
use Rattle.std.specs.Int.RustNames.{FitsSigned}
use Rattle.byteorder.specs.Endian.{big_from, big_bytes}
use Rattle.dlms_profile.specs.Rows.{RowsValue, none_before, first_number}
use Rattle.dlms_state.specs.StateValue.{StateValue, IsWithinLimits, FitsTypes}
use Rattle.dlms_checkpoint.specs.Checkpoint.{field, registers_bytes, head_bytes, first_written, next_written}
use Rattle.dlms_checkpoint.specs.Bodies.{secret_count, text_count, column_count, columns_said, reader_secret_count, first_field, next_field, first_said, next_said}
use Rattle.dlms_checkpoint.specs.Reading.{registers_at, parts_at}
use Rattle.dlms_checkpoint.proofs.Lists.{from_behind, drop_behind, number_here}
use Rattle.dlms_checkpoint.proofs.Rows.{length-registers, registers_again, registers_drop}
use Rattle.dlms_state.specs.declared.event.TheConstants.{LAST_SECOND}

-- ---- a field

pub length-field : (room : ℕ) (bytes : List ℕ) → length bytes ≤ room → length (field room bytes) ≡ room + 1
unfolding field
length-field room bytes fits = omega (arith, length-append bytes (replicate (room - length bytes) 0), length-replicate {A = ℕ} (room - length bytes) 0)

field_count : (room : ℕ) (bytes rest : List ℕ) → slice_index (field room bytes ++ rest) 0 ≡ length bytes
unfolding field
field_count room bytes rest = refl

field_bytes : (room : ℕ) (bytes rest : List ℕ) → take (length bytes) (drop 1 (field room bytes ++ rest)) ≡ bytes
unfolding field
field_bytes room bytes rest =
    ap (take (length bytes)) (append_assoc bytes (replicate (room - length bytes) 0) rest) ∙ take_at bytes (replicate (room - length bytes) 0 ++ rest) (length bytes) refl

-- ---- the ten parts

nest : (a b c d e f x y g h r : List ℕ) → (a ++ (b ++ (c ++ (d ++ (e ++ (f ++ (x ++ (y ++ (g ++ h))))))))) ++ r ≡ a ++ (b ++ (c ++ (d ++ (e ++ (f ++ (x ++ (y ++ (g ++ (h ++ r)))))))))
nest a b c d e f x y g h r = simp append_assoc

module _ (a b c d e f x y g r : List ℕ) (la : length a ≡ 4) (lb : length b ≡ 8) (lc : length c ≡ 4) (ld : length d ≡ 12) (le : length e ≡ 17) (lf : length f ≡ 241) (lx : length x ≡ 5) (ly : length y ≡ 17) (lg : length g ≡ 8) where
  abbrev r8 : List ℕ
  r8 = g ++ r

  abbrev r7 : List ℕ
  r7 = y ++ r8

  abbrev r6 : List ℕ
  r6 = x ++ r7

  abbrev r5 : List ℕ
  r5 = f ++ r6

  abbrev r4 : List ℕ
  r4 = e ++ r5

  abbrev r3 : List ℕ
  r3 = d ++ r4

  abbrev r2 : List ℕ
  r2 = c ++ r3

  abbrev r1 : List ℕ
  r1 = b ++ r2

  at_offset : (n : ℕ) → big_from 4 n (a ++ r1) ≡ big_from 0 n r1
  at_offset n = from_behind a r1 0 n 4 (omega arith)

  at_period : (n : ℕ) → big_from 12 n (a ++ r1) ≡ big_from 0 n r2
  at_period n = from_behind a r1 8 n 12 (omega arith) ∙ from_behind b r2 0 n 8 (omega arith)

  at_registers : drop 16 (a ++ r1) ≡ r3
  at_registers = drop_behind a r1 12 16 (omega arith) ∙ drop_behind b r2 4 12 (omega arith) ∙ drop_behind c r3 0 4 (omega arith)

  at_secret : drop 28 (a ++ r1) ≡ r4
  at_secret = drop_behind a r1 24 28 (omega arith) ∙ drop_behind b r2 16 24 (omega arith) ∙ drop_behind c r3 12 16 (omega arith) ∙ drop_behind d r4 0 12 (omega arith)

  at_text : drop 45 (a ++ r1) ≡ r5
  at_text = drop_behind a r1 41 45 (omega arith) ∙ drop_behind b r2 33 41 (omega arith) ∙ drop_behind c r3 29 33 (omega arith) ∙ drop_behind d r4 17 29 (omega arith) ∙ drop_behind e r5 0 17 (omega arith)

  front_long : length (a ++ (b ++ (c ++ (d ++ (e ++ f))))) ≡ 286
  front_long = omega (arith, la, lb, lc, ld, le, lf, length-append a (b ++ (c ++ (d ++ (e ++ f)))), length-append b (c ++ (d ++ (e ++ f))), length-append c (d ++ (e ++ f)), length-append d (e ++ f), length-append e f)

  front_is : a ++ r1 ≡ (a ++ (b ++ (c ++ (d ++ (e ++ f))))) ++ r6
  front_is = simp append_assoc

  at_columns : drop 286 (a ++ r1) ≡ r6
  at_columns = ap (drop 286) front_is ∙ drop_behind (a ++ (b ++ (c ++ (d ++ (e ++ f))))) r6 0 286 (omega (arith, front_long))

  at_reader_secret : drop 291 (a ++ r1) ≡ r7
  at_reader_secret = ap (drop 291) front_is ∙ drop_behind (a ++ (b ++ (c ++ (d ++ (e ++ f))))) r6 5 291 (omega (arith, front_long)) ∙ drop_behind x r7 0 5 (omega arith)

  at_first : (n : ℕ) → big_from 308 n (a ++ r1) ≡ big_from 0 n r8
  at_first n = ap (big_from 308 n) front_is ∙ from_behind (a ++ (b ++ (c ++ (d ++ (e ++ f))))) r6 22 n 308 (omega (arith, front_long)) ∙ from_behind x r7 17 n 22 (omega arith) ∙ from_behind y r8 0 n 17 (omega arith)

  at_next : (n : ℕ) → big_from 316 n (a ++ r1) ≡ big_from 0 n r
  at_next n = ap (big_from 316 n) front_is ∙ from_behind (a ++ (b ++ (c ++ (d ++ (e ++ f))))) r6 30 n 316 (omega (arith, front_long)) ∙ from_behind x r7 25 n 30 (omega arith) ∙ from_behind y r8 8 n 25 (omega arith) ∙ from_behind g r 0 n 8 (omega arith)

at_drop : (i : ℕ) (bytes : List ℕ) → slice_index (drop i bytes) 0 ≡ slice_index bytes i
at_drop zero bytes = refl
at_drop (suc i) [] = refl
at_drop (suc i) (b ∷ bytes) = at_drop i bytes

behind_count : (i : ℕ) (bytes : List ℕ) → drop 1 (drop i bytes) ≡ drop (i + 1) bytes
behind_count i bytes = drop-drop 1 i bytes

-- the bytes of a field at this place
field_there : (room i n : ℕ) (bytes rest whole : List ℕ) → drop i whole ≡ field room bytes ++ rest → slice_index whole i ≡ length bytes × (take (length bytes) (drop (i + 1) whole) ≡ bytes)
field_there room i n bytes rest whole e = (
  sym (at_drop i whole) ∙ ap (λ (l : List ℕ). slice_index l 0) e ∙ field_count room bytes rest,
  ap (take (length bytes)) (sym (behind_count i whole) ∙ ap (drop 1) e) ∙ field_bytes room bytes rest,
)

-- ---- the numbers of the first row and after the last one

next_again : (a n f g : ℕ) → f ≡ (if nat_eq a (2 ^ 64) then 1 else a) → g ≡ (if nat_eq n (2 ^ 64) then 0 else n) → a ≤ n → n ≤ 2 ^ 64 → n ≤ a + 960
    → (if nat_eq g 0 && nat_lt 0 f then 2 ^ 64 else g) ≡ n
next_again a n f g is_first is_next order last few = grind (arith, nat_tests)

first_again : (a n f m : ℕ) → f ≡ (if nat_eq a (2 ^ 64) then 1 else a) → m ≡ n → a ≤ n → n ≤ 2 ^ 64 → n ≤ a + 960
    → (if nat_eq m (2 ^ 64) && nat_eq f 1 then 2 ^ 64 else f) ≡ a
first_again a n f m is_first is_next order last few = grind (arith, nat_tests)

fits_first : (a : ℕ) → a ≤ 2 ^ 64 → (if nat_eq a (2 ^ 64) then 1 else a) < 256 ^ 8
fits_first a last = grind (arith, nat_tests)

fits_next : (n : ℕ) → n ≤ 2 ^ 64 → (if nat_eq n (2 ^ 64) then 0 else n) < 256 ^ 8
fits_next n last = grind (arith, nat_tests)

pub first_fits : (rows : RowsValue) → rows.next ≤ 2 ^ 64 → first_written rows < 256 ^ 8
first_fits rows last = fits_first (first_number rows) (omega (arith, last))

pub next_fits : (rows : RowsValue) → rows.next ≤ 2 ^ 64 → next_written rows < 256 ^ 8
next_fits rows last = fits_next rows.next last

-- ---- the whole head

parts_are : (r t x w v : List ℕ) (a b : ℕ) (o q : ℤ) (r' t' x' w' v' : List ℕ) (a' b' : ℕ) (rows : RowsValue) → r ≡ r' → a ≡ a' → o ≡ q → b ≡ b' → t ≡ t' → x ≡ x' → w ≡ w' → v ≡ v'
    → (let made : StateValue = record { registers = r; last = a; offset = o; period = b; text = t; secret = x; reader_secret = w; columns = v; rows = rows } in made) ≡ record { registers = r'; last = a'; offset = q; period = b'; text = t'; secret = x'; reader_secret = w'; columns = v'; rows = rows }
parts_are r t x w v a b o q r' t' x' w' v' a' b' rows e f g h i j k l = cc

fits_64 : (last : ℕ) (z : ℤ) → last < 2 ^ 32 → pos 0 ≤ℤ (pos last +ℤ z) → (pos last +ℤ z) ≤ℤ pos LAST_SECOND → FitsSigned w64 z
fits_64 last (pos n) small low high = record { sfits = omega (arith, ints) }
fits_64 last (negsuc n) small low high = record { sfits = omega (arith, ints) }

below_64 : (z : ℤ) → FitsSigned w64 z → cast_unsigned w64 z < 256 ^ 8
below_64 (pos n) h = omega (arith, h.sfits)
below_64 (negsuc n) h = omega (arith, h.sfits)

-- what a head with these two numbers says
record Says (s : StateValue) (a b : ℕ) (bytes : List ℕ) : Type 0 where
  parts : (n : ℕ) → parts_at bytes n ≡ record s { rows = none_before n }
  secret : secret_count bytes ≡ length s.secret
  text : text_count bytes ≡ length s.text
  columns : column_count bytes ≡ length s.columns
  reader_secret : reader_secret_count bytes ≡ length s.reader_secret
  first : first_field bytes ≡ a
  next : next_field bytes ≡ b

taken : (i n m : ℕ) (whole : List ℕ) → n ≡ m → slice_range whole i (i + n) ≡ take m (drop i whole)
taken i n m whole same = let count : (i + n) - i ≡ m = omega (arith, same) in ap (λ (k : ℕ). take k (drop i whole)) count

says_again : (s : StateValue) (first next : ℕ) (rest : List ℕ) → IsWithinLimits s → FitsTypes s → first < 256 ^ 8 → next < 256 ^ 8 → Says s first next (head_bytes s first next ++ rest)
unfolding head_bytes parts_at
says_again s first next rest within fits first_fit next_fit =
    let a = big_bytes 4 s.last in
    let b = big_bytes 8 (cast_unsigned w64 s.offset) in
    let c = big_bytes 4 s.period in
    let d = registers_bytes s.registers in
    let e = field 16 s.secret in
    let f = field 240 s.text in
    let x = field 4 s.columns in
    let y = field 16 s.reader_secret in
    let g = big_bytes 8 first in
    let h = big_bytes 8 next in
    let r = h ++ rest in
    let whole = head_bytes s first next ++ rest in
    let text : whole ≡ a ++ (b ++ (c ++ (d ++ (e ++ (f ++ (x ++ (y ++ (g ++ r)))))))) = nest a b c d e f x y g h rest in
    let ld = length-registers s.registers in
    let le : length e ≡ 17 = length-field 16 s.secret fits.secret.count in
    let lf : length f ≡ 241 = length-field 240 s.text fits.text.count in
    let lx : length x ≡ 5 = length-field 4 s.columns fits.columns.count in
    let ly : length y ≡ 17 = length-field 16 s.reader_secret fits.reader_secret.count in
    let offset = fits_64 s.last s.offset fits.last within.not_before within.not_after in
    let secret = field_there 16 28 0 s.secret (f ++ (x ++ (y ++ (g ++ r)))) whole (ap (drop 28) text ∙ at_secret a b c d e f x y g r refl refl refl ld le lf lx ly refl) in
    let held = field_there 240 45 0 s.text (x ++ (y ++ (g ++ r))) whole (ap (drop 45) text ∙ at_text a b c d e f x y g r refl refl refl ld le lf lx ly refl) in
    let columns = field_there 4 286 0 s.columns (y ++ (g ++ r)) whole (ap (drop 286) text ∙ at_columns a b c d e f x y g r refl refl refl ld le lf lx ly refl) in
    let reader = field_there 16 291 0 s.reader_secret (g ++ r) whole (ap (drop 291) text ∙ at_reader_secret a b c d e f x y g r refl refl refl ld le lf lx ly refl) in
    record {
      parts = λ n. parts_are _ _ _ _ _ _ _ _ _ _ _ _ _ _ _ _ (none_before n)
          (sym (registers_drop 16 whole) ∙ ap (λ (l : List ℕ). registers_at 0 (drop 16 l)) text ∙ ap (registers_at 0) (at_registers a b c d e f x y g r refl refl refl ld le lf lx ly refl) ∙ registers_again s.registers (e ++ (f ++ (x ++ (y ++ (g ++ r))))) fits.count fits.registers)
          (ap (big_from 0 4) text ∙ number_here 4 s.last (b ++ (c ++ (d ++ (e ++ (f ++ (x ++ (y ++ (g ++ r)))))))) fits.last)
          (ap (cast_signed w64) (ap (big_from 4 8) text ∙ at_offset a b c d e f x y g r refl refl refl ld le lf lx ly refl 8 ∙ number_here 8 (cast_unsigned w64 s.offset) (c ++ (d ++ (e ++ (f ++ (x ++ (y ++ (g ++ r))))))) (below_64 s.offset offset)) ∙ to_z-of_z w64 s.offset offset)
          (ap (big_from 12 4) text ∙ at_period a b c d e f x y g r refl refl refl ld le lf lx ly refl 4 ∙ number_here 4 s.period (d ++ (e ++ (f ++ (x ++ (y ++ (g ++ r)))))) (omega (arith, within.period)))
          (taken 46 (text_count whole) (length s.text) whole held.0 ∙ held.1)
          (taken 29 (secret_count whole) (length s.secret) whole secret.0 ∙ secret.1)
          (taken 292 (reader_secret_count whole) (length s.reader_secret) whole reader.0 ∙ reader.1)
          (taken 287 (column_count whole) (length s.columns) whole columns.0 ∙ columns.1);
      secret = secret.0;
      text = held.0;
      columns = columns.0;
      reader_secret = reader.0;
      first = ap (big_from 308 8) text ∙ at_first a b c d e f x y g r refl refl refl ld le lf lx ly refl 8 ∙ number_here 8 first r first_fit;
      next = ap (big_from 316 8) text ∙ at_next a b c d e f x y g r refl refl refl ld le lf lx ly refl 8 ∙ number_here 8 next rest next_fit;
    }

pub record HeadIs (s : StateValue) (bytes : List ℕ) : Type 0 where
  pub parts : (n : ℕ) → parts_at bytes n ≡ record s { rows = none_before n }
  pub secret : secret_count bytes ≡ length s.secret
  pub text : text_count bytes ≡ length s.text
  pub columns : column_count bytes ≡ length s.columns
  pub columns_are : columns_said bytes ≡ s.columns
  pub reader_secret : reader_secret_count bytes ≡ length s.reader_secret
  pub first : first_field bytes ≡ first_written s.rows
  pub next : next_field bytes ≡ next_written s.rows
  pub first_is : first_said bytes ≡ first_number s.rows
  pub next_is : next_said bytes ≡ s.rows.next

columns_alone : (s : StateValue) (bytes : List ℕ) → parts_at bytes 0 ≡ record s { rows = none_before 0 } → columns_said bytes ≡ s.columns
unfolding parts_at
columns_alone s bytes parts = ap (λ (t : StateValue). t.columns) parts

pub head_again : (s : StateValue) (rest : List ℕ) → IsWithinLimits s → FitsTypes s → s.rows.next ≤ 2 ^ 64 → HeadIs s (head_bytes s (first_written s.rows) (next_written s.rows) ++ rest)
head_again s rest within fits last =
    let bytes = head_bytes s (first_written s.rows) (next_written s.rows) ++ rest in
    let said = says_again s (first_written s.rows) (next_written s.rows) rest within fits (first_fits s.rows last) (next_fits s.rows last) in
    let order : first_number s.rows ≤ s.rows.next = omega arith in
    let few : s.rows.next ≤ first_number s.rows + 960 = omega (arith, fits.room, fits.order) in
    let next_is : next_said bytes ≡ s.rows.next = next_again (first_number s.rows) s.rows.next (first_field bytes) (next_field bytes) said.first said.next order last few in
    record {
      parts = said.parts;
      secret = said.secret;
      text = said.text;
      columns = said.columns;
      columns_are = columns_alone s bytes (said.parts 0);
      reader_secret = said.reader_secret;
      first = said.first;
      next = said.next;
      first_is = first_again (first_number s.rows) s.rows.next (first_field bytes) (next_said bytes) said.first next_is order last few;
      next_is = next_is;
    }

pub length-head : (s : StateValue) (first next : ℕ) → FitsTypes s → length (head_bytes s first next) ≡ 324
unfolding head_bytes
length-head s first next fits =
    let d = registers_bytes s.registers in
    let e = field 16 s.secret in
    let f = field 240 s.text in
    let x = field 4 s.columns in
    let y = field 16 s.reader_secret in
    let g = big_bytes 8 first ++ big_bytes 8 next in
    let ld = length-registers s.registers in
    let le : length e ≡ 17 = length-field 16 s.secret fits.secret.count in
    let lf : length f ≡ 241 = length-field 240 s.text fits.text.count in
    let lx : length x ≡ 5 = length-field 4 s.columns fits.columns.count in
    let ly : length y ≡ 17 = length-field 16 s.reader_secret fits.reader_secret.count in
    let behind : length (d ++ (e ++ (f ++ (x ++ (y ++ g))))) ≡ 308 = omega (arith, length-append d (e ++ (f ++ (x ++ (y ++ g)))), length-append e (f ++ (x ++ (y ++ g))), length-append f (x ++ (y ++ g)), length-append x (y ++ g), length-append y g) in
    omega (arith, behind)
