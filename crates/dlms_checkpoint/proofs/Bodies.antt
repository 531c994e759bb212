-- The bodies of a state's bytes.
use Rattle.std.proofs.Common.{◌≡◌, ℕ, ◌+◌, ◌-◌, ◌*◌, ◌%◌, ◌<◌, ◌≤◌, ◌^◌, List, ◌++◌, length, take, drop, refl, sym, ap, ◌∙◌, subst, arith, min, None, Some, true, false, Bool, eqb, nat_eq, nat_lt, nat_le, ◌&&◌, if◌then◌else◌, mul-le-mul_right}
use Rattle.std.proofs.lemmas.List.{length-append, length-take, length-drop, take_all, take_at, get_or-take}
use Rattle.std.proofs.lemmas.Bool.{le-ltb, le-leb, lt-ltb}
use Rattle.std.proofs.lemmas.Bool.Decides.{nat_tests}
use Rattle.std.proofs.Math.Seq.{take-add}
use Rattle.byteorder.specs.Numbers.{big_from-take}
use Rattle.dlms_profile.specs.Rows.{first_number}
use Rattle.dlms_state.specs.StateValue.{StateValue}
use Rattle.dlms_checkpoint.specs.Checkpoint.{head_bytes, first_written, next_written}
use Rattle.dlms_checkpoint.specs.Layouts.{IsCheckpointOf, as_present, head_length, missing}
use Rattle.dlms_checkpoint.specs.Bodies.{body_at, body_count, secret_count, text_count, column_count, reader_secret_count, first_field, next_field, first_said, next_said, counts_fit, whole_length, awaited, first_fault}
use Rattle.dlms_checkpoint.specs.Reading.{HasHead}
use Rattle.dlms_checkpoint.specs.declared.reading.BodyFault.TheVariants.{Length, Counts}
use Rattle.dlms_checkpoint.specs.declared.version.Version.{Version}
use Rattle.dlms_checkpoint.specs.declared.version.Version.TheVariants.{Columns}
use Rattle.dlms_checkpoint.proofs.Heads.{HeadIs, head_again, length-head}
use Rattle.dlms_checkpoint.proofs.Presents.{present_long, present_take, present_append, few_missing, whole_head, head_enough, in_present}
use Rattle.dlms_profile.specs.declared.rows.TheConstants.{CAPACITY}

-- ---- how long a state's bytes are

pub record Lengths (s : StateValue) (bytes : List ℕ) : Type 0 where
  pub length_is : length bytes ≡ 324 + 4 * length s.columns * (s.rows.next % 30)
  pub order : first_number s.rows ≤ s.rows.next
  pub few : s.rows.next ≤ first_number s.rows + CAPACITY
  pub head : HeadIs s bytes

pub lengths : (s : StateValue) (bytes : List ℕ) → IsCheckpointOf Columns s bytes → Lengths s bytes
lengths s bytes is =
    let h = head_bytes s (first_written s.rows) (next_written s.rows) in
    let held = is.spelled.places in
    let fits = is.legal.fits in
    record {
      length_is = ap length is.spelled.joined ∙ length-append h held ∙ omega (arith, length-head s (first_written s.rows) (next_written s.rows) fits, is.spelled.holds.long);
      order = omega arith;
      few = omega (arith, fits.room, fits.order);
      head = subst (HeadIs s) (sym is.spelled.joined) (head_again s held is.legal.within fits is.legal.numbers);
    }

-- the places after a head
pub few_places : (count next : ℕ) → count ≤ 4 → 4 * count * (next % 30) ≤ 464
few_places count next few = omega (arith, mul-le-mul_right (next % 30) few)

-- ---- the front of the bytes says what the whole says

front_next : (n : ℕ) (bytes : List ℕ) → 324 ≤ n → next_field (take n bytes) ≡ next_field bytes
front_next n bytes long = big_from-take 316 8 n bytes (omega arith)

front_first : (n : ℕ) (bytes : List ℕ) → 324 ≤ n → first_field (take n bytes) ≡ first_field bytes
front_first n bytes long = big_from-take 308 8 n bytes (omega arith)

abbrev next_of : (f g : ℕ) → ℕ
next_of f g = if nat_eq g 0 && nat_lt 0 f then 2 ^ 64 else g

abbrev first_of : (f m : ℕ) → ℕ
first_of f m = if nat_eq m (2 ^ 64) && nat_eq f 1 then 2 ^ 64 else f

pub says_front : (n : ℕ) (bytes : List ℕ) → 324 ≤ n → next_said (take n bytes) ≡ next_said bytes
says_front n bytes long =
    ap (λ (f : ℕ). next_of f (next_field (take n bytes))) (front_first n bytes long) ∙ ap (λ (g : ℕ). next_of (first_field bytes) g) (front_next n bytes long)

pub says_front_first : (n : ℕ) (bytes : List ℕ) → 324 ≤ n → first_said (take n bytes) ≡ first_said bytes
says_front_first n bytes long =
    ap (λ (f : ℕ). first_of f (next_said (take n bytes))) (front_first n bytes long) ∙ ap (λ (m : ℕ). first_of (first_field bytes) m) (says_front n bytes long)

pub front_secret : (n : ℕ) (bytes : List ℕ) → 324 ≤ n → secret_count (take n bytes) ≡ secret_count bytes
front_secret n bytes long = get_or-take n bytes 28 0 (omega (arith, long))

pub front_text : (n : ℕ) (bytes : List ℕ) → 324 ≤ n → text_count (take n bytes) ≡ text_count bytes
front_text n bytes long = get_or-take n bytes 45 0 (omega (arith, long))

pub front_columns : (n : ℕ) (bytes : List ℕ) → 324 ≤ n → column_count (take n bytes) ≡ column_count bytes
front_columns n bytes long = get_or-take n bytes 286 0 (omega (arith, long))

pub front_reader_secret : (n : ℕ) (bytes : List ℕ) → 324 ≤ n → reader_secret_count (take n bytes) ≡ reader_secret_count bytes
front_reader_secret n bytes long = get_or-take n bytes 291 0 (omega (arith, long))

abbrev whole_of : (count next : ℕ) → ℕ
whole_of count next = 324 + 4 * count * (next % 30)

pub front_whole : (n : ℕ) (bytes : List ℕ) → 324 ≤ n → whole_length (take n bytes) ≡ whole_length bytes
front_whole n bytes long =
    ap (λ (c : ℕ). whole_of c (next_said (take n bytes))) (front_columns n bytes long) ∙ ap (λ (m : ℕ). whole_of (column_count bytes) m) (says_front n bytes long)

abbrev fit_of : (a b c d f m : ℕ) → Bool
fit_of a b c d f m = nat_le a 16 && (nat_le b 240 && (nat_le c 4 && (nat_le d 16 && (nat_le f m && nat_le m (f + CAPACITY)))))

pub front_counts : (n : ℕ) (bytes : List ℕ) → 324 ≤ n → counts_fit (take n bytes) ≡ counts_fit bytes
front_counts n bytes long =
    let p = take n bytes in
    ap (λ (a : ℕ). fit_of a (text_count p) (column_count p) (reader_secret_count p) (first_said p) (next_said p)) (front_secret n bytes long)
    ∙ ap (λ (b : ℕ). fit_of (secret_count bytes) b (column_count p) (reader_secret_count p) (first_said p) (next_said p)) (front_text n bytes long)
    ∙ ap (λ (c : ℕ). fit_of (secret_count bytes) (text_count bytes) c (reader_secret_count p) (first_said p) (next_said p)) (front_columns n bytes long)
    ∙ ap (λ (d : ℕ). fit_of (secret_count bytes) (text_count bytes) (column_count bytes) d (first_said p) (next_said p)) (front_reader_secret n bytes long)
    ∙ ap (λ (f : ℕ). fit_of (secret_count bytes) (text_count bytes) (column_count bytes) (reader_secret_count bytes) f (next_said p)) (says_front_first n bytes long)
    ∙ ap (λ (m : ℕ). fit_of (secret_count bytes) (text_count bytes) (column_count bytes) (reader_secret_count bytes) (first_said bytes) m) (says_front n bytes long)

-- ---- why bytes are no first body

record Counted (a b c d f m : ℕ) : Type 0 where
  secret : a ≤ 16
  text : b ≤ 240
  columns : c ≤ 4
  reader_secret : d ≤ 16
  order : f ≤ m
  few : m ≤ f + CAPACITY

counted : (a b c d f m : ℕ) → fit_of a b c d f m ≡ true → Counted a b c d f m
counted a b c d f m fit = record {
  secret = grind (arith, nat_tests);
  text = grind (arith, nat_tests);
  columns = grind (arith, nat_tests);
  reader_secret = grind (arith, nat_tests);
  order = grind (arith, nat_tests);
  few = grind (arith, nat_tests);
}

all_fit : (a b c d f m : ℕ) → a ≤ 16 → b ≤ 240 → c ≤ 4 → d ≤ 16 → f ≤ m → m ≤ f + CAPACITY → fit_of a b c d f m ≡ true
all_fit a b c d f m e1 e2 e3 e4 e5 e6 =
    rw (le-leb a 16 e1, le-leb b 240 e2, le-leb c 4 e3, le-leb d 16 e4, le-leb f m e5, le-leb m (f + CAPACITY) e6) refl

pub has_head : (bytes : List ℕ) → 324 ≤ length bytes → counts_fit bytes ≡ true → length bytes ≤ whole_length bytes → HasHead bytes
has_head bytes long fit within =
    let of = counted (secret_count bytes) (text_count bytes) (column_count bytes) (reader_secret_count bytes) (first_said bytes) (next_said bytes) fit in
    record { long = long; secret = of.secret; text = of.text; columns = of.columns; reader_secret = of.reader_secret; order = of.order; few = of.few; within = within }

pub counts_of_head : (bytes : List ℕ) → counts_fit bytes ≡ true → column_count bytes ≤ 4
counts_of_head bytes fit = (counted (secret_count bytes) (text_count bytes) (column_count bytes) (reader_secret_count bytes) (first_said bytes) (next_said bytes) fit).columns

pub fault_short : (version : Version) (bytes : List ℕ) → length bytes < head_length version → first_fault version bytes ≡ Some Length
fault_short version bytes short = rw (lt-ltb (length bytes) (head_length version) short) refl

pub fault_counts : (version : Version) (bytes : List ℕ) → head_length version ≤ length bytes → counts_fit (as_present version bytes) ≡ false → first_fault version bytes ≡ Some Counts
fault_counts version bytes long fit = rw (le-ltb (length bytes) (head_length version) long, fit) refl

pub fault_length : (version : Version) (bytes : List ℕ) → head_length version ≤ length bytes → counts_fit (as_present version bytes) ≡ true
    → (length bytes ≡ min 496 (whole_length (as_present version bytes) - missing version) → ⊥) → first_fault version bytes ≡ Some Length
fault_length version bytes long fit other =
    let off : eqb (length bytes) (min 496 (whole_length (as_present version bytes) - missing version)) ≡ false = apart (length bytes) (min 496 (whole_length (as_present version bytes) - missing version)) other in
    rw (le-ltb (length bytes) (head_length version) long, fit, off) refl
  where
    apart : (m n : ℕ) → (m ≡ n → ⊥) → eqb m n ≡ false
    apart m n other = grind (arith, nat_tests)

pub fault_none : (version : Version) (bytes : List ℕ) → head_length version ≤ length bytes → counts_fit (as_present version bytes) ≡ true
    → length bytes ≡ min 496 (whole_length (as_present version bytes) - missing version) → first_fault version bytes ≡ None
fault_none version bytes long fit same =
    let on : eqb (length bytes) (min 496 (whole_length (as_present version bytes) - missing version)) ≡ true = equal (length bytes) (min 496 (whole_length (as_present version bytes) - missing version)) same in
    rw (le-ltb (length bytes) (head_length version) long, fit, on) refl
  where
    equal : (m n : ℕ) → m ≡ n → eqb m n ≡ true
    equal m n same = grind (arith, nat_tests)

-- a first body that was taken
pub record IsFirst (version : Version) (bytes : List ℕ) : Type 0 where
  pub long : head_length version ≤ length bytes
  pub fit : counts_fit (as_present version bytes) ≡ true
  pub same : length bytes ≡ min 496 (whole_length (as_present version bytes) - missing version)

none_is : {A : Type 0} {x : A} → Some x ≡ None → ⊥
none_is e = cc

pub is_first : (version : Version) (bytes : List ℕ) → first_fault version bytes ≡ None → IsFirst version bytes
is_first version bytes none = by_length (nat_lt (length bytes) (head_length version)) refl
  where
    by_same : (b : Bool) → nat_lt (length bytes) (head_length version) ≡ false → counts_fit (as_present version bytes) ≡ true → nat_eq (length bytes) (min 496 (whole_length (as_present version bytes) - missing version)) ≡ b → IsFirst version bytes
    by_same true long fit same = record { long = grind (arith, nat_tests); fit = fit; same = grind (arith, nat_tests) }
    by_same false long fit same = absurd (none_is {x = Length} (sym (rw (long, fit, same) refl) ∙ none))

    by_counts : (b : Bool) → nat_lt (length bytes) (head_length version) ≡ false → counts_fit (as_present version bytes) ≡ b → IsFirst version bytes
    by_counts true long fit = by_same (nat_eq (length bytes) (min 496 (whole_length (as_present version bytes) - missing version))) long fit refl
    by_counts false long fit = absurd (none_is {x = Counts} (sym (rw (long, fit) refl) ∙ none))

    by_length : (b : Bool) → nat_lt (length bytes) (head_length version) ≡ b → IsFirst version bytes
    by_length true short = absurd (none_is {x = Length} (sym (rw short refl) ∙ none))
    by_length false long = by_counts (counts_fit (as_present version bytes)) long refl

pub first_has_head : (version : Version) (bytes : List ℕ) → first_fault version bytes ≡ None → HasHead (as_present version bytes)
first_has_head version bytes none =
    let is = is_first version bytes none in
    let long = present_long version bytes in
    let few = few_missing version in
    has_head (as_present version bytes) (omega (arith, is.long, long, whole_head version)) is.fit (omega (arith, is.same, long, few))

-- a further body keeps what the first one says
pub grown : (bytes more : List ℕ) → HasHead bytes → length more ≡ awaited bytes → HasHead (bytes ++ more)
grown bytes more has long =
    let all = bytes ++ more in
    let front : take (length bytes) all ≡ bytes = take_at bytes more (length bytes) refl in
    let enough = has.long in
    let says : (f : List ℕ → ℕ) → f (take (length bytes) all) ≡ f all → f all ≡ f bytes = λ f e. sym e ∙ ap f front in
    let secret = says secret_count (front_secret (length bytes) all enough) in
    let text = says text_count (front_text (length bytes) all enough) in
    let columns = says column_count (front_columns (length bytes) all enough) in
    let reader = says reader_secret_count (front_reader_secret (length bytes) all enough) in
    let first = says first_said (says_front_first (length bytes) all enough) in
    let next = says next_said (says_front (length bytes) all enough) in
    let whole = says whole_length (front_whole (length bytes) all enough) in
    let joined = length-append bytes more in
    record {
      long = omega (arith, joined, has.long);
      secret = omega (arith, secret, has.secret);
      text = omega (arith, text, has.text);
      columns = omega (arith, columns, has.columns);
      reader_secret = omega (arith, reader, has.reader_secret);
      order = omega (arith, first, next, has.order);
      few = omega (arith, first, next, has.few);
      within = omega (arith, joined, long, whole, has.within);
    }

-- ---- the bodies of a state's bytes are taken

-- the bytes of a state in a version, in the present layout
pub record Present (version : Version) (s : StateValue) (bytes : List ℕ) : Type 0 where
  pub of : Lengths s (as_present version bytes)
  pub long : length (as_present version bytes) ≡ length bytes + missing version
  pub bound : 4 * length s.columns * (s.rows.next % 30) ≤ 464
  pub enough : head_length version ≤ length bytes

pub presented : (version : Version) (s : StateValue) (bytes : List ℕ) → IsCheckpointOf version s bytes → Present version s bytes
presented version s bytes is =
    let of = lengths s (as_present version bytes) (in_present version s bytes is) in
    let long = present_long version bytes in
    let bound = few_places (length s.columns) s.rows.next is.legal.fits.columns.count in
    record { of = of; long = long; bound = bound; enough = omega (arith, long, of.length_is, whole_head version) }

front_taken : (version : Version) (s : StateValue) (bytes : List ℕ) (n : ℕ) → Present version s bytes → 324 ≤ n → whole_length (as_present version (take n bytes)) ≡ 324 + 4 * length s.columns * (s.rows.next % 30)
front_taken version s bytes n it low =
    let cut = present_take version n bytes (omega (arith, low)) (omega (arith, it.enough, head_enough version)) in
    ap whole_length cut ∙ front_whole (n + missing version) (as_present version bytes) (omega (arith, low))
    ∙ ap (λ (c : ℕ). whole_of c (next_said (as_present version bytes))) it.of.head.columns ∙ ap (λ (m : ℕ). whole_of (length s.columns) m) it.of.head.next_is

pub first_is_taken : (version : Version) (bytes : List ℕ) (s : StateValue) → IsCheckpointOf version s bytes → first_fault version (body_at 0 bytes) ≡ None
first_is_taken version bytes s is =
    let it = presented version s bytes is in
    let of = it.of in
    let front = take 496 bytes in
    let all = as_present version bytes in
    let fits = is.legal.fits in
    let cut : as_present version front ≡ take (496 + missing version) all = present_take version 496 bytes (omega arith) (omega (arith, it.enough, head_enough version)) in
    let low : 324 ≤ 496 + missing version = omega arith in
    let fit : counts_fit (as_present version front) ≡ true =
    ap counts_fit cut ∙ front_counts (496 + missing version) all low
    ∙ all_fit (secret_count all) (text_count all) (column_count all) (reader_secret_count all) (first_said all) (next_said all)
    (omega (arith, of.head.secret, fits.secret.count)) (omega (arith, of.head.text, fits.text.count)) (omega (arith, of.head.columns, fits.columns.count)) (omega (arith, of.head.reader_secret, fits.reader_secret.count))
    (omega (arith, of.head.first_is, of.head.next_is, of.order)) (omega (arith, of.head.first_is, of.head.next_is, of.few)) in
    let whole = front_taken version s bytes 496 it (omega arith) in
    let count = length-take 496 bytes in
    let short : head_length version ≤ 496 = omega (arith, whole_head version) in
    fault_none version front (omega (arith, count, it.enough, short)) fit (omega (arith, count, whole, it.long, of.length_is))

pub further_is_taken : (version : Version) (bytes : List ℕ) (s : StateValue) (k : ℕ) → IsCheckpointOf version s bytes → 0 < k → awaited (as_present version (take (496 * k) bytes)) ≡ length (body_at k bytes)
further_is_taken version bytes s k is some =
    let it = presented version s bytes is in
    let whole = front_taken version s bytes (496 * k) it (omega (arith, some)) in
    let taken = present_long version (take (496 * k) bytes) in
    omega (arith, whole, taken, length-take (496 * k) bytes, length-take 496 (drop (496 * k) bytes), length-drop (496 * k) bytes, it.long, it.of.length_is)

pub some_bodies : (version : Version) (bytes : List ℕ) (s : StateValue) → IsCheckpointOf version s bytes → (0 < body_count bytes) × (body_count bytes ≤ 2)
some_bodies version bytes s is =
    let it = presented version s bytes is in
    let low = head_enough version in
    (omega (arith, it.enough, low), omega (arith, it.long, it.of.length_is, it.bound))

pub one_body_more : (bytes : List ℕ) (k : ℕ) → take (496 * (k + 1)) bytes ≡ take (496 * k) bytes ++ body_at k bytes
one_body_more bytes k =
    let next : 496 * (k + 1) ≡ 496 * k + 496 = omega arith in
    ap (λ (n : ℕ). take n bytes) next ∙ take-add (496 * k) 496 bytes

pub all_bodies : (bytes : List ℕ) (k : ℕ) → body_count bytes ≤ k → take (496 * k) bytes ≡ bytes
all_bodies bytes k all = take_all (496 * k) bytes (omega (arith, all))

pub no_empty_body : (bytes : List ℕ) (k : ℕ) → k < body_count bytes → 0 < length (body_at k bytes)
no_empty_body bytes k before = omega (arith, before, length-take 496 (drop (496 * k) bytes), length-drop (496 * k) bytes)

-- ---- the buffer has room

pub whole_few : (bytes : List ℕ) → column_count bytes ≤ 4 → whole_length bytes ≤ 788
whole_few bytes few = omega (arith, few_places (column_count bytes) (next_said bytes) few)

pub record Held (version : Version) (bytes : List ℕ) : Type 0 where
  pub long : 286 ≤ length bytes
  pub room : length bytes + missing version ≤ 788
  pub present : length (as_present version bytes) ≡ length bytes + missing version

pub held_bytes : (version : Version) (bytes : List ℕ) → HasHead (as_present version bytes) → Held version bytes
held_bytes version bytes has =
    let present = present_long version bytes in
    let whole = whole_few (as_present version bytes) has.columns in
    record { long = omega (arith, present, has.long, few_missing version); room = omega (arith, present, whole, has.within); present = present }

pub more_room : (version : Version) (bytes more : List ℕ) → HasHead (as_present version bytes) → length more ≡ awaited (as_present version bytes) → length bytes + length more ≤ 788
more_room version bytes more has long =
    let held = held_bytes version bytes has in
    let whole = whole_few (as_present version bytes) has.columns in
    omega (arith, held.present, whole, has.within, long)

pub grown_present : (version : Version) (bytes more : List ℕ) → HasHead (as_present version bytes) → length more ≡ awaited (as_present version bytes) → HasHead (as_present version (bytes ++ more))
grown_present version bytes more has long =
    subst HasHead (sym (present_append version bytes more (held_bytes version bytes has).long)) (grown (as_present version bytes) more has long)
