-- Where faults stand.
use Rattle.std.proofs.Common.{◌≡◌, ℕ, zero, suc, ◌<◌, ◌≤◌, true, List, [], ◌∷◌, ◌+◌, ◌-◌, min, length, take, drop, length-drop, ◌∙◌, ap, sym, Option, Some, Result, Ok, Err, refl, subst, arith}
use Rattle.std.proofs.Math.Seq.{take-length}
use Rattle.std.proofs.lemmas.List.{drop-drop}
use Rattle.dlms_apdu.specs.Reading.{request_at, response_at}
use Rattle.dlms_apdu.specs.declared.fault.ApduFault.{ApduFault}
use Rattle.dlms_apdu.specs.declared.fault.ApduFault.TheVariants.{Short, Choice, Trailing, Data, Memory}
use Rattle.dlms_axdr.specs.Reading.{behind}
use Rattle.dlms_data.specs.Reading.{data_at}
use Rattle.dlms_data.specs.Spelling.{IsSpelling, Spells, Tagged}
use Rattle.dlms_data.specs.Value.{Value, null, array, structure, boolean, bit_string, double_long, double_long_unsigned, octet_string, visible_string, utf8_string, bcd, integer, long, unsigned, long_unsigned, long64, long64_unsigned, enumerated, date_time, date, time}
use Rattle.dlms_dissect.specs.declared.parties.Side.{Side}
use Rattle.dlms_dissect.specs.declared.parties.Side.TheVariants.{Client, Meter}
use Rattle.dlms_acse.specs.declared.fault.AcseFault.{AcseFault}
use Rattle.dlms_dissect.specs.declared.places.Fault.{Fault}
use Rattle.dlms_dissect.specs.Places.{IsBehind, Shows, counted, is_shown, refused, IsAcseFault, acse_words}

-- no octets end too soon, and nothing else is wrong with them
none-refused : (side : Side) → refused side [] ≡ Some Short
unfolding request_at response_at
none-refused Client = refl
none-refused Meter = refl

short-shown : (e : ApduFault) → (e ≡ Short → ⊥) → is_shown e (Some Short) ≡ true → ⊥
short-shown Short other h = other refl
short-shown Choice other h = cc
short-shown Trailing other h = cc
short-shown Data other h = cc
short-shown Memory other h = cc

none-shows : (side : Side) (e : ApduFault) → (e ≡ Short → ⊥) → Shows side e [] → ⊥
none-shows side e other h = short-shown e other (subst (λ (o : Option ApduFault). is_shown e o ≡ true) (none-refused side) h)

pub none-shows_choice : (side : Side) (e : ApduFault) → e ≡ Choice → Shows side e [] → ⊥
none-shows_choice side e is = none-shows side e (λ s. cc)

pub none-shows_trailing : (side : Side) (e : ApduFault) → e ≡ Trailing → Shows side e [] → ⊥
none-shows_trailing side e is = none-shows side e (λ s. cc)

pub none-shows_data : (side : Side) (e : ApduFault) → e ≡ Data → Shows side e [] → ⊥
none-shows_data side e is = none-shows side e (λ s. cc)

-- what is said of an association's APDU is said of the fault that its reader tells
pub acse-told : {Y : Type 0} (r : Result Y AcseFault) (e : AcseFault) (fault : Fault) → r ≡ Err e → fault.words.now ≡ acse_words e → IsAcseFault r fault
acse-told {Y} r e fault is words = subst (λ (x : Result Y AcseFault). IsAcseFault x fault) (sym is) words

-- ---- values, one behind another

pub behind-next : (values : ℕ) (octets rest next : List ℕ) → IsBehind values octets rest → behind (data_at 8 rest) ≡ Ok next → IsBehind (suc values) octets next
behind-next zero octets rest next h reads =
    let P : List ℕ → Type 0 = λ xs. behind (data_at 8 xs) ≡ Ok next in (next, (subst P h reads, refl))
behind-next (suc n) octets rest next h reads = (h.0, (h.1.0, behind-next n h.0 rest next h.1.1 reads))

tagged-none : (tag : ℕ) (content : List ℕ → Type 0) → Tagged tag [] content → ⊥
tagged-none tag content h = let e : [] ≡ tag ∷ h.0 = h.1 in cc

-- no octets spell no value
pub spells-none : (v : Value) → Spells [] v → ⊥
spells-none null h = cc
spells-none (array vs) h = tagged-none 1 _ h
spells-none (structure vs) h = tagged-none 2 _ h
spells-none (boolean b) h = tagged-none 3 _ h
spells-none (bit_string bits) h = tagged-none 4 _ h
spells-none (double_long z) h = tagged-none 5 _ h
spells-none (double_long_unsigned n) h = tagged-none 6 _ h
spells-none (octet_string b) h = tagged-none 9 _ h
spells-none (visible_string b) h = tagged-none 10 _ h
spells-none (utf8_string b) h = tagged-none 12 _ h
spells-none (bcd n) h = tagged-none 13 _ h
spells-none (integer z) h = tagged-none 15 _ h
spells-none (long z) h = tagged-none 16 _ h
spells-none (unsigned n) h = tagged-none 17 _ h
spells-none (long_unsigned n) h = tagged-none 18 _ h
spells-none (long64 z) h = tagged-none 20 _ h
spells-none (long64_unsigned n) h = tagged-none 21 _ h
spells-none (enumerated n) h = tagged-none 22 _ h
spells-none (date_time b) h = tagged-none 25 _ h
spells-none (date b) h = tagged-none 26 _ h
spells-none (time b) h = tagged-none 27 _ h

-- the rest after this many octets
rest-is : (octets : List ℕ) (n : ℕ) → take (length octets - n) (drop n octets) ≡ drop n octets
rest-is octets n =
    let P : ℕ → Type 0 = λ k. take k (drop n octets) ≡ drop n octets in
    let same : length octets - n ≡ length (drop n octets) = simp length-drop in
    subst P (sym same) (take-length (drop n octets))

some-read : (octets : List ℕ) (n : ℕ) → n ≤ length octets → ((v : Value) × IsSpelling (take n octets) v) → length (drop n octets) < length octets
some-read octets zero within found = absurd (spells-none found.0 found.1.0)
some-read octets (suc n) within found = simp length-drop (omega arith)

-- a value takes an octet at least
pub rest-smaller : (octets : List ℕ) (n : ℕ) → n ≤ length octets → ((v : Value) × IsSpelling (take n octets) v)
    → length (take (length octets - n) (drop n octets)) < length octets
rest-smaller octets n within found =
    let P : List ℕ → Type 0 = λ xs. length xs < length octets in subst P (sym (rest-is octets n)) (some-read octets n within found)

-- so many values were read, and this is left at this place
abbrev pub IsAt : List ℕ → ℕ → List ℕ → ℕ → Type 0
IsAt octets before rest place = (values n : ℕ) × (IsBehind values octets rest × (rest ≡ drop n octets) × (place ≡ counted (before + n)))

pub at-next : (octets rest : List ℕ) (before place len next : ℕ) → IsAt octets before rest place → behind (data_at 8 rest) ≡ Ok (drop len rest)
    → next ≡ min (place + len) 18446744073709551615 → IsAt octets before (take (length rest - len) (drop len rest)) next
at-next octets rest before place len next at reads is =
    let P : List ℕ → Type 0 = λ xs. IsBehind (suc at.0) octets xs in
    let stands : rest ≡ drop at.1 octets = at.2.1 in
    let counts : place ≡ counted (before + at.1) = at.2.2 in
    let moved : next ≡ counted (before + (at.1 + len)) = omega arith in
    let left : take (length rest - len) (drop len rest) ≡ drop (at.1 + len) octets = rest-is rest len ∙ ap (drop len) stands ∙ drop-drop len at.1 octets in
    (suc at.0, at.1 + len, (subst P (sym (rest-is rest len)) (behind-next at.0 octets rest (drop len rest) at.2.0 reads), left, moved))
