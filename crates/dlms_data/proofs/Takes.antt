-- Everything that is read has that spelling, and everything spelled so is read.
use Rattle.std.proofs.Common.{◌≡◌, ℕ, zero, suc, ◌-◌, ◌≤◌, Bool, true, false, cond, ltb, eqb, ◌||◌, List, [], ◌∷◌, ◌++◌, length, take, drop, Option, Some, None, Result, Ok, Err, refl, sym, ap, subst, ◌∙◌, append_assoc, arith, ◌⊎◌, inl, inr}
use Rattle.std.proofs.lemmas.Bool.{ltb-false, le-ltb, ltb-true, lt-ltb, eqb-true, eq-eqb}
use Rattle.std.proofs.lemmas.List.{take_at, drop_at, take-append-drop, length-append, length-take, length-drop, append-nil, take_all}
use Rattle.dlms_axdr.specs.declared.fault.DataFault.{DataFault}
use Rattle.dlms_axdr.specs.declared.fault.DataFault.TheVariants.{Short, Tag as NoTag, Length, Depth, Memory}
use Rattle.dlms_data.specs.declared.tag.Tag.{Tag}
use Rattle.dlms_data.specs.declared.tag.Tag.TheVariants as tag
use Rattle.dlms_data.specs.declared.tag.Plain.{Plain}
use Rattle.dlms_data.specs.declared.tag.Plain.TheVariants as plain
use Rattle.std.specs.Int.{cast_signed, w8, w16, w32, w64}
use Rattle.byteorder.specs.Endian.{big_number}
use Rattle.dlms_data.specs.Value.{Value, Values, null, array, structure, boolean, bit_string, double_long, double_long_unsigned, octet_string, visible_string, utf8_string, bcd, integer, long, unsigned, long_unsigned, long64, long64_unsigned, enumerated, date_time, date, time, none, cons, count, depth, values_depth}
use Rattle.dlms_data.specs.Bits.{bits_of, bytes_for, HoldsBits}
use Rattle.dlms_data.specs.Memory.{NeedsFirst}
use Rattle.dlms_axdr.specs.Reading.{◌>>=◌, Fault, short, no_type, no_length, too_deep, IsFault, Fails, Wants, behind, taken_at, length_at, number_at, octets_at}
use Rattle.dlms_data.specs.Reading.{bits_at, plain_at, content_at, tagged_at, value_at, type_of, values_at, nested, data_at}
use Rattle.dlms_data.specs.Spelling.{IsLength, Counted, Spells, SpellAll, IsSpelling}
use Rattle.dlms_data.proofs.Loop.{Reader}
use Rattle.dlms_data.proofs.Bitwise.{length-view, holds}

-- the value of a step that did not fail
bind_ok : {A B : Type 0} (r : Result A Fault) (f : A → Result B Fault) (y : B) → (r >>= f) ≡ Ok y → (x : A) × (r ≡ Ok x) × (f x ≡ Ok y)
bind_ok (Ok x) f y e = (x, refl, e)
bind_ok (Err d) f y e = absurd cc

abbrev pub done : {A : Type 0} → A → Result A Fault
done x = Ok x

pub ok_is : {A : Type 0} (x y : A) → done x ≡ done y → x ≡ y
ok_is x y e = cc

guard_ok : {A : Type 0} (b : Bool) (d : Fault) (r : Result A Fault) (y : A) → cond b (Err d) r ≡ Ok y → (b ≡ false) × (r ≡ Ok y)
guard_ok true d r y e = absurd cc
guard_ok false d r y e = (refl, e)

-- which way a test went
chosen : {A : Type 0} (b : Bool) (x y z : A) → cond b x y ≡ z → ((b ≡ true) × (x ≡ z)) ⊎ ((b ≡ false) × (y ≡ z))
chosen true x y z e = inl (refl, e)
chosen false x y z e = inr (refl, e)

-- text of this kind is at the front, and rest follows it
abbrev pub Takes : List ℕ → List ℕ → (List ℕ → Type 0) → Type 0
Takes bytes rest kind = (text : List ℕ) × (bytes ≡ text ++ rest) × kind text

-- ---- bytes and lengths

taken_takes : (n : ℕ) (bytes : List ℕ) (x : List ℕ × List ℕ) → taken_at n bytes ≡ Ok x → (bytes ≡ x.0 ++ x.1) × (length x.0 ≡ n)
unfolding taken_at
taken_takes n bytes x e =
    let g = guard_ok (ltb (length bytes) n) short (Ok (take n bytes, drop n bytes)) x e in
    let enough : n ≤ length bytes = ltb-false _ _ g.0 in
    subst (λ (y : List ℕ × List ℕ). (bytes ≡ y.0 ++ y.1) × (length y.0 ≡ n)) (ok_is (take n bytes, drop n bytes) x g.1)
    (sym (take-append-drop n bytes), omega (arith, length-take n bytes))

taken_again : (n : ℕ) (text rest : List ℕ) → length text ≡ n → taken_at n (text ++ rest) ≡ Ok (text, rest)
unfolding taken_at
taken_again n text rest len =
    let enough : ltb (length (text ++ rest)) n ≡ false = le-ltb _ _ (omega (arith, length-append text rest)) in
    rw (enough, take_at text rest n len, drop_at text rest n len) refl

-- ---- numbers

number_takes : (n : ℕ) (bytes : List ℕ) (x : ℕ × List ℕ) → number_at n bytes ≡ Ok x → Takes bytes x.1 (λ text. (length text ≡ n) × (x.0 ≡ big_number n text))
unfolding number_at
number_takes n bytes x e =
    let t = bind_ok (taken_at n bytes) (λ t. Ok (big_number n t.0, t.1)) x e in
    let parts = taken_takes n bytes t.0 t.1 in
    subst (λ (y : ℕ × List ℕ). Takes bytes y.1 (λ text. (length text ≡ n) × (y.0 ≡ big_number n text))) (ok_is (big_number n t.0.0, t.0.1) x t.2)
    (t.0.0, parts.0, (parts.1, refl))

number_again : (n : ℕ) (text rest : List ℕ) → length text ≡ n → number_at n (text ++ rest) ≡ Ok (big_number n text, rest)
unfolding number_at
number_again n text rest len = rw (taken_again n text rest len) refl

-- a first byte, with the bytes that it counts
long_length : (b : ℕ) (text : List ℕ) (n : ℕ) → 129 ≤ b → b ≤ 132 → length text ≡ b - 128 → n ≡ big_number (b - 128) text → IsLength (b ∷ text) n
long_length b [] n low high len is = absurd (omega arith)
long_length b (c ∷ more) n low high len is =
    (omega arith, omega arith, is ∙ ap (λ (k : ℕ). big_number k (c ∷ more)) (sym len))

pub length_takes : (bytes : List ℕ) (x : ℕ × List ℕ) → length_at bytes ≡ Ok x → Takes bytes x.1 (λ text. IsLength text x.0)
unfolding length_at
length_takes [] x e = absurd cc
length_takes (b ∷ rest) x e =
    elim (chosen (ltb b 128) (Ok (b, rest)) (cond (ltb b 129 || ltb 132 b) (Err no_length) (number_at (b - 128) rest)) (Ok x) e) [
      | inl one ↦ subst (λ (y : ℕ × List ℕ). Takes (b ∷ rest) y.1 (λ text. IsLength text y.0)) (ok_is (b, rest) x one.1) (b ∷ [], refl, (ltb-true b 128 one.0, refl))
      | inr further ↦
          let g = guard_ok (ltb b 129 || ltb 132 b) no_length (number_at (b - 128) rest) x further.1 in
          let t = number_takes (b - 128) rest x g.1 in
          let range = neither (ltb b 129) (ltb 132 b) g.0 in
          let low : 129 ≤ b = ltb-false b 129 range.0 in
          let high : b ≤ 132 = ltb-false 132 b range.1 in
          (b ∷ t.0, ap (λ (w : List ℕ). b ∷ w) t.1, long_length b t.0 x.0 low high t.2.0 t.2.1)
    ]
  where
    neither : (p q : Bool) → (p || q) ≡ false → (p ≡ false) × (q ≡ false)
    neither true q e = absurd cc
    neither false q e = (refl, e)

pub length_again : (text : List ℕ) (n : ℕ) (rest : List ℕ) → IsLength text n → length_at (text ++ rest) ≡ Ok (n, rest)
unfolding length_at
length_again [] n rest h = absurd h
length_again (b ∷ []) n rest h =
    let low : ltb b 128 ≡ true = lt-ltb b 128 h.0 in
    rw (low, h.1) refl
length_again (b ∷ c ∷ more) n rest h =
    let big : ltb b 128 ≡ false = le-ltb b 128 (omega (arith, h.1)) in
    let low : ltb b 129 ≡ false = le-ltb b 129 (omega (arith, h.1)) in
    let high : ltb 132 b ≡ false = le-ltb 132 b (omega (arith, h.0, h.1)) in
    let len : length (c ∷ more) ≡ b - 128 = omega (arith, h.1) in
    let number : big_number (b - 128) (c ∷ more) ≡ n = ap (λ (k : ℕ). big_number k (c ∷ more)) (sym len) ∙ sym h.2 in
    let chosen : length_at (b ∷ c ∷ (more ++ rest)) ≡ number_at (b - 128) ((c ∷ more) ++ rest) = rw (big, low, high) refl in
    chosen ∙ number_again (b - 128) (c ∷ more) rest len ∙ ap (λ (k : ℕ). Ok (k, rest)) number

-- ---- octets and bits

-- a length, and then its content, is both
counted : (bytes : List ℕ) (n : ℕ) (mid rest : List ℕ) (content : List ℕ → Type 0) → Takes bytes mid (λ text. IsLength text n) → Takes mid rest content → Takes bytes rest (λ text. Counted text n content)
counted bytes n mid rest content a b =
    (a.0 ++ b.0, a.1 ∙ ap (λ (t : List ℕ). a.0 ++ t) b.1 ∙ sym (append_assoc a.0 b.0 rest), (a.0, b.0, refl, a.2, b.2))

pub octets_takes : (bytes : List ℕ) (x : List ℕ × List ℕ) → octets_at bytes ≡ Ok x → Takes bytes x.1 (λ text. Counted text (length x.0) (λ body. body ≡ x.0))
unfolding octets_at
octets_takes bytes x e =
    let n = bind_ok (length_at bytes) (λ n. taken_at n.0 n.1) x e in
    let parts = taken_takes n.0.0 n.0.1 x n.2 in
    let len : Takes bytes n.0.1 (λ text. IsLength text (length x.0)) = subst (λ (k : ℕ). Takes bytes n.0.1 (λ text. IsLength text k)) (sym parts.1) (length_takes bytes n.0 n.1) in
    counted bytes (length x.0) n.0.1 x.1 (λ body. body ≡ x.0) len (x.0, parts.0, refl)

pub octets_again : (text b rest : List ℕ) → Counted text (length b) (λ body. body ≡ b) → octets_at (text ++ rest) ≡ Ok (b, rest)
unfolding octets_at
octets_again text b rest h =
    let regrouped : text ++ rest ≡ h.0 ++ (b ++ rest) = ap (λ (t : List ℕ). t ++ rest) (h.2 ∙ ap (λ (t : List ℕ). h.0 ++ t) h.4) ∙ append_assoc h.0 b rest in
    ap octets_at regrouped ∙ rw (length_again h.0 (length b) (b ++ rest) h.3, taken_again (length b) b rest refl) refl

bits_takes : (bytes : List ℕ) (x : List Bool × List ℕ) → bits_at bytes ≡ Ok x → Takes bytes x.1 (λ text. Counted text (length x.0) (λ body. HoldsBits body x.0))
unfolding bits_at
bits_takes bytes x e =
    let n = bind_ok (length_at bytes) (λ n. taken_at (bytes_for n.0) n.1 >>= λ t. Ok (take n.0 (bits_of t.0), t.1)) x e in
    let t = bind_ok (taken_at (bytes_for n.0.0) n.0.1) (λ t. Ok (take n.0.0 (bits_of t.0), t.1)) x n.2 in
    let parts = taken_takes (bytes_for n.0.0) n.0.1 t.0 t.1 in
    let bits : List Bool = take n.0.0 (bits_of t.0.0) in
    let as_many : length bits ≡ n.0.0 = length-view n.0.0 t.0.0 parts.1 in
    let len : Takes bytes n.0.1 (λ text. IsLength text (length bits)) = subst (λ (k : ℕ). Takes bytes n.0.1 (λ text. IsLength text k)) (sym as_many) (length_takes bytes n.0 n.1) in
    subst (λ (y : List Bool × List ℕ). Takes bytes y.1 (λ text. Counted text (length y.0) (λ body. HoldsBits body y.0))) (ok_is (bits, t.0.1) x t.2)
    (counted bytes (length bits) n.0.1 t.0.1 (λ body. HoldsBits body bits) len (t.0.0, parts.0, holds n.0.0 t.0.0 parts.1))

bits_again : (text : List ℕ) (bits : List Bool) (rest : List ℕ) → Counted text (length bits) (λ body. HoldsBits body bits) → bits_at (text ++ rest) ≡ Ok (bits, rest)
unfolding bits_at
bits_again text bits rest h =
    let regrouped : text ++ rest ≡ h.0 ++ (h.1 ++ rest) = ap (λ (t : List ℕ). t ++ rest) h.2 ∙ append_assoc h.0 h.1 rest in
    ap bits_at regrouped ∙ rw (length_again h.0 (length bits) (h.1 ++ rest) h.3, taken_again (bytes_for (length bits)) h.1 rest h.4.0, h.4.1) refl

-- ---- values

-- the value that one reader reads has a spelling of at most this many levels
abbrev TakesValue : ℕ → List ℕ → Value × List ℕ → Type 0
TakesValue room bytes x = Takes bytes x.1 (λ text. Spells text x.0) × (depth x.0 ≤ room)

abbrev TakesAll : ℕ → ℕ → List ℕ → Values × List ℕ → Type 0
TakesAll room n bytes x = Takes bytes x.1 (λ text. SpellAll text x.0) × (count x.0 ≡ n) × (values_depth x.0 ≤ room)

values_take : (item : Reader) (room : ℕ) → ((bytes : List ℕ) (x : Value × List ℕ) → item bytes ≡ Ok x → TakesValue room bytes x)
    → (n : ℕ) (bytes : List ℕ) (x : Values × List ℕ) → values_at item n bytes ≡ Ok x → TakesAll room n bytes x
unfolding values_at
values_take item room good zero bytes x e =
    subst (λ (y : Values × List ℕ). TakesAll room 0 bytes y) (ok_is (none, bytes) x e) (([], refl, refl), refl, omega arith)
values_take item room good (suc n) bytes x e =
    let a = bind_ok (item bytes) (λ v. values_at item n v.1 >>= λ vs. Ok (cons v.0 vs.0, vs.1)) x e in
    let b = bind_ok (values_at item n a.0.1) (λ vs. Ok (cons a.0.0 vs.0, vs.1)) x a.2 in
    let first = good bytes a.0 a.1 in
    let others = values_take item room good n a.0.1 b.0 b.1 in
    let f = first.0 in
    let o = others.0 in
    let whole : bytes ≡ (f.0 ++ o.0) ++ b.0.1 = f.1 ∙ ap (λ (t : List ℕ). f.0 ++ t) o.1 ∙ sym (append_assoc f.0 o.0 b.0.1) in
    subst (λ (y : Values × List ℕ). TakesAll room (suc n) bytes y) (ok_is (cons a.0.0 b.0.0, b.0.1) x b.2)
    ((f.0 ++ o.0, whole, (f.0, o.0, refl, f.2, o.2)), ap suc others.1, omega (arith, first.1, others.2))

-- the content after the tag of an array or a structure
abbrev TakesNested : ℕ → List ℕ → Values × List ℕ → Type 0
TakesNested room bytes x = Takes bytes x.1 (λ text. Counted text (count x.0) (λ body. SpellAll body x.0)) × (suc (values_depth x.0) ≤ room)

-- after a tag
tagged : (b : ℕ) (bytes rest : List ℕ) (kind : List ℕ → Type 0) → Takes bytes rest kind → Takes (b ∷ bytes) rest (λ text. (more : List ℕ) × (text ≡ b ∷ more) × kind more)
tagged b bytes rest kind t = (b ∷ t.0, ap (λ (w : List ℕ). b ∷ w) t.1, (t.0, refl, t.2))

-- ---- values that hold no others

-- a number, made a value
by_number : (room b k : ℕ) (make : ℕ → Value) (bytes : List ℕ) (x : Value × List ℕ) → ((text : List ℕ) → length text ≡ k → Spells (b ∷ text) (make (big_number k text)))
    → ((n : ℕ) → depth (make n) ≤ room) → (number_at k bytes >>= λ y. Ok (make y.0, y.1)) ≡ Ok x → TakesValue room (b ∷ bytes) x
by_number room b k make bytes x spelled low e =
    let a = bind_ok (number_at k bytes) (λ y. Ok (make y.0, y.1)) x e in
    let t = number_takes k bytes a.0 a.1 in
    let here : Spells (b ∷ t.0) (make a.0.0) = subst (λ (n : ℕ). Spells (b ∷ t.0) (make n)) (sym t.2.1) (spelled t.0 t.2.0) in
    subst (λ (y : Value × List ℕ). TakesValue room (b ∷ bytes) y) (ok_is (make a.0.0, a.0.1) x a.2) ((b ∷ t.0, ap (λ (w : List ℕ). b ∷ w) t.1, here), low a.0.0)

-- counted octets, made a value
by_octets : (room b : ℕ) (make : List ℕ → Value) (bytes : List ℕ) (x : Value × List ℕ) → ((text octets : List ℕ) → Counted text (length octets) (λ body. body ≡ octets) → Spells (b ∷ text) (make octets))
    → ((octets : List ℕ) → depth (make octets) ≤ room) → (octets_at bytes >>= λ y. Ok (make y.0, y.1)) ≡ Ok x → TakesValue room (b ∷ bytes) x
by_octets room b make bytes x spelled low e =
    let a = bind_ok (octets_at bytes) (λ y. Ok (make y.0, y.1)) x e in
    let t = octets_takes bytes a.0 a.1 in
    subst (λ (y : Value × List ℕ). TakesValue room (b ∷ bytes) y) (ok_is (make a.0.0, a.0.1) x a.2) ((b ∷ t.0, ap (λ (w : List ℕ). b ∷ w) t.1, spelled t.0 a.0.0 t.2), low a.0.0)

-- this many octets, made into a value
by_taken : (room b k : ℕ) (make : List ℕ → Value) (bytes : List ℕ) (x : Value × List ℕ) → ((text : List ℕ) → length text ≡ k → Spells (b ∷ text) (make text))
    → ((octets : List ℕ) → depth (make octets) ≤ room) → (taken_at k bytes >>= λ y. Ok (make y.0, y.1)) ≡ Ok x → TakesValue room (b ∷ bytes) x
by_taken room b k make bytes x spelled low e =
    let a = bind_ok (taken_at k bytes) (λ y. Ok (make y.0, y.1)) x e in
    let t = taken_takes k bytes a.0 a.1 in
    subst (λ (y : Value × List ℕ). TakesValue room (b ∷ bytes) y) (ok_is (make a.0.0, a.0.1) x a.2) ((b ∷ a.0.0, ap (λ (w : List ℕ). b ∷ w) t.0, spelled a.0.0 t.1), low a.0.0)

-- the tag of a type
abbrev plain_tag : Plain → ℕ
plain_tag plain.Null = 0
plain_tag plain.Boolean = 3
plain_tag plain.BitString = 4
plain_tag plain.DoubleLong = 5
plain_tag plain.DoubleLongUnsigned = 6
plain_tag plain.OctetString = 9
plain_tag plain.VisibleString = 10
plain_tag plain.Utf8String = 12
plain_tag plain.Bcd = 13
plain_tag plain.Integer = 15
plain_tag plain.Long = 16
plain_tag plain.Unsigned = 17
plain_tag plain.LongUnsigned = 18
plain_tag plain.Long64 = 20
plain_tag plain.Long64Unsigned = 21
plain_tag plain.Enum = 22
plain_tag plain.DateTime = 25
plain_tag plain.Date = 26
plain_tag plain.Time = 27

abbrev tag_of : Tag → ℕ
tag_of tag.Array = 1
tag_of tag.Structure = 2
tag_of (tag.Plain p) = plain_tag p

plain_takes : (room : ℕ) (p : Plain) (bytes : List ℕ) (x : Value × List ℕ) → plain_at p bytes ≡ Ok x → TakesValue room (plain_tag p ∷ bytes) x
unfolding plain_at
plain_takes room plain.Null bytes x e =
    subst (λ (y : Value × List ℕ). TakesValue room (0 ∷ bytes) y) (ok_is (null, bytes) x e) ((0 ∷ [], refl, refl), omega arith)
plain_takes room plain.Boolean bytes x e = by_number room 3 1 (λ n. boolean (ltb 0 n)) bytes x (λ text len. (text, refl, (len, refl))) (λ n. omega arith) e
plain_takes room plain.BitString bytes x e =
    let a = bind_ok (bits_at bytes) (λ y. Ok (bit_string y.0, y.1)) x e in
    let t = bits_takes bytes a.0 a.1 in
    subst (λ (y : Value × List ℕ). TakesValue room (4 ∷ bytes) y) (ok_is (bit_string a.0.0, a.0.1) x a.2) (tagged 4 bytes a.0.1 _ t, omega arith)
plain_takes room plain.DoubleLong bytes x e = by_number room 5 4 (λ n. double_long (cast_signed w32 n)) bytes x (λ text len. (text, refl, (len, refl))) (λ n. omega arith) e
plain_takes room plain.DoubleLongUnsigned bytes x e = by_number room 6 4 double_long_unsigned bytes x (λ text len. (text, refl, (len, refl))) (λ n. omega arith) e
plain_takes room plain.OctetString bytes x e = by_octets room 9 octet_string bytes x (λ text octets h. (text, refl, h)) (λ octets. omega arith) e
plain_takes room plain.VisibleString bytes x e = by_octets room 10 visible_string bytes x (λ text octets h. (text, refl, h)) (λ octets. omega arith) e
plain_takes room plain.Utf8String bytes x e = by_octets room 12 utf8_string bytes x (λ text octets h. (text, refl, h)) (λ octets. omega arith) e
plain_takes room plain.Bcd bytes x e = by_number room 13 1 bcd bytes x (λ text len. (text, refl, (len, refl))) (λ n. omega arith) e
plain_takes room plain.Integer bytes x e = by_number room 15 1 (λ n. integer (cast_signed w8 n)) bytes x (λ text len. (text, refl, (len, refl))) (λ n. omega arith) e
plain_takes room plain.Long bytes x e = by_number room 16 2 (λ n. long (cast_signed w16 n)) bytes x (λ text len. (text, refl, (len, refl))) (λ n. omega arith) e
plain_takes room plain.Unsigned bytes x e = by_number room 17 1 unsigned bytes x (λ text len. (text, refl, (len, refl))) (λ n. omega arith) e
plain_takes room plain.LongUnsigned bytes x e = by_number room 18 2 long_unsigned bytes x (λ text len. (text, refl, (len, refl))) (λ n. omega arith) e
plain_takes room plain.Long64 bytes x e = by_number room 20 8 (λ n. long64 (cast_signed w64 n)) bytes x (λ text len. (text, refl, (len, refl))) (λ n. omega arith) e
plain_takes room plain.Long64Unsigned bytes x e = by_number room 21 8 long64_unsigned bytes x (λ text len. (text, refl, (len, refl))) (λ n. omega arith) e
plain_takes room plain.Enum bytes x e = by_number room 22 1 enumerated bytes x (λ text len. (text, refl, (len, refl))) (λ n. omega arith) e
plain_takes room plain.DateTime bytes x e = by_taken room 25 12 date_time bytes x (λ text len. (text, refl, (len, refl))) (λ octets. omega arith) e
plain_takes room plain.Date bytes x e = by_taken room 26 5 date bytes x (λ text len. (text, refl, (len, refl))) (λ octets. omega arith) e
plain_takes room plain.Time bytes x e = by_taken room 27 4 time bytes x (λ text len. (text, refl, (len, refl))) (λ octets. omega arith) e

-- ---- any value

content_takes : (items : List ℕ → Result (Values × List ℕ) Fault) (room : ℕ) → ((bytes : List ℕ) (x : Values × List ℕ) → items bytes ≡ Ok x → TakesNested room bytes x)
    → (t : Tag) (bytes : List ℕ) (x : Value × List ℕ) → content_at items t bytes ≡ Ok x → TakesValue room (tag_of t ∷ bytes) x
unfolding content_at
content_takes items room good tag.Array bytes x e =
    let a = bind_ok (items bytes) (λ y. Ok (array y.0, y.1)) x e in
    let t = good bytes a.0 a.1 in
    subst (λ (y : Value × List ℕ). TakesValue room (1 ∷ bytes) y) (ok_is (array a.0.0, a.0.1) x a.2) (tagged 1 bytes a.0.1 _ t.0, t.1)
content_takes items room good tag.Structure bytes x e =
    let a = bind_ok (items bytes) (λ y. Ok (structure y.0, y.1)) x e in
    let t = good bytes a.0 a.1 in
    subst (λ (y : Value × List ℕ). TakesValue room (2 ∷ bytes) y) (ok_is (structure a.0.0, a.0.1) x a.2) (tagged 2 bytes a.0.1 _ t.0, t.1)
content_takes items room good (tag.Plain p) bytes x e = plain_takes room p bytes x e

-- one test of a chain of tests for the tag
pick : (b k : ℕ) (c t : Tag) (others : Option Tag) → k ≡ tag_of c → (others ≡ Some t → b ≡ tag_of t) → cond (eqb b k) (Some c) others ≡ Some t → b ≡ tag_of t
pick b k c t others of_c of_others e =
    elim (chosen (eqb b k) (Some c) others (Some t) e) [
      | inl this ↦ let same : c ≡ t = cc in eqb-true b k this.0 ∙ of_c ∙ ap tag_of same
      | inr rest ↦ of_others rest.1
    ]

-- the tag of a type is its byte
type_is : (b : ℕ) (t : Tag) → type_of b ≡ Some t → b ≡ tag_of t
type_is b t e =
    pick b 0 (tag.Plain plain.Null) t _ refl (pick b 1 tag.Array t _ refl (pick b 2 tag.Structure t _ refl (pick b 3 (tag.Plain plain.Boolean) t _ refl (pick b 4 (tag.Plain plain.BitString) t _ refl (pick b 5 (tag.Plain plain.DoubleLong) t _ refl (pick b 6 (tag.Plain plain.DoubleLongUnsigned) t _ refl (pick b 9 (tag.Plain plain.OctetString) t _ refl (pick b 10 (tag.Plain plain.VisibleString) t _ refl (pick b 12 (tag.Plain plain.Utf8String) t _ refl (pick b 13 (tag.Plain plain.Bcd) t _ refl (pick b 15 (tag.Plain plain.Integer) t _ refl (pick b 16 (tag.Plain plain.Long) t _ refl (pick b 17 (tag.Plain plain.Unsigned) t _ refl (pick b 18 (tag.Plain plain.LongUnsigned) t _ refl (pick b 20 (tag.Plain plain.Long64) t _ refl (pick b 21 (tag.Plain plain.Long64Unsigned) t _ refl (pick b 22 (tag.Plain plain.Enum) t _ refl (pick b 25 (tag.Plain plain.DateTime) t _ refl (pick b 26 (tag.Plain plain.Date) t _ refl (pick b 27 (tag.Plain plain.Time) t _ refl (λ no. absurd cc))))))))))))))))))))) e

-- a value, if nested values are read correctly
value_takes : (items : List ℕ → Result (Values × List ℕ) Fault) (room : ℕ) → ((bytes : List ℕ) (x : Values × List ℕ) → items bytes ≡ Ok x → TakesNested room bytes x)
    → (bytes : List ℕ) (x : Value × List ℕ) → value_at items bytes ≡ Ok x → TakesValue room bytes x
value_takes items room good [] x e = absurd cc
value_takes items room good (b ∷ bytes) x e = by_type (type_of b) refl e
  where
    by_type : (t : Option Tag) → type_of b ≡ t → tagged_at items t bytes ≡ Ok x → TakesValue room (b ∷ bytes) x
    by_type None is e = absurd cc
    by_type (Some t) is e = subst (λ (c : ℕ). TakesValue room (c ∷ bytes) x) (sym (type_is b t is)) (content_takes items room good t bytes x e)

nested_takes : (room : ℕ) (bytes : List ℕ) (x : Values × List ℕ) → nested room bytes ≡ Ok x → TakesNested room bytes x
unfolding nested
nested_takes zero bytes x e = absurd cc
nested_takes (suc room) bytes x e =
    let n = bind_ok (length_at bytes) (λ n. values_at (value_at (nested room)) n.0 n.1) x e in
    let vs = values_take (value_at (nested room)) room (value_takes (nested room) room (nested_takes room)) n.0.0 n.0.1 x n.2 in
    let len : Takes bytes n.0.1 (λ text. IsLength text (count x.0)) = subst (λ (k : ℕ). Takes bytes n.0.1 (λ text. IsLength text k)) (sym vs.1) (length_takes bytes n.0 n.1) in
    (counted bytes (count x.0) n.0.1 x.1 (λ body. SpellAll body x.0) len vs.0, omega (arith, vs.2))

-- what is read is spelled so
pub data_takes : (room : ℕ) (bytes : List ℕ) (x : Value × List ℕ) → data_at room bytes ≡ Ok x → TakesValue room bytes x
data_takes room = value_takes (nested room) room (nested_takes room)

-- ---- what is spelled is read

nested_again : (room n : ℕ) (text rest : List ℕ) (vs : Values) (h : Counted text n (λ body. SpellAll body vs)) → values_at (data_at room) n (h.1 ++ rest) ≡ Ok (vs, rest) → nested (suc room) (text ++ rest) ≡ Ok (vs, rest)
unfolding nested
nested_again room n text rest vs h body =
    let regrouped : text ++ rest ≡ h.0 ++ (h.1 ++ rest) = ap (λ (t : List ℕ). t ++ rest) h.2 ∙ append_assoc h.0 h.1 rest in
    ap (nested (suc room)) regrouped ∙ rw (length_again h.0 n (h.1 ++ rest) h.3) body

mutual
  unfolding content_at plain_at values_at

  -- what is spelled so is read, whatever follows
  pub data_again : (v : Value) (room : ℕ) (text rest : List ℕ) → Spells text v → depth v ≤ room → data_at room (text ++ rest) ≡ Ok (v, rest)
  data_again null room text rest h levels = ap (λ (t : List ℕ). data_at room (t ++ rest)) h
  data_again (array vs) zero text rest h levels = absurd (omega arith)
  data_again (array vs) (suc room) text rest h levels =
      let inner : nested (suc room) (h.0 ++ rest) ≡ Ok (vs, rest) = nested_again room (count vs) h.0 rest vs h.2 (values_again vs room h.2.1 rest h.2.4 (omega arith)) in
      ap (λ (t : List ℕ). data_at (suc room) (t ++ rest)) h.1 ∙ rw inner refl
  data_again (structure vs) zero text rest h levels = absurd (omega arith)
  data_again (structure vs) (suc room) text rest h levels =
      let inner : nested (suc room) (h.0 ++ rest) ≡ Ok (vs, rest) = nested_again room (count vs) h.0 rest vs h.2 (values_again vs room h.2.1 rest h.2.4 (omega arith)) in
      ap (λ (t : List ℕ). data_at (suc room) (t ++ rest)) h.1 ∙ rw inner refl
  data_again (boolean n) room text rest h levels =
      ap (λ (t : List ℕ). data_at room (t ++ rest)) h.1 ∙ rw (number_again 1 h.0 rest h.2.0, h.2.1) refl
  data_again (bit_string bits) room text rest h levels =
      ap (λ (t : List ℕ). data_at room (t ++ rest)) h.1 ∙ rw (bits_again h.0 bits rest h.2) refl
  data_again (double_long n) room text rest h levels =
      ap (λ (t : List ℕ). data_at room (t ++ rest)) h.1 ∙ rw (number_again 4 h.0 rest h.2.0, h.2.1) refl
  data_again (double_long_unsigned n) room text rest h levels =
      ap (λ (t : List ℕ). data_at room (t ++ rest)) h.1 ∙ rw (number_again 4 h.0 rest h.2.0, h.2.1) refl
  data_again (octet_string b) room text rest h levels =
      ap (λ (t : List ℕ). data_at room (t ++ rest)) h.1 ∙ rw (octets_again h.0 b rest h.2) refl
  data_again (visible_string b) room text rest h levels =
      ap (λ (t : List ℕ). data_at room (t ++ rest)) h.1 ∙ rw (octets_again h.0 b rest h.2) refl
  data_again (utf8_string b) room text rest h levels =
      ap (λ (t : List ℕ). data_at room (t ++ rest)) h.1 ∙ rw (octets_again h.0 b rest h.2) refl
  data_again (bcd n) room text rest h levels =
      ap (λ (t : List ℕ). data_at room (t ++ rest)) h.1 ∙ rw (number_again 1 h.0 rest h.2.0, h.2.1) refl
  data_again (integer n) room text rest h levels =
      ap (λ (t : List ℕ). data_at room (t ++ rest)) h.1 ∙ rw (number_again 1 h.0 rest h.2.0, h.2.1) refl
  data_again (long n) room text rest h levels =
      ap (λ (t : List ℕ). data_at room (t ++ rest)) h.1 ∙ rw (number_again 2 h.0 rest h.2.0, h.2.1) refl
  data_again (unsigned n) room text rest h levels =
      ap (λ (t : List ℕ). data_at room (t ++ rest)) h.1 ∙ rw (number_again 1 h.0 rest h.2.0, h.2.1) refl
  data_again (long_unsigned n) room text rest h levels =
      ap (λ (t : List ℕ). data_at room (t ++ rest)) h.1 ∙ rw (number_again 2 h.0 rest h.2.0, h.2.1) refl
  data_again (long64 n) room text rest h levels =
      ap (λ (t : List ℕ). data_at room (t ++ rest)) h.1 ∙ rw (number_again 8 h.0 rest h.2.0, h.2.1) refl
  data_again (long64_unsigned n) room text rest h levels =
      ap (λ (t : List ℕ). data_at room (t ++ rest)) h.1 ∙ rw (number_again 8 h.0 rest h.2.0, h.2.1) refl
  data_again (enumerated n) room text rest h levels =
      ap (λ (t : List ℕ). data_at room (t ++ rest)) h.1 ∙ rw (number_again 1 h.0 rest h.2.0, h.2.1) refl
  data_again (date_time b) room text rest h levels =
      ap (λ (t : List ℕ). data_at room (t ++ rest)) h.1 ∙ rw (taken_again 12 h.0 rest h.2.0, h.2.1) refl
  data_again (date b) room text rest h levels =
      ap (λ (t : List ℕ). data_at room (t ++ rest)) h.1 ∙ rw (taken_again 5 h.0 rest h.2.0, h.2.1) refl
  data_again (time b) room text rest h levels =
      ap (λ (t : List ℕ). data_at room (t ++ rest)) h.1 ∙ rw (taken_again 4 h.0 rest h.2.0, h.2.1) refl

  pub values_again : (vs : Values) (room : ℕ) (text rest : List ℕ) → SpellAll text vs → values_depth vs ≤ room → values_at (data_at room) (count vs) (text ++ rest) ≡ Ok (vs, rest)
  values_again none room text rest h levels = ap (λ (t : List ℕ). values_at (data_at room) 0 (t ++ rest)) h
  values_again (cons v vs) room text rest h levels =
      let regrouped : text ++ rest ≡ h.0 ++ (h.1 ++ rest) = ap (λ (t : List ℕ). t ++ rest) h.2 ∙ append_assoc h.0 h.1 rest in
      let first : data_at room (h.0 ++ (h.1 ++ rest)) ≡ Ok (v, h.1 ++ rest) = data_again v room h.0 (h.1 ++ rest) h.3 (omega arith) in
      let others : values_at (data_at room) (count vs) (h.1 ++ rest) ≡ Ok (vs, rest) = values_again vs room h.1 rest h.4 (omega arith) in
      ap (values_at (data_at room) (suc (count vs))) regrouped ∙ rw (first, others) refl

-- ---- the call

-- the rest after a value, and the value
valued : (r : Result (Value × List ℕ) Fault) (rest : List ℕ) → behind r ≡ Ok rest → (v : Value) × (r ≡ Ok (v, rest))
valued (Ok x) rest h = let e : x.1 ≡ rest = cc in (x.0, ap (λ (w : List ℕ). Ok (x.0, w)) e)
valued (Err f) rest h = absurd cc

-- the rest is the end of the bytes
abbrev pub Rest : List ℕ → List ℕ → Type 0
Rest bytes rest = (length rest ≤ length bytes) × (rest ≡ drop (length bytes - length rest) bytes)

pub rest_within : (bytes rest : List ℕ) → behind (data_at 8 bytes) ≡ Ok rest → Rest bytes rest
rest_within bytes rest h =
    let x = valued (data_at 8 bytes) rest h in
    let t = (data_takes 8 bytes (x.0, rest) x.1).0 in
    let len : length t.0 ≡ length bytes - length rest = omega (arith, ap length t.1, length-append t.0 rest) in
    let back : drop (length bytes - length rest) bytes ≡ rest = ap (drop (length bytes - length rest)) t.1 ∙ drop_at t.0 rest (length bytes - length rest) len in
    (omega (arith, ap length t.1, length-append t.0 rest), sym back)

-- the value that is read, if its end is known
pub is_exact : (bytes : List ℕ) (v : Value) (rest : List ℕ) (n : ℕ) → behind (data_at 8 bytes) ≡ Ok (drop n bytes) → data_at 8 bytes ≡ Ok (v, rest) → data_at 8 bytes ≡ Ok (v, drop n bytes)
is_exact bytes v rest n h e =
    let same : rest ≡ drop n bytes = let b : behind (data_at 8 bytes) ≡ Ok rest = ap behind e in cc in
    e ∙ ap (λ (w : List ℕ). Ok (v, w)) same

pub is_found : (bytes : List ℕ) (v : Value) (n : ℕ) → n ≤ length bytes → data_at 8 bytes ≡ Ok (v, drop n bytes) → IsSpelling (take n bytes) v
is_found bytes v n le e =
    let both = data_takes 8 bytes (v, drop n bytes) e in
    let t = both.0 in
    let len : length t.0 ≡ n = omega (arith, ap length t.1, length-append t.0 (drop n bytes), length-drop n bytes) in
    let front : take n bytes ≡ t.0 = ap (take n) t.1 ∙ take_at t.0 (drop n bytes) n len in
    subst (λ (w : List ℕ). IsSpelling w v) (sym front) (t.2, both.1)

-- the call's value and length, from the value and the rest
pub read_exact : (bytes : List ℕ) (v : Value) (rest : List ℕ) → data_at 8 bytes ≡ Ok (v, rest) → data_at 8 bytes ≡ Ok (v, drop (length bytes - length rest) bytes)
read_exact bytes v rest e =
    e ∙ ap (λ (w : List ℕ). Ok (v, w)) (rest_within bytes rest (ap behind e)).1

pub read_found : (bytes : List ℕ) (v : Value) (rest : List ℕ) → data_at 8 bytes ≡ Ok (v, rest) → (length bytes - length rest ≤ length bytes) × IsSpelling (take (length bytes - length rest) bytes) v
read_found bytes v rest e =
    let le : length bytes - length rest ≤ length bytes = omega arith in
    (le, is_found bytes v (length bytes - length rest) le (read_exact bytes v rest e))

pub spelled : (bytes : List ℕ) (v : Value) (text rest : List ℕ) → IsSpelling text v → bytes ≡ text ++ rest → data_at 8 bytes ≡ Ok (v, rest)
spelled bytes v text rest h e = ap (data_at 8) e ∙ data_again v 8 text rest h.0 h.1

-- nothing else is spelled there
pub is_only : (bytes : List ℕ) (x : Value) (n : ℕ) → n ≤ length bytes → data_at 8 bytes ≡ Ok (x, drop n bytes) → (v : Value) (text rest : List ℕ) → IsSpelling text v → bytes ≡ text ++ rest
    → done {A = Value × ℕ} (v, length text) ≡ done {A = Value × ℕ} (x, n)
is_only bytes x n le e v text rest h parts =
    let same : (v, rest) ≡ (x, drop n bytes) = ok_is (v, rest) (x, drop n bytes) (sym (spelled bytes v text rest h parts) ∙ e) in
    let value : v ≡ x = ap (λ (y : Value × List ℕ). y.0) same in
    let behind_it : rest ≡ drop n bytes = ap (λ (y : Value × List ℕ). y.1) same in
    let len : length text ≡ n = omega (arith, ap length parts, length-append text rest, ap length behind_it, length-drop n bytes) in
    rw (value, len) refl

-- no fault except out of memory, if there is a spelling
pub no_fault : (f : DataFault) (bytes : List ℕ) → Wants NeedsFirst f (data_at 8 bytes) → (v : Value) (text rest : List ℕ) → IsSpelling text v → bytes ≡ text ++ rest → Wants NeedsFirst f (done {A = Value × ℕ} (v, length text))
no_fault Memory bytes h v text rest s parts = rw (spelled bytes v text rest s parts) at h
no_fault Short bytes h v text rest s parts = let e = spelled bytes v text rest s parts in absurd cc
no_fault NoTag bytes h v text rest s parts = let e = spelled bytes v text rest s parts in absurd cc
no_fault Length bytes h v text rest s parts = let e = spelled bytes v text rest s parts in absurd cc
no_fault Depth bytes h v text rest s parts = let e = spelled bytes v text rest s parts in absurd cc

faulty : (r : Result (Value × List ℕ) Fault) (f : Fault) → behind r ≡ Err f → r ≡ Err f
faulty (Ok x) f h = absurd cc
faulty (Err g) f h = cc

-- a fault that was reported before
pub told_fault : (f : DataFault) (r : Result (Value × List ℕ) Fault) → IsFault f (behind r) → Wants NeedsFirst f r
told_fault Memory r h = absurd h
told_fault Short r h = faulty r short h
told_fault NoTag r h = faulty r no_type h
told_fault Length r h = faulty r no_length h
told_fault Depth r h = faulty r too_deep h

-- a fault reported by a function that may have run out of memory
pub told_fails : {Y : Type 0} (needs : Y × List ℕ → Type 0) (f : DataFault) (r : Result (Y × List ℕ) Fault) → IsFault f (behind r) → Fails needs f r
told_fails needs Memory r h = absurd h
told_fails needs Short (Ok x) h = absurd cc
told_fails needs Short (Err g) h = cc
told_fails needs NoTag (Ok x) h = absurd cc
told_fails needs NoTag (Err g) h = cc
told_fails needs Length (Ok x) h = absurd cc
told_fails needs Length (Err g) h = cc
told_fails needs Depth (Ok x) h = absurd cc
told_fails needs Depth (Err g) h = cc

-- if the value's end is known, the only fault is out of memory
pub only_memory : (f : DataFault) (r : Result (Value × List ℕ) Fault) (rest : List ℕ) → behind r ≡ Ok rest → Fails NeedsFirst f r → Wants NeedsFirst f r
only_memory Memory (Ok x) rest h fails = fails
only_memory Memory (Err g) rest h fails = absurd cc
only_memory Short r rest h fails = fails
only_memory NoTag r rest h fails = fails
only_memory Length r rest h fails = fails
only_memory Depth r rest h fails = fails

-- ---- how far a spelling reaches

-- a value is spelled up to the reported end
pub span_found : (bytes rest : List ℕ) → behind (data_at 8 bytes) ≡ Ok rest → (v : Value) × IsSpelling (take (length bytes - length rest) bytes) v
span_found bytes rest h =
    let x = valued (data_at 8 bytes) rest h in
    let r = rest_within bytes rest h in
    let e : data_at 8 bytes ≡ Ok (x.0, drop (length bytes - length rest) bytes) = x.1 ∙ ap (λ (w : List ℕ). Ok (x.0, w)) r.1 in
    (x.0, is_found bytes x.0 (length bytes - length rest) (omega arith) e)

abbrev pub ok_len : ℕ → Result ℕ DataFault
ok_len n = Ok n

pub span_only : (bytes rest : List ℕ) → behind (data_at 8 bytes) ≡ Ok rest → (v : Value) (text more : List ℕ) → IsSpelling text v → bytes ≡ text ++ more → ok_len (length bytes - length rest) ≡ ok_len (length text)
span_only bytes rest h v text more s parts =
    let e : behind (data_at 8 bytes) ≡ Ok more = ap behind (spelled bytes v text more s parts) in
    let same : rest ≡ more = ok_is rest more (sym h ∙ e) in
    let len : length bytes - length rest ≡ length text = omega (arith, ap length parts, length-append text more, ap length same) in
    ap ok_len len

pub span_fault : (f : DataFault) (bytes : List ℕ) → IsFault f (behind (data_at 8 bytes)) → (v : Value) (text more : List ℕ) → IsSpelling text v → bytes ≡ text ++ more → ⊥
span_fault Memory bytes h v text more s parts = h
span_fault Short bytes h v text more s parts = let e : behind (data_at 8 bytes) ≡ Ok more = ap behind (spelled bytes v text more s parts) in cc
span_fault NoTag bytes h v text more s parts = let e : behind (data_at 8 bytes) ≡ Ok more = ap behind (spelled bytes v text more s parts) in cc
span_fault Length bytes h v text more s parts = let e : behind (data_at 8 bytes) ≡ Ok more = ap behind (spelled bytes v text more s parts) in cc
span_fault Depth bytes h v text more s parts = let e : behind (data_at 8 bytes) ≡ Ok more = ap behind (spelled bytes v text more s parts) in cc

-- ---- all of the bytes

pub whole_found : (bytes : List ℕ) (n : ℕ) → eqb n (length bytes) ≡ true → ((v : Value) × IsSpelling (take n bytes) v) → (v : Value) × IsSpelling bytes v
whole_found bytes n same h =
    let all : take n bytes ≡ bytes = take_all n bytes (omega (arith, eqb-true n (length bytes) same)) in
    (h.0, subst (λ (w : List ℕ). IsSpelling w h.0) all h.1)

pub found_whole : (bytes : List ℕ) (n : ℕ) → ((v : Value) (text rest : List ℕ) → IsSpelling text v → bytes ≡ text ++ rest → ok_len n ≡ ok_len (length text)) → ((v : Value) × IsSpelling bytes v) → eqb n (length bytes) ≡ true
found_whole bytes n only h =
    let e : ok_len n ≡ ok_len (length bytes) = only h.0 bytes [] h.1 (sym (append-nil bytes)) in
    let same : n ≡ length bytes = cc in
    eq-eqb n (length bytes) same

abbrev pub err_len : DataFault → Result ℕ DataFault
err_len f = Err f

pub no_whole : (bytes : List ℕ) (f : DataFault) → ((v : Value) (text rest : List ℕ) → IsSpelling text v → bytes ≡ text ++ rest → err_len f ≡ ok_len (length text)) → ((v : Value) × IsSpelling bytes v) → ⊥
no_whole bytes f only h =
    let e : err_len f ≡ ok_len (length bytes) = only h.0 bytes [] h.1 (sym (append-nil bytes)) in
    cc
