-- Everything that is read has that spelling, and everything spelled so is read.
use Rattle.std.proofs.Common.{◌≡◌, ℕ, ℤ, zero, suc, ◌-◌, ◌≤◌, Bool, true, false, cond, ltb, eqb, ◌||◌, List, [], ◌∷◌, ◌++◌, length, take, drop, Option, Some, None, Result, Ok, Err, IfOk, IsOkAnd, IsTrue, refl, sym, ap, subst, ◌∙◌, append_assoc, arith, ◌⊎◌, inl, inr}
use Rattle.std.specs.List.{list_all}
use Rattle.std.proofs.lemmas.Bool.{ltb-false, le-ltb, ltb-true, lt-ltb, eqb-true}
use Rattle.std.proofs.lemmas.List.{take_at, drop_at, take-append-drop, length-append, length-take}
use Rattle.byteorder.specs.Endian.{big_number}
use Rattle.dlms_data.specs.Bits.{bits_of, bytes_for, HoldsBits}
use Rattle.dlms_data.specs.Spelling.{IsLength, Counted}
use Rattle.dlms_data.proofs.Bitwise.{length-view, holds}
use Rattle.dlms_values.specs.declared.fault.ValueFault.{ValueFault}
use Rattle.dlms_values.specs.declared.fault.ValueFault.TheVariants.{Short, Length, Nested}
use Rattle.dlms_values.specs.declared.types.Tag.{Tag}
use Rattle.dlms_values.specs.declared.types.Tag.TheVariants as tag
use Rattle.dlms_values.specs.declared.types.Plain.{Plain}
use Rattle.dlms_values.specs.declared.types.Plain.TheVariants as plain
use Rattle.dlms_values.specs.declared.types.SignedKind.{SignedKind}
use Rattle.dlms_values.specs.declared.types.SignedKind.TheVariants as signed_kind
use Rattle.dlms_values.specs.declared.types.UnsignedKind.{UnsignedKind}
use Rattle.dlms_values.specs.declared.types.UnsignedKind.TheVariants as unsigned_kind
use Rattle.dlms_values.specs.declared.types.OctetsKind.{OctetsKind}
use Rattle.dlms_values.specs.declared.types.OctetsKind.TheVariants as octets_kind
use Rattle.dlms_values.specs.Types.{type_of, tag_of, plain_tag, is_plain_tag, signed_tag, signed_size, signed_value, unsigned_tag, unsigned_size, octets_tag, octets_size}
use Rattle.dlms_values.specs.Value.{Value, Values, null, dont_care, boolean, bit_string, float32, float64, signed, unsigned, octets, compact_array, array, structure, none, cons, count, depth, values_depth}
use Rattle.dlms_values.specs.Reading.{◌>>=◌, Tells, taken_at, length_at, number_at, signed_at, counted_at, bits_at, octets_at, plain_at, plain_tags_at, types_at, compact_at, content_at, tagged_at, value_by, values_by, nested, value_at, values_at}
use Rattle.dlms_values.specs.Spelling.{SpellsOctets, SpellsTypes, SpellsCompact, Spells, SpellAll, IsSpelling}
use Rattle.dlms_values.proofs.Scan.{Reader}

-- the value of a step that did not fail
bind_ok : {A B : Type 0} (r : Result A ValueFault) (f : A → Result B ValueFault) (y : B) → (r >>= f) ≡ Ok y → (x : A) × (r ≡ Ok x) × (f x ≡ Ok y)
bind_ok (Ok x) f y e = (x, refl, e)
bind_ok (Err d) f y e = absurd cc

abbrev pub done : {A : Type 0} → A → Result A ValueFault
done x = Ok x

pub ok_is : {A : Type 0} (x y : A) → done x ≡ done y → x ≡ y
ok_is x y e = cc

guard_ok : {A : Type 0} (b : Bool) (d : ValueFault) (r : Result A ValueFault) (y : A) → cond b (Err d) r ≡ Ok y → (b ≡ false) × (r ≡ Ok y)
guard_ok true d r y e = absurd cc
guard_ok false d r y e = (refl, e)

-- which way a test went
chosen : {A : Type 0} (b : Bool) (x y z : A) → cond b x y ≡ z → ((b ≡ true) × (x ≡ z)) ⊎ ((b ≡ false) × (y ≡ z))
chosen true x y z e = inl (refl, e)
chosen false x y z e = inr (refl, e)

-- text of this kind is at the front, and rest follows it
abbrev pub Takes : List ℕ → List ℕ → (List ℕ → Type 0) → Type 0
Takes bytes rest kind = (text : List ℕ) × (bytes ≡ text ++ rest) × kind text

-- ---- bytes and lengths

taken_takes : (n : ℕ) (bytes : List ℕ) (x : List ℕ × List ℕ) → taken_at n bytes ≡ Ok x → (bytes ≡ x.0 ++ x.1) × (length x.0 ≡ n)
unfolding taken_at
taken_takes n bytes x e =
    let g = guard_ok (ltb (length bytes) n) Short (Ok (take n bytes, drop n bytes)) x e in
    let enough : n ≤ length bytes = ltb-false _ _ g.0 in
    subst (λ (y : List ℕ × List ℕ). (bytes ≡ y.0 ++ y.1) × (length y.0 ≡ n)) (ok_is (take n bytes, drop n bytes) x g.1)
    (sym (take-append-drop n bytes), omega (arith, length-take n bytes))

taken_again : (n : ℕ) (text rest : List ℕ) → length text ≡ n → taken_at n (text ++ rest) ≡ Ok (text, rest)
unfolding taken_at
taken_again n text rest len =
    let enough : ltb (length (text ++ rest)) n ≡ false = le-ltb _ _ (omega (arith, length-append text rest)) in
    rw (enough, take_at text rest n len, drop_at text rest n len) refl

-- ---- numbers

number_takes : (n : ℕ) (bytes : List ℕ) (x : ℕ × List ℕ) → number_at n bytes ≡ Ok x → Takes bytes x.1 (λ text. (length text ≡ n) × (x.0 ≡ big_number n text))
unfolding number_at
number_takes n bytes x e =
    let t = bind_ok (taken_at n bytes) (λ t. Ok (big_number n t.0, t.1)) x e in
    let parts = taken_takes n bytes t.0 t.1 in
    subst (λ (y : ℕ × List ℕ). Takes bytes y.1 (λ text. (length text ≡ n) × (y.0 ≡ big_number n text))) (ok_is (big_number n t.0.0, t.0.1) x t.2)
    (t.0.0, parts.0, (parts.1, refl))

number_again : (n : ℕ) (text rest : List ℕ) → length text ≡ n → number_at n (text ++ rest) ≡ Ok (big_number n text, rest)
unfolding number_at
number_again n text rest len = rw (taken_again n text rest len) refl

-- a first byte, with the bytes that it counts
long_length : (b : ℕ) (text : List ℕ) (n : ℕ) → 129 ≤ b → b ≤ 132 → length text ≡ b - 128 → n ≡ big_number (b - 128) text → IsLength (b ∷ text) n
long_length b [] n low high len is = absurd (omega arith)
long_length b (c ∷ more) n low high len is =
    (omega arith, omega arith, is ∙ ap (λ (k : ℕ). big_number k (c ∷ more)) (sym len))

pub length_takes : (bytes : List ℕ) (x : ℕ × List ℕ) → length_at bytes ≡ Ok x → Takes bytes x.1 (λ text. IsLength text x.0)
unfolding length_at
length_takes [] x e = absurd cc
length_takes (b ∷ rest) x e =
    elim (chosen (ltb b 128) (Ok (b, rest)) (cond (ltb b 129 || ltb 132 b) (Err Length) (number_at (b - 128) rest)) (Ok x) e) [
      | inl one ↦ subst (λ (y : ℕ × List ℕ). Takes (b ∷ rest) y.1 (λ text. IsLength text y.0)) (ok_is (b, rest) x one.1) (b ∷ [], refl, (ltb-true b 128 one.0, refl))
      | inr further ↦
          let g = guard_ok (ltb b 129 || ltb 132 b) Length (number_at (b - 128) rest) x further.1 in
          let t = number_takes (b - 128) rest x g.1 in
          let range = neither (ltb b 129) (ltb 132 b) g.0 in
          let low : 129 ≤ b = ltb-false b 129 range.0 in
          let high : b ≤ 132 = ltb-false 132 b range.1 in
          (b ∷ t.0, ap (λ (w : List ℕ). b ∷ w) t.1, long_length b t.0 x.0 low high t.2.0 t.2.1)
    ]
  where
    neither : (p q : Bool) → (p || q) ≡ false → (p ≡ false) × (q ≡ false)
    neither true q e = absurd cc
    neither false q e = (refl, e)

pub length_again : (text : List ℕ) (n : ℕ) (rest : List ℕ) → IsLength text n → length_at (text ++ rest) ≡ Ok (n, rest)
unfolding length_at
length_again [] n rest h = absurd h
length_again (b ∷ []) n rest h =
    let low : ltb b 128 ≡ true = lt-ltb b 128 h.0 in
    rw (low, h.1) refl
length_again (b ∷ c ∷ more) n rest h =
    let big : ltb b 128 ≡ false = le-ltb b 128 (omega (arith, h.1)) in
    let low : ltb b 129 ≡ false = le-ltb b 129 (omega (arith, h.1)) in
    let high : ltb 132 b ≡ false = le-ltb 132 b (omega (arith, h.0, h.1)) in
    let len : length (c ∷ more) ≡ b - 128 = omega (arith, h.1) in
    let number : big_number (b - 128) (c ∷ more) ≡ n = ap (λ (k : ℕ). big_number k (c ∷ more)) (sym len) ∙ sym h.2 in
    let chosen : length_at (b ∷ c ∷ (more ++ rest)) ≡ number_at (b - 128) ((c ∷ more) ++ rest) = rw (big, low, high) refl in
    chosen ∙ number_again (b - 128) (c ∷ more) rest len ∙ ap (λ (k : ℕ). Ok (k, rest)) number

-- ---- octets and bits

-- a length, and then its content, is both
counted : (bytes : List ℕ) (n : ℕ) (mid rest : List ℕ) (content : List ℕ → Type 0) → Takes bytes mid (λ text. IsLength text n) → Takes mid rest content → Takes bytes rest (λ text. Counted text n content)
counted bytes n mid rest content a b =
    (a.0 ++ b.0, a.1 ∙ ap (λ (t : List ℕ). a.0 ++ t) b.1 ∙ sym (append_assoc a.0 b.0 rest), (a.0, b.0, refl, a.2, b.2))

pub counted_takes : (bytes : List ℕ) (x : List ℕ × List ℕ) → counted_at bytes ≡ Ok x → Takes bytes x.1 (λ text. Counted text (length x.0) (λ body. body ≡ x.0))
unfolding counted_at
counted_takes bytes x e =
    let n = bind_ok (length_at bytes) (λ n. taken_at n.0 n.1) x e in
    let parts = taken_takes n.0.0 n.0.1 x n.2 in
    let len : Takes bytes n.0.1 (λ text. IsLength text (length x.0)) = subst (λ (k : ℕ). Takes bytes n.0.1 (λ text. IsLength text k)) (sym parts.1) (length_takes bytes n.0 n.1) in
    counted bytes (length x.0) n.0.1 x.1 (λ body. body ≡ x.0) len (x.0, parts.0, refl)

pub counted_again : (text b rest : List ℕ) → Counted text (length b) (λ body. body ≡ b) → counted_at (text ++ rest) ≡ Ok (b, rest)
unfolding counted_at
counted_again text b rest h =
    let regrouped : text ++ rest ≡ h.0 ++ (b ++ rest) = ap (λ (t : List ℕ). t ++ rest) (h.2 ∙ ap (λ (t : List ℕ). h.0 ++ t) h.4) ∙ append_assoc h.0 b rest in
    ap counted_at regrouped ∙ rw (length_again h.0 (length b) (b ++ rest) h.3, taken_again (length b) b rest refl) refl

bits_takes : (bytes : List ℕ) (x : List Bool × List ℕ) → bits_at bytes ≡ Ok x → Takes bytes x.1 (λ text. Counted text (length x.0) (λ body. HoldsBits body x.0))
unfolding bits_at
bits_takes bytes x e =
    let n = bind_ok (length_at bytes) (λ n. taken_at (bytes_for n.0) n.1 >>= λ t. Ok (take n.0 (bits_of t.0), t.1)) x e in
    let t = bind_ok (taken_at (bytes_for n.0.0) n.0.1) (λ t. Ok (take n.0.0 (bits_of t.0), t.1)) x n.2 in
    let parts = taken_takes (bytes_for n.0.0) n.0.1 t.0 t.1 in
    let bits : List Bool = take n.0.0 (bits_of t.0.0) in
    let as_many : length bits ≡ n.0.0 = length-view n.0.0 t.0.0 parts.1 in
    let len : Takes bytes n.0.1 (λ text. IsLength text (length bits)) = subst (λ (k : ℕ). Takes bytes n.0.1 (λ text. IsLength text k)) (sym as_many) (length_takes bytes n.0 n.1) in
    subst (λ (y : List Bool × List ℕ). Takes bytes y.1 (λ text. Counted text (length y.0) (λ body. HoldsBits body y.0))) (ok_is (bits, t.0.1) x t.2)
    (counted bytes (length bits) n.0.1 t.0.1 (λ body. HoldsBits body bits) len (t.0.0, parts.0, holds n.0.0 t.0.0 parts.1))

bits_again : (text : List ℕ) (bits : List Bool) (rest : List ℕ) → Counted text (length bits) (λ body. HoldsBits body bits) → bits_at (text ++ rest) ≡ Ok (bits, rest)
unfolding bits_at
bits_again text bits rest h =
    let regrouped : text ++ rest ≡ h.0 ++ (h.1 ++ rest) = ap (λ (t : List ℕ). t ++ rest) h.2 ∙ append_assoc h.0 h.1 rest in
    ap bits_at regrouped ∙ rw (length_again h.0 (length bits) (h.1 ++ rest) h.3, taken_again (bytes_for (length bits)) h.1 rest h.4.0, h.4.1) refl

-- ---- values

-- the value that one reader reads has a spelling of at most this many levels
abbrev TakesValue : ℕ → List ℕ → Value × List ℕ → Type 0
TakesValue room bytes x = Takes bytes x.1 (λ text. Spells text x.0) × (depth x.0 ≤ room)

abbrev TakesAll : ℕ → ℕ → List ℕ → Values × List ℕ → Type 0
TakesAll room n bytes x = Takes bytes x.1 (λ text. SpellAll text x.0) × (count x.0 ≡ n) × (values_depth x.0 ≤ room)

values_take : (item : Reader) (room : ℕ) → ((bytes : List ℕ) (x : Value × List ℕ) → item bytes ≡ Ok x → TakesValue room bytes x)
    → (n : ℕ) (bytes : List ℕ) (x : Values × List ℕ) → values_by item n bytes ≡ Ok x → TakesAll room n bytes x
unfolding values_by
values_take item room good zero bytes x e =
    subst (λ (y : Values × List ℕ). TakesAll room 0 bytes y) (ok_is (none, bytes) x e) (([], refl, refl), refl, omega arith)
values_take item room good (suc n) bytes x e =
    let a = bind_ok (item bytes) (λ v. values_by item n v.1 >>= λ vs. Ok (cons v.0 vs.0, vs.1)) x e in
    let b = bind_ok (values_by item n a.0.1) (λ vs. Ok (cons a.0.0 vs.0, vs.1)) x a.2 in
    let first = good bytes a.0 a.1 in
    let others = values_take item room good n a.0.1 b.0 b.1 in
    let f = first.0 in
    let o = others.0 in
    let whole : bytes ≡ (f.0 ++ o.0) ++ b.0.1 = f.1 ∙ ap (λ (t : List ℕ). f.0 ++ t) o.1 ∙ sym (append_assoc f.0 o.0 b.0.1) in
    subst (λ (y : Values × List ℕ). TakesAll room (suc n) bytes y) (ok_is (cons a.0.0 b.0.0, b.0.1) x b.2)
    ((f.0 ++ o.0, whole, (f.0, o.0, refl, f.2, o.2)), ap suc others.1, omega (arith, first.1, others.2))

-- the content after the tag of an array or a structure
abbrev TakesNested : ℕ → List ℕ → Values × List ℕ → Type 0
TakesNested room bytes x = Takes bytes x.1 (λ text. Counted text (count x.0) (λ body. SpellAll body x.0)) × (suc (values_depth x.0) ≤ room)

-- after a tag
tagged : (b : ℕ) (bytes rest : List ℕ) (kind : List ℕ → Type 0) → Takes bytes rest kind → Takes (b ∷ bytes) rest (λ text. (more : List ℕ) × (text ≡ b ∷ more) × kind more)
tagged b bytes rest kind t = (b ∷ t.0, ap (λ (w : List ℕ). b ∷ w) t.1, (t.0, refl, t.2))

-- ---- values that contain no others

-- what was read, made a value
made : {A : Type 0} (room b : ℕ) (make : A → Value) (read : Result (A × List ℕ) ValueFault) (bytes : List ℕ) (x : Value × List ℕ) → ((a : A × List ℕ) → read ≡ Ok a → Takes bytes a.1 (λ text. Spells (b ∷ text) (make a.0)))
    → ((a : A) → depth (make a) ≤ room) → (read >>= λ y. Ok (make y.0, y.1)) ≡ Ok x → TakesValue room (b ∷ bytes) x
made room b make read bytes x good low e =
    let a = bind_ok read (λ y. Ok (make y.0, y.1)) x e in
    let t = good a.0 a.1 in
    subst (λ (y : Value × List ℕ). TakesValue room (b ∷ bytes) y) (ok_is (make a.0.0, a.0.1) x a.2) ((b ∷ t.0, ap (λ (w : List ℕ). b ∷ w) t.1, t.2), low a.0.0)

-- text of another kind
as_kind : (bytes rest : List ℕ) (kind other : List ℕ → Type 0) → ((text : List ℕ) → kind text → other text) → Takes bytes rest kind → Takes bytes rest other
as_kind bytes rest kind other f t = (t.0, t.1, f t.0 t.2)

signed_takes : (k : SignedKind) (bytes : List ℕ) (x : ℤ × List ℕ) → signed_at k bytes ≡ Ok x → Takes bytes x.1 (λ text. (length text ≡ signed_size k) × (x.0 ≡ signed_value k (big_number (signed_size k) text)))
signed_takes k bytes x e =
    let a = bind_ok (number_at (signed_size k) bytes) (λ y. Ok (signed_value k y.0, y.1)) x e in
    let t = number_takes (signed_size k) bytes a.0 a.1 in
    subst (λ (y : ℤ × List ℕ). Takes bytes y.1 (λ text. (length text ≡ signed_size k) × (y.0 ≡ signed_value k (big_number (signed_size k) text)))) (ok_is (signed_value k a.0.0, a.0.1) x a.2)
    (t.0, t.1, (t.2.0, ap (signed_value k) t.2.1))

octets_takes : (size : Option ℕ) (bytes : List ℕ) (x : List ℕ × List ℕ) → octets_at size bytes ≡ Ok x → Takes bytes x.1 (λ text. SpellsOctets size text x.0)
octets_takes None bytes x e = counted_takes bytes x e
octets_takes (Some n) bytes x e = let t = taken_takes n bytes x e in (x.0, t.0, (t.1, refl))

plain_takes : (room : ℕ) (p : Plain) (bytes : List ℕ) (x : Value × List ℕ) → plain_at p bytes ≡ Ok x → TakesValue room (plain_tag p ∷ bytes) x
unfolding plain_at
plain_takes room plain.Null bytes x e =
    subst (λ (y : Value × List ℕ). TakesValue room (0 ∷ bytes) y) (ok_is (null, bytes) x e) ((0 ∷ [], refl, refl), omega arith)
plain_takes room plain.DontCare bytes x e =
    subst (λ (y : Value × List ℕ). TakesValue room (255 ∷ bytes) y) (ok_is (dont_care, bytes) x e) ((255 ∷ [], refl, refl), omega arith)
plain_takes room plain.Boolean bytes x e =
    made room 3 (λ n. boolean (ltb 0 n)) (number_at 1 bytes) bytes x (λ a h. as_kind bytes a.1 _ _ (λ text t. (text, refl, (t.0, ap (ltb 0) t.1))) (number_takes 1 bytes a h)) (λ n. omega arith) e
plain_takes room plain.BitString bytes x e =
    made room 4 bit_string (bits_at bytes) bytes x (λ a h. as_kind bytes a.1 _ _ (λ text t. (text, refl, t)) (bits_takes bytes a h)) (λ n. omega arith) e
plain_takes room plain.Float32 bytes x e =
    made room 23 float32 (number_at 4 bytes) bytes x (λ a h. as_kind bytes a.1 _ _ (λ text t. (text, refl, t)) (number_takes 4 bytes a h)) (λ n. omega arith) e
plain_takes room plain.Float64 bytes x e =
    made room 24 float64 (number_at 8 bytes) bytes x (λ a h. as_kind bytes a.1 _ _ (λ text t. (text, refl, t)) (number_takes 8 bytes a h)) (λ n. omega arith) e
plain_takes room (plain.Signed k) bytes x e =
    made room (signed_tag k) (signed k) (signed_at k bytes) bytes x (λ a h. as_kind bytes a.1 _ _ (λ text t. (text, refl, t)) (signed_takes k bytes a h)) (λ n. omega arith) e
plain_takes room (plain.Unsigned k) bytes x e =
    made room (unsigned_tag k) (unsigned k) (number_at (unsigned_size k) bytes) bytes x (λ a h. as_kind bytes a.1 _ _ (λ text t. (text, refl, t)) (number_takes (unsigned_size k) bytes a h)) (λ n. omega arith) e
plain_takes room (plain.Octets k) bytes x e =
    made room (octets_tag k) (octets k) (octets_at (octets_size k) bytes) bytes x (λ a h. as_kind bytes a.1 _ _ (λ text t. (text, refl, t)) (octets_takes (octets_size k) bytes a h)) (λ n. omega arith) e

-- ---- compact arrays

if_ok : {A : Type 0} (b : Bool) (d : ValueFault) (r : Result A ValueFault) (y : A) → cond b r (Err d) ≡ Ok y → IsTrue b × (r ≡ Ok y)
if_ok true d r y e = (refl, e)
if_ok false d r y e = absurd cc

tags_take : (n : ℕ) (bytes : List ℕ) (x : List ℕ × List ℕ) → plain_tags_at n bytes ≡ Ok x → (bytes ≡ x.0 ++ x.1) × (length x.0 ≡ n) × IsTrue (list_all is_plain_tag x.0)
unfolding plain_tags_at
tags_take n bytes x e =
    let t = bind_ok (taken_at n bytes) (λ t. cond (list_all is_plain_tag t.0) (Ok t) (Err Nested)) x e in
    let g = if_ok (list_all is_plain_tag t.0.0) Nested (Ok t.0) x t.2 in
    let parts = taken_takes n bytes t.0 t.1 in
    subst (λ (y : List ℕ × List ℕ). (bytes ≡ y.0 ++ y.1) × (length y.0 ≡ n) × IsTrue (list_all is_plain_tag y.0)) (ok_is t.0 x g.1)
    (parts.0, parts.1, g.0)

tags_again : (n : ℕ) (tags rest : List ℕ) → length tags ≡ n → IsTrue (list_all is_plain_tag tags) → plain_tags_at n (tags ++ rest) ≡ Ok (tags, rest)
unfolding plain_tags_at
tags_again n tags rest len all = rw (taken_again n tags rest len) (when_true (list_all is_plain_tag tags) (Ok (tags, rest)) all)
  where
    when_true : (b : Bool) (r : Result (List ℕ × List ℕ) ValueFault) → IsTrue b → cond b r (Err Nested) ≡ r
    when_true true r h = refl
    when_true false r h = absurd cc

abbrev Types : Type 0
Types = (Bool × List ℕ) × List ℕ

-- the types of a compact array's elements
abbrev TakesTypes : List ℕ → Types → Type 0
TakesTypes bytes x = Takes bytes x.1 (λ text. SpellsTypes x.0.0 text x.0.1 × IsTrue (list_all is_plain_tag x.0.1))

types_takes : (bytes : List ℕ) (x : Types) → types_at bytes ≡ Ok x → TakesTypes bytes x
unfolding types_at
types_takes [] x e = absurd cc
types_takes (b ∷ rest) x e =
    elim (chosen (eqb b 2) (length_at rest >>= λ n. plain_tags_at n.0 n.1 >>= λ t. Ok ((true, t.0), t.1)) (plain_tags_at 1 (b ∷ rest) >>= λ t. Ok ((false, t.0), t.1)) (Ok x) e) [
      | inl several ↦
          let n = bind_ok (length_at rest) (λ n. plain_tags_at n.0 n.1 >>= λ t. Ok ((true, t.0), t.1)) x several.1 in
          let t = bind_ok (plain_tags_at n.0.0 n.0.1) (λ t. Ok ((true, t.0), t.1)) x n.2 in
          let parts = tags_take n.0.0 n.0.1 t.0 t.1 in
          let len : Takes rest n.0.1 (λ text. IsLength text (length t.0.0)) = subst (λ (k : ℕ). Takes rest n.0.1 (λ text. IsLength text k)) (sym parts.1) (length_takes rest n.0 n.1) in
          let whole = counted rest (length t.0.0) n.0.1 t.0.1 (λ body. body ≡ t.0.0) len (t.0.0, parts.0, refl) in
          let first : b ≡ 2 = eqb-true b 2 several.0 in
          subst (λ (y : Types). TakesTypes (b ∷ rest) y) (ok_is ((true, t.0.0), t.0.1) x t.2)
          (2 ∷ whole.0, ap (λ (c : ℕ). c ∷ rest) first ∙ ap (λ (w : List ℕ). 2 ∷ w) whole.1, ((whole.0, refl, whole.2), parts.2))
      | inr alone ↦
          let t = bind_ok (plain_tags_at 1 (b ∷ rest)) (λ t. Ok ((false, t.0), t.1)) x alone.1 in
          let parts = tags_take 1 (b ∷ rest) t.0 t.1 in
          subst (λ (y : Types). TakesTypes (b ∷ rest) y) (ok_is ((false, t.0.0), t.0.1) x t.2)
          (t.0.0, parts.0, ((parts.1, refl), parts.2))
    ]

-- a structure's tag is not that of a type that contains no other values
only_tag : (b : ℕ) → IsTrue (list_all is_plain_tag (b ∷ [])) → eqb b 2 ≡ false
only_tag b h = decide (eqb b 2) refl
  where
    decide : (t : Bool) → eqb b 2 ≡ t → eqb b 2 ≡ false
    decide true e = let two : IsTrue (list_all is_plain_tag (2 ∷ [])) = subst (λ (k : ℕ). IsTrue (list_all is_plain_tag (k ∷ []))) (eqb-true b 2 e) h in absurd cc
    decide false e = e

types_again : (is_structure : Bool) (text tags rest : List ℕ) → SpellsTypes is_structure text tags → IsTrue (list_all is_plain_tag tags) → types_at (text ++ rest) ≡ Ok ((is_structure, tags), rest)
unfolding types_at
types_again true text tags rest h all =
    let regrouped : h.0 ++ rest ≡ h.2.0 ++ (tags ++ rest) = ap (λ (t : List ℕ). t ++ rest) (h.2.2 ∙ ap (λ (t : List ℕ). h.2.0 ++ t) h.2.4) ∙ append_assoc h.2.0 tags rest in
    ap (λ (t : List ℕ). types_at (t ++ rest)) h.1 ∙ rw (regrouped, length_again h.2.0 (length tags) (tags ++ rest) h.2.3, tags_again (length tags) tags rest refl all) refl
types_again false [] tags rest h all = absurd (omega (arith, h.0))
types_again false (b ∷ c ∷ more) tags rest h all = absurd (omega (arith, h.0))
types_again false (b ∷ []) tags rest h all =
    let one : IsTrue (list_all is_plain_tag (b ∷ [])) = subst (λ (t : List ℕ). IsTrue (list_all is_plain_tag t)) (sym h.1) all in
    let not_two : eqb b 2 ≡ false = only_tag b one in
    let again : plain_tags_at 1 ((b ∷ []) ++ rest) ≡ Ok (b ∷ [], rest) = tags_again 1 (b ∷ []) rest refl one in
    rw (not_two, again) (ap (λ (t : List ℕ). Ok ((false, t), rest)) h.1)

compact_takes : (room : ℕ) (bytes : List ℕ) (x : Value × List ℕ) → compact_at bytes ≡ Ok x → TakesValue room (19 ∷ bytes) x
unfolding compact_at
compact_takes room bytes x e =
    let t = bind_ok (types_at bytes) (λ t. counted_at t.1 >>= λ c. Ok (compact_array t.0.0 t.0.1 c.0, c.1)) x e in
    let c = bind_ok (counted_at t.0.1) (λ c. Ok (compact_array t.0.0.0 t.0.0.1 c.0, c.1)) x t.2 in
    let types = types_takes bytes t.0 t.1 in
    let contents = counted_takes t.0.1 c.0 c.1 in
    let whole : bytes ≡ (types.0 ++ contents.0) ++ c.0.1 = types.1 ∙ ap (λ (w : List ℕ). types.0 ++ w) contents.1 ∙ sym (append_assoc types.0 contents.0 c.0.1) in
    subst (λ (y : Value × List ℕ). TakesValue room (19 ∷ bytes) y) (ok_is (compact_array t.0.0.0 t.0.0.1 c.0.0, c.0.1) x c.2)
    ((19 ∷ (types.0 ++ contents.0), ap (λ (w : List ℕ). 19 ∷ w) whole, (types.0 ++ contents.0, refl, (types.0, contents.0, refl, types.2.0, types.2.1, contents.2))), omega arith)

compact_again : (is_structure : Bool) (tags contents text rest : List ℕ) → SpellsCompact is_structure tags contents text → compact_at (text ++ rest) ≡ Ok (compact_array is_structure tags contents, rest)
unfolding compact_at
compact_again is_structure tags contents text rest h =
    let regrouped : text ++ rest ≡ h.0 ++ (h.1 ++ rest) = ap (λ (t : List ℕ). t ++ rest) h.2 ∙ append_assoc h.0 h.1 rest in
    ap compact_at regrouped ∙ rw (types_again is_structure h.0 tags (h.1 ++ rest) h.3 h.4, counted_again h.1 contents rest h.5) refl

-- ---- any value

content_takes : (items : List ℕ → Result (Values × List ℕ) ValueFault) (room : ℕ) → ((bytes : List ℕ) (x : Values × List ℕ) → items bytes ≡ Ok x → TakesNested room bytes x)
    → (t : Tag) (bytes : List ℕ) (x : Value × List ℕ) → content_at items t bytes ≡ Ok x → TakesValue room (tag_of t ∷ bytes) x
unfolding content_at
content_takes items room good tag.Array bytes x e =
    let a = bind_ok (items bytes) (λ y. Ok (array y.0, y.1)) x e in
    let t = good bytes a.0 a.1 in
    subst (λ (y : Value × List ℕ). TakesValue room (1 ∷ bytes) y) (ok_is (array a.0.0, a.0.1) x a.2) (tagged 1 bytes a.0.1 _ t.0, t.1)
content_takes items room good tag.Structure bytes x e =
    let a = bind_ok (items bytes) (λ y. Ok (structure y.0, y.1)) x e in
    let t = good bytes a.0 a.1 in
    subst (λ (y : Value × List ℕ). TakesValue room (2 ∷ bytes) y) (ok_is (structure a.0.0, a.0.1) x a.2) (tagged 2 bytes a.0.1 _ t.0, t.1)
content_takes items room good tag.CompactArray bytes x e = compact_takes room bytes x e
content_takes items room good (tag.Plain p) bytes x e = plain_takes room p bytes x e

-- one test of a chain of tests for the tag
pick : (b k : ℕ) (c t : Tag) (others : Option Tag) → k ≡ tag_of c → (others ≡ Some t → b ≡ tag_of t) → cond (eqb b k) (Some c) others ≡ Some t → b ≡ tag_of t
pick b k c t others of_c of_others e =
    elim (chosen (eqb b k) (Some c) others (Some t) e) [
      | inl this ↦ let same : c ≡ t = cc in eqb-true b k this.0 ∙ of_c ∙ ap tag_of same
      | inr rest ↦ of_others rest.1
    ]

-- the tag of a type is its octet
type_is : (b : ℕ) (t : Tag) → type_of b ≡ Some t → b ≡ tag_of t
type_is b t e =
    pick b 0 (tag.Plain plain.Null) t _ refl (pick b 1 tag.Array t _ refl (pick b 2 tag.Structure t _ refl (pick b 3 (tag.Plain plain.Boolean) t _ refl (pick b 4 (tag.Plain plain.BitString) t _ refl (pick b 5 (tag.Plain (plain.Signed signed_kind.DoubleLong)) t _ refl (pick b 6 (tag.Plain (plain.Unsigned unsigned_kind.DoubleLongUnsigned)) t _ refl (pick b 9 (tag.Plain (plain.Octets octets_kind.OctetString)) t _ refl (pick b 10 (tag.Plain (plain.Octets octets_kind.VisibleString)) t _ refl (pick b 12 (tag.Plain (plain.Octets octets_kind.Utf8String)) t _ refl (pick b 13 (tag.Plain (plain.Unsigned unsigned_kind.Bcd)) t _ refl (pick b 15 (tag.Plain (plain.Signed signed_kind.Integer)) t _ refl (pick b 16 (tag.Plain (plain.Signed signed_kind.Long)) t _ refl (pick b 17 (tag.Plain (plain.Unsigned unsigned_kind.Unsigned)) t _ refl (pick b 18 (tag.Plain (plain.Unsigned unsigned_kind.LongUnsigned)) t _ refl (pick b 19 tag.CompactArray t _ refl (pick b 20 (tag.Plain (plain.Signed signed_kind.Long64)) t _ refl (pick b 21 (tag.Plain (plain.Unsigned unsigned_kind.Long64Unsigned)) t _ refl (pick b 22 (tag.Plain (plain.Unsigned unsigned_kind.Enum)) t _ refl (pick b 23 (tag.Plain plain.Float32) t _ refl (pick b 24 (tag.Plain plain.Float64) t _ refl (pick b 25 (tag.Plain (plain.Octets octets_kind.DateTime)) t _ refl (pick b 26 (tag.Plain (plain.Octets octets_kind.Date)) t _ refl (pick b 27 (tag.Plain (plain.Octets octets_kind.Time)) t _ refl (pick b 28 (tag.Plain (plain.Signed signed_kind.DeltaInteger)) t _ refl (pick b 29 (tag.Plain (plain.Signed signed_kind.DeltaLong)) t _ refl (pick b 30 (tag.Plain (plain.Signed signed_kind.DeltaDoubleLong)) t _ refl (pick b 31 (tag.Plain (plain.Unsigned unsigned_kind.DeltaUnsigned)) t _ refl (pick b 32 (tag.Plain (plain.Unsigned unsigned_kind.DeltaLongUnsigned)) t _ refl (pick b 33 (tag.Plain (plain.Unsigned unsigned_kind.DeltaDoubleLongUnsigned)) t _ refl (pick b 255 (tag.Plain plain.DontCare) t _ refl (λ no. absurd cc))))))))))))))))))))))))))))))) e

-- a value, if nested values are read correctly
value_takes : (items : List ℕ → Result (Values × List ℕ) ValueFault) (room : ℕ) → ((bytes : List ℕ) (x : Values × List ℕ) → items bytes ≡ Ok x → TakesNested room bytes x)
    → (bytes : List ℕ) (x : Value × List ℕ) → value_by items bytes ≡ Ok x → TakesValue room bytes x
value_takes items room good [] x e = absurd cc
value_takes items room good (b ∷ bytes) x e = by_type (type_of b) refl e
  where
    by_type : (t : Option Tag) → type_of b ≡ t → tagged_at items t bytes ≡ Ok x → TakesValue room (b ∷ bytes) x
    by_type None is e = absurd cc
    by_type (Some t) is e = subst (λ (c : ℕ). TakesValue room (c ∷ bytes) x) (sym (type_is b t is)) (content_takes items room good t bytes x e)

nested_takes : (room : ℕ) (bytes : List ℕ) (x : Values × List ℕ) → nested room bytes ≡ Ok x → TakesNested room bytes x
unfolding nested
nested_takes zero bytes x e = absurd cc
nested_takes (suc room) bytes x e =
    let n = bind_ok (length_at bytes) (λ n. values_by (value_by (nested room)) n.0 n.1) x e in
    let vs = values_take (value_by (nested room)) room (value_takes (nested room) room (nested_takes room)) n.0.0 n.0.1 x n.2 in
    let len : Takes bytes n.0.1 (λ text. IsLength text (count x.0)) = subst (λ (k : ℕ). Takes bytes n.0.1 (λ text. IsLength text k)) (sym vs.1) (length_takes bytes n.0 n.1) in
    (counted bytes (count x.0) n.0.1 x.1 (λ body. SpellAll body x.0) len vs.0, omega (arith, vs.2))

-- what is read is spelled so
pub read_takes : (room : ℕ) (bytes : List ℕ) (x : Value × List ℕ) → value_at room bytes ≡ Ok x → TakesValue room bytes x
read_takes room = value_takes (nested room) room (nested_takes room)

-- ---- what is spelled is read

nested_again : (room n : ℕ) (text rest : List ℕ) (vs : Values) (h : Counted text n (λ body. SpellAll body vs)) → values_at room n (h.1 ++ rest) ≡ Ok (vs, rest) → nested (suc room) (text ++ rest) ≡ Ok (vs, rest)
unfolding nested
nested_again room n text rest vs h body =
    let regrouped : text ++ rest ≡ h.0 ++ (h.1 ++ rest) = ap (λ (t : List ℕ). t ++ rest) h.2 ∙ append_assoc h.0 h.1 rest in
    ap (nested (suc room)) regrouped ∙ rw (length_again h.0 n (h.1 ++ rest) h.3) body

-- the types of the tags
signed_type : (k : SignedKind) → type_of (signed_tag k) ≡ Some (tag.Plain (plain.Signed k))
signed_type signed_kind.Integer = refl
signed_type signed_kind.Long = refl
signed_type signed_kind.DoubleLong = refl
signed_type signed_kind.Long64 = refl
signed_type signed_kind.DeltaInteger = refl
signed_type signed_kind.DeltaLong = refl
signed_type signed_kind.DeltaDoubleLong = refl

unsigned_type : (k : UnsignedKind) → type_of (unsigned_tag k) ≡ Some (tag.Plain (plain.Unsigned k))
unsigned_type unsigned_kind.Bcd = refl
unsigned_type unsigned_kind.Enum = refl
unsigned_type unsigned_kind.Unsigned = refl
unsigned_type unsigned_kind.LongUnsigned = refl
unsigned_type unsigned_kind.DoubleLongUnsigned = refl
unsigned_type unsigned_kind.Long64Unsigned = refl
unsigned_type unsigned_kind.DeltaUnsigned = refl
unsigned_type unsigned_kind.DeltaLongUnsigned = refl
unsigned_type unsigned_kind.DeltaDoubleLongUnsigned = refl

octets_type : (k : OctetsKind) → type_of (octets_tag k) ≡ Some (tag.Plain (plain.Octets k))
octets_type octets_kind.OctetString = refl
octets_type octets_kind.VisibleString = refl
octets_type octets_kind.Utf8String = refl
octets_type octets_kind.DateTime = refl
octets_type octets_kind.Date = refl
octets_type octets_kind.Time = refl

octets_again : (size : Option ℕ) (text b rest : List ℕ) → SpellsOctets size text b → octets_at size (text ++ rest) ≡ Ok (b, rest)
octets_again None text b rest h = counted_again text b rest h
octets_again (Some n) text b rest h = taken_again n text rest h.0 ∙ ap (λ (w : List ℕ). Ok (w, rest)) h.1

mutual
  unfolding content_at plain_at values_by

  -- what is spelled so is read, whatever follows
  pub value_again : (v : Value) (room : ℕ) (text rest : List ℕ) → Spells text v → depth v ≤ room → value_at room (text ++ rest) ≡ Ok (v, rest)
  value_again null room text rest h levels = ap (λ (t : List ℕ). value_at room (t ++ rest)) h
  value_again dont_care room text rest h levels = ap (λ (t : List ℕ). value_at room (t ++ rest)) h
  value_again (boolean n) room text rest h levels =
      ap (λ (t : List ℕ). value_at room (t ++ rest)) h.1 ∙ rw (number_again 1 h.0 rest h.2.0, h.2.1) refl
  value_again (bit_string bits) room text rest h levels =
      ap (λ (t : List ℕ). value_at room (t ++ rest)) h.1 ∙ rw (bits_again h.0 bits rest h.2) refl
  value_again (float32 n) room text rest h levels =
      ap (λ (t : List ℕ). value_at room (t ++ rest)) h.1 ∙ rw (number_again 4 h.0 rest h.2.0, h.2.1) refl
  value_again (float64 n) room text rest h levels =
      ap (λ (t : List ℕ). value_at room (t ++ rest)) h.1 ∙ rw (number_again 8 h.0 rest h.2.0, h.2.1) refl
  value_again (signed k z) room text rest h levels =
      ap (λ (t : List ℕ). value_at room (t ++ rest)) h.1 ∙ ap (λ (t : Option Tag). tagged_at (nested room) t (h.0 ++ rest)) (signed_type k)
      ∙ rw (number_again (signed_size k) h.0 rest h.2.0, h.2.1) refl
  value_again (unsigned k n) room text rest h levels =
      ap (λ (t : List ℕ). value_at room (t ++ rest)) h.1 ∙ ap (λ (t : Option Tag). tagged_at (nested room) t (h.0 ++ rest)) (unsigned_type k)
      ∙ rw (number_again (unsigned_size k) h.0 rest h.2.0, h.2.1) refl
  value_again (octets k b) room text rest h levels =
      ap (λ (t : List ℕ). value_at room (t ++ rest)) h.1 ∙ ap (λ (t : Option Tag). tagged_at (nested room) t (h.0 ++ rest)) (octets_type k)
      ∙ rw (octets_again (octets_size k) h.0 b rest h.2) refl
  value_again (compact_array is_structure tags contents) room text rest h levels =
      ap (λ (t : List ℕ). value_at room (t ++ rest)) h.1 ∙ compact_again is_structure tags contents h.0 rest h.2
  value_again (array vs) zero text rest h levels = absurd (omega arith)
  value_again (array vs) (suc room) text rest h levels =
      let inner : nested (suc room) (h.0 ++ rest) ≡ Ok (vs, rest) = nested_again room (count vs) h.0 rest vs h.2 (values_again vs room h.2.1 rest h.2.4 (omega arith)) in
      ap (λ (t : List ℕ). value_at (suc room) (t ++ rest)) h.1 ∙ rw inner refl
  value_again (structure vs) zero text rest h levels = absurd (omega arith)
  value_again (structure vs) (suc room) text rest h levels =
      let inner : nested (suc room) (h.0 ++ rest) ≡ Ok (vs, rest) = nested_again room (count vs) h.0 rest vs h.2 (values_again vs room h.2.1 rest h.2.4 (omega arith)) in
      ap (λ (t : List ℕ). value_at (suc room) (t ++ rest)) h.1 ∙ rw inner refl

  pub values_again : (vs : Values) (room : ℕ) (text rest : List ℕ) → SpellAll text vs → values_depth vs ≤ room → values_at room (count vs) (text ++ rest) ≡ Ok (vs, rest)
  values_again none room text rest h levels = ap (λ (t : List ℕ). values_at room 0 (t ++ rest)) h
  values_again (cons v vs) room text rest h levels =
      let regrouped : text ++ rest ≡ h.0 ++ (h.1 ++ rest) = ap (λ (t : List ℕ). t ++ rest) h.2 ∙ append_assoc h.0 h.1 rest in
      let first : value_at room (h.0 ++ (h.1 ++ rest)) ≡ Ok (v, h.1 ++ rest) = value_again v room h.0 (h.1 ++ rest) h.3 (omega arith) in
      let others : values_at room (count vs) (h.1 ++ rest) ≡ Ok (vs, rest) = values_again vs room h.1 rest h.4 (omega arith) in
      ap (values_at room (suc (count vs))) regrouped ∙ rw (first, others) refl

-- ---- the call

pub spelled : (bytes : List ℕ) (v : Value) (text rest : List ℕ) → IsSpelling text v → bytes ≡ text ++ rest → value_at 8 bytes ≡ Ok (v, rest)
spelled bytes v text rest h e = ap (value_at 8) e ∙ value_again v 8 text rest h.0 h.1

-- what is read is spelled before the rest
pub is_found : (bytes : List ℕ) (v : Value) (rest : List ℕ) → value_at 8 bytes ≡ Ok (v, rest) → (text : List ℕ) × (bytes ≡ text ++ rest) × IsSpelling text v
is_found bytes v rest e = let t = read_takes 8 bytes (v, rest) e in (t.0.0, t.0.1, (t.0.2, t.1))

-- nothing else is spelled there
pub is_only : (bytes : List ℕ) (x : Value) (after : List ℕ) → value_at 8 bytes ≡ Ok (x, after) → (v : Value) (text rest : List ℕ) → IsSpelling text v → bytes ≡ text ++ rest → (x ≡ v) × (after ≡ rest)
is_only bytes x after e v text rest h parts =
    let same : (x, after) ≡ (v, rest) = ok_is (x, after) (v, rest) (sym e ∙ spelled bytes v text rest h parts) in
    (ap (λ (y : Value × List ℕ). y.0) same, ap (λ (y : Value × List ℕ). y.1) same)

-- what cannot be read is not spelled
pub no_fault : (bytes : List ℕ) (f : ValueFault) → value_at 8 bytes ≡ Err f → (v : Value) (text rest : List ℕ) → IsSpelling text v → bytes ≡ text ++ rest → ⊥
no_fault bytes f e v text rest h parts = let ok = spelled bytes v text rest h parts in cc

-- the same of a call
pub read_found : {X : Type 0} (value : X → Value) (after : X → List ℕ) (r : Result X ValueFault) (bytes : List ℕ) → Tells (λ x. (value x, after x)) r (value_at 8 bytes)
    → IfOk r (λ x. (text : List ℕ) × (bytes ≡ text ++ after x) × IsSpelling text (value x))
read_found value after (Ok x) bytes h = is_found bytes (value x) (after x) h
read_found value after (Err e) bytes h = tt

pub read_only : {X : Type 0} (value : X → Value) (after : X → List ℕ) (r : Result X ValueFault) (bytes : List ℕ) → Tells (λ x. (value x, after x)) r (value_at 8 bytes)
    → (v : Value) (text rest : List ℕ) → IsSpelling text v → bytes ≡ text ++ rest → IsOkAnd r (λ x. (value x ≡ v) × (after x ≡ rest))
read_only value after (Ok x) bytes h v text rest s parts = is_only bytes (value x) (after x) h v text rest s parts
read_only value after (Err e) bytes h v text rest s parts = absurd (no_fault bytes e h v text rest s parts)
