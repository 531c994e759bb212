-- Where the faults stand.
use Rattle.std.proofs.Common.{◌≡◌, ℕ, zero, suc, ◌-◌, ◌≤◌, ◌<◌, ◌⊎◌, inl, inr, ◌||◌, if◌then◌else◌, Bool, true, false, ltb, List, [], ◌∷◌, ◌++◌, length, take, drop, Option, Some, None, Result, Ok, Err, refl, sym, ap, subst, ◌∙◌, append_assoc, arith}
use Rattle.std.proofs.lemmas.Bool.{ltb-false, le-ltb, ltb-true, lt-ltb}
use Rattle.dlms_data.specs.declared.tag.Tag.{Tag}
use Rattle.dlms_data.specs.declared.tag.Tag.TheVariants as tag
use Rattle.dlms_data.specs.declared.tag.Plain.{Plain}
use Rattle.dlms_data.specs.declared.tag.Plain.TheVariants as plain
use Rattle.dlms_data.specs.Value.{Value, Values, none, cons, count, values_depth}
use Rattle.dlms_data.specs.Bits.{bytes_for, bits_of}
use Rattle.dlms_data.specs.Spelling.{SpellAll}
use Rattle.dlms_axdr.specs.Reading.{◌>>=◌, Fault, short, no_type, no_length, too_deep, taken_at, length_at, number_at, octets_at}
use Rattle.dlms_data.specs.Reading.{bits_at, plain_at, content_at, tagged_at, value_at, type_of, values_at, nested, data_at}
use Rattle.dlms_data.specs.Faults.{LengthFault, counted, content_of, ContentFault, TypeFault, ValueFault, Inside, TellsFaults}
use Rattle.dlms_data.proofs.Takes.{length_takes, length_again, data_takes, data_again}

abbrev failed : {A : Type 0} → Fault → Result A Fault
failed f = Err f

err_is : {A : Type 0} (f g : Fault) → failed {A = A} f ≡ failed {A = A} g → f ≡ g
err_is f g e = cc

told : {A B : Type 0} (f g : Fault) → failed {A = A} f ≡ failed {A = A} g → failed {A = B} f ≡ failed {A = B} g
told {A} {B} f g e = ap (λ (h : Fault). failed {A = B} h) (err_is {A = A} f g e)

-- a step that changes what was read alone
made_err : {A B : Type 0} (r : Result A Fault) (g : A → B) (f : Fault) → (r >>= λ x. Ok (g x)) ≡ Err f → r ≡ Err f
made_err (Ok x) g f e = absurd cc
made_err {A} {B} (Err d) g f e = told {A = B} {B = A} d f e

err_made : {A B : Type 0} (r : Result A Fault) (g : A → B) (f : Fault) → r ≡ Err f → (r >>= λ x. Ok (g x)) ≡ Err f
err_made r g f e = rw e refl

-- ---- bytes and numbers

taken_fault : (n : ℕ) (bytes : List ℕ) (f : Fault) → taken_at n bytes ≡ Err f → (f ≡ short) × (length bytes < n)
unfolding taken_at
taken_fault n bytes f e = by_test (ltb (length bytes) n) refl e
  where
    by_test : (t : Bool) → ltb (length bytes) n ≡ t → if◌then◌else◌ {A = Result (List ℕ × List ℕ) Fault} t (Err short) (Ok (take n bytes, drop n bytes)) ≡ Err f → (f ≡ short) × (length bytes < n)
    by_test true h e = (sym (err_is {A = List ℕ × List ℕ} short f e), ltb-true (length bytes) n h)
    by_test false h e = absurd cc

taken_short : (n : ℕ) (bytes : List ℕ) (f : Fault) → (f ≡ short) × (length bytes < n) → taken_at n bytes ≡ Err f
unfolding taken_at
taken_short n bytes f h = rw (lt-ltb (length bytes) n h.1, h.0) refl

number_fault : (n : ℕ) (bytes : List ℕ) (f : Fault) → number_at n bytes ≡ Err f → (f ≡ short) × (length bytes < n)
unfolding number_at
number_fault n bytes f e = taken_fault n bytes f (made_err (taken_at n bytes) _ f e)

number_short : (n : ℕ) (bytes : List ℕ) (f : Fault) → (f ≡ short) × (length bytes < n) → number_at n bytes ≡ Err f
unfolding number_at
number_short n bytes f h = err_made (taken_at n bytes) _ f (taken_short n bytes f h)

-- ---- lengths

either : (p q : Bool) → (p || q) ≡ true → (p ≡ true) ⊎ (q ≡ true)
either true q e = inl refl
either false q e = inr e

neither : (p q : Bool) → (p || q) ≡ false → (p ≡ false) × (q ≡ false)
neither true q e = absurd cc
neither false q e = (refl, e)

no_length_at : (b : ℕ) (rest : List ℕ) → 128 ≤ b → (ltb b 129 || ltb 132 b) ≡ true → LengthFault no_length (b ∷ rest)
no_length_at b rest low h =
    elim (either (ltb b 129) (ltb 132 b) h) [
      | inl one ↦ let l = ltb-true b 129 one in (b, rest, refl, inl (omega arith))
      | inr two ↦ (b, rest, refl, inr (ltb-true 132 b two))
    ]

length_found : (bytes : List ℕ) (f : Fault) → length_at bytes ≡ Err f → LengthFault f bytes
unfolding length_at
length_found [] f e = subst (λ (g : Fault). LengthFault g []) (err_is {A = ℕ × List ℕ} short f e) (inl refl)
length_found (b ∷ rest) f e = by_first (ltb b 128) refl e
  where
    by_second : 128 ≤ b → (t : Bool) → (ltb b 129 || ltb 132 b) ≡ t → (if t then Err no_length else number_at (b - 128) rest) ≡ Err f → LengthFault f (b ∷ rest)
    by_second low true h e = subst (λ (g : Fault). LengthFault g (b ∷ rest)) (err_is {A = ℕ × List ℕ} no_length f e) (no_length_at b rest low h)
    by_second low false h e =
        let n = number_fault (b - 128) rest f e in
        let range = neither (ltb b 129) (ltb 132 b) h in
        let above = ltb-false b 129 range.0 in
        let below = ltb-false 132 b range.1 in
        subst (λ (g : Fault). LengthFault g (b ∷ rest)) (sym n.0) (inr (b, rest, refl, omega arith, below, n.1))

    by_first : (t : Bool) → ltb b 128 ≡ t → if◌then◌else◌ {A = Result (ℕ × List ℕ) Fault} t (Ok (b, rest)) (if ltb b 129 || ltb 132 b then Err no_length else number_at (b - 128) rest) ≡ Err f → LengthFault f (b ∷ rest)
    by_first true h e = absurd cc
    by_first false h e = by_second (ltb-false b 128 h) (ltb b 129 || ltb 132 b) refl e

or_second : (p q : Bool) → q ≡ true → (p || q) ≡ true
or_second true q e = refl
or_second false q e = e

length_only : (f : Fault) (bytes : List ℕ) → LengthFault f bytes → length_at bytes ≡ Err f
unfolding length_at
length_only short bytes (inl e) = rw e refl
length_only short bytes (inr (b, rest, e, low, high, few)) =
    let one : ltb b 128 ≡ false = le-ltb b 128 (omega arith) in
    let two : ltb b 129 ≡ false = le-ltb b 129 (omega arith) in
    let three : ltb 132 b ≡ false = le-ltb 132 b high in
    rw (e, one, two, three, number_short (b - 128) rest short (refl, few)) refl
length_only no_length bytes (b, rest, e, inl is) =
    let one : ltb b 128 ≡ false = le-ltb b 128 (omega arith) in
    let two : ltb b 129 ≡ true = lt-ltb b 129 (omega arith) in
    rw (e, one, two) refl
length_only no_length bytes (b, rest, e, inr big) =
    let one : ltb b 128 ≡ false = le-ltb b 128 (omega arith) in
    let both : (ltb b 129 || ltb 132 b) ≡ true = or_second (ltb b 129) (ltb 132 b) (lt-ltb 132 b big) in
    rw (e, one, both) refl
length_only no_type bytes h = absurd h
length_only too_deep bytes h = absurd h

-- ---- contents

behind_length : (needs : ℕ → ℕ) (bytes : List ℕ) (f : Fault) (n : ℕ × List ℕ) → length_at bytes ≡ Ok n → taken_at (needs n.0) n.1 ≡ Err f → ContentFault f (counted needs) bytes
behind_length needs bytes f n o e =
    let t = length_takes bytes n o in
    let few = taken_fault (needs n.0) n.1 f e in
    inr (few.0, (t.0, n.1, n.0, t.1, t.2, few.1))

octets_found : (bytes : List ℕ) (f : Fault) → octets_at bytes ≡ Err f → ContentFault f (counted (λ n. n)) bytes
unfolding octets_at
octets_found bytes f e = by_length (length_at bytes) refl e
  where
    by_length : (r : Result (ℕ × List ℕ) Fault) → length_at bytes ≡ r → (r >>= λ n. taken_at n.0 n.1) ≡ Err f → ContentFault f (counted (λ n. n)) bytes
    by_length (Ok n) o e = behind_length (λ n. n) bytes f n o e
    by_length (Err g) o e = inl (length_found bytes f (o ∙ told {A = List ℕ × List ℕ} {B = ℕ × List ℕ} g f e))

octets_only : (bytes : List ℕ) (f : Fault) → ContentFault f (counted (λ n. n)) bytes → octets_at bytes ≡ Err f
unfolding octets_at
octets_only bytes f (inl h) = rw (length_only f bytes h) refl
octets_only bytes f (inr (is, (len, rest, n, e, l, few))) = rw (e, length_again len n rest l) (taken_short n rest f (is, few))

bits_found : (bytes : List ℕ) (f : Fault) → bits_at bytes ≡ Err f → ContentFault f (counted bytes_for) bytes
unfolding bits_at
bits_found bytes f e = by_length (length_at bytes) refl e
  where
    by_length : (r : Result (ℕ × List ℕ) Fault) → length_at bytes ≡ r → (r >>= λ n. ◌>>=◌ {A = List ℕ × List ℕ} {B = List Bool × List ℕ} (taken_at (bytes_for n.0) n.1) (λ t. Ok (take n.0 (bits_of t.0), t.1))) ≡ Err f → ContentFault f (counted bytes_for) bytes
    by_length (Ok n) o e = behind_length bytes_for bytes f n o (made_err (taken_at (bytes_for n.0) n.1) _ f e)
    by_length (Err g) o e = inl (length_found bytes f (o ∙ told {A = List Bool × List ℕ} {B = ℕ × List ℕ} g f e))

bits_only : (bytes : List ℕ) (f : Fault) → ContentFault f (counted bytes_for) bytes → bits_at bytes ≡ Err f
unfolding bits_at
bits_only bytes f (inl h) = rw (length_only f bytes h) refl
bits_only bytes f (inr (is, (len, rest, n, e, l, few))) = rw (e, length_again len n rest l, taken_short (bytes_for n) rest f (is, few)) refl

plain_found : (p : Plain) (bytes : List ℕ) (f : Fault) → plain_at p bytes ≡ Err f → ContentFault f (content_of p) bytes
unfolding plain_at
plain_found plain.Null bytes f e = absurd cc
plain_found plain.Boolean bytes f e = number_fault 1 bytes f (made_err (number_at 1 bytes) _ f e)
plain_found plain.BitString bytes f e = bits_found bytes f (made_err (bits_at bytes) _ f e)
plain_found plain.DoubleLong bytes f e = number_fault 4 bytes f (made_err (number_at 4 bytes) _ f e)
plain_found plain.DoubleLongUnsigned bytes f e = number_fault 4 bytes f (made_err (number_at 4 bytes) _ f e)
plain_found plain.OctetString bytes f e = octets_found bytes f (made_err (octets_at bytes) _ f e)
plain_found plain.VisibleString bytes f e = octets_found bytes f (made_err (octets_at bytes) _ f e)
plain_found plain.Utf8String bytes f e = octets_found bytes f (made_err (octets_at bytes) _ f e)
plain_found plain.Bcd bytes f e = number_fault 1 bytes f (made_err (number_at 1 bytes) _ f e)
plain_found plain.Integer bytes f e = number_fault 1 bytes f (made_err (number_at 1 bytes) _ f e)
plain_found plain.Long bytes f e = number_fault 2 bytes f (made_err (number_at 2 bytes) _ f e)
plain_found plain.Unsigned bytes f e = number_fault 1 bytes f (made_err (number_at 1 bytes) _ f e)
plain_found plain.LongUnsigned bytes f e = number_fault 2 bytes f (made_err (number_at 2 bytes) _ f e)
plain_found plain.Long64 bytes f e = number_fault 8 bytes f (made_err (number_at 8 bytes) _ f e)
plain_found plain.Long64Unsigned bytes f e = number_fault 8 bytes f (made_err (number_at 8 bytes) _ f e)
plain_found plain.Enum bytes f e = number_fault 1 bytes f (made_err (number_at 1 bytes) _ f e)
plain_found plain.DateTime bytes f e = taken_fault 12 bytes f (made_err (taken_at 12 bytes) _ f e)
plain_found plain.Date bytes f e = taken_fault 5 bytes f (made_err (taken_at 5 bytes) _ f e)
plain_found plain.Time bytes f e = taken_fault 4 bytes f (made_err (taken_at 4 bytes) _ f e)

plain_only : (p : Plain) (bytes : List ℕ) (f : Fault) → ContentFault f (content_of p) bytes → plain_at p bytes ≡ Err f
unfolding plain_at
plain_only plain.Null bytes f h = absurd (omega (arith, h.1))
plain_only plain.Boolean bytes f h = rw (number_short 1 bytes f h) refl
plain_only plain.BitString bytes f h = rw (bits_only bytes f h) refl
plain_only plain.DoubleLong bytes f h = rw (number_short 4 bytes f h) refl
plain_only plain.DoubleLongUnsigned bytes f h = rw (number_short 4 bytes f h) refl
plain_only plain.OctetString bytes f h = rw (octets_only bytes f h) refl
plain_only plain.VisibleString bytes f h = rw (octets_only bytes f h) refl
plain_only plain.Utf8String bytes f h = rw (octets_only bytes f h) refl
plain_only plain.Bcd bytes f h = rw (number_short 1 bytes f h) refl
plain_only plain.Integer bytes f h = rw (number_short 1 bytes f h) refl
plain_only plain.Long bytes f h = rw (number_short 2 bytes f h) refl
plain_only plain.Unsigned bytes f h = rw (number_short 1 bytes f h) refl
plain_only plain.LongUnsigned bytes f h = rw (number_short 2 bytes f h) refl
plain_only plain.Long64 bytes f h = rw (number_short 8 bytes f h) refl
plain_only plain.Long64Unsigned bytes f h = rw (number_short 8 bytes f h) refl
plain_only plain.Enum bytes f h = rw (number_short 1 bytes f h) refl
plain_only plain.DateTime bytes f h = rw (taken_short 12 bytes f h) refl
plain_only plain.Date bytes f h = rw (taken_short 5 bytes f h) refl
plain_only plain.Time bytes f h = rw (taken_short 4 bytes f h) refl

-- ---- values

abbrev Items : Type 0
Items = List ℕ → Result (Values × List ℕ) Fault

content_found : (items : Items) (inside : List ℕ → Type 0) (f : Fault) → ((w : List ℕ) → items w ≡ Err f → inside w) → (t : Option Tag) (bytes : List ℕ) → tagged_at items t bytes ≡ Err f → TypeFault inside f t bytes
unfolding content_at
content_found items inside f nest None bytes e = sym (err_is {A = Value × List ℕ} no_type f e)
content_found items inside f nest (Some tag.Array) bytes e = nest bytes (made_err (items bytes) _ f e)
content_found items inside f nest (Some tag.Structure) bytes e = nest bytes (made_err (items bytes) _ f e)
content_found items inside f nest (Some (tag.Plain p)) bytes e = plain_found p bytes f e

content_only : (items : Items) (inside : List ℕ → Type 0) (f : Fault) → ((w : List ℕ) → inside w → items w ≡ Err f) → (t : Option Tag) (bytes : List ℕ) → TypeFault inside f t bytes → tagged_at items t bytes ≡ Err f
unfolding content_at
content_only items inside f nest None bytes h = ap (λ (g : Fault). failed {A = Value × List ℕ} g) (sym h)
content_only items inside f nest (Some tag.Array) bytes h = rw (nest bytes h) refl
content_only items inside f nest (Some tag.Structure) bytes h = rw (nest bytes h) refl
content_only items inside f nest (Some (tag.Plain p)) bytes h = plain_only p bytes f h

value_found : (items : Items) (inside : List ℕ → Type 0) (f : Fault) → ((w : List ℕ) → items w ≡ Err f → inside w) → (bytes : List ℕ) → value_at items bytes ≡ Err f → ValueFault inside f bytes
value_found items inside f nest [] e = sym (err_is {A = Value × List ℕ} short f e)
value_found items inside f nest (b ∷ bytes) e = content_found items inside f nest (type_of b) bytes e

value_only : (items : Items) (inside : List ℕ → Type 0) (f : Fault) → ((w : List ℕ) → inside w → items w ≡ Err f) → (bytes : List ℕ) → ValueFault inside f bytes → value_at items bytes ≡ Err f
value_only items inside f nest [] h = ap (λ (g : Fault). failed {A = Value × List ℕ} g) (sym h)
value_only items inside f nest (b ∷ bytes) h = content_only items inside f nest (type_of b) bytes h

record Behind (room n : ℕ) (bytes : List ℕ) (f : Fault) : Type 0 where
  front : List ℕ
  rest : List ℕ
  vs : Values
  parts : bytes ≡ front ++ rest
  spelled : SpellAll front vs
  deep : values_depth vs ≤ room
  few : count vs < n
  wrong : data_at room rest ≡ Err f

one_more : (room n : ℕ) (bytes : List ℕ) (f : Fault) (v : Value × List ℕ) → data_at room bytes ≡ Ok v → Behind room n v.1 f → Behind room (suc n) bytes f
one_more room n bytes f v e h =
    let t = data_takes room bytes v e in
    record {
      front = t.0.0 ++ h.front;
      rest = h.rest;
      vs = cons v.0 h.vs;
      parts = t.0.1 ∙ ap (λ (w : List ℕ). t.0.0 ++ w) h.parts ∙ sym (append_assoc t.0.0 h.front h.rest);
      spelled = (t.0.0, h.front, refl, t.0.2, h.spelled);
      deep = omega (arith, t.1, h.deep);
      few = omega (arith, h.few);
      wrong = h.wrong;
    }

values_found : (room n : ℕ) (bytes : List ℕ) (f : Fault) → values_at (data_at room) n bytes ≡ Err f → Behind room n bytes f
unfolding values_at
values_found room zero bytes f e = absurd cc
values_found room (suc n) bytes f e = by_item (λ w k. values_found room n w f k) (data_at room bytes) refl e
  where
    by_item : ((w : List ℕ) → values_at (data_at room) n w ≡ Err f → Behind room n w f) → (r : Result (Value × List ℕ) Fault) → data_at room bytes ≡ r
        → (r >>= λ v. ◌>>=◌ {A = Values × List ℕ} {B = Values × List ℕ} (values_at (data_at room) n v.1) (λ vs. Ok (cons v.0 vs.0, vs.1))) ≡ Err f → Behind room (suc n) bytes f
    by_item again (Ok v) o e = one_more room n bytes f v o (again v.1 (made_err (values_at (data_at room) n v.1) _ f e))
    by_item again (Err g) o e = record {
      front = [];
      rest = bytes;
      vs = none;
      parts = refl;
      spelled = refl;
      deep = omega arith;
      few = omega arith;
      wrong = o ∙ told {A = Values × List ℕ} {B = Value × List ℕ} g f e;
    }

values_only : (room n : ℕ) (vs : Values) (front rest : List ℕ) (f : Fault) → SpellAll front vs → values_depth vs ≤ room → count vs < n → data_at room rest ≡ Err f → values_at (data_at room) n (front ++ rest) ≡ Err f
unfolding values_at
values_only room zero vs front rest f s d few e = absurd (omega arith)
values_only room (suc n) none front rest f s d few e =
    let whole : front ++ rest ≡ rest = ap (λ (w : List ℕ). w ++ rest) s in
    ap (values_at (data_at room) (suc n)) whole ∙ rw e refl
values_only room (suc n) (cons v vs) front rest f (one, others, parts, first, s) d few e =
    let whole : front ++ rest ≡ one ++ (others ++ rest) = ap (λ (w : List ℕ). w ++ rest) parts ∙ append_assoc one others rest in
    let item = data_again v room one (others ++ rest) first (omega arith) in
    let more = values_only room n vs others rest f s (omega arith) (omega arith) e in
    ap (values_at (data_at room) (suc n)) whole ∙ rw (item, more) refl

nest_found : (room : ℕ) (f : Fault) (bytes : List ℕ) → nested room bytes ≡ Err f → Inside room f bytes
unfolding nested
nest_found zero f bytes e = sym (err_is {A = Values × List ℕ} too_deep f e)
nest_found (suc room) f bytes e = by_length (λ w k. nest_found room f w k) (length_at bytes) refl e
  where
    by_length : ((w : List ℕ) → nested room w ≡ Err f → Inside room f w) → (r : Result (ℕ × List ℕ) Fault) → length_at bytes ≡ r → (r >>= λ n. values_at (value_at (nested room)) n.0 n.1) ≡ Err f → Inside (suc room) f bytes
    by_length again (Ok n) o e =
        let t = length_takes bytes n o in
        let h = values_found room n.0 n.1 f e in
        let parts : bytes ≡ t.0 ++ (h.front ++ h.rest) = t.1 ∙ ap (λ (w : List ℕ). t.0 ++ w) h.parts in
        inr (t.0, h.front, h.rest, n.0, h.vs, parts, t.2, h.spelled, h.deep, h.few, value_found (nested room) (Inside room f) f again h.rest h.wrong)
    by_length again (Err g) o e = inl (length_found bytes f (o ∙ told {A = Values × List ℕ} {B = ℕ × List ℕ} g f e))

nest_only : (room : ℕ) (f : Fault) (bytes : List ℕ) → Inside room f bytes → nested room bytes ≡ Err f
unfolding nested
nest_only zero f bytes h = ap (λ (g : Fault). failed {A = Values × List ℕ} g) (sym h)
nest_only (suc room) f bytes (inl h) = rw (length_only f bytes h) refl
nest_only (suc room) f bytes (inr (len, front, rest, n, vs, parts, is, s, d, few, wrong)) =
    let e = value_only (nested room) (Inside room f) f (λ w k. nest_only room f w k) rest wrong in
    rw (parts, length_again len n (front ++ rest) is) (values_only room n vs front rest f s d few e)

pub tells_faults : TellsFaults
tells_faults bytes f =
    (value_found (nested 8) (Inside 8 f) f (nest_found 8 f) bytes, value_only (nested 8) (Inside 8 f) f (nest_only 8 f) bytes)
