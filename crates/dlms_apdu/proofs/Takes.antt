-- The parts: everything that is read has that spelling, and everything spelled so is read.
use Rattle.std.proofs.Common.{◌≡◌, ℕ, ◌≤◌, Bool, true, false, cond, ltb, eqb, List, [], ◌∷◌, ◌++◌, length, take, drop, Option, Some, None, Result, Ok, Err, refl, sym, ap, subst, ◌∙◌, append_assoc, arith, ◌⊎◌, inl, inr}
use Rattle.std.proofs.lemmas.Bool.{ltb-false, le-ltb, eqb-true}
use Rattle.std.proofs.lemmas.List.{take_at, drop_at, take-append-drop, length-append, length-take, append-nil}
use Rattle.byteorder.specs.Endian.{big_number}
use Rattle.dlms_data.specs.declared.descriptor.Descriptor.{Descriptor}
use Rattle.dlms_data.specs.Value.{Value}
use Rattle.dlms_axdr.specs.Reading.{Fault, octets_at}
use Rattle.dlms_data.specs.Reading.{data_at}
use Rattle.dlms_data.proofs.Takes.{octets_takes, octets_again, spelled}
use Rattle.dlms_data.proofs.WholeLaws.{reads_what_is_spelled}
use Rattle.dlms_apdu.specs.declared.fault.Refusal.{Refusal}
use Rattle.dlms_apdu.specs.declared.fault.Refusal.TheVariants.{Short, Choice, Trailing, Data}
use Rattle.dlms_apdu.specs.Forms.{Selection, BlockForm}
use Rattle.dlms_apdu.specs.Reading.{and_then, byte_at, taken_at, number_at, flag_at, descriptor_at, value_from, value_at, raw_from, raw_at, end_at, ended, chosen, choice_at, no_option_at, some_selector_at, selector_at, some_parameter_at, parameter_at, block_at}
use Rattle.dlms_apdu.specs.Spelling.{◌▷◌, IsByte, IsNumber, AreBytes, IsFlag, IsDescriptor, IsValue, IsSelector, IsParameter, IsRaw}

-- ---- steps

-- a step that did not fail: its value, and the result of the rest
pub record Step {A B : Type 0} (r : Result A Refusal) (f : A → Result B Refusal) (y : B) : Type 0 where
  pub value : A
  pub is : r ≡ Ok value
  pub further : f value ≡ Ok y

pub step : {A B : Type 0} (r : Result A Refusal) (f : A → Result B Refusal) (y : B) → and_then r f ≡ Ok y → Step r f y
unfolding and_then
step (Ok x) f y e = record { value = x; is = refl; further = e }
step (Err d) f y e = absurd cc

abbrev pub done : {A : Type 0} → A → Result A Refusal
done x = Ok x

abbrev pub failed : {A : Type 0} → Refusal → Result A Refusal
failed d = Err d

pub ok_is : {A : Type 0} (x y : A) → done x ≡ done y → x ≡ y
ok_is x y e = cc

-- what is read of bytes that begin with the part
pub goes_on : {X B : Type 0} (r : List ℕ → Result (X × List ℕ) Refusal) (f : X × List ℕ → Result B Refusal) (bytes front rest : List ℕ) (x : X) → bytes ≡ front ++ rest
    → r (front ++ rest) ≡ Ok (x, rest) → and_then (r bytes) f ≡ f (x, rest)
unfolding and_then
goes_on r f bytes front rest x parts e =
    let whole : r bytes ≡ done (x, rest) = ap r parts ∙ e in
    rw whole refl

-- nothing follows
pub ended_ok : {Y : Type 0} (y z : Y) (rest : List ℕ) → ended y rest ≡ Ok z → (rest ≡ []) × (y ≡ z)
unfolding and_then
ended_ok y z [] e = (refl, ok_is y z e)
ended_ok y z (b ∷ rest) e = absurd cc

pub ended_before : {Y : Type 0} (y : Y) (b : ℕ) (more : List ℕ) → ended y (b ∷ more) ≡ Err Trailing
unfolding and_then
ended_before y b more = refl

pub ended_again : {Y : Type 0} (y : Y) → ended y [] ≡ Ok y
unfolding and_then
ended_again y = refl

-- ---- a part of this kind stands in front

abbrev pub Takes : {X : Type 0} → (X → List ℕ → Type 0) → List ℕ → X × List ℕ → Type 0
Takes P bytes x = (front : List ℕ) × (bytes ≡ front ++ x.1) × P x.0 front

-- the bytes are the part, if nothing follows it
pub alone : {X : Type 0} (P : X → List ℕ → Type 0) (bytes : List ℕ) (x : X × List ℕ) → Takes P bytes x → x.1 ≡ [] → P x.0 bytes
alone P bytes x t none =
    let same : t.0 ≡ bytes = sym (append-nil t.0) ∙ ap (λ (w : List ℕ). t.0 ++ w) (sym none) ∙ sym t.1 in
    subst (λ (w : List ℕ). P x.0 w) same t.2

-- two parts, one after the other
pub both : (P Q : List ℕ → Type 0) (bytes behind rest front next : List ℕ) → bytes ≡ front ++ behind → behind ≡ next ++ rest → P front → Q next
    → (all : List ℕ) × (bytes ≡ all ++ rest) × (P ▷ Q) all
both P Q bytes behind rest front next e d p q =
    (front ++ next, e ∙ ap (λ (w : List ℕ). front ++ w) d ∙ sym (append_assoc front next rest), (front, next, refl, p, q))

pub regrouped : (all front next rest : List ℕ) → all ≡ front ++ next → all ++ rest ≡ front ++ (next ++ rest)
regrouped all front next rest e = ap (λ (w : List ℕ). w ++ rest) e ∙ append_assoc front next rest

-- ---- the first byte was one of these

abbrev pub Chose : {Y : Type 0} → List (ℕ × (List ℕ → Result Y Refusal)) → List ℕ → Y → Type 0
Chose [] bytes y = ⊥
Chose (row ∷ rows) bytes y = ((rest : List ℕ) × (bytes ≡ row.0 ∷ rest) × (row.1 rest ≡ Ok y)) ⊎ Chose rows bytes y

pub went : {A : Type 0} (b : Bool) (x y z : A) → cond b x y ≡ z → ((b ≡ true) × (x ≡ z)) ⊎ (y ≡ z)
went true x y z e = inl (refl, e)
went false x y z e = inr e

chosen_chose : {Y : Type 0} (rows : List (ℕ × (List ℕ → Result Y Refusal))) (b : ℕ) (rest : List ℕ) (y : Y) → chosen rows b rest ≡ Ok y → Chose rows (b ∷ rest) y
chosen_chose [] b rest y e = absurd cc
chosen_chose (row ∷ rows) b rest y e =
    elim (went (eqb b row.0) (row.1 rest) (chosen rows b rest) (Ok y) e) [
      | inl h ↦ inl (rest, ap (λ (c : ℕ). c ∷ rest) (eqb-true b row.0 h.0), h.1)
      | inr h ↦ inr (chosen_chose rows b rest y h)
    ]

pub choice_found : {Y : Type 0} (rows : List (ℕ × (List ℕ → Result Y Refusal))) (bytes : List ℕ) (y : Y) → choice_at rows bytes ≡ Ok y → Chose rows bytes y
choice_found rows [] y e = absurd cc
choice_found rows (b ∷ rest) y e = chosen_chose rows b rest y e

-- ---- bytes and numbers

pub byte_takes : (bytes : List ℕ) (x : ℕ × List ℕ) → byte_at bytes ≡ Ok x → Takes IsByte bytes x
byte_takes [] x e = absurd cc
byte_takes (b ∷ rest) x e = subst (λ (y : ℕ × List ℕ). Takes IsByte (b ∷ rest) y) (ok_is (b, rest) x e) (b ∷ [], refl, refl)

pub byte_again : (b : ℕ) (front rest : List ℕ) → IsByte b front → byte_at (front ++ rest) ≡ Ok (b, rest)
byte_again b front rest h = rw h refl

guard_ok : {A : Type 0} (b : Bool) (d : Refusal) (r : Result A Refusal) (y : A) → cond b (Err d) r ≡ Ok y → (b ≡ false) × (r ≡ Ok y)
guard_ok true d r y e = absurd cc
guard_ok false d r y e = (refl, e)

pub taken_takes : (n : ℕ) (bytes : List ℕ) (x : List ℕ × List ℕ) → taken_at n bytes ≡ Ok x → Takes (AreBytes n) bytes x
unfolding taken_at
taken_takes n bytes x e =
    let g = guard_ok (ltb (length bytes) n) Short (Ok (take n bytes, drop n bytes)) x e in
    let enough : n ≤ length bytes = ltb-false _ _ g.0 in
    subst (λ (y : List ℕ × List ℕ). Takes (AreBytes n) bytes y) (ok_is (take n bytes, drop n bytes) x g.1)
    (take n bytes, sym (take-append-drop n bytes), (omega (arith, length-take n bytes), refl))

pub taken_again : (n : ℕ) (text front rest : List ℕ) → AreBytes n text front → taken_at n (front ++ rest) ≡ Ok (text, rest)
unfolding taken_at
taken_again n text front rest h =
    let enough : ltb (length (front ++ rest)) n ≡ false = le-ltb _ _ (omega (arith, length-append front rest, h.0)) in
    rw (enough, take_at front rest n h.0, drop_at front rest n h.0) (ap (λ (w : List ℕ). done (w, rest)) h.1)

pub number_takes : (k : ℕ) (bytes : List ℕ) (x : ℕ × List ℕ) → number_at k bytes ≡ Ok x → Takes (IsNumber k) bytes x
unfolding number_at
number_takes k bytes x e =
    let s = step _ _ x e in
    let t = taken_takes k bytes s.value s.is in
    subst (λ (y : ℕ × List ℕ). Takes (IsNumber k) bytes y) (ok_is (big_number k s.value.0, s.value.1) x s.further)
    (t.0, t.1, (t.2.0, ap (big_number k) (sym t.2.1)))

pub number_again : (k n : ℕ) (front rest : List ℕ) → IsNumber k n front → number_at k (front ++ rest) ≡ Ok (n, rest)
unfolding number_at
number_again k n front rest h =
    goes_on (taken_at k) _ (front ++ rest) front rest front refl (taken_again k front front rest (h.0, refl)) ∙ ap (λ (m : ℕ). done (m, rest)) (sym h.1)

pub flag_takes : (bytes : List ℕ) (x : Bool × List ℕ) → flag_at bytes ≡ Ok x → Takes IsFlag bytes x
unfolding flag_at
flag_takes bytes x e =
    let s = step _ _ x e in
    let t = byte_takes bytes s.value s.is in
    subst (λ (y : Bool × List ℕ). Takes IsFlag bytes y) (ok_is (ltb 0 s.value.0, s.value.1) x s.further) (t.0, t.1, (s.value.0, t.2, refl))

pub flag_again : (flag : Bool) (front rest : List ℕ) → IsFlag flag front → flag_at (front ++ rest) ≡ Ok (flag, rest)
unfolding flag_at
flag_again flag front rest h =
    goes_on byte_at _ (front ++ rest) front rest h.0 refl (byte_again h.0 front rest h.1) ∙ ap (λ (b : Bool). done (b, rest)) (sym h.2)

-- ---- descriptors

pub descriptor_takes : (bytes : List ℕ) (x : Descriptor × List ℕ) → descriptor_at bytes ≡ Ok x → Takes IsDescriptor bytes x
unfolding descriptor_at
descriptor_takes bytes x e =
    let c = step _ _ x e in
    let tc = number_takes 2 bytes c.value c.is in
    let n = step _ _ x c.further in
    let tn = taken_takes 6 c.value.1 n.value n.is in
    let i = step _ _ x n.further in
    let ti = byte_takes n.value.1 i.value i.is in
    let inner = both (AreBytes 6 n.value.0) (IsByte i.value.0) c.value.1 n.value.1 i.value.1 tn.0 ti.0 tn.1 ti.1 tn.2 ti.2 in
    let d : Descriptor = record { class = c.value.0; name = n.value.0; id = i.value.0 } in
    subst (λ (y : Descriptor × List ℕ). Takes IsDescriptor bytes y) (ok_is (d, i.value.1) x i.further)
    (both (IsNumber 2 c.value.0) (AreBytes 6 n.value.0 ▷ IsByte i.value.0) bytes c.value.1 i.value.1 tc.0 inner.0 tc.1 inner.1 tc.2 inner.2)

pub descriptor_again : (d : Descriptor) (front rest : List ℕ) → IsDescriptor d front → descriptor_at (front ++ rest) ≡ Ok (d, rest)
unfolding descriptor_at
descriptor_again d front rest h =
    let inner = h.4 in
    goes_on (number_at 2) _ (front ++ rest) h.0 (h.1 ++ rest) d.class (regrouped front h.0 h.1 rest h.2) (number_again 2 d.class h.0 (h.1 ++ rest) h.3)
    ∙ goes_on (taken_at 6) _ (h.1 ++ rest) inner.0 (inner.1 ++ rest) d.name (regrouped h.1 inner.0 inner.1 rest inner.2) (taken_again 6 d.name inner.0 (inner.1 ++ rest) inner.3)
    ∙ goes_on byte_at _ (inner.1 ++ rest) inner.1 rest d.id refl (byte_again d.id inner.1 rest inner.4)

-- ---- values and raw bytes

value_read : (r : Result (Value × List ℕ) Fault) (x : Value × List ℕ) → value_from r ≡ Ok x → r ≡ Ok x
value_read (Ok y) x e = let same : y ≡ x = ok_is y x e in ap Ok same
value_read (Err f) x e = absurd cc

pub value_takes : (bytes : List ℕ) (x : Value × List ℕ) → value_at bytes ≡ Ok x → Takes IsValue bytes x
value_takes bytes x e = (reads_what_is_spelled bytes x.1 x.0).0 (value_read (data_at 8 bytes) x e)

pub value_again : (v : Value) (front rest : List ℕ) → IsValue v front → value_at (front ++ rest) ≡ Ok (v, rest)
value_again v front rest h = rw (spelled (front ++ rest) v front rest h refl) refl

raw_read : (r : Result (List ℕ × List ℕ) Fault) (x : List ℕ × List ℕ) → raw_from r ≡ Ok x → r ≡ Ok x
raw_read (Ok y) x e = let same : y ≡ x = ok_is y x e in ap Ok same
raw_read (Err f) x e = absurd cc

pub raw_takes : (bytes : List ℕ) (x : List ℕ × List ℕ) → raw_at bytes ≡ Ok x → Takes IsRaw bytes x
raw_takes bytes x e = octets_takes bytes x (raw_read (octets_at bytes) x e)

pub raw_again : (raw front rest : List ℕ) → IsRaw raw front → raw_at (front ++ rest) ≡ Ok (raw, rest)
raw_again raw front rest h = rw (octets_again front raw rest h) refl

-- ---- the bytes of the service and of the form

pub headed : (a b : ℕ) (bytes front behind next rest : List ℕ) → bytes ≡ front ++ behind → IsByte a front → behind ≡ next ++ rest → IsByte b next → bytes ≡ a ∷ b ∷ rest
headed a b bytes front behind next rest e p d q =
    let second : behind ≡ b ∷ rest = d ∙ ap (λ (w : List ℕ). w ++ rest) q in
    e ∙ ap (λ (w : List ℕ). w ++ behind) p ∙ ap (λ (w : List ℕ). a ∷ w) second

pub behind_head : (a : ℕ) (bytes front behind : List ℕ) → bytes ≡ front ++ behind → IsByte a front → bytes ≡ a ∷ behind
behind_head a bytes front behind e p = e ∙ ap (λ (w : List ℕ). w ++ behind) p
