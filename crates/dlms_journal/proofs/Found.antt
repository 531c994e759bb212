-- Everything that is read is there as its record.
use Rattle.std.proofs.Common.{◌≡◌, ℕ, suc, ◌+◌, ◌*◌, ◌/◌, ◌%◌, ◌<◌, ◌≤◌, ◌^◌, ◌==◌, Bool, true, false, cond, ltb, leb, List, [], ◌∷◌, ◌++◌, length, take, drop, Option, Some, None, refl, sym, ap, subst, ◌∙◌, arith, ◌⊎◌, inl, inr, All, IfSome, option_map}
use Rattle.std.proofs.lemmas.Bool.{ltb-false}
use Rattle.std.proofs.lemmas.Bool.Decides.{nat_tests}
use Rattle.std.proofs.lemmas.List.{take-append-drop, length-append, length-take}
use Rattle.std.proofs.lemmas.Int.{of_z-to_z}
use Rattle.std.specs.Int.{cast_signed, cast_unsigned, w16}
use Rattle.byteorder.specs.Endian.{big_number, big_bytes}
use Rattle.dlms_state.specs.declared.event.Event.{Event}
use Rattle.dlms_state.specs.declared.event.Event.TheVariants.{Pulses, Moment, SetTime, Shift, AdjustMinute, SetPeriod, SetText, SetSecret, ResetRegister, ResetProfile, Capture, SetColumns}
use Rattle.dlms_state.specs.declared.event.SecretOf.{SecretOf}
use Rattle.dlms_state.specs.declared.event.SecretOf.TheVariants.{Management, Reader}
use Rattle.dlms_journal.specs.Record.{owner_number, record_of}
use Rattle.dlms_journal.specs.Reading.{on_some, as_event, taken_at, number_at, counted_at, pulses_at, secret_at, register_at, event_at}

abbrev pub AreOctets : List ℕ → Type 0
AreOctets bytes = All (λ byte. byte < 2 ^ 8) bytes

some_is : {A : Type 0} {x y : A} → Some x ≡ Some y → x ≡ y
some_is e = cc

none_is : {A : Type 0} {x : A} → None ≡ Some x → ⊥
none_is e = cc

bind_some : {A B : Type 0} (o : Option A) (f : A → Option B) (y : B) → on_some o f ≡ Some y → (x : A) × (o ≡ Some x) × (f x ≡ Some y)
bind_some None f y e = absurd (none_is e)
bind_some (Some x) f y e = (x, refl, e)

chosen : {A : Type 0} (b : Bool) (x y z : A) → cond b x y ≡ z → ((b ≡ true) × (x ≡ z)) ⊎ ((b ≡ false) × (y ≡ z))
chosen true x y z e = inl (refl, e)
chosen false x y z e = inr (refl, e)

tested : {A : Type 0} (b : Bool) (x : Option A) (y : A) → cond b x None ≡ Some y → (b ≡ true) × (x ≡ Some y)
tested true x y e = (refl, e)
tested false x y e = absurd (none_is e)

is_equal : (a b : ℕ) → (a == b) ≡ true → a ≡ b
is_equal a b e = grind (arith, nat_tests)

-- ---- parts

taken_takes : (n : ℕ) (bytes : List ℕ) (x : List ℕ × List ℕ) → taken_at n bytes ≡ Some x → (bytes ≡ x.0 ++ x.1) × (length x.0 ≡ n)
unfolding taken_at
taken_takes n bytes x e =
    elim (chosen (ltb (length bytes) n) None (Some (take n bytes, drop n bytes)) (Some x) e) [
      | inl short ↦ absurd (none_is short.1)
      | inr long ↦
          let enough : n ≤ length bytes = ltb-false _ _ long.0 in
          subst (λ (y : List ℕ × List ℕ). (bytes ≡ y.0 ++ y.1) × (length y.0 ≡ n)) (some_is long.1)
          (sym (take-append-drop n bytes), omega (arith, length-take n bytes))
    ]

pair_is : (x a y b : ℕ) → x ≡ a → y ≡ b → x ∷ y ∷ [] ≡ a ∷ b ∷ []
pair_is x a y b e f = cc

two_bytes : (a b : ℕ) → a < 256 → b < 256 → big_bytes 2 (big_number 2 (a ∷ b ∷ [])) ≡ a ∷ b ∷ []
two_bytes a b p q = from (big_number 2 (a ∷ b ∷ [])) (omega arith)
  where
    from : (n : ℕ) → n ≡ a * 256 + b → big_bytes 2 n ≡ a ∷ b ∷ []
    from n e =
        let high : n / 256 % 256 ≡ a = omega (arith, e) in
        let low : n % 256 ≡ b = omega (arith, e) in
        pair_is (n / 256 % 256) a (n % 256) b high low

four_are : (w a x b y c z d : ℕ) → w ≡ a → x ≡ b → y ≡ c → z ≡ d → w ∷ x ∷ y ∷ z ∷ [] ≡ a ∷ b ∷ c ∷ d ∷ []
four_are w a x b y c z d e f g h = cc

four_bytes : (a b c d : ℕ) → a < 256 → b < 256 → c < 256 → d < 256 → big_bytes 4 (big_number 4 (a ∷ b ∷ c ∷ d ∷ [])) ≡ a ∷ b ∷ c ∷ d ∷ []
four_bytes a b c d p q r s = from (big_number 4 (a ∷ b ∷ c ∷ d ∷ [])) (omega arith)
  where
    from : (n : ℕ) → n ≡ a * 16777216 + (b * 65536 + (c * 256 + d)) → big_bytes 4 n ≡ a ∷ b ∷ c ∷ d ∷ []
    from n e =
        let first : n / 16777216 % 256 ≡ a = omega (arith, e) in
        let second : n / 65536 % 256 ≡ b = omega (arith, e) in
        let third : n / 256 % 256 ≡ c = omega (arith, e) in
        let fourth : n % 256 ≡ d = omega (arith, e) in
        four_are (n / 16777216 % 256) a (n / 65536 % 256) b (n / 256 % 256) c (n % 256) d first second third fourth

four_back : (text rest : List ℕ) → length text ≡ 4 → AreOctets (text ++ rest) → big_bytes 4 (big_number 4 text) ≡ text
four_back [] rest len all = absurd (omega (arith, len))
four_back (a ∷ []) rest len all = absurd (omega (arith, len))
four_back (a ∷ b ∷ []) rest len all = absurd (omega (arith, len))
four_back (a ∷ b ∷ c ∷ []) rest len all = absurd (omega (arith, len))
four_back (a ∷ b ∷ c ∷ d ∷ []) rest len all =
    four_bytes a b c d (all 0 0 (omega arith)) (all 1 0 (omega arith)) (all 2 0 (omega arith)) (all 3 0 (omega arith))
four_back (a ∷ b ∷ c ∷ d ∷ e ∷ more) rest len all = absurd (omega (arith, len))

two_back : (text rest : List ℕ) → length text ≡ 2 → AreOctets (text ++ rest) → big_bytes 2 (big_number 2 text) ≡ text
two_back [] rest len all = absurd (omega (arith, len))
two_back (a ∷ []) rest len all = absurd (omega (arith, len))
two_back (a ∷ b ∷ []) rest len all = two_bytes a b (all 0 0 (omega arith)) (all 1 0 (omega arith))
two_back (a ∷ b ∷ c ∷ more) rest len all = absurd (omega (arith, len))

four_takes : (bytes : List ℕ) (x : ℕ × List ℕ) → AreOctets bytes → number_at 4 bytes ≡ Some x → bytes ≡ big_bytes 4 x.0 ++ x.1
unfolding number_at
four_takes bytes x all e =
    let t = bind_some (taken_at 4 bytes) (λ t. Some (big_number 4 t.0, t.1)) x e in
    let parts = taken_takes 4 bytes t.0 t.1 in
    let octets : AreOctets (t.0.0 ++ t.0.1) = subst AreOctets parts.0 all in
    let back = four_back t.0.0 t.0.1 parts.1 octets in
    subst (λ (y : ℕ × List ℕ). bytes ≡ big_bytes 4 y.0 ++ y.1) (some_is t.2)
    (parts.0 ∙ ap (λ (w : List ℕ). w ++ t.0.1) (sym back))

two_takes : (bytes : List ℕ) (x : ℕ × List ℕ) → AreOctets bytes → number_at 2 bytes ≡ Some x → (bytes ≡ big_bytes 2 x.0 ++ x.1) × (x.0 < 2 ^ 16)
unfolding number_at
two_takes bytes x all e =
    let t = bind_some (taken_at 2 bytes) (λ t. Some (big_number 2 t.0, t.1)) x e in
    let parts = taken_takes 2 bytes t.0 t.1 in
    let octets : AreOctets (t.0.0 ++ t.0.1) = subst AreOctets parts.0 all in
    let back = two_back t.0.0 t.0.1 parts.1 octets in
    subst (λ (y : ℕ × List ℕ). (bytes ≡ big_bytes 2 y.0 ++ y.1) × (y.0 < 2 ^ 16)) (some_is t.2)
    (parts.0 ∙ ap (λ (w : List ℕ). w ++ t.0.1) (sym back), below t.0.0 t.0.1 parts.1 octets)
  where
    below : (text rest : List ℕ) → length text ≡ 2 → AreOctets (text ++ rest) → big_number 2 text < 2 ^ 16
    below [] rest len all = absurd (omega (arith, len))
    below (a ∷ []) rest len all = absurd (omega (arith, len))
    below (a ∷ b ∷ []) rest len all = omega (arith, all 0 0 (omega arith), all 1 0 (omega arith))
    below (a ∷ b ∷ c ∷ more) rest len all = absurd (omega (arith, len))

counted_takes : (most : ℕ) (bytes : List ℕ) (x : List ℕ × List ℕ) → counted_at most bytes ≡ Some x → bytes ≡ length x.0 ∷ (x.0 ++ x.1)
unfolding counted_at
counted_takes most [] x e = absurd (none_is e)
counted_takes most (count ∷ rest) x e =
    let g = tested (leb count most) (taken_at count rest) x e in
    let parts = taken_takes count rest x g.1 in
    ap (λ (w : List ℕ). count ∷ w) parts.0 ∙ ap (λ (k : ℕ). k ∷ (x.0 ++ x.1)) (sym parts.1)

others : (b : ℕ) (bytes : List ℕ) → AreOctets (b ∷ bytes) → AreOctets bytes
others b bytes all k d low = all (suc k) d (omega (arith, low))

-- ---- each kind

abbrev Stands : List ℕ → Event × List ℕ → Type 0
Stands bytes x = bytes ≡ record_of x.0 ++ x.1

pulses_found : (bytes : List ℕ) (x : Event × List ℕ) → AreOctets bytes → pulses_at bytes ≡ Some x → Stands (1 ∷ bytes) x
unfolding pulses_at
pulses_found [] x all e = absurd (none_is e)
pulses_found (channel ∷ rest) x all e =
    let n = bind_some (number_at 4 rest) (as_event (Pulses channel)) x e in
    subst (Stands (1 ∷ channel ∷ rest)) (some_is n.2) (ap (λ (w : List ℕ). 1 ∷ channel ∷ w) (four_takes rest n.0 (others channel rest all) n.1))

four_found : (kind : ℕ) (event : ℕ → Event) (bytes : List ℕ) (x : Event × List ℕ) → ((n : ℕ) → record_of (event n) ≡ kind ∷ big_bytes 4 n) → AreOctets bytes
    → on_some (number_at 4 bytes) (as_event event) ≡ Some x → Stands (kind ∷ bytes) x
four_found kind event bytes x spelled all e =
    let n = bind_some (number_at 4 bytes) (as_event event) x e in
    subst (Stands (kind ∷ bytes)) (some_is n.2)
    (ap (λ (w : List ℕ). kind ∷ w) (four_takes bytes n.0 all n.1) ∙ ap (λ (w : List ℕ). w ++ n.0.1) (sym (spelled n.0.0)))

shift_found : (bytes : List ℕ) (x : Event × List ℕ) → AreOctets bytes → on_some (number_at 2 bytes) (as_event (λ n. Shift (cast_signed w16 n))) ≡ Some x → Stands (4 ∷ bytes) x
shift_found bytes x all e =
    let n = bind_some (number_at 2 bytes) (as_event (λ n. Shift (cast_signed w16 n))) x e in
    let took = two_takes bytes n.0 all n.1 in
    let same : n.0.0 ≡ cast_unsigned w16 (cast_signed w16 n.0.0) = sym (of_z-to_z w16 n.0.0 took.1) in
    subst (Stands (4 ∷ bytes)) (some_is n.2)
    (ap (λ (w : List ℕ). 4 ∷ w) took.0 ∙ ap (λ (k : ℕ). 4 ∷ (big_bytes 2 k ++ n.0.1)) same)

text_found : (bytes : List ℕ) (x : Event × List ℕ) → on_some (counted_at 240 bytes) (as_event (λ text. SetText (record { items = text }))) ≡ Some x → Stands (7 ∷ bytes) x
text_found bytes x e =
    let t = bind_some (counted_at 240 bytes) (as_event (λ text. SetText (record { items = text }))) x e in
    subst (Stands (7 ∷ bytes)) (some_is t.2) (ap (λ (w : List ℕ). 7 ∷ w) (counted_takes 240 bytes t.0 t.1))

secret_of_found : (whose : SecretOf) (number : ℕ) (rest : List ℕ) (x : Event × List ℕ) → number ≡ owner_number whose
    → on_some (counted_at 16 rest) (as_event (λ secret. SetSecret whose (record { items = secret }))) ≡ Some x → Stands (8 ∷ number ∷ rest) x
secret_of_found whose number rest x is e =
    let t = bind_some (counted_at 16 rest) (as_event (λ secret. SetSecret whose (record { items = secret }))) x e in
    subst (Stands (8 ∷ number ∷ rest)) (some_is t.2)
    (ap (λ (k : ℕ). 8 ∷ k ∷ rest) is ∙ ap (λ (w : List ℕ). 8 ∷ owner_number whose ∷ w) (counted_takes 16 rest t.0 t.1))

secret_found : (bytes : List ℕ) (x : Event × List ℕ) → secret_at bytes ≡ Some x → Stands (8 ∷ bytes) x
unfolding secret_at
secret_found [] x e = absurd (none_is e)
secret_found (whose ∷ rest) x e =
    elim (chosen (whose == 1) _ _ _ e) [
      | inl h ↦ secret_of_found Management whose rest x (is_equal whose 1 h.0) h.1
      | inr h ↦
          let g = tested (whose == 2) (on_some (counted_at 16 rest) (as_event (λ secret. SetSecret Reader (record { items = secret })))) x h.1 in
          secret_of_found Reader whose rest x (is_equal whose 2 g.0) g.1
    ]

columns_found : (bytes : List ℕ) (x : Event × List ℕ) → on_some (counted_at 4 bytes) (as_event (λ ids. SetColumns (record { items = ids }))) ≡ Some x → Stands (12 ∷ bytes) x
columns_found bytes x e =
    let t = bind_some (counted_at 4 bytes) (as_event (λ ids. SetColumns (record { items = ids }))) x e in
    subst (Stands (12 ∷ bytes)) (some_is t.2) (ap (λ (w : List ℕ). 12 ∷ w) (counted_takes 4 bytes t.0 t.1))

register_found : (bytes : List ℕ) (x : Event × List ℕ) → register_at bytes ≡ Some x → Stands (9 ∷ bytes) x
unfolding register_at
register_found [] x e = absurd (none_is e)
register_found (channel ∷ rest) x e = subst (Stands (9 ∷ channel ∷ rest)) (some_is e) refl

of_kind : (kind number : ℕ) (bytes : List ℕ) (x : Event × List ℕ) → (kind == number) ≡ true → Stands (number ∷ bytes) x → Stands (kind ∷ bytes) x
of_kind kind number bytes x t h = ap (λ (k : ℕ). k ∷ bytes) (is_equal kind number t) ∙ h

alone : (number : ℕ) (event : Event) (bytes : List ℕ) (x : Event × List ℕ) → record_of event ≡ number ∷ [] → Some (event, bytes) ≡ Some x → Stands (number ∷ bytes) x
alone number event bytes x spelled e =
    subst (Stands (number ∷ bytes)) (some_is e) (ap (λ (w : List ℕ). w ++ bytes) (sym spelled))

pub found : (bytes : List ℕ) (x : Event × List ℕ) → AreOctets bytes → event_at bytes ≡ Some x → Stands bytes x
unfolding event_at
found [] x all e = absurd (none_is e)
found (kind ∷ rest) x all e =
    let few = others kind rest all in
    elim (chosen (kind == 1) _ _ _ e) [
      | inl h ↦ of_kind kind 1 rest x h.0 (pulses_found rest x few h.1)
      | inr e ↦
          elim (chosen (kind == 2) _ _ _ e.1) [
            | inl h ↦ of_kind kind 2 rest x h.0 (four_found 2 Moment rest x (λ n. refl) few h.1)
            | inr e ↦
                elim (chosen (kind == 3) _ _ _ e.1) [
                  | inl h ↦ of_kind kind 3 rest x h.0 (four_found 3 SetTime rest x (λ n. refl) few h.1)
                  | inr e ↦
                      elim (chosen (kind == 4) _ _ _ e.1) [
                        | inl h ↦ of_kind kind 4 rest x h.0 (shift_found rest x few h.1)
                        | inr e ↦
                            elim (chosen (kind == 5) _ _ _ e.1) [
                              | inl h ↦ of_kind kind 5 rest x h.0 (alone 5 AdjustMinute rest x refl h.1)
                              | inr e ↦
                                  elim (chosen (kind == 6) _ _ _ e.1) [
                                    | inl h ↦ of_kind kind 6 rest x h.0 (four_found 6 SetPeriod rest x (λ n. refl) few h.1)
                                    | inr e ↦
                                        elim (chosen (kind == 7) _ _ _ e.1) [
                                          | inl h ↦ of_kind kind 7 rest x h.0 (text_found rest x h.1)
                                          | inr e ↦
                                              elim (chosen (kind == 8) _ _ _ e.1) [
                                                | inl h ↦ of_kind kind 8 rest x h.0 (secret_found rest x h.1)
                                                | inr e ↦
                                                    elim (chosen (kind == 9) _ _ _ e.1) [
                                                      | inl h ↦ of_kind kind 9 rest x h.0 (register_found rest x h.1)
                                                      | inr e ↦
                                                          elim (chosen (kind == 10) _ _ _ e.1) [
                                                            | inl h ↦ of_kind kind 10 rest x h.0 (alone 10 ResetProfile rest x refl h.1)
                                                            | inr e ↦
                                                                elim (chosen (kind == 11) _ _ _ e.1) [
                                                                  | inl h ↦ of_kind kind 11 rest x h.0 (alone 11 Capture rest x refl h.1)
                                                                  | inr e ↦
                                                                      let g = tested (kind == 12) (on_some (counted_at 4 rest) (as_event (λ ids. SetColumns (record { items = ids })))) x e.1 in
                                                                      of_kind kind 12 rest x g.0 (columns_found rest x g.1)
                                                                ]
                                                          ]
                                                    ]
                                              ]
                                        ]
                                  ]
                            ]
                      ]
                ]
          ]
    ]

-- as the function answers
pub told : {B : Type 0} (now : B → List ℕ) (bytes : List ℕ) (r : Option (Event × B)) → option_map (λ x. (x.0, now x.1)) r ≡ event_at bytes → AreOctets bytes → IfSome r (λ x. bytes ≡ record_of x.0 ++ now x.1)
told now bytes (Some x) e all = found bytes (x.0, now x.1) all (sym e)
told now bytes None e all = tt

pub has_byte : (e : Event) → 1 ≤ length (record_of e)
has_byte (Pulses channel count) = omega arith
has_byte (Moment second) = omega arith
has_byte (SetTime second) = omega arith
has_byte (Shift by) = omega arith
has_byte AdjustMinute = omega arith
has_byte (SetPeriod seconds) = omega arith
has_byte (SetText text) = omega arith
has_byte (SetSecret whose secret) = omega arith
has_byte (ResetRegister channel) = omega arith
has_byte ResetProfile = omega arith
has_byte Capture = omega arith
has_byte (SetColumns ids) = omega arith

pub told_shorter : {B : Type 0} (now : B → List ℕ) (bytes : List ℕ) (r : Option (Event × B)) → option_map (λ x. (x.0, now x.1)) r ≡ event_at bytes → AreOctets bytes → IfSome r (λ x. length (now x.1) < length bytes)
told_shorter now bytes (Some x) e all =
    let text = found bytes (x.0, now x.1) all (sym e) in
    omega (arith, has_byte x.0, ap length text, length-append (record_of x.0) (now x.1))
told_shorter now bytes None e all = tt
