-- Numbers that a text writes.
use Rattle.std.proofs.Common.{arith, inl, inr, ◌≡◌, ◌≢◌, ◌<◌, ◌^◌, ◌%◌, ◌∙◌, ℕ, List, length, ap, subst, sym, eqb, true, false}
use Rattle.std.specs.List.{list_all}
use Rattle.std.proofs.lemmas.Bool.Decides.{eqb_tells}
use Rattle.std.proofs.lemmas.List.Sums.{AllPass-from_list_all, list_all-from_AllPass}
use Rattle.hex.specs.Hex.{is_hex_digit}
use Rattle.hex.proofs.HexLemmas.{decode_of-even, decode_pairs-digits, decode_pairs-ok}
use Rattle.std.specs.Prelude.{ℤ, ◌⊎◌, ◌↔◌, Bool, IsTrue, Result, Ok, Err, IfErr, Option, Some, None, IfNone, codes}
use Rattle.dlms_text.specs.declared.fault.ValueFault.{ValueFault}
use Rattle.dlms_text.specs.declared.fault.ValueFault.TheVariants.{Form, Memory}
use Rattle.dlms_data.specs.Value.{Value}
use Rattle.dlms_data.specs.Spelling.{IsSpelling}
use Rattle.dlms_data.proofs.Takes.{done, ok_is}
use Rattle.dlms_text.specs.Texts.{IsSigned}
use Rattle.dlms_text.specs.Values.{AreOctets, Fails, IsWorded, IsWritten, NeedsMemory, TextNeedsMemory, WordNeedsMemory, Writes, WritesSigned}
use Rattle.dlms_text.specs.Values.IsWritten.{is_null, is_now, is_worded}
use Rattle.dlms_text.specs.declared.kind.Kind.{Kind}
use Rattle.dlms_text.specs.declared.kind.Kind.TheVariants.{Integer, Long, DoubleLong, Long64}

wider : (a b : ℕ) (text : List ℕ) (z : ℤ) → a < b → IsSigned a text z → IsSigned b text z
wider a b text z less (inl (n, below, is)) = inl (n, record { numeral = below.numeral; value = below.value; fits = omega (arith, less, below.fits) }, is)
wider a b text z less (inr (digits, n, at, below, is)) = inr (digits, n, at, record { numeral = below.numeral; value = below.value; fits = omega (arith, less, below.fits) }, is)

-- whatever type it has, it is a number of 64 bits
pub is_signed : (kind : Kind) (text : List ℕ) (v : Value) → WritesSigned kind text v → (z : ℤ) × IsSigned (2 ^ 63) text z
is_signed Integer text v (z, is, made) = (z, wider (2 ^ 7) (2 ^ 63) text z (omega arith) is)
is_signed Long text v (z, is, made) = (z, wider (2 ^ 15) (2 ^ 63) text z (omega arith) is)
is_signed DoubleLong text v (z, is, made) = (z, wider (2 ^ 31) (2 ^ 63) text z (omega arith) is)
is_signed Long64 text v (z, is, made) = (z, is)
is_signed kind text v h = absurd h

-- why nothing was written, for another kind
pub err_as : {X : Type 0} (r : Result X ValueFault) (P Q : Value → Type 0) (A B : Type 0) → ((v : Value) → Q v → P v) → (A → B) → IfErr r (Fails P A) → IfErr r (Fails Q B)
err_as (Ok x) P Q A B map needs h = tt
err_as (Err Form) P Q A B map needs h = λ v q. h v (map v q)
err_as (Err Memory) P Q A B map needs h = needs h

pub err_of_kind : {X : Type 0} (r : Result X ValueFault) (kind other : Kind) (text : List ℕ) → kind ≡ other → IfErr r (Fails (Writes other text) (NeedsMemory other text)) → IfErr r (Fails (Writes kind text) (NeedsMemory kind text))
err_of_kind {X} r kind other text is h = subst (λ (k : Kind). IfErr r (Fails (Writes k text) (NeedsMemory k text))) (sym is) h

-- a text that is neither `null` nor `now` has a word
pub only_worded : (now : ℕ) (text : List ℕ) (v : Value) → (text ≡ codes "null" → ⊥) → (text ≡ codes "now" → ⊥) → IsWritten now text v → IsWorded text v
only_worded now text v a b (is_null at is) = absurd (a at)
only_worded now text v a b (is_now at is) = absurd (b at)
only_worded now text v a b (is_worded h) = h

-- and if a text is not a number of 64 bits, it is not one of fewer
pub none_signed : {X : Type 0} (r : Option X) (kind : Kind) (text : List ℕ) → ((z : ℤ) → IsSigned (2 ^ 63) text z → ⊥) → IfNone r ((v : Value) → WritesSigned kind text v → ⊥)
none_signed None kind text h = λ v writes. let z = is_signed kind text v writes in h z.0 z.1
none_signed (Some x) kind text h = tt

-- ---- hexadecimal digits

digits_decode : (text : List ℕ) → length text % 2 ≡ 0 → list_all is_hex_digit text ≡ true → AreOctets text
digits_decode text even all =
    let read = decode_pairs-digits 0 text even (AllPass-from_list_all is_hex_digit text all) in
    (read.0, decode_of-even text even ∙ read.1)

decoded_even : (text : List ℕ) → AreOctets text → length text % 2 ≡ 0
decoded_even text h = by_parity (eqb_tells (length text % 2) 1)
  where
    by_parity : ((eqb (length text % 2) 1 ≡ true) × (length text % 2 ≡ 1)) ⊎ ((eqb (length text % 2) 1 ≡ false) × (length text % 2 ≢ 1)) → length text % 2 ≡ 0
    by_parity (inl odd) = let e = rw odd.0 at h.1 in absurd cc
    by_parity (inr even) = omega arith

decoded_digits : (text : List ℕ) → AreOctets text → list_all is_hex_digit text ≡ true
decoded_digits text h =
    list_all-from_AllPass is_hex_digit text (decode_pairs-ok 0 text h.0 (sym (decode_of-even text (decoded_even text h)) ∙ h.1)).0

pub digits_tell : (text : List ℕ) (b : Bool) → length text % 2 ≡ 0 → b ≡ list_all is_hex_digit text → IsTrue b ↔ AreOctets text
digits_tell text b even is = ((λ all. digits_decode text even (sym is ∙ all)), (λ h. is ∙ decoded_digits text h))

pub odd_tells : (text : List ℕ) → (length text % 2 ≡ 0 → ⊥) → IsTrue false ↔ AreOctets text
odd_tells text odd = ((λ h. absurd cc), (λ h. absurd (odd (decoded_even text h))))

pub worded_fails : {X : Type 0} (r : Result X ValueFault) (now : ℕ) (text : List ℕ) → (text ≡ codes "null" → ⊥) → (text ≡ codes "now" → ⊥) → IfErr r (Fails (IsWorded text) (WordNeedsMemory text))
    → IfErr r (Fails (IsWritten now text) (TextNeedsMemory text))
worded_fails r now text a b h = err_as r (IsWorded text) (IsWritten now text) (WordNeedsMemory text) (TextNeedsMemory text) (λ v q. only_worded now text v a b q) (λ needs. inr needs) h

pub whole_read : (bytes : List ℕ) (v w : Value) (n m : ℕ) → done {A = Value × ℕ} (v, n) ≡ done {A = Value × ℕ} (w, m) → IsSpelling bytes v → IsSpelling bytes w
whole_read bytes v w n m same spelled = subst (λ (x : Value). IsSpelling bytes x) (ap (λ (p : Value × ℕ). p.0) (ok_is (v, n) (w, m) same)) spelled
