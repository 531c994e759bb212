-- The form of the encoding of the columns.
use Rattle.std.proofs.Common.{arith, refl, sym, ap, subst, ◌∙◌, ◌≡◌, ◌<◌, ℕ, Bool, true, false, List, [], ◌∷◌, append-nil, Option, Some, None, unwrap_or, pos, drop, Result, Ok, Err}
use Rattle.std.specs.Prelude.{MatchBool, MatchResult, bytes_eq, IsOkAnd, nat_lt, negsuc, ◌-◌}
use Rattle.std.proofs.Common.{cond, suc}
use Rattle.std.specs.Int.{cast_signed, w8}
use Rattle.std.proofs.lemmas.Slice.Eq.{bytes_eq-Decides}
use Rattle.dlms_apdu.specs.Forms.{ResponseForm, get_data}
use Rattle.dlms_apdu.specs.Reading.{HoldsData, response_at}
use Rattle.dlms_apdu.specs.declared.fault.Refusal.{Refusal}
use Rattle.dlms_data.proofs.WholeLaws.{reads_one_value}
use Rattle.dlms_data.specs.Spelling.{Spells, IsSpelling}
use Rattle.dlms_data.specs.Value.{Value, Values, array, structure, octet_string, integer, long_unsigned, none, cons}
use Rattle.dlms_headend.specs.Columns.{columns, TellsBy, MissesBy}
use Rattle.dlms_headend.specs.Form.{IsFour}
use Rattle.dlms_headend.specs.Rows.{four_in, octets_in}
use Rattle.dlms_headend.proofs.HeardLemmas.{data_behind}
use Rattle.dlms_headend.specs.declared.poll_fault.PollFault.{PollFault}
use Rattle.dlms_headend.specs.declared.poll_fault.PollFault.TheVariants.{Columns as OtherColumns}

-- ---- a value of one spelling

-- whether the value is this one
abbrev pub IsThis : Bool → Value → Value → Type 0
IsThis b v w = MatchBool b (v ≡ w) (v ≡ w → ⊥)

same_value : (v w : Value) (bytes : List ℕ) → IsSpelling bytes v → IsSpelling bytes w → v ≡ w
same_value v w bytes h k = (reads_one_value bytes bytes [] bytes [] v w (sym (append-nil bytes)) (sym (append-nil bytes)) h k).1

told_by : (w : Value) (spelling : List ℕ) → IsSpelling spelling w → (v : Value) (bytes : List ℕ) → IsSpelling bytes v → (Spells bytes w → bytes ≡ spelling) → (b : Bool) → b ≡ bytes_eq bytes spelling → IsThis b v w
told_by w spelling is v bytes h only true e =
    let same : bytes ≡ spelling = (bytes_eq-Decides bytes spelling).0 (sym e) in
    same_value v w spelling (subst (λ (x : List ℕ). IsSpelling x v) same h) is
told_by w spelling is v bytes h only false e = λ same.
    let both : bytes_eq bytes spelling ≡ true = (bytes_eq-Decides bytes spelling).1 (only (subst (λ (x : Value). Spells bytes x) same h.0)) in
    let clash : false ≡ true = e ∙ both in
    cc

small_spelled : (n : ℕ) → IsSpelling (18 ∷ 0 ∷ n ∷ []) (long_unsigned n)
small_spelled n = ((0 ∷ n ∷ [], refl, (refl, omega arith)), omega arith)

small_only : (n : ℕ) (bytes : List ℕ) → n < 256 → Spells bytes (long_unsigned n) → bytes ≡ 18 ∷ 0 ∷ n ∷ []
small_only n bytes small ([], is, (size, number)) = absurd (omega (arith, size))
small_only n bytes small (a ∷ [], is, (size, number)) = absurd (omega (arith, size))
small_only n bytes small (a ∷ b ∷ [], is, (size, number)) =
    let high : a ≡ 0 = omega (arith, number, small) in
    let low : b ≡ n = omega (arith, number, small) in
    is ∙ ap (λ (x : ℕ). 18 ∷ x ∷ b ∷ []) high ∙ ap (λ (x : ℕ). 18 ∷ 0 ∷ x ∷ []) low
small_only n bytes small (a ∷ b ∷ c ∷ more, is, (size, number)) = absurd (omega (arith, size))

pub small_told : (n : ℕ) (v : Value) (bytes : List ℕ) → n < 256 → IsSpelling bytes v → (b : Bool) → b ≡ bytes_eq bytes (18 ∷ 0 ∷ n ∷ []) → IsThis b v (long_unsigned n)
small_told n v bytes small h b e = told_by (long_unsigned n) (18 ∷ 0 ∷ n ∷ []) (small_spelled n) v bytes h (small_only n bytes small) b e

two_spelled : IsSpelling (15 ∷ 2 ∷ []) (integer (pos 2))
two_spelled = ((2 ∷ [], refl, (refl, refl)), omega arith)

by_sign : (b : Bool) (n m : ℕ) → pos 2 ≡ cond b (pos n) (negsuc m) → n ≡ 2
by_sign true n m e = cc
by_sign false n m e = absurd (cc)

is_two : (n : ℕ) → pos 2 ≡ cast_signed w8 n → n ≡ 2
is_two n e = by_sign (nat_lt n 128) n (256 - suc n) e

two_only : (bytes : List ℕ) → Spells bytes (integer (pos 2)) → bytes ≡ 15 ∷ 2 ∷ []
two_only bytes ([], is, (size, number)) = absurd (omega (arith, size))
two_only bytes (a ∷ [], is, (size, number)) =
    let two = is_two _ number in
    let low : a ≡ 2 = omega (arith, two) in
    is ∙ ap (λ (x : ℕ). 15 ∷ x ∷ []) low
two_only bytes (a ∷ b ∷ more, is, (size, number)) = absurd (omega (arith, size))

pub two_told : (v : Value) (bytes : List ℕ) → IsSpelling bytes v → (b : Bool) → b ≡ bytes_eq bytes (15 ∷ 2 ∷ []) → IsThis b v (integer (pos 2))
two_told v bytes h b e = told_by (integer (pos 2)) (15 ∷ 2 ∷ []) two_spelled v bytes h (two_only bytes) b e

-- ---- a name

is_octets : (v : Value) (found : List ℕ) → Some found ≡ octets_in v → v ≡ octet_string found
is_octets (octet_string b) found e = let same : found ≡ b = cc in ap octet_string (sym same)
is_octets _ found e = absurd cc

pub no_name : (v : Value) (name : List ℕ) → None ≡ octets_in v → v ≡ octet_string name → ⊥
no_name v name e same = let both : None ≡ Some name = e ∙ ap octets_in same in cc

pub name_told : (v : Value) (found name : List ℕ) → Some found ≡ octets_in v → (b : Bool) → b ≡ bytes_eq found name → IsThis b v (octet_string name)
name_told v found name e true is = is_octets v found e ∙ ap octet_string ((bytes_eq-Decides found name).0 (sym is))
name_told v found name e false is = λ same.
    let both : Some found ≡ Some name = e ∙ ap octets_in same in
    let named : found ≡ name = cc in
    let clash : false ≡ true = is ∙ (bytes_eq-Decides found name).1 named in
    cc

-- ---- four values

is_structure : (v a b c d : Value) → four_in v ≡ Some (a, b, c, d) → v ≡ structure (cons a (cons b (cons c (cons d none))))
is_structure (structure (cons p (cons q (cons r (cons s none))))) a b c d e =
    let some : Option (Value × Value × Value × Value) → Value × Value × Value × Value = λ o. unwrap_or o (a, b, c, d) in
    let first : p ≡ a = ap (λ o. (some o).0) e in
    let second : q ≡ b = ap (λ o. (some o).1) e in
    let third : r ≡ c = ap (λ o. (some o).2) e in
    let fourth : s ≡ d = ap (λ o. (some o).3) e in
    cc (first, second, third, fourth)
is_structure _ a b c d e = absurd cc

module _ (v : Value) (a b c d : List ℕ) (f : IsFour v a b c d) (w x y z : Value) where
  abbrev whole : Value
  whole = structure (cons w (cons x (cons y (cons z none))))

  both : v ≡ whole → ◌≡◌ {A = Option (Value × Value × Value × Value)} (Some (f.first, f.second, f.third, f.fourth)) (Some (w, x, y, z))
  both e = sym f.are ∙ ap four_in e

  abbrev some : Option (Value × Value × Value × Value) → Value × Value × Value × Value
  some o = unwrap_or o (w, x, y, z)

  pub other_first : (f.first ≡ w → ⊥) → v ≡ whole → ⊥
  other_first not e = not (ap (λ (o : Option (Value × Value × Value × Value)). (some o).0) (both e))

  pub other_second : (f.second ≡ x → ⊥) → v ≡ whole → ⊥
  other_second not e = not (ap (λ (o : Option (Value × Value × Value × Value)). (some o).1) (both e))

  pub other_third : (f.third ≡ y → ⊥) → v ≡ whole → ⊥
  other_third not e = not (ap (λ (o : Option (Value × Value × Value × Value)). (some o).2) (both e))

  pub last_told : f.first ≡ w → f.second ≡ x → f.third ≡ y → (b : Bool) → IsThis b f.fourth z → IsThis b v whole
  last_told first second third true fourth = is_structure v f.first f.second f.third f.fourth f.are
      ∙ ap (λ (u : Value). structure (cons u (cons f.second (cons f.third (cons f.fourth none))))) first
      ∙ ap (λ (u : Value). structure (cons w (cons u (cons f.third (cons f.fourth none))))) second
      ∙ ap (λ (u : Value). structure (cons w (cons x (cons u (cons f.fourth none))))) third
      ∙ ap (λ (u : Value). structure (cons w (cons x (cons y (cons u none))))) fourth
  last_told first second third false not = λ e. not (ap (λ (o : Option (Value × Value × Value × Value)). (some o).3) (both e))

pub no_parts : (v w x y z : Value) → four_in v ≡ None → v ≡ structure (cons w (cons x (cons y (cons z none)))) → ⊥
no_parts v w x y z e same = let both : ◌≡◌ {A = Option (Value × Value × Value × Value)} None (Some (w, x, y, z)) = sym e ∙ ap four_in same in cc

-- ---- an array of four

inside : Value → Values
inside (array vs) = vs
inside (structure vs) = vs
inside _ = none

pub in_structure : (vs ws : Values) → array vs ≡ array ws → structure vs ≡ structure ws
unfolding inside
in_structure vs ws e = ap structure (ap inside e)

in_array : (vs ws : Values) → structure vs ≡ structure ws → array vs ≡ array ws
unfolding inside
in_array vs ws e = ap array (ap inside e)

pub array_told : (vs ws : Values) (b : Bool) → IsThis b (structure vs) (structure ws) → IsThis b (array vs) (array ws)
array_told vs ws true is = in_array vs ws is
array_told vs ws false not = λ e. not (in_structure vs ws e)

pub whole_told : (v w : Value) (vs : Values) (b : Bool) → v ≡ array vs → IsThis b (array vs) w → IsThis b v w
whole_told v w vs b same told = subst (λ (u : Value). IsThis b u w) (sym same) told

-- ---- an answer

-- the meaning of the bytes, if the answer is data
told_form : (read : Result ResponseForm Refusal) (invoke : ℕ) (v : Value) (result : Result (Unit {0}) PollFault) → read ≡ Ok (get_data invoke v) → MatchResult result (λ _. v ≡ columns) (λ fault. (fault ≡ OtherColumns) × (v ≡ columns → ⊥))
    → MatchResult result (λ _. TellsBy read) (λ fault. MissesBy read fault)
told_form read invoke v result e told = subst (λ (r : Result ResponseForm Refusal). MatchResult result (λ _. TellsBy r) (λ fault. MissesBy r fault)) (sym e) told

pub told_data : (apdu bytes : List ℕ) (invoke : ℕ) (v : Value) (result : Result (Unit {0}) PollFault) → response_at apdu ≡ Ok (get_data invoke v) → bytes ≡ drop 4 apdu
    → ((w : Value) → IsSpelling bytes w → MatchResult result (λ _. w ≡ columns) (λ fault. (fault ≡ OtherColumns) × (w ≡ columns → ⊥)))
    → MatchResult result (λ _. TellsBy (response_at apdu)) (λ fault. MissesBy (response_at apdu) fault)
told_data apdu bytes invoke v result read behind told =
    told_form (response_at apdu) invoke v result read (told v (subst (λ (b : List ℕ). IsSpelling b v) (sym behind) (data_behind apdu invoke v read)))

form_held : (read : Result ResponseForm Refusal) → IsOkAnd read HoldsData → (invoke : ℕ) × (v : Value) × (read ≡ Ok (get_data invoke v))
form_held (Ok (get_data invoke v)) h = (invoke, v, refl)
form_held (Ok _) h = absurd h
form_held (Err refusal) h = absurd h

pub told_unread : (apdu bytes : List ℕ) (result : Result (Unit {0}) PollFault) → IsOkAnd (response_at apdu) HoldsData → bytes ≡ drop 4 apdu
    → ((w : Value) → IsSpelling bytes w → MatchResult result (λ _. w ≡ columns) (λ fault. (fault ≡ OtherColumns) × (w ≡ columns → ⊥)))
    → MatchResult result (λ _. TellsBy (response_at apdu)) (λ fault. MissesBy (response_at apdu) fault)
told_unread apdu bytes result held behind told =
    let form = form_held (response_at apdu) held in
    told_data apdu bytes form.0 form.1 result form.2 behind told
