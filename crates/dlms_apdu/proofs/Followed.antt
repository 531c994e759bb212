-- Bytes after a spelling: if Trailing is reported, a spelling precedes them.
use Rattle.std.proofs.Common.{◌≡◌, ℕ, Bool, true, false, cond, ltb, eqb, if◌then◌else◌, List, [], ◌∷◌, ◌++◌, length, take, drop, Result, Ok, Err, refl, ap, subst, ◌∙◌, ◌⊎◌, inl, inr}
use Rattle.std.proofs.lemmas.Bool.{eqb-true}
use Rattle.dlms_data.specs.Value.{Value}
use Rattle.dlms_axdr.specs.Reading.{Fault, short, no_type, no_length, too_deep, octets_at}
use Rattle.dlms_data.specs.Reading.{data_at}
use Rattle.dlms_apdu.specs.declared.fault.Refusal.{Refusal}
use Rattle.dlms_apdu.specs.declared.fault.Refusal.TheVariants.{Short, Trailing}
use Rattle.dlms_apdu.specs.Forms.{get_normal, get_next, set_normal, set_first, set_block, action_normal, action_first, action_block, get_data, get_result, get_block, get_block_result, set_result, set_block_taken, set_last, action_result, action_block_taken, exception}
use Rattle.dlms_apdu.specs.Reading.{and_then, byte_at, taken_at, number_at, flag_at, descriptor_at, value_from, value_at, raw_from, raw_at, ended, chosen, choice_at, no_option_at, some_selector_at, selector_at, some_parameter_at, parameter_at, block_at, get_normal_at, get_next_at, set_normal_at, set_first_at, set_block_at, action_normal_at, action_first_at, action_block_at, get_at, set_at, action_at, request_at, get_data_at, get_result_at, get_answer_at, get_raw_at, get_block_result_at, get_block_answer_at, set_result_at, set_block_taken_at, set_last_at, action_result_at, action_block_taken_at, exception_at, get_response_at, set_response_at, action_response_at, response_at}
use Rattle.dlms_apdu.specs.Spelling.{◌▷◌, IsByte, IsNumber, IsFlag, IsDescriptor, IsSelector, IsParameter, IsRaw, IsValue, SpellsRequest, SpellsResponse}
use Rattle.dlms_apdu.proofs.Takes.{both, went, failed, byte_takes, number_takes, flag_takes, descriptor_takes, value_takes, raw_takes}
use Rattle.dlms_apdu.proofs.Options.{IsBlock, selector_takes, parameter_takes, block_takes}

-- ---- no part is refused for what stands behind it

-- a step that did not fail, if the whole did not
record Passed {A B : Type 0} (r : Result A Refusal) (f : A → Result B Refusal) : Type 0 where
  value : A
  is : r ≡ Ok value
  further : f value ≡ Err Trailing

passed : {A B : Type 0} (r : Result A Refusal) (f : A → Result B Refusal) → (r ≡ Err Trailing → ⊥) → and_then r f ≡ Err Trailing → Passed r f
unfolding and_then
passed (Ok x) f never e = record { value = x; is = refl; further = e }
passed (Err d) f never e = absurd (never (same d e))
  where
    same : {A B : Type 0} (d : Refusal) → failed {A = B} d ≡ failed Trailing → failed {A = A} d ≡ failed Trailing
    same d e = let is : d ≡ Trailing = cc in ap failed is

never_byte : (bytes : List ℕ) → byte_at bytes ≡ Err Trailing → ⊥
never_byte [] e = cc
never_byte (b ∷ rest) e = cc

never_guard : {A : Type 0} (b : Bool) (x : A) → cond b (failed Short) (Ok x) ≡ Err Trailing → ⊥
never_guard true x e = cc
never_guard false x e = cc

never_taken : (n : ℕ) (bytes : List ℕ) → taken_at n bytes ≡ Err Trailing → ⊥
unfolding taken_at
never_taken n bytes e = never_guard (ltb (length bytes) n) (take n bytes, drop n bytes) e

never_number : (k : ℕ) (bytes : List ℕ) → number_at k bytes ≡ Err Trailing → ⊥
unfolding number_at
never_number k bytes e = let t = passed _ _ (never_taken k bytes) e in let h = t.further in cc

never_flag : (bytes : List ℕ) → flag_at bytes ≡ Err Trailing → ⊥
unfolding flag_at
never_flag bytes e = let b = passed _ _ (never_byte bytes) e in let h = b.further in cc

never_descriptor : (bytes : List ℕ) → descriptor_at bytes ≡ Err Trailing → ⊥
unfolding descriptor_at
never_descriptor bytes e =
    let c = passed _ _ (never_number 2 bytes) e in
    let n = passed _ _ (never_taken 6 c.value.1) c.further in
    let i = passed _ _ (never_byte n.value.1) n.further in
    let h = i.further in cc

never_value_from : (r : Result (Value × List ℕ) Fault) → value_from r ≡ Err Trailing → ⊥
never_value_from (Ok x) e = cc
never_value_from (Err f) e = cc

never_value : (bytes : List ℕ) → value_at bytes ≡ Err Trailing → ⊥
never_value bytes e = never_value_from (data_at 8 bytes) e

never_raw_from : (r : Result (List ℕ × List ℕ) Fault) → raw_from r ≡ Err Trailing → ⊥
never_raw_from (Ok x) e = cc
never_raw_from (Err short) e = cc
never_raw_from (Err no_type) e = cc
never_raw_from (Err no_length) e = cc
never_raw_from (Err too_deep) e = cc

never_raw : (bytes : List ℕ) → raw_at bytes ≡ Err Trailing → ⊥
never_raw bytes e = never_raw_from (octets_at bytes) e

-- the first byte was one of these, and the reading of what follows failed
abbrev ChoseFailing : {Y : Type 0} → List (ℕ × (List ℕ → Result Y Refusal)) → List ℕ → Type 0
ChoseFailing [] bytes = ⊥
ChoseFailing (row ∷ rows) bytes = ((rest : List ℕ) × (bytes ≡ row.0 ∷ rest) × (row.1 rest ≡ Err Trailing)) ⊎ ChoseFailing rows bytes

chosen_failed : {Y : Type 0} (rows : List (ℕ × (List ℕ → Result Y Refusal))) (b : ℕ) (rest : List ℕ) → chosen rows b rest ≡ Err Trailing → ChoseFailing rows (b ∷ rest)
chosen_failed [] b rest e = absurd cc
chosen_failed (row ∷ rows) b rest e =
    elim (went (eqb b row.0) (row.1 rest) (chosen rows b rest) (failed Trailing) e) [
      | inl h ↦ inl (rest, ap (λ (c : ℕ). c ∷ rest) (eqb-true b row.0 h.0), h.1)
      | inr h ↦ inr (chosen_failed rows b rest h)
    ]

choice_failed : {Y : Type 0} (rows : List (ℕ × (List ℕ → Result Y Refusal))) (bytes : List ℕ) → choice_at rows bytes ≡ Err Trailing → ChoseFailing rows bytes
choice_failed rows [] e = absurd cc
choice_failed rows (b ∷ rest) e = chosen_failed rows b rest e

never_some_selector : (bytes : List ℕ) → some_selector_at bytes ≡ Err Trailing → ⊥
unfolding some_selector_at
never_some_selector bytes e =
    let n = passed _ _ (never_byte bytes) e in
    let v = passed _ _ (never_value n.value.1) n.further in
    let h = v.further in cc

never_selector : (bytes : List ℕ) → selector_at bytes ≡ Err Trailing → ⊥
unfolding selector_at
never_selector bytes e =
    elim (choice_failed ((0, no_option_at) ∷ (1, some_selector_at) ∷ []) bytes e) [
      | inl h ↦ let f = h.2 in cc
      | inr g ↦ elim g [ inl h ↦ never_some_selector h.0 h.2 | inr h ↦ h ]
    ]

never_some_parameter : (bytes : List ℕ) → some_parameter_at bytes ≡ Err Trailing → ⊥
unfolding some_parameter_at
never_some_parameter bytes e =
    let v = passed _ _ (never_value bytes) e in
    let h = v.further in cc

never_parameter : (bytes : List ℕ) → parameter_at bytes ≡ Err Trailing → ⊥
unfolding parameter_at
never_parameter bytes e =
    elim (choice_failed ((0, no_option_at) ∷ (1, some_parameter_at) ∷ []) bytes e) [
      | inl h ↦ let f = h.2 in cc
      | inr g ↦ elim g [ inl h ↦ never_some_parameter h.0 h.2 | inr h ↦ h ]
    ]

never_block : (bytes : List ℕ) → block_at bytes ≡ Err Trailing → ⊥
unfolding block_at
never_block bytes e =
    let f = passed _ _ (never_flag bytes) e in
    let n = passed _ _ (never_number 4 f.value.1) f.further in
    let r = passed _ _ (never_raw n.value.1) n.further in
    let h = r.further in cc

ended_err : {Y : Type 0} (y : Y) (rest : List ℕ) → ended y rest ≡ Err Trailing → (b : ℕ) × (more : List ℕ) × (rest ≡ b ∷ more)
unfolding and_then
ended_err y [] e = absurd cc
ended_err y (b ∷ more) e = (b, more, refl)

-- ---- a spelling stands in front of more

abbrev Followed : {Y : Type 0} → (List ℕ → Y → Type 0) → List ℕ → Type 0
Followed {Y} S bytes = (front : List ℕ) × (b : ℕ) × (more : List ℕ) × (bytes ≡ front ++ b ∷ more) × ((y : Y) × S front y)

behind_one : {Y : Type 0} (a : ℕ) (S : List ℕ → Y → Type 0) (bytes rest : List ℕ) → bytes ≡ a ∷ rest → Followed (λ (w : List ℕ). S (a ∷ w)) rest → Followed S bytes
behind_one a S bytes rest e k = (a ∷ k.0, k.1, k.2, e ∙ ap (λ (w : List ℕ). a ∷ w) k.3, k.4)

-- ---- requests

get_normal_followed : (bytes : List ℕ) → get_normal_at bytes ≡ Err Trailing → Followed (λ (w : List ℕ). SpellsRequest (0xC0 ∷ 1 ∷ w)) bytes
unfolding get_normal_at
get_normal_followed bytes e =
    let i = passed _ _ (never_byte bytes) e in
    let ti = byte_takes bytes i.value i.is in
    let d = passed _ _ (never_descriptor i.value.1) i.further in
    let td = descriptor_takes i.value.1 d.value d.is in
    let s = passed _ _ (never_selector d.value.1) d.further in
    let ts = selector_takes d.value.1 s.value s.is in
    let z = ended_err _ s.value.1 s.further in
    let u1 = both (IsDescriptor d.value.0) (IsSelector s.value.0) i.value.1 d.value.1 s.value.1 td.0 ts.0 td.1 ts.1 td.2 ts.2 in
    let u0 = both (IsByte i.value.0) (IsDescriptor d.value.0 ▷ IsSelector s.value.0) bytes i.value.1 s.value.1 ti.0 u1.0 ti.1 u1.1 ti.2 u1.2 in
    (u0.0, z.0, z.1, u0.1 ∙ ap (λ (w : List ℕ). u0.0 ++ w) z.2, (get_normal i.value.0 d.value.0 s.value.0, (0xC0 ∷ [], 1 ∷ u0.0, refl, refl, (1 ∷ [], u0.0, refl, refl, u0.2))))

get_next_followed : (bytes : List ℕ) → get_next_at bytes ≡ Err Trailing → Followed (λ (w : List ℕ). SpellsRequest (0xC0 ∷ 2 ∷ w)) bytes
unfolding get_next_at
get_next_followed bytes e =
    let i = passed _ _ (never_byte bytes) e in
    let ti = byte_takes bytes i.value i.is in
    let n = passed _ _ (never_number 4 i.value.1) i.further in
    let tn = number_takes 4 i.value.1 n.value n.is in
    let z = ended_err _ n.value.1 n.further in
    let u0 = both (IsByte i.value.0) (IsNumber 4 n.value.0) bytes i.value.1 n.value.1 ti.0 tn.0 ti.1 tn.1 ti.2 tn.2 in
    (u0.0, z.0, z.1, u0.1 ∙ ap (λ (w : List ℕ). u0.0 ++ w) z.2, (get_next i.value.0 n.value.0, (0xC0 ∷ [], 2 ∷ u0.0, refl, refl, (2 ∷ [], u0.0, refl, refl, u0.2))))

set_normal_followed : (bytes : List ℕ) → set_normal_at bytes ≡ Err Trailing → Followed (λ (w : List ℕ). SpellsRequest (0xC1 ∷ 1 ∷ w)) bytes
unfolding set_normal_at
set_normal_followed bytes e =
    let i = passed _ _ (never_byte bytes) e in
    let ti = byte_takes bytes i.value i.is in
    let d = passed _ _ (never_descriptor i.value.1) i.further in
    let td = descriptor_takes i.value.1 d.value d.is in
    let s = passed _ _ (never_selector d.value.1) d.further in
    let ts = selector_takes d.value.1 s.value s.is in
    let v = passed _ _ (never_value s.value.1) s.further in
    let tv = value_takes s.value.1 v.value v.is in
    let z = ended_err _ v.value.1 v.further in
    let u2 = both (IsSelector s.value.0) (IsValue v.value.0) d.value.1 s.value.1 v.value.1 ts.0 tv.0 ts.1 tv.1 ts.2 tv.2 in
    let u1 = both (IsDescriptor d.value.0) (IsSelector s.value.0 ▷ IsValue v.value.0) i.value.1 d.value.1 v.value.1 td.0 u2.0 td.1 u2.1 td.2 u2.2 in
    let u0 = both (IsByte i.value.0) (IsDescriptor d.value.0 ▷ IsSelector s.value.0 ▷ IsValue v.value.0) bytes i.value.1 v.value.1 ti.0 u1.0 ti.1 u1.1 ti.2 u1.2 in
    (u0.0, z.0, z.1, u0.1 ∙ ap (λ (w : List ℕ). u0.0 ++ w) z.2, (set_normal i.value.0 d.value.0 s.value.0 v.value.0, (0xC1 ∷ [], 1 ∷ u0.0, refl, refl, (1 ∷ [], u0.0, refl, refl, u0.2))))

set_first_followed : (bytes : List ℕ) → set_first_at bytes ≡ Err Trailing → Followed (λ (w : List ℕ). SpellsRequest (0xC1 ∷ 2 ∷ w)) bytes
unfolding set_first_at
set_first_followed bytes e =
    let i = passed _ _ (never_byte bytes) e in
    let ti = byte_takes bytes i.value i.is in
    let d = passed _ _ (never_descriptor i.value.1) i.further in
    let td = descriptor_takes i.value.1 d.value d.is in
    let s = passed _ _ (never_selector d.value.1) d.further in
    let ts = selector_takes d.value.1 s.value s.is in
    let b = passed _ _ (never_block s.value.1) s.further in
    let tb = block_takes s.value.1 b.value b.is in
    let z = ended_err _ b.value.1 b.further in
    let u2 = both (IsSelector s.value.0) (IsBlock b.value.0) d.value.1 s.value.1 b.value.1 ts.0 tb.0 ts.1 tb.1 ts.2 tb.2 in
    let u1 = both (IsDescriptor d.value.0) (IsSelector s.value.0 ▷ IsBlock b.value.0) i.value.1 d.value.1 b.value.1 td.0 u2.0 td.1 u2.1 td.2 u2.2 in
    let u0 = both (IsByte i.value.0) (IsDescriptor d.value.0 ▷ IsSelector s.value.0 ▷ IsBlock b.value.0) bytes i.value.1 b.value.1 ti.0 u1.0 ti.1 u1.1 ti.2 u1.2 in
    (u0.0, z.0, z.1, u0.1 ∙ ap (λ (w : List ℕ). u0.0 ++ w) z.2, (set_first i.value.0 d.value.0 s.value.0 b.value.0.last b.value.0.number b.value.0.raw, (0xC1 ∷ [], 2 ∷ u0.0, refl, refl, (2 ∷ [], u0.0, refl, refl, u0.2))))

set_block_followed : (bytes : List ℕ) → set_block_at bytes ≡ Err Trailing → Followed (λ (w : List ℕ). SpellsRequest (0xC1 ∷ 3 ∷ w)) bytes
unfolding set_block_at
set_block_followed bytes e =
    let i = passed _ _ (never_byte bytes) e in
    let ti = byte_takes bytes i.value i.is in
    let b = passed _ _ (never_block i.value.1) i.further in
    let tb = block_takes i.value.1 b.value b.is in
    let z = ended_err _ b.value.1 b.further in
    let u0 = both (IsByte i.value.0) (IsBlock b.value.0) bytes i.value.1 b.value.1 ti.0 tb.0 ti.1 tb.1 ti.2 tb.2 in
    (u0.0, z.0, z.1, u0.1 ∙ ap (λ (w : List ℕ). u0.0 ++ w) z.2, (set_block i.value.0 b.value.0.last b.value.0.number b.value.0.raw, (0xC1 ∷ [], 3 ∷ u0.0, refl, refl, (3 ∷ [], u0.0, refl, refl, u0.2))))

action_normal_followed : (bytes : List ℕ) → action_normal_at bytes ≡ Err Trailing → Followed (λ (w : List ℕ). SpellsRequest (0xC3 ∷ 1 ∷ w)) bytes
unfolding action_normal_at
action_normal_followed bytes e =
    let i = passed _ _ (never_byte bytes) e in
    let ti = byte_takes bytes i.value i.is in
    let d = passed _ _ (never_descriptor i.value.1) i.further in
    let td = descriptor_takes i.value.1 d.value d.is in
    let p = passed _ _ (never_parameter d.value.1) d.further in
    let tp = parameter_takes d.value.1 p.value p.is in
    let z = ended_err _ p.value.1 p.further in
    let u1 = both (IsDescriptor d.value.0) (IsParameter p.value.0) i.value.1 d.value.1 p.value.1 td.0 tp.0 td.1 tp.1 td.2 tp.2 in
    let u0 = both (IsByte i.value.0) (IsDescriptor d.value.0 ▷ IsParameter p.value.0) bytes i.value.1 p.value.1 ti.0 u1.0 ti.1 u1.1 ti.2 u1.2 in
    (u0.0, z.0, z.1, u0.1 ∙ ap (λ (w : List ℕ). u0.0 ++ w) z.2, (action_normal i.value.0 d.value.0 p.value.0, (0xC3 ∷ [], 1 ∷ u0.0, refl, refl, (1 ∷ [], u0.0, refl, refl, u0.2))))

action_first_followed : (bytes : List ℕ) → action_first_at bytes ≡ Err Trailing → Followed (λ (w : List ℕ). SpellsRequest (0xC3 ∷ 4 ∷ w)) bytes
unfolding action_first_at
action_first_followed bytes e =
    let i = passed _ _ (never_byte bytes) e in
    let ti = byte_takes bytes i.value i.is in
    let d = passed _ _ (never_descriptor i.value.1) i.further in
    let td = descriptor_takes i.value.1 d.value d.is in
    let b = passed _ _ (never_block d.value.1) d.further in
    let tb = block_takes d.value.1 b.value b.is in
    let z = ended_err _ b.value.1 b.further in
    let u1 = both (IsDescriptor d.value.0) (IsBlock b.value.0) i.value.1 d.value.1 b.value.1 td.0 tb.0 td.1 tb.1 td.2 tb.2 in
    let u0 = both (IsByte i.value.0) (IsDescriptor d.value.0 ▷ IsBlock b.value.0) bytes i.value.1 b.value.1 ti.0 u1.0 ti.1 u1.1 ti.2 u1.2 in
    (u0.0, z.0, z.1, u0.1 ∙ ap (λ (w : List ℕ). u0.0 ++ w) z.2, (action_first i.value.0 d.value.0 b.value.0.last b.value.0.number b.value.0.raw, (0xC3 ∷ [], 4 ∷ u0.0, refl, refl, (4 ∷ [], u0.0, refl, refl, u0.2))))

action_block_followed : (bytes : List ℕ) → action_block_at bytes ≡ Err Trailing → Followed (λ (w : List ℕ). SpellsRequest (0xC3 ∷ 6 ∷ w)) bytes
unfolding action_block_at
action_block_followed bytes e =
    let i = passed _ _ (never_byte bytes) e in
    let ti = byte_takes bytes i.value i.is in
    let b = passed _ _ (never_block i.value.1) i.further in
    let tb = block_takes i.value.1 b.value b.is in
    let z = ended_err _ b.value.1 b.further in
    let u0 = both (IsByte i.value.0) (IsBlock b.value.0) bytes i.value.1 b.value.1 ti.0 tb.0 ti.1 tb.1 ti.2 tb.2 in
    (u0.0, z.0, z.1, u0.1 ∙ ap (λ (w : List ℕ). u0.0 ++ w) z.2, (action_block i.value.0 b.value.0.last b.value.0.number b.value.0.raw, (0xC3 ∷ [], 6 ∷ u0.0, refl, refl, (6 ∷ [], u0.0, refl, refl, u0.2))))

get_followed : (bytes : List ℕ) → get_at bytes ≡ Err Trailing → Followed (λ (w : List ℕ). SpellsRequest (0xC0 ∷ w)) bytes
unfolding get_at
get_followed bytes e =
    elim (choice_failed ((1, get_normal_at) ∷ (2, get_next_at) ∷ []) bytes e) [
      | inl h ↦ behind_one 1 (λ (w : List ℕ). SpellsRequest (0xC0 ∷ w)) bytes h.0 h.1 (get_normal_followed h.0 h.2)
      | inr g ↦ elim g [
        | inl h ↦ behind_one 2 (λ (w : List ℕ). SpellsRequest (0xC0 ∷ w)) bytes h.0 h.1 (get_next_followed h.0 h.2)
        | inr h ↦ absurd h
      ]
    ]

set_followed : (bytes : List ℕ) → set_at bytes ≡ Err Trailing → Followed (λ (w : List ℕ). SpellsRequest (0xC1 ∷ w)) bytes
unfolding set_at
set_followed bytes e =
    elim (choice_failed ((1, set_normal_at) ∷ (2, set_first_at) ∷ (3, set_block_at) ∷ []) bytes e) [
      | inl h ↦ behind_one 1 (λ (w : List ℕ). SpellsRequest (0xC1 ∷ w)) bytes h.0 h.1 (set_normal_followed h.0 h.2)
      | inr g ↦ elim g [
        | inl h ↦ behind_one 2 (λ (w : List ℕ). SpellsRequest (0xC1 ∷ w)) bytes h.0 h.1 (set_first_followed h.0 h.2)
        | inr g ↦ elim g [
          | inl h ↦ behind_one 3 (λ (w : List ℕ). SpellsRequest (0xC1 ∷ w)) bytes h.0 h.1 (set_block_followed h.0 h.2)
          | inr h ↦ absurd h
        ]
      ]
    ]

action_followed : (bytes : List ℕ) → action_at bytes ≡ Err Trailing → Followed (λ (w : List ℕ). SpellsRequest (0xC3 ∷ w)) bytes
unfolding action_at
action_followed bytes e =
    elim (choice_failed ((1, action_normal_at) ∷ (4, action_first_at) ∷ (6, action_block_at) ∷ []) bytes e) [
      | inl h ↦ behind_one 1 (λ (w : List ℕ). SpellsRequest (0xC3 ∷ w)) bytes h.0 h.1 (action_normal_followed h.0 h.2)
      | inr g ↦ elim g [
        | inl h ↦ behind_one 4 (λ (w : List ℕ). SpellsRequest (0xC3 ∷ w)) bytes h.0 h.1 (action_first_followed h.0 h.2)
        | inr g ↦ elim g [
          | inl h ↦ behind_one 6 (λ (w : List ℕ). SpellsRequest (0xC3 ∷ w)) bytes h.0 h.1 (action_block_followed h.0 h.2)
          | inr h ↦ absurd h
        ]
      ]
    ]

pub request_followed : (bytes : List ℕ) → request_at bytes ≡ Err Trailing → Followed SpellsRequest bytes
unfolding request_at
request_followed bytes e =
    elim (choice_failed ((0xC0, get_at) ∷ (0xC1, set_at) ∷ (0xC3, action_at) ∷ []) bytes e) [
      | inl h ↦ behind_one 0xC0 SpellsRequest bytes h.0 h.1 (get_followed h.0 h.2)
      | inr g ↦ elim g [
        | inl h ↦ behind_one 0xC1 SpellsRequest bytes h.0 h.1 (set_followed h.0 h.2)
        | inr g ↦ elim g [
          | inl h ↦ behind_one 0xC3 SpellsRequest bytes h.0 h.1 (action_followed h.0 h.2)
          | inr h ↦ absurd h
        ]
      ]
    ]

-- ---- responses

get_answer_followed : (bytes : List ℕ) → get_answer_at bytes ≡ Err Trailing → Followed (λ (w : List ℕ). SpellsResponse (0xC4 ∷ 1 ∷ w)) bytes
unfolding get_answer_at get_data_at get_result_at
get_answer_followed bytes e =
    let i = passed _ _ (never_byte bytes) e in
    let ti = byte_takes bytes i.value i.is in
    elim (choice_failed ((0, get_data_at i.value.0) ∷ (1, get_result_at i.value.0) ∷ []) i.value.1 i.further) [
      | inl h ↦
          let v = passed _ _ (never_value h.0) h.2 in
          let tv = value_takes h.0 v.value v.is in
          let z = ended_err _ v.value.1 v.further in
          let u1 = both (IsByte 0) (IsValue v.value.0) i.value.1 h.0 v.value.1 (0 ∷ []) tv.0 h.1 tv.1 refl tv.2 in
          let u0 = both (IsByte i.value.0) (IsByte 0 ▷ IsValue v.value.0) bytes i.value.1 v.value.1 ti.0 u1.0 ti.1 u1.1 ti.2 u1.2 in
          (u0.0, z.0, z.1, u0.1 ∙ ap (λ (w : List ℕ). u0.0 ++ w) z.2, (get_data i.value.0 v.value.0, (0xC4 ∷ [], 1 ∷ u0.0, refl, refl, (1 ∷ [], u0.0, refl, refl, u0.2))))
      | inr g ↦ elim g [
        | inl h ↦
            let q = passed _ _ (never_byte h.0) h.2 in
            let tq = byte_takes h.0 q.value q.is in
            let z = ended_err _ q.value.1 q.further in
            let u1 = both (IsByte 1) (IsByte q.value.0) i.value.1 h.0 q.value.1 (1 ∷ []) tq.0 h.1 tq.1 refl tq.2 in
            let u0 = both (IsByte i.value.0) (IsByte 1 ▷ IsByte q.value.0) bytes i.value.1 q.value.1 ti.0 u1.0 ti.1 u1.1 ti.2 u1.2 in
            (u0.0, z.0, z.1, u0.1 ∙ ap (λ (w : List ℕ). u0.0 ++ w) z.2, (get_result i.value.0 q.value.0, (0xC4 ∷ [], 1 ∷ u0.0, refl, refl, (1 ∷ [], u0.0, refl, refl, u0.2))))
        | inr h ↦ absurd h
      ]
    ]

failing_if : {Y : Type 0} (b : Bool) (row : ℕ × (List ℕ → Result Y Refusal)) (bytes : List ℕ) → ChoseFailing (cond b (row ∷ []) []) bytes
    → (b ≡ true) × ((rest : List ℕ) × (bytes ≡ row.0 ∷ rest) × (row.1 rest ≡ Err Trailing))
failing_if true row bytes h = elim h [ inl g ↦ (refl, g) | inr g ↦ absurd g ]
failing_if false row bytes h = absurd h

three_more : (P Q R X : List ℕ → Type 0) (bytes behind further last rest p q r x : List ℕ) → bytes ≡ p ++ behind → behind ≡ q ++ further → further ≡ r ++ last → last ≡ x ++ rest → P p → Q q → R r → X x
    → (all : List ℕ) × (bytes ≡ all ++ rest) × (P ▷ Q ▷ R ▷ X) all
three_more P Q R X bytes behind further last rest p q r x e f g h hp hq hr hx =
    let u2 = both R X further last rest r x g h hr hx in
    let u1 = both Q (R ▷ X) behind further rest q u2.0 f u2.1 hq u2.2 in
    both P (Q ▷ R ▷ X) bytes behind rest p u1.0 e u1.1 hp u1.2

raw_followed : (i : ℕ) (f : Bool) (n : ℕ) (bytes behind further last rest p q r : List ℕ) → bytes ≡ p ++ behind → behind ≡ q ++ further → further ≡ r ++ last → IsByte i p → IsFlag f q → IsNumber 4 n r
    → last ≡ 0 ∷ rest → get_raw_at i f n rest ≡ Err Trailing → Followed (λ (w : List ℕ). SpellsResponse (0xC4 ∷ 2 ∷ w)) bytes
unfolding get_raw_at
raw_followed i f n bytes behind further last rest p q r e d g hp hq hr chose wrong =
    let b = passed _ _ (never_raw rest) wrong in
    let tb = raw_takes rest b.value b.is in
    let z = ended_err _ b.value.1 b.further in
    let x = both (IsByte 0) (IsRaw b.value.0) last rest b.value.1 (0 ∷ []) tb.0 chose tb.1 refl tb.2 in
    let u = three_more (IsByte i) (IsFlag f) (IsNumber 4 n) (IsByte 0 ▷ IsRaw b.value.0) bytes behind further last b.value.1 p q r x.0 e d g x.1 hp hq hr x.2 in
    (u.0, z.0, z.1, u.1 ∙ ap (λ (w : List ℕ). u.0 ++ w) z.2, (get_block i f n b.value.0, (0xC4 ∷ [], 2 ∷ u.0, refl, refl, (2 ∷ [], u.0, refl, refl, u.2))))

block_result_followed : (i n : ℕ) (bytes behind further last rest p q r : List ℕ) → bytes ≡ p ++ behind → behind ≡ q ++ further → further ≡ r ++ last → IsByte i p → IsFlag true q → IsNumber 4 n r
    → last ≡ 1 ∷ rest → get_block_result_at i n rest ≡ Err Trailing → Followed (λ (w : List ℕ). SpellsResponse (0xC4 ∷ 2 ∷ w)) bytes
unfolding get_block_result_at
block_result_followed i n bytes behind further last rest p q r e d g hp hq hr chose wrong =
    let b = passed _ _ (never_byte rest) wrong in
    let tb = byte_takes rest b.value b.is in
    let z = ended_err _ b.value.1 b.further in
    let x = both (IsByte 1) (IsByte b.value.0) last rest b.value.1 (1 ∷ []) tb.0 chose tb.1 refl tb.2 in
    let u = three_more (IsByte i) (IsFlag true) (IsNumber 4 n) (IsByte 1 ▷ IsByte b.value.0) bytes behind further last b.value.1 p q r x.0 e d g x.1 hp hq hr x.2 in
    (u.0, z.0, z.1, u.1 ∙ ap (λ (w : List ℕ). u.0 ++ w) z.2, (get_block_result i n b.value.0, (0xC4 ∷ [], 2 ∷ u.0, refl, refl, (2 ∷ [], u.0, refl, refl, u.2))))

get_block_answer_followed : (bytes : List ℕ) → get_block_answer_at bytes ≡ Err Trailing → Followed (λ (w : List ℕ). SpellsResponse (0xC4 ∷ 2 ∷ w)) bytes
unfolding get_block_answer_at
get_block_answer_followed bytes e =
    let i = passed _ _ (never_byte bytes) e in
    let ti = byte_takes bytes i.value i.is in
    let f = passed _ _ (never_flag i.value.1) i.further in
    let tf = flag_takes i.value.1 f.value f.is in
    let n = passed _ _ (never_number 4 f.value.1) f.further in
    let tn = number_takes 4 f.value.1 n.value n.is in
    elim (choice_failed ((0, get_raw_at i.value.0 f.value.0 n.value.0) ∷ (if f.value.0 then (1, get_block_result_at i.value.0 n.value.0) ∷ [] else [])) n.value.1 n.further) [
      | inl h ↦ raw_followed i.value.0 f.value.0 n.value.0 bytes i.value.1 f.value.1 n.value.1 h.0 ti.0 tf.0 tn.0 ti.1 tf.1 tn.1 ti.2 tf.2 tn.2 h.1 h.2
      | inr g ↦
          let k = failing_if f.value.0 (1, get_block_result_at i.value.0 n.value.0) n.value.1 g in
          let flag : IsFlag true tf.0 = subst (λ (b : Bool). IsFlag b tf.0) k.0 tf.2 in
          block_result_followed i.value.0 n.value.0 bytes i.value.1 f.value.1 n.value.1 k.1.0 ti.0 tf.0 tn.0 ti.1 tf.1 tn.1 ti.2 flag tn.2 k.1.1 k.1.2
    ]

set_result_followed : (bytes : List ℕ) → set_result_at bytes ≡ Err Trailing → Followed (λ (w : List ℕ). SpellsResponse (0xC5 ∷ 1 ∷ w)) bytes
unfolding set_result_at
set_result_followed bytes e =
    let i = passed _ _ (never_byte bytes) e in
    let ti = byte_takes bytes i.value i.is in
    let q = passed _ _ (never_byte i.value.1) i.further in
    let tq = byte_takes i.value.1 q.value q.is in
    let z = ended_err _ q.value.1 q.further in
    let u0 = both (IsByte i.value.0) (IsByte q.value.0) bytes i.value.1 q.value.1 ti.0 tq.0 ti.1 tq.1 ti.2 tq.2 in
    (u0.0, z.0, z.1, u0.1 ∙ ap (λ (w : List ℕ). u0.0 ++ w) z.2, (set_result i.value.0 q.value.0, (0xC5 ∷ [], 1 ∷ u0.0, refl, refl, (1 ∷ [], u0.0, refl, refl, u0.2))))

set_block_taken_followed : (bytes : List ℕ) → set_block_taken_at bytes ≡ Err Trailing → Followed (λ (w : List ℕ). SpellsResponse (0xC5 ∷ 2 ∷ w)) bytes
unfolding set_block_taken_at
set_block_taken_followed bytes e =
    let i = passed _ _ (never_byte bytes) e in
    let ti = byte_takes bytes i.value i.is in
    let n = passed _ _ (never_number 4 i.value.1) i.further in
    let tn = number_takes 4 i.value.1 n.value n.is in
    let z = ended_err _ n.value.1 n.further in
    let u0 = both (IsByte i.value.0) (IsNumber 4 n.value.0) bytes i.value.1 n.value.1 ti.0 tn.0 ti.1 tn.1 ti.2 tn.2 in
    (u0.0, z.0, z.1, u0.1 ∙ ap (λ (w : List ℕ). u0.0 ++ w) z.2, (set_block_taken i.value.0 n.value.0, (0xC5 ∷ [], 2 ∷ u0.0, refl, refl, (2 ∷ [], u0.0, refl, refl, u0.2))))

set_last_followed : (bytes : List ℕ) → set_last_at bytes ≡ Err Trailing → Followed (λ (w : List ℕ). SpellsResponse (0xC5 ∷ 3 ∷ w)) bytes
unfolding set_last_at
set_last_followed bytes e =
    let i = passed _ _ (never_byte bytes) e in
    let ti = byte_takes bytes i.value i.is in
    let q = passed _ _ (never_byte i.value.1) i.further in
    let tq = byte_takes i.value.1 q.value q.is in
    let n = passed _ _ (never_number 4 q.value.1) q.further in
    let tn = number_takes 4 q.value.1 n.value n.is in
    let z = ended_err _ n.value.1 n.further in
    let u1 = both (IsByte q.value.0) (IsNumber 4 n.value.0) i.value.1 q.value.1 n.value.1 tq.0 tn.0 tq.1 tn.1 tq.2 tn.2 in
    let u0 = both (IsByte i.value.0) (IsByte q.value.0 ▷ IsNumber 4 n.value.0) bytes i.value.1 n.value.1 ti.0 u1.0 ti.1 u1.1 ti.2 u1.2 in
    (u0.0, z.0, z.1, u0.1 ∙ ap (λ (w : List ℕ). u0.0 ++ w) z.2, (set_last i.value.0 q.value.0 n.value.0, (0xC5 ∷ [], 3 ∷ u0.0, refl, refl, (3 ∷ [], u0.0, refl, refl, u0.2))))

action_block_taken_followed : (bytes : List ℕ) → action_block_taken_at bytes ≡ Err Trailing → Followed (λ (w : List ℕ). SpellsResponse (0xC7 ∷ 4 ∷ w)) bytes
unfolding action_block_taken_at
action_block_taken_followed bytes e =
    let i = passed _ _ (never_byte bytes) e in
    let ti = byte_takes bytes i.value i.is in
    let n = passed _ _ (never_number 4 i.value.1) i.further in
    let tn = number_takes 4 i.value.1 n.value n.is in
    let z = ended_err _ n.value.1 n.further in
    let u0 = both (IsByte i.value.0) (IsNumber 4 n.value.0) bytes i.value.1 n.value.1 ti.0 tn.0 ti.1 tn.1 ti.2 tn.2 in
    (u0.0, z.0, z.1, u0.1 ∙ ap (λ (w : List ℕ). u0.0 ++ w) z.2, (action_block_taken i.value.0 n.value.0, (0xC7 ∷ [], 4 ∷ u0.0, refl, refl, (4 ∷ [], u0.0, refl, refl, u0.2))))

action_result_followed : (bytes : List ℕ) → action_result_at bytes ≡ Err Trailing → Followed (λ (w : List ℕ). SpellsResponse (0xC7 ∷ 1 ∷ w)) bytes
unfolding action_result_at
action_result_followed bytes e =
    let i = passed _ _ (never_byte bytes) e in
    let ti = byte_takes bytes i.value i.is in
    let q = passed _ _ (never_byte i.value.1) i.further in
    let tq = byte_takes i.value.1 q.value q.is in
    elim (choice_failed ((0, ended (action_result i.value.0 q.value.0)) ∷ []) q.value.1 q.further) [
      | inl h ↦
          let z = ended_err _ h.0 h.2 in
          let u1 = both (IsByte q.value.0) (IsByte 0) i.value.1 q.value.1 h.0 tq.0 (0 ∷ []) tq.1 h.1 tq.2 refl in
          let u0 = both (IsByte i.value.0) (IsByte q.value.0 ▷ IsByte 0) bytes i.value.1 h.0 ti.0 u1.0 ti.1 u1.1 ti.2 u1.2 in
          (u0.0, z.0, z.1, u0.1 ∙ ap (λ (w : List ℕ). u0.0 ++ w) z.2, (action_result i.value.0 q.value.0, (0xC7 ∷ [], 1 ∷ u0.0, refl, refl, (1 ∷ [], u0.0, refl, refl, u0.2))))
      | inr h ↦ absurd h
    ]

exception_followed : (bytes : List ℕ) → exception_at bytes ≡ Err Trailing → Followed (λ (w : List ℕ). SpellsResponse (0xD8 ∷ w)) bytes
unfolding exception_at
exception_followed bytes e =
    let i = passed _ _ (never_byte bytes) e in
    let ti = byte_takes bytes i.value i.is in
    let q = passed _ _ (never_byte i.value.1) i.further in
    let tq = byte_takes i.value.1 q.value q.is in
    let z = ended_err _ q.value.1 q.further in
    let u0 = both (IsByte i.value.0) (IsByte q.value.0) bytes i.value.1 q.value.1 ti.0 tq.0 ti.1 tq.1 ti.2 tq.2 in
    (u0.0, z.0, z.1, u0.1 ∙ ap (λ (w : List ℕ). u0.0 ++ w) z.2, (exception i.value.0 q.value.0, (0xD8 ∷ [], u0.0, refl, refl, u0.2)))

get_response_followed : (bytes : List ℕ) → get_response_at bytes ≡ Err Trailing → Followed (λ (w : List ℕ). SpellsResponse (0xC4 ∷ w)) bytes
unfolding get_response_at
get_response_followed bytes e =
    elim (choice_failed ((1, get_answer_at) ∷ (2, get_block_answer_at) ∷ []) bytes e) [
      | inl h ↦ behind_one 1 (λ (w : List ℕ). SpellsResponse (0xC4 ∷ w)) bytes h.0 h.1 (get_answer_followed h.0 h.2)
      | inr g ↦ elim g [
        | inl h ↦ behind_one 2 (λ (w : List ℕ). SpellsResponse (0xC4 ∷ w)) bytes h.0 h.1 (get_block_answer_followed h.0 h.2)
        | inr h ↦ absurd h
      ]
    ]

set_response_followed : (bytes : List ℕ) → set_response_at bytes ≡ Err Trailing → Followed (λ (w : List ℕ). SpellsResponse (0xC5 ∷ w)) bytes
unfolding set_response_at
set_response_followed bytes e =
    elim (choice_failed ((1, set_result_at) ∷ (2, set_block_taken_at) ∷ (3, set_last_at) ∷ []) bytes e) [
      | inl h ↦ behind_one 1 (λ (w : List ℕ). SpellsResponse (0xC5 ∷ w)) bytes h.0 h.1 (set_result_followed h.0 h.2)
      | inr g ↦ elim g [
        | inl h ↦ behind_one 2 (λ (w : List ℕ). SpellsResponse (0xC5 ∷ w)) bytes h.0 h.1 (set_block_taken_followed h.0 h.2)
        | inr g ↦ elim g [
          | inl h ↦ behind_one 3 (λ (w : List ℕ). SpellsResponse (0xC5 ∷ w)) bytes h.0 h.1 (set_last_followed h.0 h.2)
          | inr h ↦ absurd h
        ]
      ]
    ]

action_response_followed : (bytes : List ℕ) → action_response_at bytes ≡ Err Trailing → Followed (λ (w : List ℕ). SpellsResponse (0xC7 ∷ w)) bytes
unfolding action_response_at
action_response_followed bytes e =
    elim (choice_failed ((1, action_result_at) ∷ (4, action_block_taken_at) ∷ []) bytes e) [
      | inl h ↦ behind_one 1 (λ (w : List ℕ). SpellsResponse (0xC7 ∷ w)) bytes h.0 h.1 (action_result_followed h.0 h.2)
      | inr g ↦ elim g [
        | inl h ↦ behind_one 4 (λ (w : List ℕ). SpellsResponse (0xC7 ∷ w)) bytes h.0 h.1 (action_block_taken_followed h.0 h.2)
        | inr h ↦ absurd h
      ]
    ]

pub response_followed : (bytes : List ℕ) → response_at bytes ≡ Err Trailing → Followed SpellsResponse bytes
unfolding response_at
response_followed bytes e =
    elim (choice_failed ((0xC4, get_response_at) ∷ (0xC5, set_response_at) ∷ (0xC7, action_response_at) ∷ (0xD8, exception_at) ∷ []) bytes e) [
      | inl h ↦ behind_one 0xC4 SpellsResponse bytes h.0 h.1 (get_response_followed h.0 h.2)
      | inr g ↦ elim g [
        | inl h ↦ behind_one 0xC5 SpellsResponse bytes h.0 h.1 (set_response_followed h.0 h.2)
        | inr g ↦ elim g [
          | inl h ↦ behind_one 0xC7 SpellsResponse bytes h.0 h.1 (action_response_followed h.0 h.2)
          | inr g ↦ elim g [
            | inl h ↦ behind_one 0xD8 SpellsResponse bytes h.0 h.1 (exception_followed h.0 h.2)
            | inr h ↦ absurd h
          ]
        ]
      ]
    ]
