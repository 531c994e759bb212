-- Responses: everything that is read has that spelling, and everything spelled so is read.
use Rattle.std.proofs.Common.{◌≡◌, ℕ, Bool, true, false, cond, if◌then◌else◌, List, [], ◌∷◌, ◌++◌, Result, Ok, refl, sym, ap, subst, ◌∙◌, inl, inr}
use Rattle.std.proofs.lemmas.List.{append-nil}
use Rattle.dlms_data.specs.Value.{Value}
use Rattle.dlms_apdu.specs.declared.fault.Refusal.{Refusal}
use Rattle.dlms_apdu.specs.Forms.{ResponseForm, get_data, get_result, get_block, get_block_result, set_result, set_block_taken, set_last, action_result, action_block_taken, exception}
use Rattle.dlms_apdu.specs.Reading.{byte_at, number_at, flag_at, value_at, raw_at, ended, choice_at, get_data_at, get_result_at, get_answer_at, get_raw_at, get_block_result_at, get_block_answer_at, set_result_at, set_block_taken_at, set_last_at, action_result_at, action_block_taken_at, exception_at, get_response_at, set_response_at, action_response_at, response_at}
use Rattle.dlms_apdu.specs.Spelling.{◌▷◌, IsByte, IsNumber, IsFlag, IsValue, IsRaw, SpellsResponse}
use Rattle.dlms_apdu.proofs.Takes.{step, goes_on, regrouped, ended_ok, ended_again, alone, headed, behind_head, Chose, choice_found, byte_takes, byte_again, number_takes, number_again, flag_takes, flag_again, value_takes, value_again, raw_takes, raw_again}

-- ---- behind what has chosen the form

get_data_found : (i : ℕ) (bytes : List ℕ) (r : ResponseForm) → get_data_at i bytes ≡ Ok r → (v : Value) × (get_data i v ≡ r) × IsValue v bytes
unfolding get_data_at
get_data_found i bytes r e =
    let v = step _ _ r e in
    let tv = value_takes bytes v.value v.is in
    let z = ended_ok _ r _ v.further in
    (v.value.0, z.1, alone IsValue bytes v.value tv z.0)

get_result_found : (i : ℕ) (bytes : List ℕ) (r : ResponseForm) → get_result_at i bytes ≡ Ok r → (q : ℕ) × (get_result i q ≡ r) × IsByte q bytes
unfolding get_result_at
get_result_found i bytes r e =
    let q = step _ _ r e in
    let tq = byte_takes bytes q.value q.is in
    let z = ended_ok _ r _ q.further in
    (q.value.0, z.1, alone IsByte bytes q.value tq z.0)

get_raw_found : (i : ℕ) (last : Bool) (n : ℕ) (bytes : List ℕ) (r : ResponseForm) → get_raw_at i last n bytes ≡ Ok r → (raw : List ℕ) × (get_block i last n raw ≡ r) × IsRaw raw bytes
unfolding get_raw_at
get_raw_found i last n bytes r e =
    let b = step _ _ r e in
    let tb = raw_takes bytes b.value b.is in
    let z = ended_ok _ r _ b.further in
    (b.value.0, z.1, alone IsRaw bytes b.value tb z.0)

get_block_result_found : (i n : ℕ) (bytes : List ℕ) (r : ResponseForm) → get_block_result_at i n bytes ≡ Ok r → (q : ℕ) × (get_block_result i n q ≡ r) × IsByte q bytes
unfolding get_block_result_at
get_block_result_found i n bytes r e =
    let q = step _ _ r e in
    let tq = byte_takes bytes q.value q.is in
    let z = ended_ok _ r _ q.further in
    (q.value.0, z.1, alone IsByte bytes q.value tq z.0)

-- a choice that exists only if a test is true
chose_if : {Y : Type 0} (b : Bool) (row : ℕ × (List ℕ → Result Y Refusal)) (bytes : List ℕ) (y : Y) → Chose (cond b (row ∷ []) []) bytes y
    → (b ≡ true) × ((rest : List ℕ) × (bytes ≡ row.0 ∷ rest) × (row.1 rest ≡ Ok y))
chose_if true row bytes y h = elim h [ inl g ↦ (refl, g) | inr g ↦ absurd g ]
chose_if false row bytes y h = absurd h

-- ---- GET

get_answer_found : (bytes : List ℕ) (r : ResponseForm) → get_answer_at bytes ≡ Ok r → SpellsResponse (0xC4 ∷ 1 ∷ bytes) r
unfolding get_answer_at
get_answer_found bytes r e =
    let i = step _ _ r e in
    let ti = byte_takes bytes i.value i.is in
    elim (choice_found ((0, get_data_at i.value.0) ∷ (1, get_result_at i.value.0) ∷ []) i.value.1 r i.further) [
      | inl h ↦
          let k = get_data_found i.value.0 h.0 r h.2 in
          subst (λ (y : ResponseForm). SpellsResponse (0xC4 ∷ 1 ∷ bytes) y) k.1
          (0xC4 ∷ [], 1 ∷ bytes, refl, refl, (1 ∷ [], bytes, refl, refl, (ti.0, i.value.1, ti.1, ti.2, (0 ∷ [], h.0, h.1, refl, k.2))))
      | inr g ↦ elim g [
        | inl h ↦
            let k = get_result_found i.value.0 h.0 r h.2 in
            subst (λ (y : ResponseForm). SpellsResponse (0xC4 ∷ 1 ∷ bytes) y) k.1
            (0xC4 ∷ [], 1 ∷ bytes, refl, refl, (1 ∷ [], bytes, refl, refl, (ti.0, i.value.1, ti.1, ti.2, (1 ∷ [], h.0, h.1, refl, k.2))))
        | inr h ↦ absurd h
      ]
    ]

get_data_again : (i : ℕ) (v : Value) (bytes rest : List ℕ) → (IsByte i ▷ IsByte 0 ▷ IsValue v) bytes → get_answer_at (bytes ++ rest) ≡ ended (get_data i v) rest
unfolding get_answer_at get_data_at
get_data_again i v bytes rest h =
    goes_on byte_at _ (bytes ++ rest) h.0 (h.1 ++ rest) i (regrouped bytes h.0 h.1 rest h.2) (byte_again i h.0 (h.1 ++ rest) h.3)
    ∙ ap (λ (w : List ℕ). choice_at ((0, get_data_at i) ∷ (1, get_result_at i) ∷ []) (w ++ rest)) (behind_head 0 h.1 h.4.0 h.4.1 h.4.2 h.4.3)
    ∙ goes_on value_at _ (h.4.1 ++ rest) h.4.1 rest v refl (value_again v h.4.1 rest h.4.4)

get_result_again : (i q : ℕ) (bytes rest : List ℕ) → (IsByte i ▷ IsByte 1 ▷ IsByte q) bytes → get_answer_at (bytes ++ rest) ≡ ended (get_result i q) rest
unfolding get_answer_at get_result_at
get_result_again i q bytes rest h =
    goes_on byte_at _ (bytes ++ rest) h.0 (h.1 ++ rest) i (regrouped bytes h.0 h.1 rest h.2) (byte_again i h.0 (h.1 ++ rest) h.3)
    ∙ ap (λ (w : List ℕ). choice_at ((0, get_data_at i) ∷ (1, get_result_at i) ∷ []) (w ++ rest)) (behind_head 1 h.1 h.4.0 h.4.1 h.4.2 h.4.3)
    ∙ goes_on byte_at _ (h.4.1 ++ rest) h.4.1 rest q refl (byte_again q h.4.1 rest h.4.4)

abbrev block_rows : ℕ → Bool → ℕ → List (ℕ × (List ℕ → Result ResponseForm Refusal))
block_rows i last n = (0, get_raw_at i last n) ∷ (if last then (1, get_block_result_at i n) ∷ [] else [])

get_block_answer_found : (bytes : List ℕ) (r : ResponseForm) → get_block_answer_at bytes ≡ Ok r → SpellsResponse (0xC4 ∷ 2 ∷ bytes) r
unfolding get_block_answer_at
get_block_answer_found bytes r e =
    let i = step _ _ r e in
    let ti = byte_takes bytes i.value i.is in
    let f = step _ _ r i.further in
    let tf = flag_takes i.value.1 f.value f.is in
    let n = step _ _ r f.further in
    let tn = number_takes 4 f.value.1 n.value n.is in
    elim (choice_found (block_rows i.value.0 f.value.0 n.value.0) n.value.1 r n.further) [
      | inl h ↦
          let k = get_raw_found i.value.0 f.value.0 n.value.0 h.0 r h.2 in
          subst (λ (y : ResponseForm). SpellsResponse (0xC4 ∷ 2 ∷ bytes) y) k.1
          (0xC4 ∷ [], 2 ∷ bytes, refl, refl, (2 ∷ [], bytes, refl, refl, (ti.0, i.value.1, ti.1, ti.2, (tf.0, f.value.1, tf.1, tf.2, (tn.0, n.value.1, tn.1, tn.2, (0 ∷ [], h.0, h.1, refl, k.2))))))
      | inr g ↦
          let h = chose_if f.value.0 (1, get_block_result_at i.value.0 n.value.0) n.value.1 r g in
          let k = get_block_result_found i.value.0 n.value.0 h.1.0 r h.1.2 in
          let flag : IsFlag true tf.0 = subst (λ (b : Bool). IsFlag b tf.0) h.0 tf.2 in
          subst (λ (y : ResponseForm). SpellsResponse (0xC4 ∷ 2 ∷ bytes) y) k.1
          (0xC4 ∷ [], 2 ∷ bytes, refl, refl, (2 ∷ [], bytes, refl, refl, (ti.0, i.value.1, ti.1, ti.2, (tf.0, f.value.1, tf.1, flag, (tn.0, n.value.1, tn.1, tn.2, (1 ∷ [], h.1.0, h.1.1, refl, k.2))))))
    ]

get_block_again : (i : ℕ) (last : Bool) (n : ℕ) (raw bytes rest : List ℕ) → (IsByte i ▷ IsFlag last ▷ IsNumber 4 n ▷ IsByte 0 ▷ IsRaw raw) bytes
    → get_block_answer_at (bytes ++ rest) ≡ ended (get_block i last n raw) rest
unfolding get_block_answer_at get_raw_at
get_block_again i last n raw bytes rest h =
    goes_on byte_at _ (bytes ++ rest) h.0 (h.1 ++ rest) i (regrouped bytes h.0 h.1 rest h.2) (byte_again i h.0 (h.1 ++ rest) h.3)
    ∙ goes_on flag_at _ (h.1 ++ rest) h.4.0 (h.4.1 ++ rest) last (regrouped h.1 h.4.0 h.4.1 rest h.4.2) (flag_again last h.4.0 (h.4.1 ++ rest) h.4.3)
    ∙ goes_on (number_at 4) _ (h.4.1 ++ rest) h.4.4.0 (h.4.4.1 ++ rest) n (regrouped h.4.1 h.4.4.0 h.4.4.1 rest h.4.4.2) (number_again 4 n h.4.4.0 (h.4.4.1 ++ rest) h.4.4.3)
    ∙ ap (λ (w : List ℕ). choice_at (block_rows i last n) (w ++ rest)) (behind_head 0 h.4.4.1 h.4.4.4.0 h.4.4.4.1 h.4.4.4.2 h.4.4.4.3)
    ∙ goes_on raw_at _ (h.4.4.4.1 ++ rest) h.4.4.4.1 rest raw refl (raw_again raw h.4.4.4.1 rest h.4.4.4.4)

get_block_result_again : (i n q : ℕ) (bytes rest : List ℕ) → (IsByte i ▷ IsFlag true ▷ IsNumber 4 n ▷ IsByte 1 ▷ IsByte q) bytes
    → get_block_answer_at (bytes ++ rest) ≡ ended (get_block_result i n q) rest
unfolding get_block_answer_at get_block_result_at
get_block_result_again i n q bytes rest h =
    goes_on byte_at _ (bytes ++ rest) h.0 (h.1 ++ rest) i (regrouped bytes h.0 h.1 rest h.2) (byte_again i h.0 (h.1 ++ rest) h.3)
    ∙ goes_on flag_at _ (h.1 ++ rest) h.4.0 (h.4.1 ++ rest) true (regrouped h.1 h.4.0 h.4.1 rest h.4.2) (flag_again true h.4.0 (h.4.1 ++ rest) h.4.3)
    ∙ goes_on (number_at 4) _ (h.4.1 ++ rest) h.4.4.0 (h.4.4.1 ++ rest) n (regrouped h.4.1 h.4.4.0 h.4.4.1 rest h.4.4.2) (number_again 4 n h.4.4.0 (h.4.4.1 ++ rest) h.4.4.3)
    ∙ ap (λ (w : List ℕ). choice_at (block_rows i true n) (w ++ rest)) (behind_head 1 h.4.4.1 h.4.4.4.0 h.4.4.4.1 h.4.4.4.2 h.4.4.4.3)
    ∙ goes_on byte_at _ (h.4.4.4.1 ++ rest) h.4.4.4.1 rest q refl (byte_again q h.4.4.4.1 rest h.4.4.4.4)

-- ---- SET and ACTION

set_result_found : (bytes : List ℕ) (r : ResponseForm) → set_result_at bytes ≡ Ok r → SpellsResponse (0xC5 ∷ 1 ∷ bytes) r
unfolding set_result_at
set_result_found bytes r e =
    let i = step _ _ r e in
    let ti = byte_takes bytes i.value i.is in
    let q = step _ _ r i.further in
    let tq = byte_takes i.value.1 q.value q.is in
    let z = ended_ok _ r _ q.further in
    subst (λ (y : ResponseForm). SpellsResponse (0xC5 ∷ 1 ∷ bytes) y) z.1 (0xC5 ∷ [], 1 ∷ bytes, refl, refl, (1 ∷ [], bytes, refl, refl, (ti.0, i.value.1, ti.1, ti.2, alone IsByte i.value.1 q.value tq z.0)))

set_result_again : (i : ℕ) (q : ℕ) (bytes rest : List ℕ) → (IsByte i ▷ IsByte q) bytes → set_result_at (bytes ++ rest) ≡ ended (set_result i q) rest
unfolding set_result_at
set_result_again i q bytes rest h =
    goes_on byte_at _ (bytes ++ rest) h.0 (h.1 ++ rest) i (regrouped bytes h.0 h.1 rest h.2) (byte_again i h.0 (h.1 ++ rest) h.3)
    ∙ goes_on byte_at _ (h.1 ++ rest) h.1 rest q refl (byte_again q h.1 rest h.4)

set_block_taken_found : (bytes : List ℕ) (r : ResponseForm) → set_block_taken_at bytes ≡ Ok r → SpellsResponse (0xC5 ∷ 2 ∷ bytes) r
unfolding set_block_taken_at
set_block_taken_found bytes r e =
    let i = step _ _ r e in
    let ti = byte_takes bytes i.value i.is in
    let n = step _ _ r i.further in
    let tn = number_takes 4 i.value.1 n.value n.is in
    let z = ended_ok _ r _ n.further in
    subst (λ (y : ResponseForm). SpellsResponse (0xC5 ∷ 2 ∷ bytes) y) z.1 (0xC5 ∷ [], 2 ∷ bytes, refl, refl, (2 ∷ [], bytes, refl, refl, (ti.0, i.value.1, ti.1, ti.2, alone (IsNumber 4) i.value.1 n.value tn z.0)))

set_block_taken_again : (i : ℕ) (n : ℕ) (bytes rest : List ℕ) → (IsByte i ▷ IsNumber 4 n) bytes → set_block_taken_at (bytes ++ rest) ≡ ended (set_block_taken i n) rest
unfolding set_block_taken_at
set_block_taken_again i n bytes rest h =
    goes_on byte_at _ (bytes ++ rest) h.0 (h.1 ++ rest) i (regrouped bytes h.0 h.1 rest h.2) (byte_again i h.0 (h.1 ++ rest) h.3)
    ∙ goes_on (number_at 4) _ (h.1 ++ rest) h.1 rest n refl (number_again 4 n h.1 rest h.4)

set_last_found : (bytes : List ℕ) (r : ResponseForm) → set_last_at bytes ≡ Ok r → SpellsResponse (0xC5 ∷ 3 ∷ bytes) r
unfolding set_last_at
set_last_found bytes r e =
    let i = step _ _ r e in
    let ti = byte_takes bytes i.value i.is in
    let q = step _ _ r i.further in
    let tq = byte_takes i.value.1 q.value q.is in
    let n = step _ _ r q.further in
    let tn = number_takes 4 q.value.1 n.value n.is in
    let z = ended_ok _ r _ n.further in
    subst (λ (y : ResponseForm). SpellsResponse (0xC5 ∷ 3 ∷ bytes) y) z.1 (0xC5 ∷ [], 3 ∷ bytes, refl, refl, (3 ∷ [], bytes, refl, refl, (ti.0, i.value.1, ti.1, ti.2, (tq.0, q.value.1, tq.1, tq.2, alone (IsNumber 4) q.value.1 n.value tn z.0))))

set_last_again : (i : ℕ) (q : ℕ) (n : ℕ) (bytes rest : List ℕ) → (IsByte i ▷ IsByte q ▷ IsNumber 4 n) bytes → set_last_at (bytes ++ rest) ≡ ended (set_last i q n) rest
unfolding set_last_at
set_last_again i q n bytes rest h =
    goes_on byte_at _ (bytes ++ rest) h.0 (h.1 ++ rest) i (regrouped bytes h.0 h.1 rest h.2) (byte_again i h.0 (h.1 ++ rest) h.3)
    ∙ goes_on byte_at _ (h.1 ++ rest) h.4.0 (h.4.1 ++ rest) q (regrouped h.1 h.4.0 h.4.1 rest h.4.2) (byte_again q h.4.0 (h.4.1 ++ rest) h.4.3)
    ∙ goes_on (number_at 4) _ (h.4.1 ++ rest) h.4.1 rest n refl (number_again 4 n h.4.1 rest h.4.4)

action_block_taken_found : (bytes : List ℕ) (r : ResponseForm) → action_block_taken_at bytes ≡ Ok r → SpellsResponse (0xC7 ∷ 4 ∷ bytes) r
unfolding action_block_taken_at
action_block_taken_found bytes r e =
    let i = step _ _ r e in
    let ti = byte_takes bytes i.value i.is in
    let n = step _ _ r i.further in
    let tn = number_takes 4 i.value.1 n.value n.is in
    let z = ended_ok _ r _ n.further in
    subst (λ (y : ResponseForm). SpellsResponse (0xC7 ∷ 4 ∷ bytes) y) z.1 (0xC7 ∷ [], 4 ∷ bytes, refl, refl, (4 ∷ [], bytes, refl, refl, (ti.0, i.value.1, ti.1, ti.2, alone (IsNumber 4) i.value.1 n.value tn z.0)))

action_block_taken_again : (i : ℕ) (n : ℕ) (bytes rest : List ℕ) → (IsByte i ▷ IsNumber 4 n) bytes → action_block_taken_at (bytes ++ rest) ≡ ended (action_block_taken i n) rest
unfolding action_block_taken_at
action_block_taken_again i n bytes rest h =
    goes_on byte_at _ (bytes ++ rest) h.0 (h.1 ++ rest) i (regrouped bytes h.0 h.1 rest h.2) (byte_again i h.0 (h.1 ++ rest) h.3)
    ∙ goes_on (number_at 4) _ (h.1 ++ rest) h.1 rest n refl (number_again 4 n h.1 rest h.4)

action_result_found : (bytes : List ℕ) (r : ResponseForm) → action_result_at bytes ≡ Ok r → SpellsResponse (0xC7 ∷ 1 ∷ bytes) r
unfolding action_result_at
action_result_found bytes r e =
    let i = step _ _ r e in
    let ti = byte_takes bytes i.value i.is in
    let q = step _ _ r i.further in
    let tq = byte_takes i.value.1 q.value q.is in
    elim (choice_found ((0, ended (action_result i.value.0 q.value.0)) ∷ []) q.value.1 r q.further) [
      | inl h ↦
          let z = ended_ok (action_result i.value.0 q.value.0) r h.0 h.2 in
          let nothing : q.value.1 ≡ 0 ∷ [] = h.1 ∙ ap (λ (w : List ℕ). 0 ∷ w) z.0 in
          subst (λ (y : ResponseForm). SpellsResponse (0xC7 ∷ 1 ∷ bytes) y) z.1
          (0xC7 ∷ [], 1 ∷ bytes, refl, refl, (1 ∷ [], bytes, refl, refl, (ti.0, i.value.1, ti.1, ti.2, (tq.0, q.value.1, tq.1, tq.2, nothing))))
      | inr h ↦ absurd h
    ]

action_result_again : (i q : ℕ) (bytes rest : List ℕ) → (IsByte i ▷ IsByte q ▷ IsByte 0) bytes → action_result_at (bytes ++ rest) ≡ ended (action_result i q) rest
unfolding action_result_at
action_result_again i q bytes rest h =
    goes_on byte_at _ (bytes ++ rest) h.0 (h.1 ++ rest) i (regrouped bytes h.0 h.1 rest h.2) (byte_again i h.0 (h.1 ++ rest) h.3)
    ∙ goes_on byte_at _ (h.1 ++ rest) h.4.0 (h.4.1 ++ rest) q (regrouped h.1 h.4.0 h.4.1 rest h.4.2) (byte_again q h.4.0 (h.4.1 ++ rest) h.4.3)
    ∙ ap (λ (w : List ℕ). choice_at ((0, ended (action_result i q)) ∷ []) (w ++ rest)) h.4.4

exception_found : (bytes : List ℕ) (r : ResponseForm) → exception_at bytes ≡ Ok r → SpellsResponse (0xD8 ∷ bytes) r
unfolding exception_at
exception_found bytes r e =
    let i = step _ _ r e in
    let ti = byte_takes bytes i.value i.is in
    let q = step _ _ r i.further in
    let tq = byte_takes i.value.1 q.value q.is in
    let z = ended_ok _ r _ q.further in
    subst (λ (y : ResponseForm). SpellsResponse (0xD8 ∷ bytes) y) z.1 (0xD8 ∷ [], bytes, refl, refl, (ti.0, i.value.1, ti.1, ti.2, alone IsByte i.value.1 q.value tq z.0))

exception_again : (i q : ℕ) (bytes rest : List ℕ) → (IsByte i ▷ IsByte q) bytes → exception_at (bytes ++ rest) ≡ ended (exception i q) rest
unfolding exception_at
exception_again i q bytes rest h =
    goes_on byte_at _ (bytes ++ rest) h.0 (h.1 ++ rest) i (regrouped bytes h.0 h.1 rest h.2) (byte_again i h.0 (h.1 ++ rest) h.3)
    ∙ goes_on byte_at _ (h.1 ++ rest) h.1 rest q refl (byte_again q h.1 rest h.4)

-- ---- all of them

get_response_found : (bytes : List ℕ) (r : ResponseForm) → get_response_at bytes ≡ Ok r → SpellsResponse (0xC4 ∷ bytes) r
unfolding get_response_at
get_response_found bytes r e =
    elim (choice_found ((1, get_answer_at) ∷ (2, get_block_answer_at) ∷ []) bytes r e) [
      | inl h ↦ subst (λ (w : List ℕ). SpellsResponse (0xC4 ∷ w) r) (sym h.1) (get_answer_found h.0 r h.2)
      | inr g ↦ elim g [
        | inl h ↦ subst (λ (w : List ℕ). SpellsResponse (0xC4 ∷ w) r) (sym h.1) (get_block_answer_found h.0 r h.2)
        | inr h ↦ absurd h
      ]
    ]

set_response_found : (bytes : List ℕ) (r : ResponseForm) → set_response_at bytes ≡ Ok r → SpellsResponse (0xC5 ∷ bytes) r
unfolding set_response_at
set_response_found bytes r e =
    elim (choice_found ((1, set_result_at) ∷ (2, set_block_taken_at) ∷ (3, set_last_at) ∷ []) bytes r e) [
      | inl h ↦ subst (λ (w : List ℕ). SpellsResponse (0xC5 ∷ w) r) (sym h.1) (set_result_found h.0 r h.2)
      | inr g ↦ elim g [
        | inl h ↦ subst (λ (w : List ℕ). SpellsResponse (0xC5 ∷ w) r) (sym h.1) (set_block_taken_found h.0 r h.2)
        | inr g ↦ elim g [
          | inl h ↦ subst (λ (w : List ℕ). SpellsResponse (0xC5 ∷ w) r) (sym h.1) (set_last_found h.0 r h.2)
          | inr h ↦ absurd h
        ]
      ]
    ]

action_response_found : (bytes : List ℕ) (r : ResponseForm) → action_response_at bytes ≡ Ok r → SpellsResponse (0xC7 ∷ bytes) r
unfolding action_response_at
action_response_found bytes r e =
    elim (choice_found ((1, action_result_at) ∷ (4, action_block_taken_at) ∷ []) bytes r e) [
      | inl h ↦ subst (λ (w : List ℕ). SpellsResponse (0xC7 ∷ w) r) (sym h.1) (action_result_found h.0 r h.2)
      | inr g ↦ elim g [
        | inl h ↦ subst (λ (w : List ℕ). SpellsResponse (0xC7 ∷ w) r) (sym h.1) (action_block_taken_found h.0 r h.2)
        | inr h ↦ absurd h
      ]
    ]

-- what is read is spelled so
pub response_found : (bytes : List ℕ) (r : ResponseForm) → response_at bytes ≡ Ok r → SpellsResponse bytes r
unfolding response_at
response_found bytes r e =
    elim (choice_found ((0xC4, get_response_at) ∷ (0xC5, set_response_at) ∷ (0xC7, action_response_at) ∷ (0xD8, exception_at) ∷ []) bytes r e) [
      | inl h ↦ subst (λ (w : List ℕ). SpellsResponse w r) (sym h.1) (get_response_found h.0 r h.2)
      | inr g ↦ elim g [
        | inl h ↦ subst (λ (w : List ℕ). SpellsResponse w r) (sym h.1) (set_response_found h.0 r h.2)
        | inr g ↦ elim g [
          | inl h ↦ subst (λ (w : List ℕ). SpellsResponse w r) (sym h.1) (action_response_found h.0 r h.2)
          | inr g ↦ elim g [
            | inl h ↦ subst (λ (w : List ℕ). SpellsResponse w r) (sym h.1) (exception_found h.0 r h.2)
            | inr h ↦ absurd h
          ]
        ]
      ]
    ]

-- a spelling is read, and bytes after it are reported
pub response_again_before : (bytes rest : List ℕ) (r : ResponseForm) → SpellsResponse bytes r → response_at (bytes ++ rest) ≡ ended r rest
unfolding response_at get_response_at set_response_at action_response_at
response_again_before bytes rest (get_data invoke v) h = ap (λ (w : List ℕ). response_at (w ++ rest)) (headed 0xC4 1 bytes h.0 h.1 h.4.0 h.4.1 h.2 h.3 h.4.2 h.4.3) ∙ get_data_again invoke v h.4.1 rest h.4.4
response_again_before bytes rest (get_result invoke q) h = ap (λ (w : List ℕ). response_at (w ++ rest)) (headed 0xC4 1 bytes h.0 h.1 h.4.0 h.4.1 h.2 h.3 h.4.2 h.4.3) ∙ get_result_again invoke q h.4.1 rest h.4.4
response_again_before bytes rest (get_block invoke last n raw) h = ap (λ (w : List ℕ). response_at (w ++ rest)) (headed 0xC4 2 bytes h.0 h.1 h.4.0 h.4.1 h.2 h.3 h.4.2 h.4.3) ∙ get_block_again invoke last n raw h.4.1 rest h.4.4
response_again_before bytes rest (get_block_result invoke n q) h = ap (λ (w : List ℕ). response_at (w ++ rest)) (headed 0xC4 2 bytes h.0 h.1 h.4.0 h.4.1 h.2 h.3 h.4.2 h.4.3) ∙ get_block_result_again invoke n q h.4.1 rest h.4.4
response_again_before bytes rest (set_result invoke q) h = ap (λ (w : List ℕ). response_at (w ++ rest)) (headed 0xC5 1 bytes h.0 h.1 h.4.0 h.4.1 h.2 h.3 h.4.2 h.4.3) ∙ set_result_again invoke q h.4.1 rest h.4.4
response_again_before bytes rest (set_block_taken invoke n) h = ap (λ (w : List ℕ). response_at (w ++ rest)) (headed 0xC5 2 bytes h.0 h.1 h.4.0 h.4.1 h.2 h.3 h.4.2 h.4.3) ∙ set_block_taken_again invoke n h.4.1 rest h.4.4
response_again_before bytes rest (set_last invoke q n) h = ap (λ (w : List ℕ). response_at (w ++ rest)) (headed 0xC5 3 bytes h.0 h.1 h.4.0 h.4.1 h.2 h.3 h.4.2 h.4.3) ∙ set_last_again invoke q n h.4.1 rest h.4.4
response_again_before bytes rest (action_result invoke q) h = ap (λ (w : List ℕ). response_at (w ++ rest)) (headed 0xC7 1 bytes h.0 h.1 h.4.0 h.4.1 h.2 h.3 h.4.2 h.4.3) ∙ action_result_again invoke q h.4.1 rest h.4.4
response_again_before bytes rest (action_block_taken invoke n) h = ap (λ (w : List ℕ). response_at (w ++ rest)) (headed 0xC7 4 bytes h.0 h.1 h.4.0 h.4.1 h.2 h.3 h.4.2 h.4.3) ∙ action_block_taken_again invoke n h.4.1 rest h.4.4
response_again_before bytes rest (exception state service) h = ap (λ (w : List ℕ). response_at (w ++ rest)) (behind_head 0xD8 bytes h.0 h.1 h.2 h.3) ∙ exception_again state service h.1 rest h.4

pub response_again : (bytes : List ℕ) (r : ResponseForm) → SpellsResponse bytes r → response_at bytes ≡ Ok r
response_again bytes r h = ap response_at (sym (append-nil bytes)) ∙ response_again_before bytes [] r h ∙ ended_again r
