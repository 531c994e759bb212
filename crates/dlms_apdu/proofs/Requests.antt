-- Requests: everything that is read has that spelling, and everything spelled so is read.
use Rattle.std.proofs.Common.{◌≡◌, ℕ, List, [], ◌∷◌, ◌++◌, Option, Result, Ok, refl, sym, ap, subst, ◌∙◌, inl, inr}
use Rattle.std.proofs.lemmas.List.{append-nil}
use Rattle.dlms_data.specs.declared.descriptor.Descriptor.{Descriptor}
use Rattle.dlms_data.specs.Value.{Value}
use Rattle.dlms_apdu.specs.Forms.{Selection, BlockForm, RequestForm, get_normal, get_next, set_normal, set_first, set_block, action_normal, action_first, action_block}
use Rattle.dlms_apdu.specs.Reading.{byte_at, number_at, descriptor_at, value_at, selector_at, parameter_at, block_at, ended, get_normal_at, get_next_at, set_normal_at, set_first_at, set_block_at, action_normal_at, action_first_at, action_block_at, get_at, set_at, action_at, request_at}
use Rattle.dlms_apdu.specs.Spelling.{◌▷◌, IsByte, IsNumber, IsDescriptor, IsValue, IsSelector, IsParameter, SpellsRequest}
use Rattle.dlms_apdu.proofs.Takes.{step, goes_on, regrouped, ended_ok, ended_again, alone, headed, choice_found, byte_takes, byte_again, number_takes, number_again, descriptor_takes, descriptor_again, value_takes, value_again}
use Rattle.dlms_apdu.proofs.Options.{IsBlock, selector_takes, selector_again, parameter_takes, parameter_again, block_takes, block_again}

get_normal_found : (bytes : List ℕ) (r : RequestForm) → get_normal_at bytes ≡ Ok r → SpellsRequest (0xC0 ∷ 1 ∷ bytes) r
unfolding get_normal_at
get_normal_found bytes r e =
    let i = step _ _ r e in
    let ti = byte_takes bytes i.value i.is in
    let d = step _ _ r i.further in
    let td = descriptor_takes i.value.1 d.value d.is in
    let s = step _ _ r d.further in
    let ts = selector_takes d.value.1 s.value s.is in
    let z = ended_ok _ r _ s.further in
    subst (λ (y : RequestForm). SpellsRequest (0xC0 ∷ 1 ∷ bytes) y) z.1 (0xC0 ∷ [], 1 ∷ bytes, refl, refl, (1 ∷ [], bytes, refl, refl, (ti.0, i.value.1, ti.1, ti.2, (td.0, d.value.1, td.1, td.2, alone IsSelector d.value.1 s.value ts z.0))))

get_normal_again : (i : ℕ) (d : Descriptor) (s : Option Selection) (bytes rest : List ℕ) → (IsByte i ▷ IsDescriptor d ▷ IsSelector s) bytes → get_normal_at (bytes ++ rest) ≡ ended (get_normal i d s) rest
unfolding get_normal_at
get_normal_again i d s bytes rest h =
    goes_on byte_at _ (bytes ++ rest) h.0 (h.1 ++ rest) i (regrouped bytes h.0 h.1 rest h.2) (byte_again i h.0 (h.1 ++ rest) h.3)
    ∙ goes_on descriptor_at _ (h.1 ++ rest) h.4.0 (h.4.1 ++ rest) d (regrouped h.1 h.4.0 h.4.1 rest h.4.2) (descriptor_again d h.4.0 (h.4.1 ++ rest) h.4.3)
    ∙ goes_on selector_at _ (h.4.1 ++ rest) h.4.1 rest s refl (selector_again s h.4.1 rest h.4.4)

get_next_found : (bytes : List ℕ) (r : RequestForm) → get_next_at bytes ≡ Ok r → SpellsRequest (0xC0 ∷ 2 ∷ bytes) r
unfolding get_next_at
get_next_found bytes r e =
    let i = step _ _ r e in
    let ti = byte_takes bytes i.value i.is in
    let n = step _ _ r i.further in
    let tn = number_takes 4 i.value.1 n.value n.is in
    let z = ended_ok _ r _ n.further in
    subst (λ (y : RequestForm). SpellsRequest (0xC0 ∷ 2 ∷ bytes) y) z.1 (0xC0 ∷ [], 2 ∷ bytes, refl, refl, (2 ∷ [], bytes, refl, refl, (ti.0, i.value.1, ti.1, ti.2, alone (IsNumber 4) i.value.1 n.value tn z.0)))

get_next_again : (i : ℕ) (n : ℕ) (bytes rest : List ℕ) → (IsByte i ▷ IsNumber 4 n) bytes → get_next_at (bytes ++ rest) ≡ ended (get_next i n) rest
unfolding get_next_at
get_next_again i n bytes rest h =
    goes_on byte_at _ (bytes ++ rest) h.0 (h.1 ++ rest) i (regrouped bytes h.0 h.1 rest h.2) (byte_again i h.0 (h.1 ++ rest) h.3)
    ∙ goes_on (number_at 4) _ (h.1 ++ rest) h.1 rest n refl (number_again 4 n h.1 rest h.4)

set_normal_found : (bytes : List ℕ) (r : RequestForm) → set_normal_at bytes ≡ Ok r → SpellsRequest (0xC1 ∷ 1 ∷ bytes) r
unfolding set_normal_at
set_normal_found bytes r e =
    let i = step _ _ r e in
    let ti = byte_takes bytes i.value i.is in
    let d = step _ _ r i.further in
    let td = descriptor_takes i.value.1 d.value d.is in
    let s = step _ _ r d.further in
    let ts = selector_takes d.value.1 s.value s.is in
    let v = step _ _ r s.further in
    let tv = value_takes s.value.1 v.value v.is in
    let z = ended_ok _ r _ v.further in
    subst (λ (y : RequestForm). SpellsRequest (0xC1 ∷ 1 ∷ bytes) y) z.1 (0xC1 ∷ [], 1 ∷ bytes, refl, refl, (1 ∷ [], bytes, refl, refl, (ti.0, i.value.1, ti.1, ti.2, (td.0, d.value.1, td.1, td.2, (ts.0, s.value.1, ts.1, ts.2, alone IsValue s.value.1 v.value tv z.0)))))

set_normal_again : (i : ℕ) (d : Descriptor) (s : Option Selection) (v : Value) (bytes rest : List ℕ) → (IsByte i ▷ IsDescriptor d ▷ IsSelector s ▷ IsValue v) bytes → set_normal_at (bytes ++ rest) ≡ ended (set_normal i d s v) rest
unfolding set_normal_at
set_normal_again i d s v bytes rest h =
    goes_on byte_at _ (bytes ++ rest) h.0 (h.1 ++ rest) i (regrouped bytes h.0 h.1 rest h.2) (byte_again i h.0 (h.1 ++ rest) h.3)
    ∙ goes_on descriptor_at _ (h.1 ++ rest) h.4.0 (h.4.1 ++ rest) d (regrouped h.1 h.4.0 h.4.1 rest h.4.2) (descriptor_again d h.4.0 (h.4.1 ++ rest) h.4.3)
    ∙ goes_on selector_at _ (h.4.1 ++ rest) h.4.4.0 (h.4.4.1 ++ rest) s (regrouped h.4.1 h.4.4.0 h.4.4.1 rest h.4.4.2) (selector_again s h.4.4.0 (h.4.4.1 ++ rest) h.4.4.3)
    ∙ goes_on value_at _ (h.4.4.1 ++ rest) h.4.4.1 rest v refl (value_again v h.4.4.1 rest h.4.4.4)

set_first_found : (bytes : List ℕ) (r : RequestForm) → set_first_at bytes ≡ Ok r → SpellsRequest (0xC1 ∷ 2 ∷ bytes) r
unfolding set_first_at
set_first_found bytes r e =
    let i = step _ _ r e in
    let ti = byte_takes bytes i.value i.is in
    let d = step _ _ r i.further in
    let td = descriptor_takes i.value.1 d.value d.is in
    let s = step _ _ r d.further in
    let ts = selector_takes d.value.1 s.value s.is in
    let b = step _ _ r s.further in
    let tb = block_takes s.value.1 b.value b.is in
    let z = ended_ok _ r _ b.further in
    subst (λ (y : RequestForm). SpellsRequest (0xC1 ∷ 2 ∷ bytes) y) z.1 (0xC1 ∷ [], 2 ∷ bytes, refl, refl, (2 ∷ [], bytes, refl, refl, (ti.0, i.value.1, ti.1, ti.2, (td.0, d.value.1, td.1, td.2, (ts.0, s.value.1, ts.1, ts.2, alone IsBlock s.value.1 b.value tb z.0)))))

set_first_again : (i : ℕ) (d : Descriptor) (s : Option Selection) (b : BlockForm) (bytes rest : List ℕ) → (IsByte i ▷ IsDescriptor d ▷ IsSelector s ▷ IsBlock b) bytes → set_first_at (bytes ++ rest) ≡ ended (set_first i d s b.last b.number b.raw) rest
unfolding set_first_at
set_first_again i d s b bytes rest h =
    goes_on byte_at _ (bytes ++ rest) h.0 (h.1 ++ rest) i (regrouped bytes h.0 h.1 rest h.2) (byte_again i h.0 (h.1 ++ rest) h.3)
    ∙ goes_on descriptor_at _ (h.1 ++ rest) h.4.0 (h.4.1 ++ rest) d (regrouped h.1 h.4.0 h.4.1 rest h.4.2) (descriptor_again d h.4.0 (h.4.1 ++ rest) h.4.3)
    ∙ goes_on selector_at _ (h.4.1 ++ rest) h.4.4.0 (h.4.4.1 ++ rest) s (regrouped h.4.1 h.4.4.0 h.4.4.1 rest h.4.4.2) (selector_again s h.4.4.0 (h.4.4.1 ++ rest) h.4.4.3)
    ∙ goes_on block_at _ (h.4.4.1 ++ rest) h.4.4.1 rest b refl (block_again b h.4.4.1 rest h.4.4.4)

set_block_found : (bytes : List ℕ) (r : RequestForm) → set_block_at bytes ≡ Ok r → SpellsRequest (0xC1 ∷ 3 ∷ bytes) r
unfolding set_block_at
set_block_found bytes r e =
    let i = step _ _ r e in
    let ti = byte_takes bytes i.value i.is in
    let b = step _ _ r i.further in
    let tb = block_takes i.value.1 b.value b.is in
    let z = ended_ok _ r _ b.further in
    subst (λ (y : RequestForm). SpellsRequest (0xC1 ∷ 3 ∷ bytes) y) z.1 (0xC1 ∷ [], 3 ∷ bytes, refl, refl, (3 ∷ [], bytes, refl, refl, (ti.0, i.value.1, ti.1, ti.2, alone IsBlock i.value.1 b.value tb z.0)))

set_block_again : (i : ℕ) (b : BlockForm) (bytes rest : List ℕ) → (IsByte i ▷ IsBlock b) bytes → set_block_at (bytes ++ rest) ≡ ended (set_block i b.last b.number b.raw) rest
unfolding set_block_at
set_block_again i b bytes rest h =
    goes_on byte_at _ (bytes ++ rest) h.0 (h.1 ++ rest) i (regrouped bytes h.0 h.1 rest h.2) (byte_again i h.0 (h.1 ++ rest) h.3)
    ∙ goes_on block_at _ (h.1 ++ rest) h.1 rest b refl (block_again b h.1 rest h.4)

action_normal_found : (bytes : List ℕ) (r : RequestForm) → action_normal_at bytes ≡ Ok r → SpellsRequest (0xC3 ∷ 1 ∷ bytes) r
unfolding action_normal_at
action_normal_found bytes r e =
    let i = step _ _ r e in
    let ti = byte_takes bytes i.value i.is in
    let d = step _ _ r i.further in
    let td = descriptor_takes i.value.1 d.value d.is in
    let p = step _ _ r d.further in
    let tp = parameter_takes d.value.1 p.value p.is in
    let z = ended_ok _ r _ p.further in
    subst (λ (y : RequestForm). SpellsRequest (0xC3 ∷ 1 ∷ bytes) y) z.1 (0xC3 ∷ [], 1 ∷ bytes, refl, refl, (1 ∷ [], bytes, refl, refl, (ti.0, i.value.1, ti.1, ti.2, (td.0, d.value.1, td.1, td.2, alone IsParameter d.value.1 p.value tp z.0))))

action_normal_again : (i : ℕ) (d : Descriptor) (p : Option Value) (bytes rest : List ℕ) → (IsByte i ▷ IsDescriptor d ▷ IsParameter p) bytes → action_normal_at (bytes ++ rest) ≡ ended (action_normal i d p) rest
unfolding action_normal_at
action_normal_again i d p bytes rest h =
    goes_on byte_at _ (bytes ++ rest) h.0 (h.1 ++ rest) i (regrouped bytes h.0 h.1 rest h.2) (byte_again i h.0 (h.1 ++ rest) h.3)
    ∙ goes_on descriptor_at _ (h.1 ++ rest) h.4.0 (h.4.1 ++ rest) d (regrouped h.1 h.4.0 h.4.1 rest h.4.2) (descriptor_again d h.4.0 (h.4.1 ++ rest) h.4.3)
    ∙ goes_on parameter_at _ (h.4.1 ++ rest) h.4.1 rest p refl (parameter_again p h.4.1 rest h.4.4)

action_first_found : (bytes : List ℕ) (r : RequestForm) → action_first_at bytes ≡ Ok r → SpellsRequest (0xC3 ∷ 4 ∷ bytes) r
unfolding action_first_at
action_first_found bytes r e =
    let i = step _ _ r e in
    let ti = byte_takes bytes i.value i.is in
    let d = step _ _ r i.further in
    let td = descriptor_takes i.value.1 d.value d.is in
    let b = step _ _ r d.further in
    let tb = block_takes d.value.1 b.value b.is in
    let z = ended_ok _ r _ b.further in
    subst (λ (y : RequestForm). SpellsRequest (0xC3 ∷ 4 ∷ bytes) y) z.1 (0xC3 ∷ [], 4 ∷ bytes, refl, refl, (4 ∷ [], bytes, refl, refl, (ti.0, i.value.1, ti.1, ti.2, (td.0, d.value.1, td.1, td.2, alone IsBlock d.value.1 b.value tb z.0))))

action_first_again : (i : ℕ) (d : Descriptor) (b : BlockForm) (bytes rest : List ℕ) → (IsByte i ▷ IsDescriptor d ▷ IsBlock b) bytes → action_first_at (bytes ++ rest) ≡ ended (action_first i d b.last b.number b.raw) rest
unfolding action_first_at
action_first_again i d b bytes rest h =
    goes_on byte_at _ (bytes ++ rest) h.0 (h.1 ++ rest) i (regrouped bytes h.0 h.1 rest h.2) (byte_again i h.0 (h.1 ++ rest) h.3)
    ∙ goes_on descriptor_at _ (h.1 ++ rest) h.4.0 (h.4.1 ++ rest) d (regrouped h.1 h.4.0 h.4.1 rest h.4.2) (descriptor_again d h.4.0 (h.4.1 ++ rest) h.4.3)
    ∙ goes_on block_at _ (h.4.1 ++ rest) h.4.1 rest b refl (block_again b h.4.1 rest h.4.4)

action_block_found : (bytes : List ℕ) (r : RequestForm) → action_block_at bytes ≡ Ok r → SpellsRequest (0xC3 ∷ 6 ∷ bytes) r
unfolding action_block_at
action_block_found bytes r e =
    let i = step _ _ r e in
    let ti = byte_takes bytes i.value i.is in
    let b = step _ _ r i.further in
    let tb = block_takes i.value.1 b.value b.is in
    let z = ended_ok _ r _ b.further in
    subst (λ (y : RequestForm). SpellsRequest (0xC3 ∷ 6 ∷ bytes) y) z.1 (0xC3 ∷ [], 6 ∷ bytes, refl, refl, (6 ∷ [], bytes, refl, refl, (ti.0, i.value.1, ti.1, ti.2, alone IsBlock i.value.1 b.value tb z.0)))

action_block_again : (i : ℕ) (b : BlockForm) (bytes rest : List ℕ) → (IsByte i ▷ IsBlock b) bytes → action_block_at (bytes ++ rest) ≡ ended (action_block i b.last b.number b.raw) rest
unfolding action_block_at
action_block_again i b bytes rest h =
    goes_on byte_at _ (bytes ++ rest) h.0 (h.1 ++ rest) i (regrouped bytes h.0 h.1 rest h.2) (byte_again i h.0 (h.1 ++ rest) h.3)
    ∙ goes_on block_at _ (h.1 ++ rest) h.1 rest b refl (block_again b h.1 rest h.4)

get_found : (bytes : List ℕ) (r : RequestForm) → get_at bytes ≡ Ok r → SpellsRequest (0xC0 ∷ bytes) r
unfolding get_at
get_found bytes r e =
    elim (choice_found ((1, get_normal_at) ∷ (2, get_next_at) ∷ []) bytes r e) [
      | inl h ↦ subst (λ (w : List ℕ). SpellsRequest (0xC0 ∷ w) r) (sym h.1) (get_normal_found h.0 r h.2)
      | inr g ↦ elim g [
        | inl h ↦ subst (λ (w : List ℕ). SpellsRequest (0xC0 ∷ w) r) (sym h.1) (get_next_found h.0 r h.2)
        | inr h ↦ absurd h
      ]
    ]

set_found : (bytes : List ℕ) (r : RequestForm) → set_at bytes ≡ Ok r → SpellsRequest (0xC1 ∷ bytes) r
unfolding set_at
set_found bytes r e =
    elim (choice_found ((1, set_normal_at) ∷ (2, set_first_at) ∷ (3, set_block_at) ∷ []) bytes r e) [
      | inl h ↦ subst (λ (w : List ℕ). SpellsRequest (0xC1 ∷ w) r) (sym h.1) (set_normal_found h.0 r h.2)
      | inr g ↦ elim g [
        | inl h ↦ subst (λ (w : List ℕ). SpellsRequest (0xC1 ∷ w) r) (sym h.1) (set_first_found h.0 r h.2)
        | inr g ↦ elim g [
          | inl h ↦ subst (λ (w : List ℕ). SpellsRequest (0xC1 ∷ w) r) (sym h.1) (set_block_found h.0 r h.2)
          | inr h ↦ absurd h
        ]
      ]
    ]

action_found : (bytes : List ℕ) (r : RequestForm) → action_at bytes ≡ Ok r → SpellsRequest (0xC3 ∷ bytes) r
unfolding action_at
action_found bytes r e =
    elim (choice_found ((1, action_normal_at) ∷ (4, action_first_at) ∷ (6, action_block_at) ∷ []) bytes r e) [
      | inl h ↦ subst (λ (w : List ℕ). SpellsRequest (0xC3 ∷ w) r) (sym h.1) (action_normal_found h.0 r h.2)
      | inr g ↦ elim g [
        | inl h ↦ subst (λ (w : List ℕ). SpellsRequest (0xC3 ∷ w) r) (sym h.1) (action_first_found h.0 r h.2)
        | inr g ↦ elim g [
          | inl h ↦ subst (λ (w : List ℕ). SpellsRequest (0xC3 ∷ w) r) (sym h.1) (action_block_found h.0 r h.2)
          | inr h ↦ absurd h
        ]
      ]
    ]

-- what is read is spelled so
pub request_found : (bytes : List ℕ) (r : RequestForm) → request_at bytes ≡ Ok r → SpellsRequest bytes r
unfolding request_at
request_found bytes r e =
    elim (choice_found ((0xC0, get_at) ∷ (0xC1, set_at) ∷ (0xC3, action_at) ∷ []) bytes r e) [
      | inl h ↦ subst (λ (w : List ℕ). SpellsRequest w r) (sym h.1) (get_found h.0 r h.2)
      | inr g ↦ elim g [
        | inl h ↦ subst (λ (w : List ℕ). SpellsRequest w r) (sym h.1) (set_found h.0 r h.2)
        | inr g ↦ elim g [
          | inl h ↦ subst (λ (w : List ℕ). SpellsRequest w r) (sym h.1) (action_found h.0 r h.2)
          | inr h ↦ absurd h
        ]
      ]
    ]

-- a spelling is read, and bytes after it are reported
pub request_again_before : (bytes rest : List ℕ) (r : RequestForm) → SpellsRequest bytes r → request_at (bytes ++ rest) ≡ ended r rest
unfolding request_at get_at set_at action_at
request_again_before bytes rest (get_normal invoke d s) h = ap (λ (w : List ℕ). request_at (w ++ rest)) (headed 0xC0 1 bytes h.0 h.1 h.4.0 h.4.1 h.2 h.3 h.4.2 h.4.3) ∙ get_normal_again invoke d s h.4.1 rest h.4.4
request_again_before bytes rest (get_next invoke n) h = ap (λ (w : List ℕ). request_at (w ++ rest)) (headed 0xC0 2 bytes h.0 h.1 h.4.0 h.4.1 h.2 h.3 h.4.2 h.4.3) ∙ get_next_again invoke n h.4.1 rest h.4.4
request_again_before bytes rest (set_normal invoke d s v) h = ap (λ (w : List ℕ). request_at (w ++ rest)) (headed 0xC1 1 bytes h.0 h.1 h.4.0 h.4.1 h.2 h.3 h.4.2 h.4.3) ∙ set_normal_again invoke d s v h.4.1 rest h.4.4
request_again_before bytes rest (set_first invoke d s last n raw) h = ap (λ (w : List ℕ). request_at (w ++ rest)) (headed 0xC1 2 bytes h.0 h.1 h.4.0 h.4.1 h.2 h.3 h.4.2 h.4.3) ∙ set_first_again invoke d s (record { last = last; number = n; raw = raw }) h.4.1 rest h.4.4
request_again_before bytes rest (set_block invoke last n raw) h = ap (λ (w : List ℕ). request_at (w ++ rest)) (headed 0xC1 3 bytes h.0 h.1 h.4.0 h.4.1 h.2 h.3 h.4.2 h.4.3) ∙ set_block_again invoke (record { last = last; number = n; raw = raw }) h.4.1 rest h.4.4
request_again_before bytes rest (action_normal invoke d p) h = ap (λ (w : List ℕ). request_at (w ++ rest)) (headed 0xC3 1 bytes h.0 h.1 h.4.0 h.4.1 h.2 h.3 h.4.2 h.4.3) ∙ action_normal_again invoke d p h.4.1 rest h.4.4
request_again_before bytes rest (action_first invoke d last n raw) h = ap (λ (w : List ℕ). request_at (w ++ rest)) (headed 0xC3 4 bytes h.0 h.1 h.4.0 h.4.1 h.2 h.3 h.4.2 h.4.3) ∙ action_first_again invoke d (record { last = last; number = n; raw = raw }) h.4.1 rest h.4.4
request_again_before bytes rest (action_block invoke last n raw) h = ap (λ (w : List ℕ). request_at (w ++ rest)) (headed 0xC3 6 bytes h.0 h.1 h.4.0 h.4.1 h.2 h.3 h.4.2 h.4.3) ∙ action_block_again invoke (record { last = last; number = n; raw = raw }) h.4.1 rest h.4.4

pub request_again : (bytes : List ℕ) (r : RequestForm) → SpellsRequest bytes r → request_at bytes ≡ Ok r
request_again bytes r h = ap request_at (sym (append-nil bytes)) ∙ request_again_before bytes [] r h ∙ ended_again r
