-- One more round key, and one more round.
use Rattle.std.proofs.Common.{◌≡◌, ℕ, suc, ◌+◌, ◌-◌, ◌<◌, ◌≤◌, List, [], length, map, get_or, set, sym, ap, ◌∙◌, inl, inr, arith, add-one}
use Rattle.std.proofs.lemmas.List.{map-set, get_or-set_same, get_or-set_other, get_or-map, length-map}
use Rattle.std.proofs.lemmas.Bool.{cases_eq}
use Rattle.dlms_cipher.specs.declared.columns.Columns.{Columns}
use Rattle.dlms_cipher.specs.Columns.{octets_of}
use Rattle.dlms_cipher.specs.Aes.{next_key, round_key, rcon, round, state_after, xor_octets, last_round, aes}

pub key_more : (key : List ℕ) (keys : List Columns) (new d : Columns) (i constant : ℕ) → length keys ≡ 11 → i < 10
    → ((k : ℕ) → k ≤ i → get_or (map octets_of keys) k [] ≡ round_key key k)
    → constant ≡ rcon i → octets_of new ≡ next_key (octets_of (get_or keys i d)) constant
    → (k : ℕ) → k ≤ i + 1 → get_or (map octets_of (set keys (i + 1) new)) k [] ≡ round_key key k
unfolding round_key
key_more key keys new d i constant all below made con is k within =
    let apart : get_or (map octets_of (set keys (i + 1) new)) k [] ≡ get_or (set (map octets_of keys) (i + 1) (octets_of new)) k [] =
    ap (λ (l : List (List ℕ)). get_or l k []) (map-set octets_of keys (i + 1) new) in
    let wide : length (map octets_of keys) ≡ 11 = length-map keys octets_of ∙ all in
    elim (cases_eq k (i + 1)) [
      | inl e ↦
          apart
          ∙ ap (λ (n : ℕ). get_or (set (map octets_of keys) (i + 1) (octets_of new)) n []) e
          ∙ get_or-set_same (map octets_of keys) (i + 1) (octets_of new) [] (omega arith)
          ∙ is
          ∙ ap (λ (l : List ℕ). next_key l constant) (sym (get_or-map octets_of keys i d [] (omega arith)) ∙ made i (omega arith))
          ∙ ap (λ (n : ℕ). next_key (round_key key i) n) con
          ∙ ap (round_key key) (sym (add-one i) ∙ sym e)
      | inr ne ↦
          apart ∙ get_or-set_other (map octets_of keys) (i + 1) k (octets_of new) [] ne ∙ made k (omega arith)
    ]

pub round_more : (key block state : List ℕ) (keys : List Columns) (d : Columns) (i : ℕ) → length keys ≡ 11 → 1 ≤ i → i < 10
    → ((k : ℕ) → k < 11 → get_or (map octets_of keys) k [] ≡ round_key key k)
    → state ≡ state_after key block (i - 1) → round state (octets_of (get_or keys i d)) ≡ state_after key block (i + 1 - 1)
unfolding state_after
round_more key block state keys d i all above below expanded is =
    let e : i ≡ suc (i - 1) = omega arith in
    let e' : i + 1 - 1 ≡ suc (i - 1) = omega arith in
    ap (λ (l : List ℕ). round l (octets_of (get_or keys i d))) is
    ∙ ap (λ (l : List ℕ). round (state_after key block (i - 1)) l) (sym (get_or-map octets_of keys i d [] (omega arith)) ∙ expanded i (omega arith) ∙ ap (round_key key) e)
    ∙ ap (state_after key block) (sym e')

pub key_none : (key : List ℕ) (keys : List Columns) → get_or (map octets_of keys) 0 [] ≡ key → (k : ℕ) → k ≤ 0 → get_or (map octets_of keys) k [] ≡ round_key key k
unfolding round_key
key_none key keys is k none =
    let e : k ≡ 0 = omega arith in
    ap (λ (n : ℕ). get_or (map octets_of keys) n []) e ∙ is ∙ ap (round_key key) (sym e)

pub first_sum : (key block : List ℕ) (keys : List Columns) (d : Columns) → length keys ≡ 11
    → ((k : ℕ) → k < 11 → get_or (map octets_of keys) k [] ≡ round_key key k)
    → xor_octets block (octets_of (get_or keys 0 d)) ≡ state_after key block 0
unfolding state_after round_key
first_sum key block keys d all expanded =
    ap (λ (l : List ℕ). xor_octets block l) (sym (get_or-map octets_of keys 0 d [] (omega arith)) ∙ expanded 0 (omega arith))

pub last_sum : (key block state : List ℕ) (keys : List Columns) (d : Columns) (i : ℕ) → length keys ≡ 11 → i ≡ 10
    → ((k : ℕ) → k < 11 → get_or (map octets_of keys) k [] ≡ round_key key k)
    → state ≡ state_after key block (i - 1) → last_round state (octets_of (get_or keys 10 d)) ≡ aes key block
unfolding aes
last_sum key block state keys d i all ten expanded is =
    let e : i - 1 ≡ 9 = omega arith in
    ap (λ (l : List ℕ). last_round l (octets_of (get_or keys 10 d))) (is ∙ ap (state_after key block) e)
    ∙ ap (λ (l : List ℕ). last_round (state_after key block 9) l) (sym (get_or-map octets_of keys 10 d [] (omega arith)) ∙ expanded 10 (omega arith))
