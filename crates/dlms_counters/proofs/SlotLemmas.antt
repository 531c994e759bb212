-- A slot is read as it was written.
use Rattle.std.proofs.Common.{◌≡◌, ◌<◌, ◌≤◌, ◌+◌, ◌*◌, ◌^◌, ◌++◌, ℕ, suc, List, [], ◌∷◌, length, take, drop, Some, true, refl, sym, ap, ◌∙◌, arith, append_assoc, leb}
use Rattle.std.proofs.lemmas.Bool.{le-leb}
use Rattle.std.proofs.lemmas.Grind.{common_steps}
use Rattle.byteorder.specs.Numbers.{big_number-reads_back}
use Rattle.byteorder.specs.Endian.{big_bytes, big_number}
use Rattle.dlms_counters.specs.declared.counters.Peer.{Peer}
use Rattle.dlms_counters.specs.Slot.{CounterState, peer_at, peers_in, counters_in, head_of}

-- past a front of n bytes
past : (n : ℕ) (front rest : List ℕ) → length front ≡ n → drop n (front ++ rest) ≡ rest
past n front rest e = grind (arith, common_steps)

-- the front itself
front_of : (n : ℕ) (front rest : List ℕ) → length front ≡ n → take n (front ++ rest) ≡ front
front_of n front rest e = grind (arith, common_steps)

-- a peer is read as it was written
peer_read : (p : Peer) (rest : List ℕ) → length p.title ≡ 8 → p.counter < 2 ^ 32
    → peer_at ((p.title ++ big_bytes 4 p.counter) ++ rest) ≡ p
peer_read p rest eight fits =
    let flat = append_assoc p.title (big_bytes 4 p.counter) rest in
    let number : big_number 4 (big_bytes 4 p.counter ++ rest) ≡ p.counter = big_number-reads_back 4 p.counter rest fits in
    rw (flat, front_of 8 p.title (big_bytes 4 p.counter ++ rest) eight, past 8 p.title (big_bytes 4 p.counter ++ rest) eight, number) refl

pub one_more_peer : (n : ℕ) (bytes rest : List ℕ) (ps : List Peer) (p : Peer) → length bytes ≡ 12 * n
    → length p.title ≡ 8 → p.counter < 2 ^ 32
    → ((rest : List ℕ) → peers_in n (bytes ++ rest) ≡ ps)
    → peers_in (n + 1) ((bytes ++ (p.title ++ big_bytes 4 p.counter)) ++ rest) ≡ ps ++ p ∷ []
one_more_peer n bytes rest ps p long eight fits front =
    let e : n + 1 ≡ suc n = omega arith in
    let entry = p.title ++ big_bytes 4 p.counter in
    rw (e, append_assoc bytes entry rest, front (entry ++ rest), past (12 * n) bytes (entry ++ rest) long, peer_read p rest eight fits) refl

module _ (O K R E Z : List ℕ) (o : length O ≡ 8) (k : length K ≡ 16) where
  flat : ((O ++ (K ++ R)) ++ E) ++ Z ≡ O ++ (K ++ (R ++ (E ++ Z)))
  flat = rw (append_assoc (O ++ (K ++ R)) E Z, append_assoc O (K ++ R) (E ++ Z), append_assoc K R (E ++ Z)) refl

  own : take 8 (((O ++ (K ++ R)) ++ E) ++ Z) ≡ O
  own = ap (take 8) flat ∙ front_of 8 O _ o

  after_own : drop 8 (((O ++ (K ++ R)) ++ E) ++ Z) ≡ K ++ (R ++ (E ++ Z))
  after_own = ap (drop 8) flat ∙ past 8 O _ o

  fingerprint : take 16 (drop 8 (((O ++ (K ++ R)) ++ E) ++ Z)) ≡ K
  fingerprint = ap (take 16) after_own ∙ front_of 16 K _ k

  after_key : drop 24 (((O ++ (K ++ R)) ++ E) ++ Z) ≡ R ++ (E ++ Z)
  after_key = ap (drop 24) flat ∙ ap (λ (l : List ℕ). drop 24 l) (sym (append_assoc O K (R ++ (E ++ Z)))) ∙ past 24 (O ++ K) (R ++ (E ++ Z)) (grind (arith, common_steps))

-- what follows the head
after_head : (O K E Z : List ℕ) (n : ℕ) → length O ≡ 8 → length K ≡ 16
    → drop 28 (((O ++ (K ++ big_bytes 4 n)) ++ E) ++ Z) ≡ E ++ Z
after_head O K E Z n o k =
    ap (λ (l : List ℕ). drop 28 l) (append_assoc (O ++ (K ++ big_bytes 4 n)) E Z)
    ∙ past 28 (O ++ (K ++ big_bytes 4 n)) (E ++ Z) (grind (arith, common_steps))

pub slot_read : (c : CounterState) (entries zeros : List ℕ) → length c.own ≡ 8 → length c.fingerprint ≡ 16
    → c.sequence < 2 ^ 64 → c.reserved < 2 ^ 32 → length c.peers ≤ 39
    → ((rest : List ℕ) → peers_in (length c.peers) (entries ++ rest) ≡ c.peers)
    → counters_in ((head_of c ++ entries) ++ zeros) ≡ Some c
slot_read c entries zeros eight sixteen sequence reserved few peers =
    let count = length c.peers in
    let tail = ((c.own ++ (c.fingerprint ++ big_bytes 4 c.reserved)) ++ entries) ++ zeros in
    let counted : big_number 2 (big_bytes 2 count ++ (big_bytes 8 c.sequence ++ tail)) ≡ count =
    big_number-reads_back 2 count (big_bytes 8 c.sequence ++ tail) (omega arith) in
    let sequenced : big_number 8 (big_bytes 8 c.sequence ++ tail) ≡ c.sequence = big_number-reads_back 8 c.sequence tail sequence in
    let within : leb count 39 ≡ true = le-leb count 39 few in
    let end : big_number 4 (drop 24 tail) ≡ c.reserved =
    ap (big_number 4) (after_key c.own c.fingerprint (big_bytes 4 c.reserved) entries zeros eight sixteen)
    ∙ big_number-reads_back 4 c.reserved (entries ++ zeros) reserved in
    let listed : peers_in count (drop 28 tail) ≡ c.peers =
    ap (peers_in count) (after_head c.own c.fingerprint entries zeros c.reserved eight sixteen) ∙ peers zeros in
    rw (
      counted,
      within,
      sequenced,
      own c.own c.fingerprint (big_bytes 4 c.reserved) entries zeros eight sixteen,
      fingerprint c.own c.fingerprint (big_bytes 4 c.reserved) entries zeros eight sixteen,
      end,
      listed,
    ) refl
