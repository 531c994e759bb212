-- How an initiate request is read, and what is read as one.
use Rattle.std.proofs.Common.{◌≡◌, ℕ, ◌+◌, ◌*◌, ◌==◌, ◌&&◌, if◌then◌else◌, Bool, true, false, List, [], ◌∷◌, ◌++◌, Result, Ok, Err, Option, Some, None, refl, sym, ap, subst, ◌∙◌, arith, inl, inr}
use Rattle.std.proofs.lemmas.Bool.Decides.{nat_tests}
use Rattle.dlms_acse.specs.declared.fault.AcseFault.{AcseFault}
use Rattle.dlms_acse.specs.declared.aarq.Initiate.{Initiate}
use Rattle.dlms_acse.specs.declared.conformance.Conformance.{Conformance}
use Rattle.dlms_acse.specs.Reading.{on_some, ok_of, octets_at, key_at, option_at, block_at, proposal_at, request_at, initiate_at, inner_at}
use Rattle.dlms_acse.specs.Spelling.{Counts, IsKey, IsOption, IsHead, IsBlock, SpellsInitiate, IsInitiate}
use Rattle.dlms_acse.proofs.Takes.{Takes, chosen, octets_takes, octets_again}
use Rattle.dlms_acse.proofs.Inside.{some_is, none_is, inner_is, inner_of}

pub bind_some : {A B : Type 0} (o : Option A) (f : A → Option B) (y : B) → on_some o f ≡ Some y → (x : A) × (o ≡ Some x) × (f x ≡ Some y)
bind_some None f y e = absurd (none_is e)
bind_some (Some x) f y e = (x, refl, e)

pub tested : {A : Type 0} (b : Bool) (x : Option A) (y : A) → (if b then x else None) ≡ Some y → (b ≡ true) × (x ≡ Some y)
tested true x y e = (refl, e)
tested false x y e = absurd (none_is e)

pub is_equal : (a b : ℕ) → (a == b) ≡ true → a ≡ b
is_equal a b e = grind (arith, nat_tests)

pub both : (p q : Bool) → (p && q) ≡ true → (p ≡ true) × (q ≡ true)
both true q e = (refl, e)
both false q e = absurd cc

ok_is_some : (r : Result (List ℕ × List ℕ) AcseFault) (x : List ℕ × List ℕ) → ok_of r ≡ Some x → r ≡ Ok x
ok_is_some (Ok y) x e = ap (λ (z : List ℕ × List ℕ). Ok z) (some_is e)
ok_is_some (Err f) x e = absurd (none_is e)

-- ---- options

nothing_in_front : (o : ℕ) (more rest : List ℕ) → (o == 0) ≡ true → more ≡ rest → o ∷ more ≡ 0 ∷ rest
nothing_in_front o more rest t e = ap (λ (k : ℕ). k ∷ more) (is_equal o 0 t) ∙ ap (λ (w : List ℕ). 0 ∷ w) e

option_takes : (bytes rest : List ℕ) → option_at bytes ≡ Some rest → Takes bytes rest IsOption
unfolding option_at
option_takes [] rest e = absurd (none_is e)
option_takes (o ∷ []) rest e =
    let g = tested (o == 0) (Some []) rest e in
    (0 ∷ [], nothing_in_front o [] rest g.0 (some_is g.1), inl refl)
option_takes (o ∷ b ∷ more) rest e =
    elim (chosen (o == 0) (Some (b ∷ more)) (if o == 1 then Some more else None) (Some rest) e) [
      | inl one ↦ (0 ∷ [], nothing_in_front o (b ∷ more) rest one.0 (some_is one.1), inl refl)
      | inr further ↦
          let g = tested (o == 1) (Some more) rest further.1 in
          (1 ∷ b ∷ [], ap (λ (k : ℕ). k ∷ b ∷ more) (is_equal o 1 g.0) ∙ ap (λ (w : List ℕ). 1 ∷ b ∷ w) (some_is g.1), inr (b, refl))
    ]

no_option : (rest : List ℕ) → option_at (0 ∷ rest) ≡ Some rest
unfolding option_at
no_option [] = refl
no_option (b ∷ rest) = refl

an_option : (b : ℕ) (rest : List ℕ) → option_at (1 ∷ b ∷ rest) ≡ Some rest
unfolding option_at
an_option b rest = refl

option_again : (text rest : List ℕ) → IsOption text → option_at (text ++ rest) ≡ Some rest
option_again text rest (inl e) = ap (λ (w : List ℕ). option_at (w ++ rest)) e ∙ no_option rest
option_again text rest (inr h) = ap (λ (w : List ℕ). option_at (w ++ rest)) h.1 ∙ an_option h.0 rest

-- ---- the key

key_takes : (bytes rest : List ℕ) → key_at bytes ≡ Some rest → Takes bytes rest IsKey
unfolding key_at
key_takes [] rest e = absurd (none_is e)
key_takes (o ∷ more) rest e =
    elim (chosen (o == 0) (Some more) (if o == 1 then on_some (ok_of (octets_at 4 more)) (λ x. Some x.1) else None) (Some rest) e) [
      | inl one ↦ (0 ∷ [], nothing_in_front o more rest one.0 (some_is one.1), inl refl)
      | inr further ↦
          let g = tested (o == 1) (on_some (ok_of (octets_at 4 more)) (λ x. Some x.1)) rest further.1 in
          let x = bind_some (ok_of (octets_at 4 more)) (λ x. Some x.1) rest g.1 in
          let took = octets_takes 4 more x.0 (ok_is_some (octets_at 4 more) x.0 x.1) in
          let text : o ∷ more ≡ 1 ∷ (took.0 ++ rest) =
          ap (λ (k : ℕ). k ∷ more) (is_equal o 1 g.0) ∙ ap (λ (w : List ℕ). 1 ∷ w) took.1 ∙ ap (λ (w : List ℕ). 1 ∷ (took.0 ++ w)) (some_is x.2) in
          (1 ∷ took.0, text, inr (took.0, x.0.0, refl, took.2))
    ]

no_key : (rest : List ℕ) → key_at (0 ∷ rest) ≡ Some rest
unfolding key_at
no_key rest = refl

a_key : (counted key rest : List ℕ) → Counts 4 counted key → key_at (1 ∷ (counted ++ rest)) ≡ Some rest
unfolding key_at
a_key counted key rest h = rw (octets_again 4 counted key rest h) refl

key_again : (text rest : List ℕ) → IsKey text → key_at (text ++ rest) ≡ Some rest
key_again text rest (inl e) = ap (λ (w : List ℕ). key_at (w ++ rest)) e ∙ no_key rest
key_again text rest (inr h) = ap (λ (w : List ℕ). key_at (w ++ rest)) h.2 ∙ a_key h.0 h.1 rest h.3

-- ---- conformance and size

block_takes : (v : ℕ) (bytes : List ℕ) (i : Initiate) → block_at v bytes ≡ Some i → (v ≡ i.version) × IsBlock bytes i
unfolding block_at
block_takes v [] i e = absurd (none_is e)
block_takes v (h ∷ []) i e = absurd (none_is e)
block_takes v (h ∷ m ∷ []) i e = absurd (none_is e)
block_takes v (h ∷ m ∷ l ∷ []) i e = absurd (none_is e)
block_takes v (h ∷ m ∷ l ∷ s ∷ []) i e = absurd (none_is e)
block_takes v (h ∷ m ∷ l ∷ s ∷ t ∷ []) i e =
    subst (λ (j : Initiate). (v ≡ j.version) × IsBlock (h ∷ m ∷ l ∷ s ∷ t ∷ []) j) (some_is e) (refl, (h, m, l, s, t, refl, refl, refl))
block_takes v (h ∷ m ∷ l ∷ s ∷ t ∷ u ∷ more) i e = absurd (none_is e)

abbrev initiate_of : (v : ℕ) → Conformance → ℕ → Initiate
initiate_of v c s = record { version = v; conformance = c; size = s }

same_initiate : (i : Initiate) (c : Conformance) (s : ℕ) → i.conformance ≡ c → i.size ≡ s → initiate_of i.version c s ≡ i
same_initiate i c s a b = ap (λ (d : Conformance). initiate_of i.version d s) (sym a) ∙ ap (λ (n : ℕ). initiate_of i.version i.conformance n) (sym b)

block_of : (v h m l s t : ℕ) → block_at v (h ∷ m ∷ l ∷ s ∷ t ∷ []) ≡ Some (initiate_of v (record { 0 = 65536 * h + 256 * m + l }) (256 * s + t))
unfolding block_at
block_of v h m l s t = refl

block_again : (text : List ℕ) (i : Initiate) → IsBlock text i → block_at i.version text ≡ Some i
block_again text i (h, m, l, s, t, e, conformance, size) =
    ap (block_at i.version) e ∙ block_of i.version h m l s t ∙ ap (λ (j : Initiate). Some j) (same_initiate i _ _ conformance size)

-- ---- the version, a head, conformance and size

abbrev Proposes : List ℕ → Initiate → Type 0
Proposes bytes i = (head block : List ℕ) × (bytes ≡ i.version ∷ (head ++ block)) × IsHead head × IsBlock block i

long_head : (v a b c d : ℕ) (rest : List ℕ) (i : Initiate) → ((a == 0x5F) && (b == 0x1F) && (c == 0x04) && (d == 0x00)) ≡ true → block_at v rest ≡ Some i → Proposes (v ∷ a ∷ b ∷ c ∷ d ∷ rest) i
long_head v a b c d rest i t e =
    let block = block_takes v rest i e in
    let all = both _ _ t in
    let first = both _ _ all.0 in
    let front = both _ _ first.0 in
    let text : v ∷ a ∷ b ∷ c ∷ d ∷ rest ≡ i.version ∷ 0x5F ∷ 0x1F ∷ 0x04 ∷ 0x00 ∷ rest =
    rw (is_equal a 0x5F front.0, is_equal b 0x1F front.1, is_equal c 0x04 first.1, is_equal d 0x00 all.1, block.0) refl in
    (0x5F ∷ 0x1F ∷ 0x04 ∷ 0x00 ∷ [], rest, text, inl refl, block.1)

short_head : (v a b c : ℕ) (rest : List ℕ) (i : Initiate) → ((a == 0x5F) && (b == 0x04) && (c == 0x00)) ≡ true → block_at v rest ≡ Some i → Proposes (v ∷ a ∷ b ∷ c ∷ rest) i
short_head v a b c rest i t e =
    let block = block_takes v rest i e in
    let all = both _ _ t in
    let front = both _ _ all.0 in
    let text : v ∷ a ∷ b ∷ c ∷ rest ≡ i.version ∷ 0x5F ∷ 0x04 ∷ 0x00 ∷ rest =
    rw (is_equal a 0x5F front.0, is_equal b 0x04 front.1, is_equal c 0x00 all.1, block.0) refl in
    (0x5F ∷ 0x04 ∷ 0x00 ∷ [], rest, text, inr refl, block.1)

proposal_takes : (bytes : List ℕ) (i : Initiate) → proposal_at bytes ≡ Some i → Proposes bytes i
unfolding proposal_at
proposal_takes [] i e = absurd (none_is e)
proposal_takes (v ∷ []) i e = absurd (none_is e)
proposal_takes (v ∷ a ∷ []) i e = absurd (none_is e)
proposal_takes (v ∷ a ∷ b ∷ []) i e = absurd (none_is e)
proposal_takes (v ∷ a ∷ b ∷ c ∷ []) i e = absurd (none_is e)
proposal_takes (v ∷ a ∷ b ∷ c ∷ d ∷ rest) i e =
    elim (chosen ((a == 0x5F) && (b == 0x1F) && (c == 0x04) && (d == 0x00)) (block_at v rest) (if (a == 0x5F) && (b == 0x04) && (c == 0x00) then block_at v (d ∷ rest) else None) (Some i) e) [
      | inl long ↦ long_head v a b c d rest i long.0 long.1
      | inr further ↦
          let g = tested ((a == 0x5F) && (b == 0x04) && (c == 0x00)) (block_at v (d ∷ rest)) i further.1 in
          short_head v a b c (d ∷ rest) i g.0 g.1
    ]

behind_long : (v : ℕ) (rest : List ℕ) → proposal_at (v ∷ 0x5F ∷ 0x1F ∷ 0x04 ∷ 0x00 ∷ rest) ≡ block_at v rest
unfolding proposal_at
behind_long v rest = refl

behind_short : (v d : ℕ) (rest : List ℕ) → proposal_at (v ∷ 0x5F ∷ 0x04 ∷ 0x00 ∷ d ∷ rest) ≡ block_at v (d ∷ rest)
unfolding proposal_at
behind_short v d rest = refl

proposal_again : (head block : List ℕ) (i : Initiate) → IsHead head → IsBlock block i → proposal_at (i.version ∷ (head ++ block)) ≡ Some i
proposal_again head block i (inl e) b =
    ap (λ (w : List ℕ). proposal_at (i.version ∷ (w ++ block))) e ∙ behind_long i.version block ∙ block_again block i b
proposal_again head block i (inr e) (h, m, l, s, t, text, conformance, size) =
    ap (λ (w : List ℕ). proposal_at (i.version ∷ (w ++ block))) e
    ∙ ap (λ (w : List ℕ). proposal_at (i.version ∷ 0x5F ∷ 0x04 ∷ 0x00 ∷ w)) text
    ∙ behind_short i.version h (m ∷ l ∷ s ∷ t ∷ [])
    ∙ block_again (h ∷ m ∷ l ∷ s ∷ t ∷ []) i (h, m, l, s, t, refl, conformance, size)

-- ---- the whole

request_found : (bytes : List ℕ) (i : Initiate) → request_at bytes ≡ Some i → SpellsInitiate bytes i
unfolding request_at
request_found [] i e = absurd (none_is e)
request_found (t ∷ rest) i e =
    let g = tested (t == 1) (on_some (on_some (on_some (key_at rest) option_at) option_at) proposal_at) i e in
    let quality = bind_some (on_some (on_some (key_at rest) option_at) option_at) proposal_at i g.1 in
    let response = bind_some (on_some (key_at rest) option_at) option_at quality.0 quality.1 in
    let key = bind_some (key_at rest) option_at response.0 response.1 in
    let k = key_takes rest key.0 key.1 in
    let r = option_takes key.0 response.0 key.2 in
    let q = option_takes response.0 quality.0 response.2 in
    let p = proposal_takes quality.0 i quality.2 in
    let text : t ∷ rest ≡ 0x01 ∷ (k.0 ++ (r.0 ++ (q.0 ++ (i.version ∷ (p.0 ++ p.1))))) =
    ap (λ (n : ℕ). n ∷ rest) (is_equal t 1 g.0) ∙ ap (λ (w : List ℕ). 0x01 ∷ w) k.1
    ∙ ap (λ (w : List ℕ). 0x01 ∷ (k.0 ++ w)) r.1
    ∙ ap (λ (w : List ℕ). 0x01 ∷ (k.0 ++ (r.0 ++ w))) q.1
    ∙ ap (λ (w : List ℕ). 0x01 ∷ (k.0 ++ (r.0 ++ (q.0 ++ w)))) p.2 in
    (k.0, r.0, q.0, p.0, p.1, text, k.2, r.2, q.2, p.3, p.4)

request_front : (rest : List ℕ) → request_at (0x01 ∷ rest) ≡ on_some (on_some (on_some (key_at rest) option_at) option_at) proposal_at
unfolding request_at
request_front rest = refl

request_only : (bytes : List ℕ) (i : Initiate) → SpellsInitiate bytes i → request_at bytes ≡ Some i
request_only bytes i (key, response, quality, head, block, text, k, r, q, h, b) =
    let third : List ℕ = i.version ∷ (head ++ block) in
    let second : List ℕ = quality ++ third in
    let first : List ℕ = response ++ second in
    let steps : on_some (on_some (on_some (key_at (key ++ first)) option_at) option_at) proposal_at ≡ Some i =
    rw (key_again key first k, option_again response second r, option_again quality third q) (proposal_again head block i h b) in
    ap request_at text ∙ request_front (key ++ first) ∙ steps

initiate_found : (value : List ℕ) (i : Initiate) → initiate_at value ≡ Some i → IsInitiate value i
unfolding initiate_at
initiate_found value i e =
    let content = bind_some (inner_at 4 value) request_at i e in
    let at = inner_is 4 value content.0 content.1 in
    (at.0, content.0, at.1, at.2, request_found content.0 i content.2)

initiate_only : (value : List ℕ) (i : Initiate) → IsInitiate value i → initiate_at value ≡ Some i
unfolding initiate_at
initiate_only value i (text, content, e, counts, spells) =
    let at : inner_at 4 value ≡ Some content = ap (inner_at 4) e ∙ inner_of 4 text content counts in
    rw at (request_only content i spells)

pub initiate_read : (value : List ℕ) (i : Initiate) → ((initiate_at value ≡ Some i) → IsInitiate value i) × (IsInitiate value i → (initiate_at value ≡ Some i))
initiate_read value i = (initiate_found value i, initiate_only value i)
