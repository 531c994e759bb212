-- APDUs: everything that is read has that spelling, and everything spelled so is read.
use Rattle.std.proofs.Common.{◌≡◌, ℕ, zero, suc, ◌≤◌, ◌==◌, if◌then◌else◌, Bool, true, false, List, [], ◌∷◌, ◌++◌, length, Result, Ok, Err, Option, Some, refl, sym, ap, subst, ◌∙◌, arith, IfOk, IsOkAnd}
use Rattle.std.proofs.lemmas.Bool.Decides.{nat_tests}
use Rattle.std.proofs.lemmas.List.{append-nil}
use Rattle.dlms_acse.specs.declared.fault.AcseFault.{AcseFault}
use Rattle.dlms_acse.specs.declared.fault.AcseFault.TheVariants.{Repeated, Length, Tag}
use Rattle.dlms_acse.specs.declared.outcome.Verdict.{Verdict}
use Rattle.dlms_acse.specs.declared.aarq.Aarq.{Aarq}
use Rattle.dlms_acse.specs.Verdict.{Request, request_of}
use Rattle.dlms_acse.specs.Reading.{◌>>=◌, Tells, octets_at, contains, checked_at, find_at, ended, body_at, request_from, verdict_from, aarq_at, aare_at}
use Rattle.dlms_acse.specs.Spelling.{Field, SpellFields, AreNew, IsApdu, value_of, IsAarq, IsAare}
use Rattle.dlms_acse.proofs.Takes.{bind_ok, ok_is, guard_ok, done, octets_takes, octets_again, octets_within}
use Rattle.dlms_acse.proofs.Walk.{checked-next, checked-done, find-done}
use Rattle.dlms_acse.proofs.Relations.{says_request, only_request, says_verdict, only_verdict}

-- ---- the fields

abbrev AreSpelled : List ℕ → List ℕ → Type 0
AreSpelled tags bytes = (fs : List Field) × SpellFields bytes fs × AreNew tags fs

pub checked_spelled : (n : ℕ) (tags bytes : List ℕ) → length bytes ≤ n → checked_at n tags bytes ≡ Ok tt → AreSpelled tags bytes
checked_spelled n tags [] l e = ([], refl, tt)
checked_spelled zero tags (t ∷ rest) l e = absurd (omega arith)
checked_spelled (suc n) tags (t ∷ rest) l e =
    let g = guard_ok (contains t tags) Repeated (octets_at 2 rest >>= λ x. checked_at n (t ∷ tags) x.1) tt e in
    let x = bind_ok (octets_at 2 rest) (λ x. checked_at n (t ∷ tags) x.1) tt g.1 in
    let took = octets_takes 2 rest x.0 x.1 in
    let within = octets_within 2 rest x.0 x.1 in
    let more = checked_spelled n (t ∷ tags) x.0.1 (omega (arith, within)) x.2 in
    let f : Field = record { tag = t; value = x.0.0 } in
    (f ∷ more.0, (took.0, x.0.1, ap (λ (w : List ℕ). t ∷ w) took.1, took.2, more.1), (g.0, more.2))

pub spelled_checked : (n : ℕ) (tags : List ℕ) (fs : List Field) (bytes : List ℕ) → length bytes ≤ n → SpellFields bytes fs → AreNew tags fs → checked_at n tags bytes ≡ Ok tt
spelled_checked n tags [] bytes l s new = ap (checked_at n tags) s ∙ checked-done n tags
spelled_checked n tags (f ∷ fs) bytes l s new =
    let room : suc (length (s.0 ++ s.1)) ≤ n = omega (arith, ap length s.2, l) in
    let next = checked-next n f.tag tags (s.0 ++ s.1) (f.value, s.1) room new.0 (octets_again 2 s.0 f.value s.1 s.3) in
    ap (checked_at n tags) s.2 ∙ next.2 ∙ spelled_checked next.0 (f.tag ∷ tags) fs s.1 next.1 s.4 new.1

find-first : (n tag t : ℕ) (rest : List ℕ) (x : List ℕ × List ℕ) → suc (length rest) ≤ n → octets_at 2 rest ≡ Ok x →
    (m : ℕ) × (length x.1 ≤ m) × (find_at n tag (t ∷ rest) ≡ (if t == tag then Some x.0 else find_at m tag x.1))
find-first zero tag t rest x l e = absurd (omega arith)
find-first (suc n) tag t rest x l e =
    let within = octets_within 2 rest x e in
    (n, omega arith, rw e refl)

spelled_found : (n tag : ℕ) (fs : List Field) (bytes : List ℕ) → length bytes ≤ n → SpellFields bytes fs → find_at n tag bytes ≡ value_of tag fs
spelled_found n tag [] bytes l s = ap (find_at n tag) s ∙ find-done n tag
spelled_found n tag (f ∷ fs) bytes l s =
    let room : suc (length (s.0 ++ s.1)) ≤ n = omega (arith, ap length s.2, l) in
    let next = find-first n tag f.tag (s.0 ++ s.1) (f.value, s.1) room (octets_again 2 s.0 f.value s.1 s.3) in
    ap (find_at n tag) s.2 ∙ next.2 ∙ ap (λ (o : Option (List ℕ)). if f.tag == tag then Some f.value else o) (spelled_found next.0 tag fs s.1 next.1 s.4)

-- ---- the whole

ended_is : (value rest body : List ℕ) → ended (value, rest) ≡ Ok body → (rest ≡ []) × (value ≡ body)
ended_is value [] body e = (refl, ok_is value body e)
ended_is value (b ∷ rest) body e = by_test (length (b ∷ rest) == 0) refl e
  where
    by_test : (c : Bool) → (length (b ∷ rest) == 0) ≡ c → (if c then done value else Err Length) ≡ Ok body → (b ∷ rest ≡ []) × (value ≡ body)
    by_test true h e = absurd (grind (arith, nat_tests))
    by_test false h e = absurd cc

abbrev IsBody : ℕ → List ℕ → List ℕ → Type 0
IsBody tag bytes body = (fs : List Field) × IsApdu tag bytes fs × SpellFields body fs

body_of_rest : (tag t : ℕ) (rest body : List ℕ) → t ≡ tag → (octets_at 2 rest >>= λ x. checked_at (length x.0) [] x.0 >>= λ u. ended x) ≡ Ok body → IsBody tag (t ∷ rest) body
body_of_rest tag t rest body same e =
    let x = bind_ok (octets_at 2 rest) (λ x. checked_at (length x.0) [] x.0 >>= λ u. ended x) body e in
    let u = bind_ok (checked_at (length x.0.0) [] x.0.0) (λ u. ended x.0) body x.2 in
    let end = ended_is x.0.0 x.0.1 body u.2 in
    let took = octets_takes 2 rest x.0 x.1 in
    let fields = checked_spelled (length x.0.0) [] x.0.0 (omega arith) u.1 in
    let text : rest ≡ took.0 = took.1 ∙ ap (λ (w : List ℕ). took.0 ++ w) end.0 ∙ append-nil took.0 in
    let front : t ∷ rest ≡ tag ∷ took.0 = ap (λ (w : List ℕ). t ∷ w) text ∙ ap (λ (k : ℕ). k ∷ took.0) same in
    (fields.0, (took.0, x.0.0, front, took.2, fields.1, fields.2), subst (λ (w : List ℕ). SpellFields w fields.0) end.1 fields.1)

body_found : (tag : ℕ) (bytes body : List ℕ) → body_at tag bytes ≡ Ok body → IsBody tag bytes body
unfolding body_at
body_found tag [] body e = absurd cc
body_found tag (t ∷ rest) body e = by_test (t == tag) refl e
  where
    by_test : (b : Bool) → (t == tag) ≡ b → (if b then (octets_at 2 rest >>= λ x. checked_at (length x.0) [] x.0 >>= λ u. ended x) else Err Tag) ≡ Ok body → IsBody tag (t ∷ rest) body
    by_test true h e = body_of_rest tag t rest body (grind (arith, nat_tests)) e
    by_test false h e = absurd cc

body_spelled : (tag : ℕ) (bytes : List ℕ) (fs : List Field) → IsApdu tag bytes fs → (body : List ℕ) × (body_at tag bytes ≡ Ok body) × SpellFields body fs
unfolding body_at
body_spelled tag bytes fs h =
    let here : (tag == tag) ≡ true = grind (arith, nat_tests) in
    let octets : octets_at 2 h.0 ≡ Ok (h.1, []) = ap (octets_at 2) (sym (append-nil h.0)) ∙ octets_again 2 h.0 h.1 [] h.3 in
    let checked : checked_at (length h.1) [] h.1 ≡ Ok tt = spelled_checked (length h.1) [] fs h.1 (omega arith) h.4 h.5 in
    let read : body_at tag (tag ∷ h.0) ≡ Ok h.1 = rw (here, octets, checked) refl in
    (h.1, ap (body_at tag) h.2 ∙ read, h.4)

-- ---- the two APDUs

same_request : (f g : ℕ → Option (List ℕ)) → ((tag : ℕ) → f tag ≡ g tag) → request_from f ≡ request_from g
same_request f g e = rw (e 0xA1, e 0x8B, e 0xAC, e 0xBE) refl

same_verdict : (f g : ℕ → Option (List ℕ)) → ((tag : ℕ) → f tag ≡ g tag) → verdict_from f ≡ verdict_from g
same_verdict f g e = rw (e 0xA2, e 0xA3, e 0xBE) refl

values : (body : List ℕ) (fs : List Field) → SpellFields body fs → (tag : ℕ) → find_at (length body) tag body ≡ value_of tag fs
values body fs s tag = spelled_found (length body) tag fs body (omega arith) s

pub aarq_found : (bytes : List ℕ) (r : Request) → aarq_at bytes ≡ Ok r → IsAarq bytes r
aarq_found bytes r e =
    let b = bind_ok (body_at 0x60 bytes) (λ body. Ok (request_from (λ tag. find_at (length body) tag body))) r e in
    let f = body_found 0x60 bytes b.0 b.1 in
    let said : request_from (λ tag. find_at (length b.0) tag b.0) ≡ r = ok_is _ _ b.2 in
    (f.0, f.1, says_request (λ tag. value_of tag f.0) r (sym (same_request _ _ (values b.0 f.0 f.2)) ∙ said))

pub aarq_only : (bytes : List ℕ) (r : Request) → IsAarq bytes r → aarq_at bytes ≡ Ok r
aarq_only bytes r h =
    let b = body_spelled 0x60 bytes h.0 h.1 in
    let said : request_from (λ tag. find_at (length b.0) tag b.0) ≡ r = same_request _ _ (values b.0 h.0 b.2) ∙ only_request (λ tag. value_of tag h.0) r h.2 in
    rw b.1 (ap done said)

pub aare_found : (bytes : List ℕ) (v : Verdict) → aare_at bytes ≡ Ok v → IsAare bytes v
aare_found bytes v e =
    let b = bind_ok (body_at 0x61 bytes) (λ body. verdict_from (λ tag. find_at (length body) tag body)) v e in
    let f = body_found 0x61 bytes b.0 b.1 in
    (f.0, f.1, says_verdict (λ tag. value_of tag f.0) v (sym (same_verdict _ _ (values b.0 f.0 f.2)) ∙ b.2))

pub aare_only : (bytes : List ℕ) (v : Verdict) → IsAare bytes v → aare_at bytes ≡ Ok v
aare_only bytes v h =
    let b = body_spelled 0x61 bytes h.0 h.1 in
    rw b.1 (same_verdict _ _ (values b.0 h.0 b.2) ∙ only_verdict (λ tag. value_of tag h.0) v h.2)

-- ---- as the functions answer

pub aarq_told : (bytes : List ℕ) (r : Result Aarq AcseFault) → Tells (λ a. request_of a) r (aarq_at bytes) → IfOk r (λ a. IsAarq bytes (request_of a))
aarq_told bytes (Ok a) h = aarq_found bytes (request_of a) h
aarq_told bytes (Err f) h = tt

pub aarq_told_only : (bytes : List ℕ) (r : Result Aarq AcseFault) → Tells (λ a. request_of a) r (aarq_at bytes) → (q : Request) → IsAarq bytes q → IsOkAnd r (λ a. request_of a ≡ q)
aarq_told_only bytes (Ok a) h q s = ok_is (request_of a) q (sym h ∙ aarq_only bytes q s)
aarq_told_only bytes (Err f) h q s = let e = aarq_only bytes q s in absurd cc

pub aare_told : (bytes : List ℕ) (r : Result Verdict AcseFault) → r ≡ aare_at bytes → IfOk r (λ v. IsAare bytes v)
aare_told bytes (Ok v) h = aare_found bytes v (sym h)
aare_told bytes (Err f) h = tt

-- ---- the laws

pub requests_read : (bytes : List ℕ) (r : Request) → ((aarq_at bytes ≡ Ok r) → IsAarq bytes r) × (IsAarq bytes r → (aarq_at bytes ≡ Ok r))
requests_read bytes r = (aarq_found bytes r, aarq_only bytes r)

pub responses_read : (bytes : List ℕ) (v : Verdict) → ((aare_at bytes ≡ Ok v) → IsAare bytes v) × (IsAare bytes v → (aare_at bytes ≡ Ok v))
responses_read bytes v = (aare_found bytes v, aare_only bytes v)
