-- The content of the fields, as a relation and as it is read.
use Rattle.std.proofs.Common.{◌≡◌, ◌≢◌, ℕ, ◌+◌, ◌*◌, ◌==◌, ◌&&◌, if◌then◌else◌, Bool, true, false, List, [], ◌∷◌, Ok, Option, Some, None, refl, sym, ap, subst, ◌∙◌, arith}
use Rattle.std.specs.Str.{bytes_eq}
use Rattle.std.proofs.lemmas.Bool.Decides.{nat_tests}
use Rattle.std.proofs.lemmas.Slice.Eq.{bytes_eq-Decides}
use Rattle.dlms_acse.specs.declared.aarq.Mechanism.{Mechanism}
use Rattle.dlms_acse.specs.declared.aarq.Mechanism.TheVariants.{Absent, Lowest, Low, Other}
use Rattle.dlms_acse.specs.declared.conformance.Conformance.{Conformance}
use Rattle.dlms_acse.specs.declared.outcome.Verdict.{Verdict}
use Rattle.dlms_acse.specs.declared.outcome.Verdict.TheVariants.{Accepted, Refused}
use Rattle.dlms_acse.specs.Verdict.{Request}
use Rattle.dlms_acse.specs.Writing.{logical_names, mechanism_name}
use Rattle.dlms_acse.specs.Reading.{◌>>=◌, on_some, or_short, inner_at, is_context, mechanism_of, secret_at, initiate_at, result_at, diagnostic_at, response_at, error_at, request_from, answer_from, verdict_from}
use Rattle.dlms_acse.specs.Spelling.{IsSecret, IsInitiate, IsContext, IsMechanism, Holds, SaysRequest, IsResult, IsDiagnostic, SpellsAnswer, IsAnswer, IsError, IsThere, Judges, SaysVerdict}
use Rattle.dlms_acse.proofs.Takes.{bind_ok, ok_is}
use Rattle.dlms_acse.proofs.Inside.{some_is, none_is, inner_is, inner_of, secret_read}
use Rattle.dlms_acse.proofs.Initiates.{bind_some, tested, is_equal, both, initiate_read}

same_bytes : (a b : List ℕ) → a ≡ b → bytes_eq a b ≡ true
same_bytes a b e = (bytes_eq-Decides a b).1 e

are_same : (a b : List ℕ) → bytes_eq a b ≡ true → a ≡ b
are_same a b e = (bytes_eq-Decides a b).0 e

are_others : (a b : List ℕ) → bytes_eq a b ≡ false → a ≢ b
are_others a b t e = let s = same_bytes a b e in absurd cc

other_bytes : (a b : List ℕ) → a ≢ b → bytes_eq a b ≡ false
other_bytes a b ne = by_test (bytes_eq a b) refl
  where
    by_test : (t : Bool) → bytes_eq a b ≡ t → bytes_eq a b ≡ false
    by_test true h = absurd (ne (are_same a b h))
    by_test false h = h

-- ---- the context and the mechanism

says_context : (name : Option (List ℕ)) → IsContext name (is_context name)
says_context None = refl
says_context (Some name) = by_test (bytes_eq name logical_names) refl
  where
    by_test : (t : Bool) → bytes_eq name logical_names ≡ t → IsContext (Some name) t
    by_test true h = are_same name logical_names h
    by_test false h = are_others name logical_names h

only_context : (name : Option (List ℕ)) (context : Bool) → IsContext name context → is_context name ≡ context
only_context None context h = sym h
only_context (Some name) true h = same_bytes name logical_names h
only_context (Some name) false h = other_bytes name logical_names h

says_mechanism : (name : Option (List ℕ)) → IsMechanism name (mechanism_of name)
says_mechanism None = refl
says_mechanism (Some name) = by_lowest (bytes_eq name (mechanism_name 0)) refl
  where
    by_low : (t : Bool) → bytes_eq name (mechanism_name 0) ≡ false → bytes_eq name (mechanism_name 1) ≡ t → IsMechanism (Some name) (if t then Low else Other)
    by_low true n h = are_same name (mechanism_name 1) h
    by_low false n h = (are_others name (mechanism_name 0) n, are_others name (mechanism_name 1) h)

    by_lowest : (t : Bool) → bytes_eq name (mechanism_name 0) ≡ t → IsMechanism (Some name) (if t then Lowest else if bytes_eq name (mechanism_name 1) then Low else Other)
    by_lowest true h = are_same name (mechanism_name 0) h
    by_lowest false h = by_low (bytes_eq name (mechanism_name 1)) h refl

only_mechanism : (name : Option (List ℕ)) (mechanism : Mechanism) → IsMechanism name mechanism → mechanism_of name ≡ mechanism
only_mechanism None mechanism h = sym h
only_mechanism (Some name) Absent h = absurd h
only_mechanism (Some name) Lowest h = rw (same_bytes name (mechanism_name 0) h) refl
only_mechanism (Some name) Low h =
    let first : bytes_eq name (mechanism_name 0) ≡ false = ap (λ (w : List ℕ). bytes_eq w (mechanism_name 0)) h in
    rw (first, same_bytes name (mechanism_name 1) h) refl
only_mechanism (Some name) Other h = rw (other_bytes name (mechanism_name 0) h.0, other_bytes name (mechanism_name 1) h.1) refl

-- ---- what stands in a field

abbrev Reads : {X : Type 0} → (List ℕ → Option X) → (List ℕ → X → Type 0) → Type 0
Reads {X} read spells = (value : List ℕ) (x : X) → ((read value ≡ Some x) → spells value x) × (spells value x → (read value ≡ Some x))

says_held : {X : Type 0} (read : List ℕ → Option X) (spells : List ℕ → X → Type 0) → Reads read spells → (field : Option (List ℕ)) → Holds spells field (on_some field read)
says_held read spells reads None = refl
says_held {X} read spells reads (Some value) = by_read (read value) refl
  where
    by_read : (r : Option X) → read value ≡ r → Holds spells (Some value) r
    by_read None h = λ x s. none_is (sym h ∙ (reads value x).1 s)
    by_read (Some x) h = (reads value x).0 h

only_held : {X : Type 0} (read : List ℕ → Option X) (spells : List ℕ → X → Type 0) → Reads read spells → (field : Option (List ℕ)) (held : Option X) → Holds spells field held → on_some field read ≡ held
only_held read spells reads None held h = sym h
only_held {X} read spells reads (Some value) None h = by_read (read value) refl
  where
    by_read : (r : Option X) → read value ≡ r → read value ≡ None
    by_read None e = e
    by_read (Some x) e = absurd (h x ((reads value x).0 e))
only_held read spells reads (Some value) (Some x) h = (reads value x).1 h

-- ---- the request

pub says_request : (value : ℕ → Option (List ℕ)) (r : Request) → request_from value ≡ r → SaysRequest value r
says_request value r e = subst (λ (q : Request). SaysRequest value q) e (record {
  context = says_context (value 0xA1);
  mechanism = says_mechanism (value 0x8B);
  secret = says_held secret_at IsSecret secret_read (value 0xAC);
  initiate = says_held initiate_at IsInitiate initiate_read (value 0xBE);
})

pub only_request : (value : ℕ → Option (List ℕ)) (r : Request) → SaysRequest value r → request_from value ≡ r
only_request value r h =
    let context = only_context (value 0xA1) r.context h.context in
    let mechanism = only_mechanism (value 0x8B) r.mechanism h.mechanism in
    let secret = only_held secret_at IsSecret secret_read (value 0xAC) r.secret h.secret in
    let initiate = only_held initiate_at IsInitiate initiate_read (value 0xBE) r.initiate h.initiate in
    rw (context, mechanism, secret, initiate) refl

-- ---- the response

result_is : (value : List ℕ) (r : ℕ) → result_at value ≡ Some r → IsResult value r
result_is [] r e = absurd (none_is e)
result_is (a ∷ []) r e = absurd (none_is e)
result_is (a ∷ b ∷ []) r e = absurd (none_is e)
result_is (a ∷ b ∷ n ∷ []) r e =
    let g = tested ((a == 0x02) && (b == 0x01)) (Some n) r e in
    let t = both _ _ g.0 in
    rw (is_equal a 0x02 t.0, is_equal b 0x01 t.1, some_is g.1) refl
result_is (a ∷ b ∷ n ∷ m ∷ more) r e = absurd (none_is e)

result_read : Reads result_at IsResult
result_read value r = (result_is value r, λ h. ap result_at h)

diagnostic_is : (value : List ℕ) (r : ℕ) → diagnostic_at value ≡ Some r → IsDiagnostic value r
diagnostic_is [] r e = absurd (none_is e)
diagnostic_is (a ∷ []) r e = absurd (none_is e)
diagnostic_is (a ∷ b ∷ []) r e = absurd (none_is e)
diagnostic_is (a ∷ b ∷ c ∷ []) r e = absurd (none_is e)
diagnostic_is (a ∷ b ∷ c ∷ d ∷ []) r e = absurd (none_is e)
diagnostic_is (a ∷ b ∷ c ∷ d ∷ n ∷ []) r e =
    let g = tested ((a == 0xA1) && (b == 0x03) && (c == 0x02) && (d == 0x01)) (Some n) r e in
    let all = both _ _ g.0 in
    let front = both _ _ all.0 in
    let first = both _ _ front.0 in
    rw (is_equal a 0xA1 first.0, is_equal b 0x03 first.1, is_equal c 0x02 front.1, is_equal d 0x01 all.1, some_is g.1) refl
diagnostic_is (a ∷ b ∷ c ∷ d ∷ n ∷ m ∷ more) r e = absurd (none_is e)

diagnostic_read : Reads diagnostic_at IsDiagnostic
diagnostic_read value r = (diagnostic_is value r, λ h. ap diagnostic_at h)

abbrev AnswerOf : List ℕ → Verdict → Type 0
AnswerOf content x = (conformance : Conformance) × (size : ℕ) × (Accepted conformance size ≡ x) × SpellsAnswer content conformance size

response_is : (content : List ℕ) (x : Verdict) → response_at content ≡ Some x → AnswerOf content x
unfolding response_at
response_is [] x e = absurd (none_is e)
response_is (p ∷ []) x e = absurd (none_is e)
response_is (p ∷ q ∷ []) x e = absurd (none_is e)
response_is (p ∷ q ∷ v ∷ []) x e = absurd (none_is e)
response_is (p ∷ q ∷ v ∷ c ∷ []) x e = absurd (none_is e)
response_is (p ∷ q ∷ v ∷ c ∷ d ∷ []) x e = absurd (none_is e)
response_is (p ∷ q ∷ v ∷ c ∷ d ∷ w ∷ []) x e = absurd (none_is e)
response_is (p ∷ q ∷ v ∷ c ∷ d ∷ w ∷ f ∷ []) x e = absurd (none_is e)
response_is (p ∷ q ∷ v ∷ c ∷ d ∷ w ∷ f ∷ h ∷ []) x e = absurd (none_is e)
response_is (p ∷ q ∷ v ∷ c ∷ d ∷ w ∷ f ∷ h ∷ m ∷ []) x e = absurd (none_is e)
response_is (p ∷ q ∷ v ∷ c ∷ d ∷ w ∷ f ∷ h ∷ m ∷ l ∷ []) x e = absurd (none_is e)
response_is (p ∷ q ∷ v ∷ c ∷ d ∷ w ∷ f ∷ h ∷ m ∷ l ∷ s ∷ []) x e = absurd (none_is e)
response_is (p ∷ q ∷ v ∷ c ∷ d ∷ w ∷ f ∷ h ∷ m ∷ l ∷ s ∷ t ∷ []) x e = absurd (none_is e)
response_is (p ∷ q ∷ v ∷ c ∷ d ∷ w ∷ f ∷ h ∷ m ∷ l ∷ s ∷ t ∷ y ∷ []) x e = absurd (none_is e)
response_is (p ∷ q ∷ v ∷ c ∷ d ∷ w ∷ f ∷ h ∷ m ∷ l ∷ s ∷ t ∷ y ∷ z ∷ []) x e =
    let accepted : Verdict = Accepted (record { 0 = 65536 * h + 256 * m + l }) (256 * s + t) in
    let g = tested ((p == 0x08) && (q == 0x00) && (v == 0x06) && (c == 0x5F) && (d == 0x1F) && (w == 0x04) && (f == 0x00) && (y == 0x00) && (z == 0x07)) (Some accepted) x e in
    let i = both _ _ g.0 in
    let j = both _ _ i.0 in
    let n7 = both _ _ j.0 in
    let n6 = both _ _ n7.0 in
    let n5 = both _ _ n6.0 in
    let n4 = both _ _ n5.0 in
    let n3 = both _ _ n4.0 in
    let n2 = both _ _ n3.0 in
    let text : p ∷ q ∷ v ∷ c ∷ d ∷ w ∷ f ∷ h ∷ m ∷ l ∷ s ∷ t ∷ y ∷ z ∷ [] ≡ 0x08 ∷ 0x00 ∷ 0x06 ∷ 0x5F ∷ 0x1F ∷ 0x04 ∷ 0x00 ∷ h ∷ m ∷ l ∷ s ∷ t ∷ 0x00 ∷ 0x07 ∷ [] =
    rw (is_equal p 0x08 n2.0, is_equal q 0x00 n2.1, is_equal v 0x06 n3.1, is_equal c 0x5F n4.1, is_equal d 0x1F n5.1, is_equal w 0x04 n6.1, is_equal f 0x00 n7.1, is_equal y 0x00 j.1, is_equal z 0x07 i.1) refl in
    (record { 0 = 65536 * h + 256 * m + l }, 256 * s + t, some_is g.1, (h, m, l, s, t, text, refl, refl))
response_is (p ∷ q ∷ v ∷ c ∷ d ∷ w ∷ f ∷ h ∷ m ∷ l ∷ s ∷ t ∷ y ∷ z ∷ k ∷ more) x e = absurd (none_is e)

spelled_answer : (h m l s t : ℕ) → response_at (0x08 ∷ 0x00 ∷ 0x06 ∷ 0x5F ∷ 0x1F ∷ 0x04 ∷ 0x00 ∷ h ∷ m ∷ l ∷ s ∷ t ∷ 0x00 ∷ 0x07 ∷ []) ≡ Some (Accepted (record { 0 = 65536 * h + 256 * m + l }) (256 * s + t))
unfolding response_at
spelled_answer h m l s t = refl

response_of : (content : List ℕ) (conformance : Conformance) (size : ℕ) → SpellsAnswer content conformance size → response_at content ≡ Some (Accepted conformance size)
response_of content conformance size (h, m, l, s, t, text, bits, is) =
    ap response_at text ∙ spelled_answer h m l s t
    ∙ ap (λ (c : Conformance). Some (Accepted c (256 * s + t))) (sym bits) ∙ ap (λ (n : ℕ). Some (Accepted conformance n)) (sym is)

error_is : (content : List ℕ) (r : ℕ) → error_at content ≡ Some r → content ≡ 0x0E ∷ 0x01 ∷ 0x06 ∷ r ∷ []
unfolding error_at
error_is [] r e = absurd (none_is e)
error_is (a ∷ []) r e = absurd (none_is e)
error_is (a ∷ b ∷ []) r e = absurd (none_is e)
error_is (a ∷ b ∷ c ∷ []) r e = absurd (none_is e)
error_is (a ∷ b ∷ c ∷ n ∷ []) r e =
    let g = tested ((a == 0x0E) && (b == 0x01) && (c == 0x06)) (Some n) r e in
    let all = both _ _ g.0 in
    let front = both _ _ all.0 in
    rw (is_equal a 0x0E front.0, is_equal b 0x01 front.1, is_equal c 0x06 all.1, some_is g.1) refl
error_is (a ∷ b ∷ c ∷ n ∷ m ∷ more) r e = absurd (none_is e)

an_error : (n : ℕ) → error_at (0x0E ∷ 0x01 ∷ 0x06 ∷ n ∷ []) ≡ Some n
unfolding error_at
an_error n = refl

abbrev error_in : List ℕ → Option ℕ
error_in value = on_some (inner_at 0x04 value) error_at

error_found : (value : List ℕ) (n : ℕ) → error_in value ≡ Some n → IsError value n
error_found value n e =
    let content = bind_some (inner_at 0x04 value) error_at n e in
    let at = inner_is 0x04 value content.0 content.1 in
    (at.0, content.0, at.1, at.2, error_is content.0 n content.2)

error_only : (value : List ℕ) (n : ℕ) → IsError value n → error_in value ≡ Some n
error_only value n (text, content, e, counts, is) =
    let at : inner_at 0x04 value ≡ Some content = ap (inner_at 0x04) e ∙ inner_of 0x04 text content counts in
    rw at (ap error_at is ∙ an_error n)

error_read : Reads error_in IsError
error_read value n = (error_found value n, error_only value n)

errors : (user : Option (List ℕ)) → on_some (on_some user (inner_at 0x04)) error_at ≡ on_some user error_in
errors None = refl
errors (Some value) = refl

answer_there : (user : Option (List ℕ)) (x : Verdict) → on_some (on_some user (inner_at 0x04)) response_at ≡ Some x
    → (conformance : Conformance) × (size : ℕ) × (Accepted conformance size ≡ x) × IsThere user (λ value. IsAnswer value conformance size)
answer_there None x e = absurd (none_is e)
answer_there (Some value) x e =
    let content = bind_some (inner_at 0x04 value) response_at x e in
    let at = inner_is 0x04 value content.0 content.1 in
    let says = response_is content.0 x content.2 in
    (says.0, says.1, says.2, (at.0, content.0, at.1, at.2, says.3))

there_answer : (user : Option (List ℕ)) (conformance : Conformance) (size : ℕ) → IsThere user (λ value. IsAnswer value conformance size) → on_some (on_some user (inner_at 0x04)) response_at ≡ Some (Accepted conformance size)
there_answer None conformance size h = absurd h
there_answer (Some value) conformance size (text, content, e, counts, says) =
    let at : inner_at 0x04 value ≡ Some content = ap (inner_at 0x04) e ∙ inner_of 0x04 text content counts in
    rw at (response_of content conformance size says)

is_there : {X : Type 0} (o : Option X) (x : X) → or_short o ≡ Ok x → o ≡ Some x
is_there None x e = absurd cc
is_there {X} (Some y) x e = ap (λ (z : X). Some z) (ok_is y x e)

judged : (r d : ℕ) (user : Option (List ℕ)) (v : Verdict) → answer_from r d user ≡ Ok v → Judges r d user v
judged r d user v e = by_test (r == 0) refl e
  where
    by_test : (b : Bool) → (r == 0) ≡ b → (if b then or_short (on_some (on_some user (inner_at 0x04)) response_at) else Ok (Refused d (on_some (on_some user (inner_at 0x04)) error_at))) ≡ Ok v → Judges r d user v
    by_test true h e =
        let there = answer_there user v (is_there _ v e) in
        subst (λ (x : Verdict). Judges r d user x) there.2 (grind (arith, nat_tests), there.3)
    by_test false h e =
        let held = says_held error_in IsError error_read user in
        let same : Refused d (on_some user error_in) ≡ v = ap (λ (o : Option ℕ). Refused d o) (sym (errors user)) ∙ ok_is _ v e in
        subst (λ (x : Verdict). Judges r d user x) same (grind (arith, nat_tests), refl, held)

judged_only : (r d : ℕ) (user : Option (List ℕ)) (v : Verdict) → Judges r d user v → answer_from r d user ≡ Ok v
judged_only r d user (Accepted conformance size) h =
    let t : (r == 0) ≡ true = let z = h.0 in grind (arith, nat_tests) in
    rw (t, there_answer user conformance size h.1) refl
judged_only r d user (Refused told error) h =
    let t : (r == 0) ≡ false = let z = h.0 in grind (arith, nat_tests) in
    let held : on_some (on_some user (inner_at 0x04)) error_at ≡ error = errors user ∙ only_held error_in IsError error_read user error h.2 in
    rw (t, held, h.1) refl

found_there : {X : Type 0} (read : List ℕ → Option X) (spells : List ℕ → X → Type 0) → Reads read spells → (field : Option (List ℕ)) (x : X) → on_some field read ≡ Some x → IsThere field (λ value. spells value x)
found_there read spells reads None x e = absurd (none_is e)
found_there read spells reads (Some value) x e = (reads value x).0 e

there_found : {X : Type 0} (read : List ℕ → Option X) (spells : List ℕ → X → Type 0) → Reads read spells → (field : Option (List ℕ)) (x : X) → IsThere field (λ value. spells value x) → on_some field read ≡ Some x
there_found read spells reads None x h = absurd h
there_found read spells reads (Some value) x h = (reads value x).1 h

pub says_verdict : (value : ℕ → Option (List ℕ)) (v : Verdict) → verdict_from value ≡ Ok v → SaysVerdict value v
says_verdict value v e =
    let r = bind_ok (or_short (on_some (value 0xA2) result_at)) (λ r. or_short (on_some (value 0xA3) diagnostic_at) >>= λ d. answer_from r d (value 0xBE)) v e in
    let d = bind_ok (or_short (on_some (value 0xA3) diagnostic_at)) (λ d. answer_from r.0 d (value 0xBE)) v r.2 in (
      r.0,
      d.0,
      found_there result_at IsResult result_read (value 0xA2) r.0 (is_there _ r.0 r.1),
      found_there diagnostic_at IsDiagnostic diagnostic_read (value 0xA3) d.0 (is_there _ d.0 d.1),
      judged r.0 d.0 (value 0xBE) v d.2,
    )

pub only_verdict : (value : ℕ → Option (List ℕ)) (v : Verdict) → SaysVerdict value v → verdict_from value ≡ Ok v
only_verdict value v (r, d, result, diagnostic, judges) =
    rw (there_found result_at IsResult result_read (value 0xA2) r result, there_found diagnostic_at IsDiagnostic diagnostic_read (value 0xA3) d diagnostic) (judged_only r d (value 0xBE) v judges)
