-- Lengths of texts and tags; opening bodies.
use Rattle.std.proofs.lemmas.Bool.Decides.{nat_tests}
use Rattle.std.proofs.Common.{arith, refl, ap, ◌∙◌, sym, ◌≡◌, ◌-◌, ◌≤◌, nat_lt, ℕ, Bool, true, false, List, ◌++◌, length, take, Ok, Err, length-append, if◌then◌else◌, subst}
use Rattle.std.specs.Str.{bytes_eq}
use Rattle.std.proofs.lemmas.Grind.{common_steps}
use Rattle.std.proofs.lemmas.List.{length-take, take-append-drop}
use Rattle.std.proofs.lemmas.Slice.Eq.{bytes_eq-Decides}
use Rattle.dlms_cipher.specs.Dlms.{nonce_of}
use Rattle.dlms_cipher.specs.Aes.{xor_octets, aes}
use Rattle.dlms_cipher.specs.Gcm.{tag_of, block_of, block_count}
use Rattle.dlms_cipher.proofs.LawLemmas.{aes_long, length-counter_blocks, ctr_twice}
use Rattle.dlms_cipher.proofs.GcmLemmas.{length-xor_octets}
use Rattle.dlms_security.specs.declared.policy.Policy.{Policy}
use Rattle.dlms_security.specs.declared.policy.Policy.TheVariants.{Authenticated, Encrypted, AuthenticatedEncrypted}
use Rattle.dlms_security.specs.Body.{Use, seal_of, signature_of, text_of, body_of, text_in, tag_in, signed_apdu, sealed_apdu, encrypted_apdu, open_body}
use Rattle.dlms_security.specs.declared.fault.UnprotectFault.TheVariants.{Short, Long, WrongTag}
use Rattle.dlms_security.proofs.BodyLemmas.{sealed_ok, signed_ok, below_false}

block_long : (p : ℕ) → length (block_of 16 p) ≡ 16
unfolding block_of
block_long p = refl

long_of : (h : ℕ) (key block : List ℕ) → length (take 12 (xor_octets (block_of 16 h) (aes key block))) ≡ 12
long_of h key block =
    omega (arith, length-take 12 (xor_octets (block_of 16 h) (aes key block)), length-xor_octets (block_of 16 h) (aes key block), block_long h, aes_long key block)

tag_long : (key nonce aad ciphertext : List ℕ) → length (tag_of key nonce aad ciphertext) ≡ 12
unfolding tag_of
tag_long key nonce aad ciphertext = long_of _ _ _

pub seal_long : (u : Use) (text : List ℕ) → length (seal_of u text) ≡ 12
seal_long u text = tag_long _ _ _ _

pub signature_long : (u : Use) (text : List ℕ) → length (signature_of u text) ≡ 12
signature_long u text = tag_long _ _ _ _

pub text_long : (u : Use) (text : List ℕ) → length (text_of u text) ≡ length text
text_long u text = length-counter_blocks (block_count (length text)) u.encryption (nonce_of u.title u.counter) 2 text (omega arith)

pub text_back : (u : Use) (text : List ℕ) → text_of u (text_of u text) ≡ text
text_back u text = ctr_twice u.encryption (nonce_of u.title u.counter) text

text_before : (xs tag : List ℕ) → length tag ≡ 12 → text_in (xs ++ tag) ≡ xs
text_before xs tag e = grind (arith, common_steps)

tag_after : (xs tag : List ℕ) → length tag ≡ 12 → tag_in (xs ++ tag) ≡ tag
tag_after xs tag e = grind (arith, common_steps)

long_enough : (xs tag : List ℕ) → length tag ≡ 12 → nat_lt (length (xs ++ tag)) 12 ≡ false
long_enough xs tag e = below_false (length (xs ++ tag)) 12 (omega (arith, length-append xs tag))

-- the body of an APDU opens as that APDU
pub opened_back : (policy : Policy) (u : Use) (apdu : List ℕ) → length apdu ≤ 1024 → open_body policy u (body_of policy u apdu) ≡ Ok apdu
opened_back Authenticated u apdu short =
    let tag = signature_of u apdu in
    let twelve = signature_long u apdu in
    rw (long_enough apdu tag twelve, text_before apdu tag twelve, tag_after apdu tag twelve) (signed_ok u apdu tag short refl)
opened_back Encrypted u apdu short =
    let fits = below_false 1024 (length (text_of u apdu)) (omega (arith, text_long u apdu)) in
    rw fits (ap (λ (l : List ℕ). Ok l) (text_back u apdu))
opened_back AuthenticatedEncrypted u apdu short =
    let text = text_of u apdu in
    let tag = seal_of u text in
    let twelve = seal_long u text in
    rw (long_enough text tag twelve, text_before text tag twelve, tag_after text tag twelve)
    (sealed_ok u text tag (omega (arith, text_long u apdu)) refl ∙ ap (λ (l : List ℕ). Ok l) (text_back u apdu))

-- ---- a body that opens is the body of its APDU

signed_is : (u : Use) (text tag apdu : List ℕ) → signed_apdu u text tag ≡ Ok apdu → (apdu ≡ text) × (tag ≡ signature_of u text) × (length text ≤ 1024)
signed_is u text tag apdu e = by_long (nat_lt 1024 (length text)) refl
  where
    by_tag : length text ≤ 1024 → (b : Bool) → bytes_eq tag (signature_of u text) ≡ b → (if b then Ok text else Err WrongTag) ≡ Ok apdu → (apdu ≡ text) × (tag ≡ signature_of u text) × (length text ≤ 1024)
    by_tag short true t h = (let same : text ≡ apdu = cc in sym same, (bytes_eq-Decides tag (signature_of u text)).0 t, short)
    by_tag short false t h = absurd cc

    by_long : (b : Bool) → nat_lt 1024 (length text) ≡ b → (apdu ≡ text) × (tag ≡ signature_of u text) × (length text ≤ 1024)
    by_long true t = absurd (let no : Err Long ≡ Ok apdu = rw t at e in cc)
    by_long false t =
        let h : (if bytes_eq tag (signature_of u text) then Ok text else Err WrongTag) ≡ Ok apdu = rw t at e in
        by_tag (grind (arith, nat_tests)) (bytes_eq tag (signature_of u text)) refl h

sealed_is : (u : Use) (text tag apdu : List ℕ) → sealed_apdu u text tag ≡ Ok apdu → (apdu ≡ text_of u text) × (tag ≡ seal_of u text) × (length text ≤ 1024)
sealed_is u text tag apdu e = by_long (nat_lt 1024 (length text)) refl
  where
    by_tag : length text ≤ 1024 → (b : Bool) → bytes_eq tag (seal_of u text) ≡ b → (if b then Ok (text_of u text) else Err WrongTag) ≡ Ok apdu → (apdu ≡ text_of u text) × (tag ≡ seal_of u text) × (length text ≤ 1024)
    by_tag short true t h = (let same : text_of u text ≡ apdu = cc in sym same, (bytes_eq-Decides tag (seal_of u text)).0 t, short)
    by_tag short false t h = absurd cc

    by_long : (b : Bool) → nat_lt 1024 (length text) ≡ b → (apdu ≡ text_of u text) × (tag ≡ seal_of u text) × (length text ≤ 1024)
    by_long true t = absurd (let no : Err Long ≡ Ok apdu = rw t at e in cc)
    by_long false t =
        let h : (if bytes_eq tag (seal_of u text) then Ok (text_of u text) else Err WrongTag) ≡ Ok apdu = rw t at e in
        by_tag (grind (arith, nat_tests)) (bytes_eq tag (seal_of u text)) refl h

encrypted_is : (u : Use) (text apdu : List ℕ) → encrypted_apdu u text ≡ Ok apdu → (apdu ≡ text_of u text) × (length text ≤ 1024)
encrypted_is u text apdu e = by_long (nat_lt 1024 (length text)) refl
  where
    by_long : (b : Bool) → nat_lt 1024 (length text) ≡ b → (apdu ≡ text_of u text) × (length text ≤ 1024)
    by_long true t = absurd (let no : Err Long ≡ Ok apdu = rw t at e in cc)
    by_long false t =
        let h : Ok (text_of u text) ≡ Ok apdu = rw t at e in
        let same : text_of u text ≡ apdu = cc in
        (sym same, grind (arith, nat_tests))

parted : (body : List ℕ) → text_in body ++ tag_in body ≡ body
parted body = take-append-drop (length body - 12) body

pub opened_is : (policy : Policy) (u : Use) (body apdu : List ℕ) → open_body policy u body ≡ Ok apdu → body ≡ body_of policy u apdu
opened_is Authenticated u body apdu e = by_short (nat_lt (length body) 12) refl
  where
    by_short : (b : Bool) → nat_lt (length body) 12 ≡ b → body ≡ apdu ++ signature_of u apdu
    by_short true t = absurd (let no : Err Short ≡ Ok apdu = rw t at e in cc)
    by_short false t =
        let h : signed_apdu u (text_in body) (tag_in body) ≡ Ok apdu = rw t at e in
        let is = signed_is u (text_in body) (tag_in body) apdu h in
        let tag : tag_in body ≡ signature_of u apdu = is.1 ∙ ap (signature_of u) (sym is.0) in
        sym (parted body) ∙ ap (λ (l : List ℕ). l ++ tag_in body) (sym is.0) ∙ ap (λ (l : List ℕ). apdu ++ l) tag
opened_is Encrypted u body apdu e = sym (text_back u body) ∙ ap (text_of u) (sym (encrypted_is u body apdu e).0)
opened_is AuthenticatedEncrypted u body apdu e = by_short (nat_lt (length body) 12) refl
  where
    by_short : (b : Bool) → nat_lt (length body) 12 ≡ b → body ≡ text_of u apdu ++ seal_of u (text_of u apdu)
    by_short true t = absurd (let no : Err Short ≡ Ok apdu = rw t at e in cc)
    by_short false t =
        let h : sealed_apdu u (text_in body) (tag_in body) ≡ Ok apdu = rw t at e in
        let is = sealed_is u (text_in body) (tag_in body) apdu h in
        let text : text_in body ≡ text_of u apdu = sym (text_back u (text_in body)) ∙ ap (text_of u) (sym is.0) in
        let tag : tag_in body ≡ seal_of u (text_of u apdu) = is.1 ∙ ap (seal_of u) text in
        sym (parted body) ∙ ap (λ (l : List ℕ). l ++ tag_in body) text ∙ ap (λ (l : List ℕ). text_of u apdu ++ l) tag

pub opened_short : (policy : Policy) (u : Use) (body apdu : List ℕ) → open_body policy u body ≡ Ok apdu → length apdu ≤ 1024
opened_short Authenticated u body apdu e = by_short (nat_lt (length body) 12) refl
  where
    by_short : (b : Bool) → nat_lt (length body) 12 ≡ b → length apdu ≤ 1024
    by_short true t = absurd (let no : Err Short ≡ Ok apdu = rw t at e in cc)
    by_short false t =
        let h : signed_apdu u (text_in body) (tag_in body) ≡ Ok apdu = rw t at e in
        let is = signed_is u (text_in body) (tag_in body) apdu h in
        subst (λ (l : List ℕ). length l ≤ 1024) (sym is.0) is.2
opened_short Encrypted u body apdu e =
    let is = encrypted_is u body apdu e in
    subst (λ (l : List ℕ). length l ≤ 1024) (sym is.0) (subst (λ (n : ℕ). n ≤ 1024) (sym (text_long u body)) is.1)
opened_short AuthenticatedEncrypted u body apdu e = by_short (nat_lt (length body) 12) refl
  where
    by_short : (b : Bool) → nat_lt (length body) 12 ≡ b → length apdu ≤ 1024
    by_short true t = absurd (let no : Err Short ≡ Ok apdu = rw t at e in cc)
    by_short false t =
        let h : sealed_apdu u (text_in body) (tag_in body) ≡ Ok apdu = rw t at e in
        let is = sealed_is u (text_in body) (tag_in body) apdu h in
        subst (λ (l : List ℕ). length l ≤ 1024) (sym is.0) (subst (λ (n : ℕ). n ≤ 1024) (sym (text_long u (text_in body))) is.2)
