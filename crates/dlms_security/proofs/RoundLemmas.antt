-- A message that goes out is a protected one, and the peer accepts it.
use Rattle.std.proofs.Common.{arith, refl, ap, ◌∙◌, sym, subst, ◌≡◌, ◌-◌, ◌^◌, ◌≤◌, ◌<◌, ◌==◌, nat_lt, ℕ, Bool, true, false, List, [], ◌∷◌, length, Option, Some, None, Result, Ok, Err, if◌then◌else◌}
use Rattle.std.proofs.lemmas.Bool.Decides.{nat_tests}
use Rattle.dlms_security.specs.declared.kind.KeyKind.{KeyKind}
use Rattle.dlms_security.specs.declared.form.Form.{Form}
use Rattle.dlms_security.specs.declared.form.Form.TheVariants.{Service, General}
use Rattle.dlms_security.specs.declared.form.Head.{Head}
use Rattle.dlms_security.specs.Form.{form_tag, general_tag, is_of, front_of, message_of, parts}
use Rattle.dlms_security.specs.Body.{control_of, body_of, open_body}
use Rattle.dlms_security.specs.Security.{SecurityState, own_use, content_for, counter_for, with_counter, answer_for, message_with, message_for, is_from, is_above, peer_use, of_service, check_with, check_from, check_parts}
use Rattle.dlms_security.specs.declared.policy.Policy.{Policy}
use Rattle.dlms_cipher.specs.Dlms.{answer_of}
use Rattle.dlms_security.specs.declared.fault.ProtectFault.{ProtectFault}
use Rattle.dlms_security.specs.declared.fault.ProtectFault.TheVariants as fault
use Rattle.dlms_security.specs.declared.fault.UnprotectFault.TheVariants.{OldCounter, AnotherTitle, AnotherControl, AnotherService}
use Rattle.dlms_security.specs.Run.{IsState, IsProtected, RoundTrip}
use Rattle.dlms_security.proofs.BodyLemmas.{bytes_eq_same}
use Rattle.dlms_security.proofs.FormLemmas.{tag_is_general, form_found, service_back, general_back}
use Rattle.dlms_security.proofs.MessageLemmas.{opened_back}

-- a message that goes out, in the state before the call
pub record GoesOut (s : SecurityState) (apdu message : List ℕ) : Type 0 where
  pub is : IsProtected s s.own s.next (record { message = message; apdu = apdu })
  pub short : length apdu ≤ 1024
  pub reserved : s.next < s.reserved

same_number : (n : ℕ) → (n == n) ≡ true
same_number n = grind (arith, nat_tests)

with_form : (s : SecurityState) (form : Form) (apdu front : List ℕ) → IsState s → s.next < s.reserved → front_of s.kind form s.own apdu ≡ Some front
    → IsProtected s s.own s.next (record { message = message_of front (content_for s apdu); apdu = apdu })
with_form s General apdu front is reserved e =
    let tag = general_tag s.kind in
    let same : tag ∷ 8 ∷ s.own ≡ front = cc in
    let fits : s.next < 2 ^ 32 = omega (arith, is.fits) in
    let body = body_of s.policy (own_use s) apdu in
    record {
      head = record { tag = tag; title = Some s.own; control = control_of s.policy; counter = s.next };
      body = body;
      read = subst (λ (l : List ℕ). parts (message_of l (content_for s apdu)) ≡ Ok (record { tag = tag; title = Some s.own; control = control_of s.policy; counter = s.next }, body)) same
          (general_back tag s.own (control_of s.policy) s.next body (tag_is_general s.kind) is.title fits);
      control = refl;
      counted = refl;
      named = bytes_eq_same s.own;
      service = rw (same_number tag) refl;
      exact = refl;
    }
with_form s Service [] front is reserved e = absurd cc
with_form s Service (first ∷ rest) front is reserved e = by_form (form_tag s.kind first) refl e
  where
    by_form : (g : Option ℕ) → form_tag s.kind first ≡ g → front_of s.kind Service s.own (first ∷ rest) ≡ Some front
        → IsProtected s s.own s.next (record { message = message_of front (content_for s (first ∷ rest)); apdu = first ∷ rest })
    by_form None g f = absurd (let no = rw g at f in cc)
    by_form (Some glo) g f =
        let same : glo ∷ [] ≡ front = (let yes = rw g at f in cc) in
        let fits : s.next < 2 ^ 32 = omega (arith, is.fits) in
        let found = form_found s.kind first glo g in
        let body = body_of s.policy (own_use s) (first ∷ rest) in
        let other : (glo == general_tag s.kind) ≡ false = found.2 in
        record {
          head = record { tag = glo; title = None; control = control_of s.policy; counter = s.next };
          body = body;
          read = subst (λ (l : List ℕ). parts (message_of l (content_for s (first ∷ rest))) ≡ Ok (record { tag = glo; title = None; control = control_of s.policy; counter = s.next }, body)) same
              (service_back glo (control_of s.policy) s.next body fits found.0 found.1);
          control = refl;
          counted = refl;
          named = refl;
          service = rw (other, g) (same_number glo);
          exact = refl;
        }

pub counter_found : (s : SecurityState) (n : ℕ) → counter_for s ≡ Ok n → (n ≡ s.next) × (s.next < s.reserved)
counter_found s n found = by_last (s.next == 2 ^ 32 - 1) refl
  where
    by_reserved : (b : Bool) → nat_lt s.next s.reserved ≡ b → (if b then Ok s.next else Err fault.Reserve) ≡ Ok n → (n ≡ s.next) × (s.next < s.reserved)
    by_reserved true t e = (let same : s.next ≡ n = cc in sym same, grind (arith, nat_tests))
    by_reserved false t e = absurd cc

    by_last : (b : Bool) → (s.next == 2 ^ 32 - 1) ≡ b → (n ≡ s.next) × (s.next < s.reserved)
    by_last true t = absurd (let no : Err fault.Exhausted ≡ Ok n = rw t at found in cc)
    by_last false t =
        let e : (if nat_lt s.next s.reserved then Ok s.next else Err fault.Reserve) ≡ Ok n = rw t at found in
        by_reserved (nat_lt s.next s.reserved) refl e

-- an answer that goes out is the definition's
pub answer_out : (s : SecurityState) (challenge answer : List ℕ) → answer_for s challenge ≡ Ok answer
    → (answer_of s.encryption s.authentication s.own s.next challenge ≡ answer) × (s.next < s.reserved)
answer_out s challenge answer went = by_counter (counter_for s) refl went
  where
    by_counter : (r : Result ℕ ProtectFault) → counter_for s ≡ r → with_counter r (answer_of s.encryption s.authentication s.own s.next challenge) ≡ Ok answer
        → (answer_of s.encryption s.authentication s.own s.next challenge ≡ answer) × (s.next < s.reserved)
    by_counter (Ok n) counter e = (let same : answer_of s.encryption s.authentication s.own s.next challenge ≡ answer = cc in same, (counter_found s n counter).1)
    by_counter (Err f) counter e = absurd cc

pub goes_out : (s : SecurityState) (form : Form) (apdu message : List ℕ) → IsState s → message_for s form apdu ≡ Ok message → GoesOut s apdu message
goes_out s form apdu message is went = by_length (nat_lt 1024 (length apdu)) refl
  where
    by_counter : (front : List ℕ) → (r : Result ℕ ProtectFault) → counter_for s ≡ r → length apdu ≤ 1024 → front_of s.kind form s.own apdu ≡ Some front
        → with_counter r (message_of front (content_for s apdu)) ≡ Ok message → GoesOut s apdu message
    by_counter front (Ok n) counter short f e =
        let same : message_of front (content_for s apdu) ≡ message = cc in
        let below : s.next < s.reserved = (counter_found s n counter).1 in
        record {
          is = subst (λ (m : List ℕ). IsProtected s s.own s.next (record { message = m; apdu = apdu })) same (with_form s form apdu front is below f);
          short = short;
          reserved = below;
        }
    by_counter front (Err f) counter short g e = absurd cc

    by_front : (g : Option (List ℕ)) → front_of s.kind form s.own apdu ≡ g → length apdu ≤ 1024 → message_with s g apdu ≡ Ok message → GoesOut s apdu message
    by_front None f short e = absurd cc
    by_front (Some front) f short e = by_counter front (counter_for s) refl short f e

    by_length : (b : Bool) → nat_lt 1024 (length apdu) ≡ b → GoesOut s apdu message
    by_length true t = absurd (let no : Err fault.Long ≡ Ok message = rw t at went in cc)
    by_length false t =
        let e : message_with s (front_of s.kind form s.own apdu) apdu ≡ Ok message = rw t at went in
        let short : length apdu ≤ 1024 = grind (arith, nat_tests) in
        by_front (front_of s.kind form s.own apdu) refl short e

-- the checks of a message that is accepted
pub accepted_back : (r : SecurityState) (title : List ℕ) (head : Head) (body apdu : List ℕ) → is_from head.title title ≡ true → head.control ≡ control_of r.policy
    → is_above r.accepted head.counter ≡ true → open_body r.policy (peer_use r title head.counter) body ≡ Ok apdu → is_of r.kind head.tag apdu ≡ true
    → check_from r title head body ≡ Ok (record { counter = head.counter; apdu = apdu })
accepted_back r title head body apdu named control above opens service =
    let same : (head.control == control_of r.policy) ≡ true = subst (λ (n : ℕ). (head.control == n) ≡ true) control (same_number head.control) in
    ap (λ (b : Bool). if b then (if head.control == control_of r.policy then (if is_above r.accepted head.counter then of_service r.kind head (open_body r.policy (peer_use r title head.counter) body) else Err OldCounter) else Err AnotherControl) else Err AnotherTitle) named
    ∙ ap (λ (b : Bool). if b then (if is_above r.accepted head.counter then of_service r.kind head (open_body r.policy (peer_use r title head.counter) body) else Err OldCounter) else Err AnotherControl) same
    ∙ ap (λ (b : Bool). if b then of_service r.kind head (open_body r.policy (peer_use r title head.counter) body) else Err OldCounter) above
    ∙ ap (of_service r.kind head) opens
    ∙ ap (λ (b : Bool). if b then Ok (record { counter = head.counter; apdu = apdu }) else Err AnotherService) service

body_at : ℕ → List ℕ → List ℕ → Policy → List ℕ → List ℕ → List ℕ
body_at counter title apdu policy encryption authentication = body_of policy (record { encryption = encryption; authentication = authentication; title = title; counter = counter }) apdu

pub round_trip : RoundTrip
unfolding body_at
round_trip s r form apdu message is peers above went =
    let out = goes_out s form apdu message is went in
    let p = out.is in
    let f = body_at s.next s.own apdu in
    let body : p.body ≡ body_of r.policy (peer_use r s.own s.next) apdu =
    p.exact ∙ ap (λ (x : Policy). f x s.encryption s.authentication) (sym peers.policy) ∙ ap (λ (x : List ℕ). f r.policy x s.authentication) (sym peers.encryption)
    ∙ ap (λ (x : List ℕ). f r.policy r.encryption x) (sym peers.authentication) in
    let opens : open_body r.policy (peer_use r s.own s.next) p.body ≡ Ok apdu =
    ap (open_body r.policy (peer_use r s.own s.next)) body ∙ opened_back r.policy (peer_use r s.own s.next) apdu out.short in
    ap (check_parts r) p.read ∙ ap (λ (t : Option (List ℕ)). check_with r t p.head p.body) peers.title
    ∙ accepted_back r s.own p.head p.body apdu p.named (p.control ∙ ap control_of (sym peers.policy)) (ap (is_above r.accepted) p.counted ∙ above)
    (ap (λ (n : ℕ). open_body r.policy (peer_use r s.own n) p.body) p.counted ∙ opens) (ap (λ (k : KeyKind). is_of k p.head.tag apdu) peers.kind ∙ p.service)
    ∙ ap (λ (n : ℕ). Ok (record { counter = n; apdu = apdu })) p.counted
