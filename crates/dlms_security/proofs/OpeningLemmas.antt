-- A message is opened exactly if it is the protected form of an APDU.
use Rattle.std.proofs.Common.{arith, refl, ap, ◌∙◌, sym, subst, ◌≡◌, ℕ, Bool, true, false, List, Option, Some, None, Result, Ok, Err, if◌then◌else◌}
use Rattle.std.proofs.lemmas.Bool.Decides.{nat_tests}
use Rattle.dlms_security.specs.declared.form.Head.{Head}
use Rattle.dlms_security.specs.declared.kind.KeyKind.{KeyKind}
use Rattle.dlms_security.specs.declared.policy.Policy.{Policy}
use Rattle.dlms_security.specs.declared.policy.Policy.TheVariants.{Authenticated, Encrypted, AuthenticatedEncrypted}
use Rattle.dlms_security.specs.declared.fault.UnprotectFault.{UnprotectFault}
use Rattle.dlms_security.specs.declared.fault.UnprotectFault.TheVariants.{AnotherTitle, AnotherService}
use Rattle.dlms_security.specs.Form.{is_of, kind_of, parts}
use Rattle.dlms_security.specs.Body.{Use, control_of, body_of, open_body}
use Rattle.dlms_security.specs.Security.{is_from}
use Rattle.dlms_security.specs.Opening.{policy_at, if_of_service, opening_by, opening_of, opening, IsOpened, OpenedExactly}
use Rattle.dlms_security.proofs.MessageLemmas.{opened_is, opened_back, opened_short}

-- the policy that is read from a control byte is the one that writes it
policy_back : (policy : Policy) → policy_at (control_of policy) ≡ Some policy
policy_back Authenticated = refl
policy_back Encrypted = refl
policy_back AuthenticatedEncrypted = refl

policy_is : (control : ℕ) (policy : Policy) → policy_at control ≡ Some policy → control ≡ control_of policy
policy_is control Authenticated e = grind (arith, nat_tests)
policy_is control Encrypted e = grind (arith, nat_tests)
policy_is control AuthenticatedEncrypted e = grind (arith, nat_tests)

-- the use of the keys for a header
abbrev use_at : (encryption authentication title : List ℕ) → ℕ → Use
use_at encryption authentication title counter = record {
  encryption = encryption;
  authentication = authentication;
  title = title;
  counter = counter;
}

opened : (encryption authentication title message apdu : List ℕ) → opening encryption authentication title message ≡ Ok apdu
    → IsOpened encryption authentication title message apdu
opened encryption authentication title message apdu took = by_parts (kind_of message) (parts message) refl refl took
  where
    u : ℕ → Use
    u counter = use_at encryption authentication title counter

    by_service : (kind : KeyKind) (policy : Policy) (head : Head) (body found : List ℕ) (b : Bool) → is_of kind head.tag found ≡ b
        → kind_of message ≡ Some kind → parts message ≡ Ok (head, body) → head.control ≡ control_of policy → is_from head.title title ≡ true
        → open_body policy (use_at encryption authentication title head.counter) body ≡ Ok found
        → (if b then Ok found else Err AnotherService) ≡ Ok apdu → IsOpened encryption authentication title message apdu
    by_service kind policy head body found true service named read control from opens e =
        let same : found ≡ apdu = cc in
        subst (λ (x : List ℕ). IsOpened encryption authentication title message x) same (record {
          kind = kind;
          policy = policy;
          counter = head.counter;
          named = named;
          is = record {
            head = head;
            body = body;
            read = read;
            control = control;
            counted = refl;
            named = from;
            service = service;
            exact = opened_is policy (use_at encryption authentication title head.counter) body found opens;
          };
          short = opened_short policy (use_at encryption authentication title head.counter) body found opens;
        })
    by_service kind policy head body found false service named read control from opens e = absurd cc

    by_opened : (kind : KeyKind) (policy : Policy) (head : Head) (body : List ℕ) (o : Result (List ℕ) UnprotectFault)
        → open_body policy (use_at encryption authentication title head.counter) body ≡ o
        → kind_of message ≡ Some kind → parts message ≡ Ok (head, body) → head.control ≡ control_of policy → is_from head.title title ≡ true
        → if_of_service kind head.tag o ≡ Ok apdu → IsOpened encryption authentication title message apdu
    by_opened kind policy head body (Ok found) opens named read control from e =
        by_service kind policy head body found (is_of kind head.tag found) refl named read control from opens e
    by_opened kind policy head body (Err f) opens named read control from e = absurd cc

    by_from : (kind : KeyKind) (policy : Policy) (head : Head) (body : List ℕ) (b : Bool) → is_from head.title title ≡ b
        → kind_of message ≡ Some kind → parts message ≡ Ok (head, body) → head.control ≡ control_of policy
        → (if b then if_of_service kind head.tag (open_body policy (use_at encryption authentication title head.counter) body) else Err AnotherTitle) ≡ Ok apdu
        → IsOpened encryption authentication title message apdu
    by_from kind policy head body true from named read control e =
        by_opened kind policy head body (open_body policy (use_at encryption authentication title head.counter) body) refl named read control from e
    by_from kind policy head body false from named read control e = absurd cc

    by_policy : (kind : KeyKind) (head : Head) (body : List ℕ) (p : Option Policy) → policy_at head.control ≡ p
        → kind_of message ≡ Some kind → parts message ≡ Ok (head, body)
        → opening_by encryption authentication title kind p head body ≡ Ok apdu → IsOpened encryption authentication title message apdu
    by_policy kind head body (Some policy) stated named read e =
        by_from kind policy head body (is_from head.title title) refl named read (policy_is head.control policy stated) e
    by_policy kind head body None stated named read e = absurd cc

    by_parts : (k : Option KeyKind) (p : Result (Head × List ℕ) UnprotectFault) → kind_of message ≡ k → parts message ≡ p
        → opening_of encryption authentication title k p ≡ Ok apdu → IsOpened encryption authentication title message apdu
    by_parts (Some kind) (Ok found) named read e = by_policy kind found.0 found.1 (policy_at found.0.control) refl named read e
    by_parts None (Ok found) named read e = absurd cc
    by_parts k (Err f) named read e = absurd cc

is_opened : (encryption authentication title message apdu : List ℕ) → IsOpened encryption authentication title message apdu
    → opening encryption authentication title message ≡ Ok apdu
is_opened encryption authentication title message apdu ok =
    let p = ok.is in
    let u : Use = use_at encryption authentication title p.head.counter in
    let opens : open_body ok.policy u p.body ≡ Ok apdu =
    ap (open_body ok.policy u) (p.exact ∙ ap (λ (n : ℕ). body_of ok.policy (use_at encryption authentication title n) apdu) (sym p.counted))
    ∙ opened_back ok.policy u apdu ok.short in
    let stated : policy_at p.head.control ≡ Some ok.policy = ap policy_at p.control ∙ policy_back ok.policy in
    ap (λ (k : Option KeyKind). opening_of encryption authentication title k (parts message)) ok.named
    ∙ ap (opening_of encryption authentication title (Some ok.kind)) p.read
    ∙ ap (λ (o : Option Policy). opening_by encryption authentication title ok.kind o p.head p.body) stated
    ∙ ap (λ (b : Bool). if b then if_of_service ok.kind p.head.tag (open_body ok.policy u p.body) else Err AnotherTitle) p.named
    ∙ ap (if_of_service ok.kind p.head.tag) opens
    ∙ ap (λ (b : Bool). if b then Ok apdu else Err AnotherService) p.service

pub opened_exactly : OpenedExactly
opened_exactly encryption authentication title message apdu =
    (opened encryption authentication title message apdu, is_opened encryption authentication title message apdu)
