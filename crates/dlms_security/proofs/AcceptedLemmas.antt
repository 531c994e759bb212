-- A message is accepted exactly if it is acceptable.
use Rattle.std.proofs.Common.{arith, refl, ap, ◌∙◌, subst, ◌≡◌, ◌==◌, ℕ, Bool, true, false, List, Option, Some, None, Result, Ok, Err, if◌then◌else◌}
use Rattle.std.proofs.lemmas.Bool.Decides.{nat_tests}
use Rattle.dlms_security.specs.declared.form.Head.{Head}
use Rattle.dlms_security.specs.declared.fault.UnprotectFault.{UnprotectFault}
use Rattle.dlms_security.specs.declared.fault.UnprotectFault.TheVariants.{OldCounter, AnotherTitle, AnotherControl, AnotherService}
use Rattle.dlms_security.specs.Form.{is_of, parts}
use Rattle.dlms_security.specs.Body.{control_of, open_body}
use Rattle.dlms_security.specs.Security.{SecurityState, AcceptedApdu, is_from, is_above, peer_use, of_service, check_with, check_parts, acceptance}
use Rattle.dlms_security.specs.Run.{IsAcceptable, AcceptedExactly}
use Rattle.dlms_security.proofs.MessageLemmas.{opened_is, opened_back, opened_short}
use Rattle.dlms_security.proofs.RoundLemmas.{accepted_back}

pub accepted_is : (s : SecurityState) (message : List ℕ) (a : AcceptedApdu) → acceptance s message ≡ Ok a → IsAcceptable s message a
accepted_is s message a took = by_parts (parts message) refl took
  where
    by_service : (title : List ℕ) (head : Head) (body apdu : List ℕ) → (b : Bool) → is_of s.kind head.tag apdu ≡ b
        → s.peer ≡ Some title → parts message ≡ Ok (head, body) → is_from head.title title ≡ true → head.control ≡ control_of s.policy → is_above s.accepted head.counter ≡ true
        → open_body s.policy (peer_use s title head.counter) body ≡ Ok apdu
        → (if b then Ok (record { counter = head.counter; apdu = apdu }) else Err AnotherService) ≡ Ok a → IsAcceptable s message a
    by_service title head body apdu true service peer read named control above opens e =
        let same : record { counter = head.counter; apdu = apdu } ≡ a = cc in
        subst (λ (x : AcceptedApdu). IsAcceptable s message x) same (record {
          title = title;
          peer = peer;
          above = above;
          is = record {
            head = head;
            body = body;
            read = read;
            control = control;
            counted = refl;
            named = named;
            service = service;
            exact = opened_is s.policy (peer_use s title head.counter) body apdu opens;
          };
          short = opened_short s.policy (peer_use s title head.counter) body apdu opens;
        })
    by_service title head body apdu false service peer read named control above opens e = absurd cc

    by_opened : (title : List ℕ) (head : Head) (body : List ℕ) → (o : Result (List ℕ) UnprotectFault) → open_body s.policy (peer_use s title head.counter) body ≡ o
        → s.peer ≡ Some title → parts message ≡ Ok (head, body) → is_from head.title title ≡ true → head.control ≡ control_of s.policy → is_above s.accepted head.counter ≡ true
        → of_service s.kind head o ≡ Ok a → IsAcceptable s message a
    by_opened title head body (Ok apdu) opens peer read named control above e = by_service title head body apdu (is_of s.kind head.tag apdu) refl peer read named control above opens e
    by_opened title head body (Err f) opens peer read named control above e = absurd cc

    by_above : (title : List ℕ) (head : Head) (body : List ℕ) → (b : Bool) → is_above s.accepted head.counter ≡ b
        → s.peer ≡ Some title → parts message ≡ Ok (head, body) → is_from head.title title ≡ true → head.control ≡ control_of s.policy
        → (if b then of_service s.kind head (open_body s.policy (peer_use s title head.counter) body) else Err OldCounter) ≡ Ok a → IsAcceptable s message a
    by_above title head body true above peer read named control e =
        by_opened title head body (open_body s.policy (peer_use s title head.counter) body) refl peer read named control above e
    by_above title head body false above peer read named control e = absurd cc

    by_control : (title : List ℕ) (head : Head) (body : List ℕ) → (b : Bool) → (head.control == control_of s.policy) ≡ b
        → s.peer ≡ Some title → parts message ≡ Ok (head, body) → is_from head.title title ≡ true
        → (if b then (if is_above s.accepted head.counter then of_service s.kind head (open_body s.policy (peer_use s title head.counter) body) else Err OldCounter) else Err AnotherControl) ≡ Ok a → IsAcceptable s message a
    by_control title head body true t peer read named e =
        let control : head.control ≡ control_of s.policy = grind (arith, nat_tests) in
        by_above title head body (is_above s.accepted head.counter) refl peer read named control e
    by_control title head body false t peer read named e = absurd cc

    by_named : (title : List ℕ) (head : Head) (body : List ℕ) → (b : Bool) → is_from head.title title ≡ b
        → s.peer ≡ Some title → parts message ≡ Ok (head, body)
        → (if b then (if head.control == control_of s.policy then (if is_above s.accepted head.counter then of_service s.kind head (open_body s.policy (peer_use s title head.counter) body) else Err OldCounter) else Err AnotherControl) else Err AnotherTitle) ≡ Ok a → IsAcceptable s message a
    by_named title head body true named peer read e = by_control title head body (head.control == control_of s.policy) refl peer read named e
    by_named title head body false named peer read e = absurd cc

    by_peer : (head : Head) (body : List ℕ) → (p : Option (List ℕ)) → s.peer ≡ p → parts message ≡ Ok (head, body) → check_with s p head body ≡ Ok a → IsAcceptable s message a
    by_peer head body None peer read e = absurd cc
    by_peer head body (Some title) peer read e = by_named title head body (is_from head.title title) refl peer read e

    by_parts : (p : Result (Head × List ℕ) UnprotectFault) → parts message ≡ p → check_parts s p ≡ Ok a → IsAcceptable s message a
    by_parts (Ok found) read e = by_peer found.0 found.1 s.peer refl read e
    by_parts (Err f) read e = absurd cc

-- an acceptable message is accepted
acceptable_is : (s : SecurityState) (message : List ℕ) (a : AcceptedApdu) → IsAcceptable s message a → acceptance s message ≡ Ok a
acceptable_is s message a ok =
    let p = ok.is in
    let u = peer_use s ok.title in
    let opens : open_body s.policy (u a.counter) p.body ≡ Ok a.apdu =
    ap (open_body s.policy (u a.counter)) p.exact ∙ opened_back s.policy (u a.counter) a.apdu ok.short in
    ap (check_parts s) p.read ∙ ap (λ (t : Option (List ℕ)). check_with s t p.head p.body) ok.peer
    ∙ accepted_back s ok.title p.head p.body a.apdu p.named p.control (ap (is_above s.accepted) p.counted ∙ ok.above)
    (ap (λ (n : ℕ). open_body s.policy (peer_use s ok.title n) p.body) p.counted ∙ opens) p.service
    ∙ ap (λ (n : ℕ). Ok (record { counter = n; apdu = a.apdu })) p.counted

pub accepted_exactly : AcceptedExactly
accepted_exactly s message a = (accepted_is s message a, acceptable_is s message a)
