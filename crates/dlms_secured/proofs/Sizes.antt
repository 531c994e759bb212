-- Messages fit, the plain association response is read again, and associations exist.
use Rattle.std.proofs.Common.{◌≡◌, ◌∙◌, refl, sym, ap, subst, arith, ℕ, ◌+◌, ◌*◌, ◌/◌, ◌%◌, ◌-◌, ◌≤◌, ◌<◌, ◌^◌, ◌==◌, min}
use Rattle.std.proofs.Common.{Bool, true, false, cond, nat_lt, List, [], ◌∷◌, ◌++◌, length, length-append, Option, Some, None, option_map, Result, Ok, Err}
use Rattle.std.proofs.lemmas.Bool.Decides.{nat_tests}
use Rattle.std.specs.Int.{w32, to_be_bytes}
use Rattle.dlms_acse.specs.Reading.{aare_at, aarq_at, body_at, octets_at, length_at, number_at, taken_at, inner_at, response_at}
use Rattle.dlms_acse.specs.declared.aarq.Initiate.{Initiate}
use Rattle.dlms_acse.specs.declared.outcome.Verdict.TheVariants.{Accepted}
use Rattle.dlms_security.proofs.MessageLemmas.{seal_long, signature_long, text_long}
use Rattle.dlms_security.specs.Body.{Use, body_of, control_of, text_of, seal_of, signature_of}
use Rattle.dlms_security.specs.Form.{content, length_octets, message_of, front_of, form_tag, general_tag}
use Rattle.dlms_security.specs.Run.{IsState, RoundTrip}
use Rattle.dlms_security.specs.Security.{SecurityState, AcceptedApdu, message_for, message_with, with_counter, counter_for, own_use, content_for, acceptance}
use Rattle.dlms_security.specs.Security.{apdu_in}
use Rattle.dlms_security.specs.declared.fault.ProtectFault.{ProtectFault}
use Rattle.dlms_security.specs.declared.fault.ProtectFault.TheVariants as protect_fault
use Rattle.dlms_security.specs.declared.fault.UnprotectFault.{UnprotectFault}
use Rattle.dlms_security.specs.declared.form.Form.{Form}
use Rattle.dlms_security.specs.declared.form.Form.TheVariants.{Service, General}
use Rattle.dlms_security.specs.declared.kind.KeyKind.{KeyKind}
use Rattle.dlms_security.specs.declared.kind.KeyKind.TheVariants.{Global}
use Rattle.dlms_security.specs.declared.policy.Policy.{Policy}
use Rattle.dlms_security.specs.declared.policy.Policy.TheVariants.{Authenticated, Encrypted, AuthenticatedEncrypted}
use Rattle.dlms_secured.specs.Guard.{GuardValue, Hands, TakesIn, fails, gives_in, gives_initiate, gives_closed, initiate_in, hands, takes_open}
use Rattle.dlms_secured.specs.Guard.{proposes, opened_by}
use Rattle.dlms_secured.specs.Guard.{takes_message, takes_release}
use Rattle.dlms_secured.specs.Made.{continued, made, within, protects, asks, unprotects, or_refusal, through}
use Rattle.dlms_secured.specs.Messages.{aare_of, clear_size, secured_aarq, initiate_of, begins}
use Rattle.std.specs.Prelude.{IfSome}
use Rattle.dlms_acse.specs.Writing.{conformance_head, three_bytes, two_bytes}
use Rattle.dlms_secured.specs.Sizes.{FitsIn, ResponsesAreRead, AssociationsBegin, MessagesAreHandedUp, SessionsAreHandedUp}
use Rattle.dlms_secured.specs.declared.fault.SecuredFault.{SecuredFault}
use Rattle.dlms_secured.specs.declared.fault.SecuredFault.TheVariants as fault
use Rattle.dlms_secured.specs.declared.messages.TheConstants.{MOST_FIELD, LEAST_CLEAR}
use Rattle.dlms_secured.specs.declared.stage.Stage.{Stage}
use Rattle.dlms_secured.specs.declared.stage.Stage.TheVariants.{Open}

-- ---- lengths

body_long : (policy : Policy) (u : Use) (apdu : List ℕ) → length (body_of policy u apdu) ≤ length apdu + 12
body_long Authenticated u apdu = omega (arith, length-append apdu (signature_of u apdu), signature_long u apdu)
body_long Encrypted u apdu = omega (arith, text_long u apdu)
body_long AuthenticatedEncrypted u apdu = omega (
  arith,
  length-append (text_of u apdu) (seal_of u (text_of u apdu)),
  seal_long u (text_of u apdu),
  text_long u apdu,
)

octets_long : (n : ℕ) → length (length_octets n) ≤ 3
octets_long n = by_tests (nat_lt n 0x80) (nat_lt n 0x100)
  where
    by_tests : (a b : Bool) → length (cond a (n ∷ []) (cond b (0x81 ∷ n ∷ []) (0x82 ∷ n / 256 ∷ n % 256 ∷ []))) ≤ 3
    by_tests true b = omega arith
    by_tests false true = omega arith
    by_tests false false = omega arith

service_long : (tag : Option ℕ) (front : List ℕ) → option_map (λ (tag : ℕ). tag ∷ []) tag ≡ Some front → length front ≤ 10
service_long None front e = absurd cc
service_long (Some tag) front e = let same : tag ∷ [] ≡ front = cc in subst (λ (l : List ℕ). length l ≤ 10) same (omega arith)

front_long : (kind : KeyKind) (form : Form) (title apdu front : List ℕ) → length title ≡ 8 → front_of kind form title apdu ≡ Some front → length front ≤ 10
front_long kind Service title [] front eight e = absurd cc
front_long kind Service title (first ∷ rest) front eight e = service_long (form_tag kind first) front e
front_long kind General title apdu front eight e =
    let same : general_tag kind ∷ 8 ∷ title ≡ front = cc in
    subst (λ (l : List ℕ). length l ≤ 10) same (omega (arith, eight))

content_long : (control counter : ℕ) (body : List ℕ) → length (content control counter body) ≡ 5 + length body
content_long control counter body = omega (arith, length-append (to_be_bytes w32 counter) body)

pub message_long : (s : SecurityState) (form : Form) (apdu message : List ℕ) → length s.own ≡ 8 → message_for s form apdu ≡ Ok message
    → length message ≤ length apdu + 30
message_long s form apdu message eight e = by_long (nat_lt 1024 (length apdu)) e
  where
    by_counter : (front : List ℕ) (c : Result ℕ ProtectFault) → length front ≤ 10 → with_counter c (message_of front (content_for s apdu)) ≡ Ok message
        → length message ≤ length apdu + 30
    by_counter front (Ok n) short e =
        let inner : List ℕ = content_for s apdu in
        let same : message_of front inner ≡ message = cc in
        subst (λ (l : List ℕ). length l ≤ length apdu + 30) same
        (omega (
          arith,
          length-append front (length_octets (length inner)),
          length-append (front ++ length_octets (length inner)) inner,
          octets_long (length inner),
          content_long (control_of s.policy) s.next (body_of s.policy (own_use s) apdu),
          body_long s.policy (own_use s) apdu,
        ))
    by_counter front (Err why) short e = absurd cc

    by_front : (front : Option (List ℕ)) → front_of s.kind form s.own apdu ≡ front → message_with s front apdu ≡ Ok message
        → length message ≤ length apdu + 30
    by_front None is e = absurd cc
    by_front (Some front) is e = by_counter front (counter_for s) (front_long s.kind form s.own apdu front eight is) e

    by_long : (b : Bool) → cond {A = Result (List ℕ) ProtectFault} b (Err protect_fault.Long) (message_with s (front_of s.kind form s.own apdu) apdu) ≡ Ok
        message → length message ≤ length apdu + 30
    by_long true e = absurd cc
    by_long false e = by_front (front_of s.kind form s.own apdu) refl e

pub messages_fit : (s : SecurityState) (form : Form) (apdu message : List ℕ) (size : ℕ) → IsState s → length apdu ≤ clear_size size
    → LEAST_CLEAR ≤ clear_size size → message_for s form apdu ≡ Ok message → FitsIn size message
messages_fit s form apdu message size state short least e =
    let long : length message ≤ length apdu + 30 = message_long s form apdu message state.title e in
    by_test (size == 0) refl
  where
    by_test : (b : Bool) → (size == 0) ≡ b → FitsIn size message
    by_test true is =
        let none : size ≡ 0 = grind (arith, nat_tests) in
        let all : clear_size size ≡ 984 = ap clear_size none in
        let long : length message ≤ length apdu + 30 = message_long s form apdu message state.title e in
        record { carried = omega arith; received = λ some. absurd (omega arith) }
    by_test false is =
        let all : clear_size size ≡ min size 1024 - 40 = rw is refl in
        let long : length message ≤ length apdu + 30 = message_long s form apdu message state.title e in
        record { carried = omega arith; received = λ some. omega arith }

-- ---- the plain association response

read_again : (h m l n : ℕ) → aare_at (aare_of (h ∷ m ∷ l ∷ []) n) ≡ Ok (Accepted (record { 0 = 65536 * h + 256 * m + l }) (256 * (n / 256) + n % 256))
unfolding body_at octets_at length_at number_at taken_at inner_at response_at
read_again h m l n = refl

pub responses_are_read : ResponsesAreRead
responses_are_read h m l size =
    let n : ℕ = clear_size size in
    let whole : 256 * (n / 256) + n % 256 ≡ n = omega arith in
    read_again h m l n ∙ ap (λ (k : ℕ). Ok (Accepted (record { 0 = 65536 * h + 256 * m + l }) k)) whole

-- ---- instances

counter_left : (s : SecurityState) → IsState s → s.next < s.reserved → counter_for s ≡ Ok s.next
counter_left s state below =
    let fits : s.reserved < 2 ^ 32 = state.fits in
    let not_last : (s.next == 2 ^ 32 - 1) ≡ false = grind (arith, nat_tests) in
    let left : nat_lt s.next s.reserved ≡ true = grind (arith, nat_tests) in
    rw (not_last, left) refl

abbrev said : Option (List ℕ) → Form → Initiate → List ℕ
said key form i = initiate_of key (proposes form i.conformance.0) i.size

front_is : (kind : KeyKind) (form : Form) (title : List ℕ) (key : Option (List ℕ)) (of : Form) (i : Initiate) → kind ≡ Global → (front : List ℕ)
    × (front_of kind form title (said key of i) ≡ Some front)
front_is kind Service title None of i is = (0x21 ∷ [], ap (λ (k : KeyKind). front_of k Service title (said None of i)) is)
front_is kind Service title (Some key) of i is = (0x21 ∷ [], ap (λ (k : KeyKind). front_of k Service title (said (Some key) of i)) is)
front_is kind General title key of i is = (_, refl)

said_long : (key : Option (List ℕ)) (of : Form) (i : Initiate) → IfSome key (λ k. length k ≡ 16) → length (said key of i) ≤ 31
said_long None of i h = omega arith
said_long (Some key) of i h = omega (
  arith,
  h,
  length-append key (0x00 ∷ 0x00 ∷ 0x06 ∷ (conformance_head ++ three_bytes (proposes of i.conformance.0) ++ two_bytes i.size)),
)

within_short : (most : ℕ) (message : List ℕ) → length message ≤ most → within most (Ok message) ≡ Ok message
within_short most message short = let no : nat_lt most (length message) ≡ false = grind (arith, nat_tests) in rw no refl

initiate_goes : (s : SecurityState) (form : Form) (key : Option (List ℕ)) (of : Form) (i : Initiate) → IsState s → s.kind ≡ Global → s.next < s.reserved
    → IfSome key (λ k. length k ≡ 16) → (message : List ℕ)
    × ((protects s form MOST_FIELD (said key of i)).result ≡ Ok message)
unfolding protects
initiate_goes s form key of i state global below sized =
    let front = front_is s.kind form s.own key of i global in
    let message : List ℕ = message_of front.0 (content_for s (said key of i)) in
    let clear : length (said key of i) ≤ 31 = said_long key of i sized in
    let fits : nat_lt 1024 (length (said key of i)) ≡ false = grind (arith, nat_tests) in
    let is : message_for s form (said key of i) ≡ Ok message =
    ap (λ (b : Bool). cond {A = Result (List ℕ) ProtectFault} b (Err protect_fault.Long)
    (message_with s (front_of s.kind form s.own (said key of i)) (said key of i))) fits
    ∙ ap (λ (f : Option (List ℕ)). message_with s f (said key of i)) front.1
    ∙ ap (λ (c : Result ℕ ProtectFault). with_counter c message) (counter_left s state below) in
    let long : length message ≤ length (said key of i) + 30 = message_long s form (said key of i) message state.title is in
    (message, ap (within 64) is ∙ within_short 64 message (omega arith))

pub associations_begin : AssociationsBegin
unfolding gives_closed asks
associations_begin g apdu request i state closed unused global below sized read proposes =
    let goes = initiate_goes g.security Service g.key g.form i state global below sized in
    let initiate : initiate_in g.key g.form (aarq_at apdu) ≡ Some (said g.key g.form i) = ap (initiate_in g.key g.form) read ∙ ap (λ (o : Option Initiate). option_map (said g.key g.form) o) proposes in (
      goes.0,
      ap (λ (stage : Stage). (gives_in stage g apdu).result) closed
          ∙ ap (λ (b : Bool). (cond b (gives_initiate g (initiate_in g.key g.form (aarq_at apdu))) (fails g fault.Challenge)).result) unused
          ∙ ap (λ (o : Option (List ℕ)). (gives_initiate g o).result) initiate
          ∙ ap (λ (r : Result (List ℕ) SecuredFault). (continued (protects g.security Service MOST_FIELD (said g.key g.form i)).security
          (protects g.security Service MOST_FIELD (said g.key g.form i)).calls r
          (λ (t : SecurityState) (message : List ℕ). made t (Ok (secured_aarq g.security.own g.challenge message)))).result) goes.1,
    )

-- the layer that a message is opened by hands its APDU up
opened_up : (g : GuardValue) (message apdu : List ℕ) → g.stage ≡ Open → begins 0x63 message ≡ false → (opened_by g message).result ≡ Ok apdu
    → (h : GuardValue) × TakesIn g.stage g message (Ok Hands) h × (h.handed ≡ apdu)
unfolding takes_open takes_message
opened_up g message apdu open_ tag is =
    let h : GuardValue = (takes_open g message).guard in
    let result : Ok Hands ≡ (takes_open g message).result = sym (
    ap (λ (b : Bool). (cond b (takes_release g message) (takes_message g message)).result) tag
    ∙ ap (λ (r : Result (List ℕ) SecuredFault). (hands g (opened_by g message) Open r).result) is) in
    let handed : h.handed ≡ apdu =
    ap (λ (b : Bool). (cond b (takes_release g message) (takes_message g message)).guard.handed) tag
    ∙ ap (λ (r : Result (List ℕ) SecuredFault). (hands g (opened_by g message) Open r).guard.handed) is in
    (h, subst (λ (stage : Stage). TakesIn stage g message (Ok Hands) h) (sym open_) (result, refl), handed)

unprotected : (s : SecurityState) (message apdu : List ℕ) (counter : ℕ) → acceptance s message ≡ Ok (record { counter = counter; apdu = apdu })
    → (unprotects s message).result ≡ Ok apdu
unfolding unprotects
unprotected s message apdu counter is = ap (λ (r : Result AcceptedApdu UnprotectFault). or_refusal (apdu_in r)) is

pub messages_are_handed_up : RoundTrip → MessagesAreHandedUp
messages_are_handed_up law g peer form apdu message open_ none state peers above tag sent =
    opened_up g message apdu open_ tag
    (ap (λ (d : Option SecurityState). (through g.security d (λ (s : SecurityState). unprotects s message)).result) none
    ∙ unprotected g.security message apdu peer.next (law peer g.security form apdu message state peers above sent))

pub sessions_are_handed_up : RoundTrip → SessionsAreHandedUp
sessions_are_handed_up law g d peer form apdu message open_ some state peers above tag sent =
    opened_up g message apdu open_ tag
    (ap (λ (o : Option SecurityState). (through g.security o (λ (s : SecurityState). unprotects s message)).result) some
    ∙ unprotected d message apdu peer.next (law peer d form apdu message state peers above sent))
