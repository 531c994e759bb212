-- Where the meter's title comes from, and that a protected message is no association request.
use Rattle.std.proofs.Common.{◌≡◌, ◌∙◌, refl, sym, ap, subst, arith, ℕ, ◌==◌, Bool, true, false, cond, nat_lt, List, [], ◌∷◌, length, Option, Some, None}
use Rattle.std.proofs.Common.{option_map, Result, Ok, Err}
use Rattle.std.proofs.lemmas.Bool.Decides.{nat_tests}
use Rattle.std.proofs.lemmas.List.Elements.{Contains-push}
use Rattle.std.proofs.lemmas.Slice.Eq.{bytes_eq-Decides}
use Rattle.std.specs.Str.{bytes_eq}
use Rattle.dlms_acse.specs.Reading.{inner_at}
use Rattle.dlms_security.specs.Form.{form_tag, front_of, general_tag, message_of}
use Rattle.dlms_security.specs.Run.{Event as SecurityCall}
use Rattle.dlms_security.specs.Security.{SecurityState, AcceptedApdu, message_for, message_with, with_counter, counter_for, content_for, answer_for}
use Rattle.dlms_security.specs.Security.{after_protect, acceptance, after_unprotect, after_learn, after_reserved}
use Rattle.dlms_security.specs.declared.fault.ProtectFault.{ProtectFault}
use Rattle.dlms_security.specs.declared.fault.ProtectFault.TheVariants as protect_fault
use Rattle.dlms_security.specs.declared.fault.UnprotectFault.{UnprotectFault}
use Rattle.dlms_security.specs.declared.form.Form.{Form}
use Rattle.dlms_security.specs.declared.form.Form.TheVariants.{Service, General}
use Rattle.dlms_security.specs.declared.kind.KeyKind.{KeyKind}
use Rattle.dlms_security.specs.declared.kind.KeyKind.TheVariants.{Global, Dedicated}
use Rattle.dlms_secured.specs.Made.{Made, made, continued, followed, unprotects, protects, answers, reply_of, replies, grants, is_title, opens}
use Rattle.dlms_secured.specs.declared.reply.Reply.{Reply}
use Rattle.dlms_secured.specs.Made.{learns, accepts_response, accepts_fields, accepts, releases_by, releases_with, releases_fields, releases, asks, leaves, may_answer}
use Rattle.dlms_secured.specs.Messages.{secured_aarq, secured_rlrq, clear_size, begins}
use Rattle.dlms_secured.specs.Response.{Response, response_in, granted_in, value_in}
use Rattle.dlms_secured.specs.Run.{Learned, AsBefore, ByResponse}
use Rattle.dlms_secured.specs.declared.fault.SecuredFault.{SecuredFault}
use Rattle.dlms_secured.specs.declared.fault.SecuredFault.TheVariants as fault
use Rattle.dlms_secured.specs.declared.messages.TheConstants.{LEAST_CLEAR, MOST_FIELD}
use Rattle.dlms_secured.specs.declared.stage.Granted.{Granted}

-- ---- a protected message has another tag than an association request

form_other : (kind : KeyKind) (tag form : ℕ) → form_tag kind tag ≡ Some form → (form == 0x60) ≡ false
form_other Global tag form e = grind (arith, nat_tests)
form_other Dedicated tag form e = grind (arith, nat_tests)

general_other : (kind : KeyKind) → (general_tag kind == 0x60) ≡ false
general_other Global = refl
general_other Dedicated = refl

front_other : (kind : KeyKind) (form : Form) (title apdu front inner : List ℕ) → front_of kind form title apdu ≡ Some front
    → begins 0x60 (message_of front inner) ≡ false
front_other kind Service title [] front inner e = absurd cc
front_other kind Service title (first ∷ rest) front inner e = by_tag (form_tag kind first) refl e
  where
    by_tag : (o : Option ℕ) → form_tag kind first ≡ o → option_map (λ (tag : ℕ). tag ∷ []) o ≡ Some front → begins 0x60 (message_of front inner) ≡ false
    by_tag None is e = absurd cc
    by_tag (Some tag) is e =
        let same : tag ∷ [] ≡ front = cc in
        subst (λ (f : List ℕ). begins 0x60 (message_of f inner) ≡ false) same (form_other kind first tag is)
front_other kind General title apdu front inner e =
    let same : general_tag kind ∷ 8 ∷ title ≡ front = cc in
    subst (λ (f : List ℕ). begins 0x60 (message_of f inner) ≡ false) same (general_other kind)

pub protected_other : (s : SecurityState) (form : Form) (apdu message : List ℕ) → message_for s form apdu ≡ Ok message → begins 0x60 message ≡ false
protected_other s form apdu message e = by_long (nat_lt 1024 (length apdu)) e
  where
    by_counter : (front : List ℕ) → front_of s.kind form s.own apdu ≡ Some front → (c : Result ℕ ProtectFault)
        → with_counter c (message_of front (content_for s apdu)) ≡ Ok message → begins 0x60 message ≡ false
    by_counter front is (Ok n) e =
        let same : message_of front (content_for s apdu) ≡ message = cc in
        subst (λ (m : List ℕ). begins 0x60 m ≡ false) same (front_other s.kind form s.own apdu front (content_for s apdu) is)
    by_counter front is (Err why) e = absurd cc

    by_front : (front : Option (List ℕ)) → front_of s.kind form s.own apdu ≡ front → message_with s front apdu ≡ Ok message → begins 0x60 message ≡ false
    by_front None is e = absurd cc
    by_front (Some front) is e = by_counter front is (counter_for s) e

    by_long : (b : Bool) → cond {A = Result (List ℕ) ProtectFault} b (Err protect_fault.Long) (message_with s (front_of s.kind form s.own apdu) apdu) ≡ Ok
        message → begins 0x60 message ≡ false
    by_long true e = absurd cc
    by_long false e = by_front (front_of s.kind form s.own apdu) refl e

-- ---- only an association response teaches a title

pub protect_peer : (s : SecurityState) (r : Result (List ℕ) ProtectFault) → (after_protect s r).peer ≡ s.peer
protect_peer s (Ok message) = refl
protect_peer s (Err why) = refl

pub unprotect_peer : (s : SecurityState) (r : Result AcceptedApdu UnprotectFault) → (after_unprotect s r).peer ≡ s.peer
unprotect_peer s (Ok apdu) = refl
unprotect_peer s (Err why) = refl

pub reserved_peer : (s : SecurityState) (upto : ℕ) → (after_reserved s upto).peer ≡ s.peer
reserved_peer s upto = by_test (nat_lt s.reserved upto)
  where
    by_test : (b : Bool) → (cond b (record s { reserved = upto }) s).peer ≡ s.peer
    by_test true = refl
    by_test false = refl

abbrev Keeps : {A : Type 0} → SecurityState → Made A → Type 0
Keeps s m = m.security.peer ≡ s.peer

continued_peer : {A B : Type 0} (s t : SecurityState) (calls : List SecurityCall) (r : Result A SecuredFault) (next : SecurityState → A → Made B)
    → t.peer ≡ s.peer → ((x : A) → Keeps t (next t x)) → Keeps s (continued t calls r next)
continued_peer s t calls (Ok x) next e k = k x ∙ e
continued_peer s t calls (Err why) next e k = e

pub unprotects_peer : (s : SecurityState) (message : List ℕ) → Keeps s (unprotects s message)
unfolding unprotects
unprotects_peer s message = unprotect_peer s (acceptance s message)

pub protects_peer : (s : SecurityState) (form : Form) (most : ℕ) (apdu : List ℕ) → Keeps s (protects s form most apdu)
unfolding protects
protects_peer s form most apdu = protect_peer s (message_for s form apdu)

answers_peer : (s : SecurityState) (challenge : List ℕ) → Keeps s (answers s challenge)
unfolding answers
answers_peer s challenge = protect_peer s (answer_for s challenge)

replies_peer : (s : SecurityState) (response : Response) (granted : Granted) → Keeps s (replies s response granted)
unfolding replies
replies_peer s response granted =
    let a : Made (List ℕ) = answers s response.challenge in
    continued_peer s a.security a.calls a.result (λ (t : SecurityState) (answer : List ℕ). made t (Ok (reply_of response.title granted answer)))
    (answers_peer s response.challenge) (λ answer. refl)

grants_peer : (s : SecurityState) (response : Response) (granted : Option Granted) → Keeps s (grants s response granted)
grants_peer s response None = refl
grants_peer s response (Some granted) = by_test (nat_lt (clear_size granted.size) LEAST_CLEAR)
  where
    by_test : (b : Bool) → Keeps s (cond b (made s (Err fault.Size)) (replies s response granted))
    by_test true = refl
    by_test false = replies_peer s response granted

abbrev opened_next : Response → SecurityState → List ℕ → Made Reply
opened_next response t apdu = grants t response (granted_in apdu)

opens_peer : (s : SecurityState) (response : Response) → Keeps s (opens s response)
opens_peer s response = by_test (is_title response.title s.peer)
  where
    by_test : (b : Bool) → Keeps s (cond b (followed (unprotects s response.message) (opened_next response)) (made s (Err fault.Title)))
    by_test true =
        let u : Made (List ℕ) = unprotects s response.message in
        continued_peer s u.security u.calls u.result (opened_next response) (unprotects_peer s response.message)
        (λ apdu. grants_peer u.security response (granted_in apdu))
    by_test false = refl

-- ---- an accepted response is of the title that is known after it

replies_title : (s : SecurityState) (response : Response) (granted : Granted) (reply : Reply) → (replies s response granted).result ≡ Ok reply
    → reply.title ≡ response.title
unfolding replies
replies_title s response granted reply e = by_result (answers s response.challenge).result e
  where
    by_result : (r : Result (List ℕ) SecuredFault)
        → (continued (answers s response.challenge).security (answers s response.challenge).calls r
        (λ (t : SecurityState) (answer : List ℕ). made t (Ok (reply_of response.title granted answer)))).result ≡ Ok reply
        → reply.title ≡ response.title
    by_result (Ok answer) e =
        let whole : reply_of response.title granted answer ≡ reply = let same = e in cc in sym (ap (λ (x : Reply). x.title) whole)
    by_result (Err why) e = absurd cc

grants_title : (s : SecurityState) (response : Response) (granted : Option Granted) (reply : Reply) → (grants s response granted).result ≡ Ok reply
    → reply.title ≡ response.title
grants_title s response None reply e = absurd cc
grants_title s response (Some granted) reply e = by_test (nat_lt (clear_size granted.size) LEAST_CLEAR) e
  where
    by_test : (b : Bool) → (cond b (made s (Err fault.Size)) (replies s response granted)).result ≡ Ok reply → reply.title ≡ response.title
    by_test true e = absurd cc
    by_test false e = replies_title s response granted reply e

named : (title : List ℕ) (peer : Option (List ℕ)) → is_title title peer ≡ true → peer ≡ Some title
named title None e = absurd cc
named title (Some peer) e = ap (λ (l : List ℕ). Some l) ((bytes_eq-Decides peer title).0 e)

opens_title : (s : SecurityState) (response : Response) (reply : Reply) → (opens s response).result ≡ Ok reply
    → (opens s response).security.peer ≡ Some reply.title
opens_title s response reply e = opens_peer s response ∙ by_test (is_title response.title s.peer) refl e
  where
    by_opened : (r : Result (List ℕ) SecuredFault)
        → (continued (unprotects s response.message).security (unprotects s response.message).calls r (opened_next response)).result ≡ Ok reply
        → reply.title ≡ response.title
    by_opened (Ok apdu) e = grants_title (unprotects s response.message).security response (granted_in apdu) reply e
    by_opened (Err why) e = absurd cc

    by_test : (b : Bool) → is_title response.title s.peer ≡ b
        → (cond b (followed (unprotects s response.message) (opened_next response)) (made s (Err fault.Title))).result ≡ Ok reply
        → s.peer ≡ Some reply.title
    by_test true is e = named response.title s.peer is ∙ ap (λ (l : List ℕ). Some l) (sym (by_opened (unprotects s response.message).result e))
    by_test false is e = absurd cc

pub accepts_known : (s : SecurityState) (own apdu : List ℕ) (reply : Reply) → (accepts s own apdu).result ≡ Ok reply
    → (accepts s own apdu).security.peer ≡ Some reply.title
unfolding accepts
accepts_known s own apdu reply e = by_fields (inner_at 0x61 apdu) e
  where
    by_test : (response : Response) (b : Bool) → (cond b (learns s response) (made s (Err fault.NoChallenge))).result ≡ Ok reply
        → (cond b (learns s response) (made s (Err fault.NoChallenge))).security.peer ≡ Some reply.title
    by_test response true e = opens_title (after_learn s s.peer response.title) response reply e
    by_test response false e = absurd cc

    by_response : (r : Result Response SecuredFault) → (accepts_response s r).result ≡ Ok reply → (accepts_response s r).security.peer ≡ Some reply.title
    by_response (Ok response) e = by_test response (may_answer s.policy response.challenge) e
    by_response (Err why) e = absurd cc

    by_fields : (fields : Option (List ℕ)) → (accepts_fields s own fields).result ≡ Ok reply → (accepts_fields s own fields).security.peer ≡ Some reply.title
    by_fields None e = absurd cc
    by_fields (Some fields) e = by_response (response_in s.own own fields) e

pub accepts_title : (s : SecurityState) (own apdu : List ℕ)
    → Learned s.own s.peer (own ∷ []) (apdu ∷ []) (accepts s own apdu).security.peer
unfolding accepts
accepts_title s own apdu = by_fields (inner_at 0x61 apdu) refl
  where
    by_own : (fields : List ℕ) (response : Response) (peer : Option (List ℕ)) → inner_at 0x61 apdu ≡ Some fields → response_in s.own own fields ≡ Ok response
        → s.peer ≡ None → (b : Bool) → peer ≡ (cond b s (record s { peer = Some response.title })).peer
        → Learned s.own s.peer (own ∷ []) (apdu ∷ []) peer
    by_own fields response peer in_it is none true e = AsBefore e
    by_own fields response peer in_it is none false e = ByResponse response.title own apdu none e (Contains-push [] own) (Contains-push [] apdu)
        (record { fields = fields; response = response; in_it = in_it; reads = is; named = refl })

    by_known : (fields : List ℕ) (response : Response) → inner_at 0x61 apdu ≡ Some fields → response_in s.own own fields ≡ Ok response
        → (known : Option (List ℕ)) → s.peer ≡ known → Learned s.own s.peer (own ∷ []) (apdu ∷ []) (learns s response).security.peer
    by_known fields response in_it is (Some title) e = AsBefore
        (opens_peer (after_learn s s.peer response.title) response ∙ ap (λ (o : Option (List ℕ)). (after_learn s o response.title).peer) e)
    by_known fields response in_it is None e =
        by_own fields response (learns s response).security.peer in_it is e (bytes_eq response.title s.own)
        (opens_peer (after_learn s s.peer response.title) response ∙ ap (λ (o : Option (List ℕ)). (after_learn s o response.title).peer) e)

    by_response : (fields : List ℕ) → inner_at 0x61 apdu ≡ Some fields → (r : Result Response SecuredFault) → response_in s.own own fields ≡ r
        → Learned s.own s.peer (own ∷ []) (apdu ∷ []) (accepts_response s r).security.peer
    by_response fields in_it (Ok response) is = by_test (may_answer s.policy response.challenge)
      where
        by_test : (b : Bool)
            → Learned s.own s.peer (own ∷ []) (apdu ∷ []) (cond b (learns s response) (made s (Err fault.NoChallenge))).security.peer
        by_test true = by_known fields response in_it is s.peer refl
        by_test false = AsBefore refl
    by_response fields in_it (Err why) is = AsBefore refl

    by_fields : (fields : Option (List ℕ)) → inner_at 0x61 apdu ≡ fields
        → Learned s.own s.peer (own ∷ []) (apdu ∷ []) (accepts_fields s own fields).security.peer
    by_fields None in_it = AsBefore refl
    by_fields (Some fields) in_it = by_response fields in_it (response_in s.own own fields) refl

by_peer : (s : SecurityState) (message : Option (List ℕ)) → Keeps s (releases_by s message)
by_peer s None = refl
by_peer s (Some message) =
    let u : Made (List ℕ) = unprotects s message in
    continued_peer s u.security u.calls u.result (λ (t : SecurityState) (apdu : List ℕ). made t (Ok tt)) (unprotects_peer s message) (λ x. refl)

with_peer : (s : SecurityState) (value : Option (List ℕ)) → Keeps s (releases_with s value)
with_peer s None = refl
with_peer s (Some value) = by_peer s (inner_at 0x04 value)

fields_peer : (s : SecurityState) (fields : Option (List ℕ)) → Keeps s (releases_fields s fields)
fields_peer s None = refl
fields_peer s (Some fields) = with_peer s (value_in 0xBE fields)

pub releases_peer : (s : SecurityState) (apdu : List ℕ) → Keeps s (releases s apdu)
unfolding releases
releases_peer s apdu = fields_peer s (inner_at 0x63 apdu)

pub asks_peer : (s : SecurityState) (form : Form) (own initiate : List ℕ) → Keeps s (asks s form own initiate)
unfolding asks
asks_peer s form own initiate =
    let p : Made (List ℕ) = protects s form MOST_FIELD initiate in
    continued_peer s p.security p.calls p.result (λ (t : SecurityState) (message : List ℕ). made t (Ok (secured_aarq s.own own message)))
    (protects_peer s form MOST_FIELD initiate) (λ x. refl)

pub leaves_peer : (s : SecurityState) (form : Form) (initiate : List ℕ) → Keeps s (leaves s form initiate)
unfolding leaves
leaves_peer s form initiate =
    let p : Made (List ℕ) = protects s form MOST_FIELD initiate in
    continued_peer s p.security p.calls p.result (λ (t : SecurityState) (message : List ℕ). made t (Ok (secured_rlrq message)))
    (protects_peer s form MOST_FIELD initiate) (λ x. refl)
