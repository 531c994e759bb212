-- The calls of the security layer that a result is made of are a run of it, and at most one message goes out.
use Rattle.std.proofs.Common.{◌≡◌, ◌∙◌, refl, ap, subst, append-nil, ℕ, Bool, true, false, cond, nat_lt, List, [], ◌∷◌, ◌++◌, length, Option, Some, None}
use Rattle.std.proofs.Common.{Result, Ok, Err}
use Rattle.std.specs.Prelude.{All}
use Rattle.std.proofs.lemmas.List.Elements.{All-nil, All-cons, All-append}
use Rattle.dlms_acse.specs.Reading.{inner_at}
use Rattle.dlms_security.specs.Run.{Event as SecurityCall, Protects, Unprotects, Reserves, Learns, Answers, Stops, AreSteps, IsStep, Exchange, outgoing}
use Rattle.dlms_security.specs.Run.{outgoing_with, incoming, incoming_with}
use Rattle.dlms_security.specs.Security.{SecurityState, message_for, answer_for, after_protect, acceptance, apdu_in, after_unprotect, after_learn}
use Rattle.dlms_security.specs.declared.fault.ProtectFault.{ProtectFault}
use Rattle.dlms_security.specs.declared.fault.UnprotectFault.{UnprotectFault}
use Rattle.dlms_security.specs.declared.form.Form.{Form}
use Rattle.dlms_secured.specs.Made.{Made, made, continued, followed, unprotects, or_refusal, protects, within, answers, reply_of}
use Rattle.dlms_secured.specs.declared.reply.Reply.{Reply}
use Rattle.dlms_secured.specs.Made.{replies, grants, is_title, opens, learns, accepts_response, accepts_fields, accepts, releases_by, releases_with}
use Rattle.dlms_secured.specs.Made.{releases_fields, releases, asks, leaves, may_answer}
use Rattle.dlms_secured.specs.Messages.{secured_aarq, secured_rlrq, clear_size, begins}
use Rattle.dlms_secured.proofs.TitleLemmas.{protected_other}
use Rattle.dlms_secured.specs.Run.{IsNoStop, exchange}
use Rattle.dlms_secured.specs.Response.{Response, response_in, granted_in, value_in}
use Rattle.dlms_secured.specs.declared.fault.SecuredFault.{SecuredFault}
use Rattle.dlms_secured.specs.declared.fault.SecuredFault.TheVariants as fault
use Rattle.dlms_secured.specs.declared.messages.TheConstants.{LEAST_CLEAR, MOST_FIELD}
use Rattle.dlms_secured.specs.declared.stage.Granted.{Granted}

-- ---- lists of calls

pub steps_append : (xs ys : List SecurityCall) (a b c : SecurityState) → AreSteps a xs b → AreSteps b ys c → AreSteps a (xs ++ ys) c
steps_append [] ys a b c h k = subst (λ (x : SecurityState). AreSteps x ys c) h k
steps_append (x ∷ xs) ys a b c h k = (h.0, h.1, steps_append xs ys h.0 b c h.2 k)

one_step : (s : SecurityState) (call : SecurityCall) (t : SecurityState) → IsStep s call t → AreSteps s (call ∷ []) t
one_step s call t h = (t, h, refl)

pub outgoing_append : (xs ys : List SecurityCall) → outgoing (xs ++ ys) ≡ outgoing xs ++ outgoing ys
outgoing_append [] ys = refl
outgoing_append (Protects form apdu (Ok message) ∷ xs) ys = ap (λ (l : List Exchange). record { message = message; apdu = apdu } ∷ l) (outgoing_append xs ys)
outgoing_append (Protects form apdu (Err why) ∷ xs) ys = outgoing_append xs ys
outgoing_append (Unprotects message result ∷ xs) ys = outgoing_append xs ys
outgoing_append (Reserves upto ∷ xs) ys = outgoing_append xs ys
outgoing_append (Learns title ∷ xs) ys = outgoing_append xs ys
outgoing_append (Answers challenge result ∷ xs) ys = outgoing_append xs ys
outgoing_append (Stops stored ∷ xs) ys = outgoing_append xs ys

pub incoming_append : (xs ys : List SecurityCall) → incoming (xs ++ ys) ≡ incoming xs ++ incoming ys
incoming_append [] ys = refl
incoming_append (Protects form apdu result ∷ xs) ys = incoming_append xs ys
incoming_append (Unprotects message (Ok apdu) ∷ xs) ys = ap (λ (l : List Exchange). record { message = message; apdu = apdu } ∷ l) (incoming_append xs ys)
incoming_append (Unprotects message (Err why) ∷ xs) ys = incoming_append xs ys
incoming_append (Reserves upto ∷ xs) ys = incoming_append xs ys
incoming_append (Learns title ∷ xs) ys = incoming_append xs ys
incoming_append (Answers challenge result ∷ xs) ys = incoming_append xs ys
incoming_append (Stops stored ∷ xs) ys = incoming_append xs ys

-- ---- a result is sound: its calls lead to its state

pub record Led (s : SecurityState) (calls : List SecurityCall) (t : SecurityState) : Type 0 where
  pub steps : AreSteps s calls t
  pub unstopped : All IsNoStop calls

pub led_none : (s : SecurityState) → Led s [] s
led_none s = record { steps = refl; unstopped = All-nil IsNoStop }

pub led_append : (xs ys : List SecurityCall) (a b c : SecurityState) → Led a xs b → Led b ys c → Led a (xs ++ ys) c
led_append xs ys a b c h k = record { steps = steps_append xs ys a b c h.steps k.steps; unstopped = All-append IsNoStop xs ys h.unstopped k.unstopped }

led_one : (s : SecurityState) (call : SecurityCall) (t : SecurityState) → IsStep s call t → IsNoStop call → Led s (call ∷ []) t
led_one s call t h none = record { steps = one_step s call t h; unstopped = All-cons IsNoStop call [] none (All-nil IsNoStop) }

abbrev pub Sound : {A : Type 0} → SecurityState → Made A → Type 0
Sound s m = Led s m.calls m.security

pub sound_continued : {A B : Type 0} (s t : SecurityState) (calls : List SecurityCall) (r : Result A SecuredFault) (next : SecurityState → A → Made B)
    → Led s calls t → ((x : A) → Sound t (next t x)) → Sound s (continued t calls r next)
sound_continued s t calls (Ok x) next h k = led_append calls (next t x).calls s t (next t x).security h (k x)
sound_continued s t calls (Err why) next h k = h

pub sound_unprotects : (s : SecurityState) (message : List ℕ) → Sound s (unprotects s message)
unfolding unprotects
sound_unprotects s message = led_one s (Unprotects message (apdu_in (acceptance s message))) (after_unprotect s (acceptance s message)) (refl, refl) tt

pub sound_protects : (s : SecurityState) (form : Form) (most : ℕ) (apdu : List ℕ) → Sound s (protects s form most apdu)
unfolding protects
sound_protects s form most apdu = led_one s (Protects form apdu (message_for s form apdu)) (after_protect s (message_for s form apdu)) (refl, refl) tt

sound_answers : (s : SecurityState) (challenge : List ℕ) → Sound s (answers s challenge)
unfolding answers
sound_answers s challenge = led_one s (Answers challenge (answer_for s challenge)) (after_protect s (answer_for s challenge)) (refl, refl) tt

sound_replies : (s : SecurityState) (response : Response) (granted : Granted) → Sound s (replies s response granted)
unfolding replies
sound_replies s response granted =
    let a : Made (List ℕ) = answers s response.challenge in
    sound_continued s a.security a.calls a.result (λ (t : SecurityState) (answer : List ℕ). made t (Ok (reply_of response.title granted answer)))
    (sound_answers s response.challenge) (λ answer. led_none _)

sound_grants : (s : SecurityState) (response : Response) (granted : Option Granted) → Sound s (grants s response granted)
sound_grants s response None = led_none s
sound_grants s response (Some granted) = by_test (nat_lt (clear_size granted.size) LEAST_CLEAR)
  where
    by_test : (b : Bool) → Sound s (cond b (made s (Err fault.Size)) (replies s response granted))
    by_test true = led_none s
    by_test false = sound_replies s response granted

abbrev opened_next : Response → SecurityState → List ℕ → Made Reply
opened_next response t apdu = grants t response (granted_in apdu)

sound_opens : (s : SecurityState) (response : Response) → Sound s (opens s response)
sound_opens s response = by_test (is_title response.title s.peer)
  where
    by_test : (b : Bool) → Sound s (cond b (followed (unprotects s response.message) (opened_next response)) (made s (Err fault.Title)))
    by_test true =
        let u : Made (List ℕ) = unprotects s response.message in
        sound_continued s u.security u.calls u.result (opened_next response) (sound_unprotects s response.message)
        (λ apdu. sound_grants u.security response (granted_in apdu))
    by_test false = led_none s

sound_learns : (s : SecurityState) (response : Response) → Sound s (learns s response)
sound_learns s response =
    let t : SecurityState = after_learn s s.peer response.title in
    let m : Made Reply = opens t response in
    led_append (Learns response.title ∷ []) m.calls s t m.security (led_one s (Learns response.title) t refl tt) (sound_opens t response)

sound_response : (s : SecurityState) (response : Result Response SecuredFault) → Sound s (accepts_response s response)
sound_response s (Ok response) = by_test (may_answer s.policy response.challenge)
  where
    by_test : (b : Bool) → Sound s (cond b (learns s response) (made s (Err fault.NoChallenge)))
    by_test true = sound_learns s response
    by_test false = led_none s
sound_response s (Err why) = led_none s

sound_fields : (s : SecurityState) (own : List ℕ) (fields : Option (List ℕ)) → Sound s (accepts_fields s own fields)
sound_fields s own None = led_none s
sound_fields s own (Some fields) = sound_response s (response_in s.own own fields)

pub sound_accepts : (s : SecurityState) (own apdu : List ℕ) → Sound s (accepts s own apdu)
unfolding accepts
sound_accepts s own apdu = sound_fields s own (inner_at 0x61 apdu)

sound_by : (s : SecurityState) (message : Option (List ℕ)) → Sound s (releases_by s message)
sound_by s None = led_none s
sound_by s (Some message) =
    let u : Made (List ℕ) = unprotects s message in
    sound_continued s u.security u.calls u.result (λ (t : SecurityState) (apdu : List ℕ). made t (Ok tt)) (sound_unprotects s message) (λ x. led_none _)

sound_with : (s : SecurityState) (value : Option (List ℕ)) → Sound s (releases_with s value)
sound_with s None = led_none s
sound_with s (Some value) = sound_by s (inner_at 0x04 value)

sound_release_fields : (s : SecurityState) (fields : Option (List ℕ)) → Sound s (releases_fields s fields)
sound_release_fields s None = led_none s
sound_release_fields s (Some fields) = sound_with s (value_in 0xBE fields)

pub sound_releases : (s : SecurityState) (apdu : List ℕ) → Sound s (releases s apdu)
unfolding releases
sound_releases s apdu = sound_release_fields s (inner_at 0x63 apdu)

pub sound_asks : (s : SecurityState) (form : Form) (own initiate : List ℕ) → Sound s (asks s form own initiate)
unfolding asks
sound_asks s form own initiate =
    let p : Made (List ℕ) = protects s form MOST_FIELD initiate in
    sound_continued s p.security p.calls p.result (λ (t : SecurityState) (message : List ℕ). made t (Ok (secured_aarq s.own own message)))
    (sound_protects s form MOST_FIELD initiate) (λ x. led_none _)

pub sound_leaves : (s : SecurityState) (form : Form) (initiate : List ℕ) → Sound s (leaves s form initiate)
unfolding leaves
sound_leaves s form initiate =
    let p : Made (List ℕ) = protects s form MOST_FIELD initiate in
    sound_continued s p.security p.calls p.result (λ (t : SecurityState) (message : List ℕ). made t (Ok (secured_rlrq message)))
    (sound_protects s form MOST_FIELD initiate) (λ x. led_none _)

-- ---- what goes out

-- a result without a fault
pub continued_ok : {A B : Type 0} (t : SecurityState) (calls : List SecurityCall) (r : Result A SecuredFault) (next : SecurityState → A → Made B) (y : B)
    → (continued t calls r next).result ≡ Ok y
    → (x : A) × (r ≡ Ok x) × ((next t x).result ≡ Ok y) × ((continued t calls r next).calls ≡ calls ++ (next t x).calls)
continued_ok t calls (Ok x) next y e = (x, refl, e, refl)
continued_ok t calls (Err why) next y e = absurd cc

abbrev protected : List ℕ → Result (List ℕ) ProtectFault
protected message = Ok message

within_ok : (most : ℕ) (r : Result (List ℕ) ProtectFault) (message : List ℕ) → within most r ≡ Ok message → r ≡ Ok message
within_ok most (Ok sent) message e = by_test (nat_lt most (length sent)) e
  where
    by_test : (b : Bool) → cond {A = Result (List ℕ) SecuredFault} b (Err fault.Size) (Ok sent) ≡ Ok message → protected sent ≡ protected message
    by_test true e = absurd cc
    by_test false e = let same : sent ≡ message = cc in ap (λ (m : List ℕ). Ok m) same
within_ok most (Err why) message e = absurd cc

pub protects_out : (s : SecurityState) (form : Form) (most : ℕ) (apdu message : List ℕ) → (protects s form most apdu).result ≡ Ok message
    → outgoing (protects s form most apdu).calls ≡ exchange message apdu ∷ []
unfolding protects
protects_out s form most apdu message e = ap (λ (r : Result (List ℕ) ProtectFault). outgoing_with apdu r [])
    (within_ok most (message_for s form apdu) message e)

-- the message is no association request
pub protects_other : (s : SecurityState) (form : Form) (most : ℕ) (apdu message : List ℕ) → (protects s form most apdu).result ≡ Ok message
    → begins 0x60 message ≡ false
unfolding protects
protects_other s form most apdu message e = protected_other s form apdu message (within_ok most (message_for s form apdu) message e)

unprotects_none : (s : SecurityState) (message : List ℕ) → outgoing (unprotects s message).calls ≡ []
unfolding unprotects
unprotects_none s message = refl

answers_none : (s : SecurityState) (challenge : List ℕ) → outgoing (answers s challenge).calls ≡ []
unfolding answers
answers_none s challenge = refl

pub asks_out : (s : SecurityState) (form : Form) (own initiate message : List ℕ) → (asks s form own initiate).result ≡ Ok message
    → (inner : List ℕ) × (outgoing (asks s form own initiate).calls ≡ exchange inner initiate ∷ []) × (message ≡ secured_aarq s.own own inner)
unfolding asks
asks_out s form own initiate message e =
    let p : Made (List ℕ) = protects s form MOST_FIELD initiate in
    let k = continued_ok p.security p.calls p.result (λ (t : SecurityState) (message : List ℕ). made t (Ok (secured_aarq s.own own message))) message e in
    (k.0, ap outgoing (k.3 ∙ append-nil p.calls) ∙ protects_out s form MOST_FIELD initiate k.0 k.1, let same = k.2 in cc)

pub leaves_out : (s : SecurityState) (form : Form) (initiate message : List ℕ) → (leaves s form initiate).result ≡ Ok message
    → (inner : List ℕ) × (outgoing (leaves s form initiate).calls ≡ exchange inner initiate ∷ []) × (message ≡ secured_rlrq inner)
unfolding leaves
leaves_out s form initiate message e =
    let p : Made (List ℕ) = protects s form MOST_FIELD initiate in
    let k = continued_ok p.security p.calls p.result (λ (t : SecurityState) (message : List ℕ). made t (Ok (secured_rlrq message))) message e in
    (k.0, ap outgoing (k.3 ∙ append-nil p.calls) ∙ protects_out s form MOST_FIELD initiate k.0 k.1, let same = k.2 in cc)

-- ---- an association response sends nothing

quiet_continued : {A B : Type 0} (t : SecurityState) (calls : List SecurityCall) (r : Result A SecuredFault) (next : SecurityState → A → Made B)
    → outgoing calls ≡ [] → ((x : A) → outgoing (next t x).calls ≡ []) → outgoing (continued t calls r next).calls ≡ []
quiet_continued t calls (Ok x) next none k =
    outgoing_append calls (next t x).calls ∙ ap (λ (l : List Exchange). l ++ outgoing (next t x).calls) none ∙ k x
quiet_continued t calls (Err why) next none k = none

quiet_replies : (s : SecurityState) (response : Response) (granted : Granted) → outgoing (replies s response granted).calls ≡ []
unfolding replies
quiet_replies s response granted =
    let a : Made (List ℕ) = answers s response.challenge in
    quiet_continued a.security a.calls a.result (λ (t : SecurityState) (answer : List ℕ). made t (Ok (reply_of response.title granted answer)))
    (answers_none s response.challenge) (λ answer. refl)

quiet_grants : (s : SecurityState) (response : Response) (granted : Option Granted) → outgoing (grants s response granted).calls ≡ []
quiet_grants s response None = refl
quiet_grants s response (Some granted) = by_test (nat_lt (clear_size granted.size) LEAST_CLEAR)
  where
    by_test : (b : Bool) → outgoing (cond b (made s (Err fault.Size)) (replies s response granted)).calls ≡ []
    by_test true = refl
    by_test false = quiet_replies s response granted

quiet_opens : (s : SecurityState) (response : Response) → outgoing (opens s response).calls ≡ []
quiet_opens s response = by_test (is_title response.title s.peer)
  where
    by_test : (b : Bool) → outgoing (cond b (followed (unprotects s response.message) (opened_next response)) (made s (Err fault.Title))).calls ≡ []
    by_test true =
        let u : Made (List ℕ) = unprotects s response.message in
        quiet_continued u.security u.calls u.result (opened_next response) (unprotects_none s response.message)
        (λ apdu. quiet_grants u.security response (granted_in apdu))
    by_test false = refl

quiet_response : (s : SecurityState) (response : Result Response SecuredFault) → outgoing (accepts_response s response).calls ≡ []
quiet_response s (Ok response) = by_test (may_answer s.policy response.challenge)
  where
    by_test : (b : Bool) → outgoing (cond b (learns s response) (made s (Err fault.NoChallenge))).calls ≡ []
    by_test true = quiet_opens (after_learn s s.peer response.title) response
    by_test false = refl
quiet_response s (Err why) = refl

quiet_fields : (s : SecurityState) (own : List ℕ) (fields : Option (List ℕ)) → outgoing (accepts_fields s own fields).calls ≡ []
quiet_fields s own None = refl
quiet_fields s own (Some fields) = quiet_response s (response_in s.own own fields)

pub quiet_accepts : (s : SecurityState) (own apdu : List ℕ) → outgoing (accepts s own apdu).calls ≡ []
unfolding accepts
quiet_accepts s own apdu = quiet_fields s own (inner_at 0x61 apdu)

-- ---- what is accepted

refusal_ok : (r : Result (List ℕ) UnprotectFault) (apdu : List ℕ) → or_refusal r ≡ Ok apdu → r ≡ Ok apdu
refusal_ok (Ok opened) apdu e = let same : opened ≡ apdu = cc in ap (λ (m : List ℕ). Ok m) same
refusal_ok (Err why) apdu e = absurd cc

pub unprotects_in : (s : SecurityState) (message apdu : List ℕ) → (unprotects s message).result ≡ Ok apdu
    → incoming (unprotects s message).calls ≡ exchange message apdu ∷ []
unfolding unprotects
unprotects_in s message apdu e = ap (λ (r : Result (List ℕ) UnprotectFault). incoming_with message r []) (refusal_ok (apdu_in (acceptance s message)) apdu e)
