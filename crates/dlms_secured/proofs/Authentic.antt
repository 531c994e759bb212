-- What is handed up came protected under the meter's title, which the run learned.
use Rattle.std.proofs.Common.{◌≡◌, ◌∙◌, refl, sym, ap, subst, ℕ, Bool, true, false, cond, nat_lt, List, [], ◌∷◌, ◌++◌, Option, Some, None}
use Rattle.std.proofs.Common.{Result, Ok, Err, inl, inr}
use Rattle.std.specs.Prelude.{All, Contains, IfSome}
use Rattle.std.specs.List.{cons_option}
use Rattle.std.specs.Str.{bytes_eq}
use Rattle.std.proofs.lemmas.List.Elements.{All-nil, All-cons, All-head, All-tail, All-append, All-weaker, Contains-append_left, Contains-append_right}
use Rattle.std.proofs.lemmas.List.Elements.{Contains-push, filter_map-append}
use Rattle.dlms_cipher.specs.Dlms.{IsAnswer}
use Rattle.dlms_carrier.specs.Carrying.{Call as CarrierCall, Meaning, handed_at, handed_up as arrived}
use Rattle.dlms_security.specs.Body.{Use, control_of, body_of, signature_of, seal_of, text_of}
use Rattle.dlms_security.specs.Form.{is_of}
use Rattle.dlms_security.specs.Run.{Event as SecurityCall, Reserves as ReservesOf, Protects, Unprotects, Learns, Answers, Stops, AreSteps, IsStep, Exchange}
use Rattle.dlms_security.specs.Run.{IsProtected, IsAcceptable, AcceptedExactly, incoming, incoming_with, counter_in, counter_of, RestoresCounter, AreRestoring}
use Rattle.dlms_security.specs.Security.{SecurityState, AcceptedApdu, IsAnswerOf, message_for, answer_for, acceptance, apdu_in, after_protect, after_unprotect}
use Rattle.dlms_security.specs.Security.{after_learn, after_reserved, peer_use}
use Rattle.dlms_security.specs.declared.fault.ProtectFault.{ProtectFault}
use Rattle.dlms_security.specs.declared.fault.UnprotectFault.{UnprotectFault}
use Rattle.dlms_security.specs.declared.kind.KeyKind.{KeyKind}
use Rattle.dlms_security.specs.declared.policy.Policy.{Policy}
use Rattle.dlms_security.specs.declared.policy.Policy.TheVariants.{Authenticated, Encrypted, AuthenticatedEncrypted}
use Rattle.dlms_secured.specs.Guard.{GuardValue}
use Rattle.dlms_secured.specs.Run.{Call, IsNoStop, challenge_after, challenges, Runs, HandsUp, IsOpened, Learned, AsBefore, ByResponse, IsFrom, IsFounded}
use Rattle.dlms_secured.specs.Run.{Shows, Layers, Opens, IsTagOf, IsTagged, has_tag, AreFounded, Opened, IsLayer, IsTitled, IsLayerOf, calls_of}
use Rattle.dlms_secured.specs.Run.{session_in, renewals}
use Rattle.dlms_secured.specs.Run.{CameProtected, AfterProof, AsRefusal, AsRelease, exchange, handed_by, handed_up, Share, AreShares, carried_in, made_in}
use Rattle.dlms_secured.specs.Run.{Authentic}
use Rattle.dlms_secured.specs.Steps.{Guarded}
use Rattle.dlms_secured.specs.declared.stage.Stage.{Stage}
use Rattle.dlms_secured.specs.declared.stage.Stage.TheVariants.{Closed, Opening, Proving, Open, Failed}
use Rattle.dlms_secured.proofs.MadeLemmas.{incoming_append}
use Rattle.dlms_secured.proofs.Sharing.{all_split, runs_lead}

-- ---- what calls of the security layer keep

-- the keys are the same, and a title that was known is known
record Later (s t : SecurityState) : Type 0 where
  kind : t.kind ≡ s.kind
  own : t.own ≡ s.own
  encryption : t.encryption ≡ s.encryption
  authentication : t.authentication ≡ s.authentication
  policy : t.policy ≡ s.policy
  known : (title : List ℕ) → s.peer ≡ Some title → t.peer ≡ Some title

later_same : (s : SecurityState) → Later s s
later_same s = record { kind = refl; own = refl; encryption = refl; authentication = refl; policy = refl; known = λ title e. e }

later_then : (s t u : SecurityState) → Later s t → Later t u → Later s u
later_then s t u h k = record {
  kind = k.kind ∙ h.kind;
  own = k.own ∙ h.own;
  encryption = k.encryption ∙ h.encryption;
  authentication = k.authentication ∙ h.authentication;
  policy = k.policy ∙ h.policy;
  known = λ title e. k.known title (h.known title e);
}

later_protect : (s : SecurityState) (r : Result (List ℕ) ProtectFault) → Later s (after_protect s r)
later_protect s (Ok message) = record { kind = refl; own = refl; encryption = refl; authentication = refl; policy = refl; known = λ title e. e }
later_protect s (Err why) = later_same s

later_unprotect : (s : SecurityState) (r : Result AcceptedApdu UnprotectFault) → Later s (after_unprotect s r)
later_unprotect s (Ok apdu) = record { kind = refl; own = refl; encryption = refl; authentication = refl; policy = refl; known = λ title e. e }
later_unprotect s (Err why) = later_same s

later_reserved : (s : SecurityState) (upto : ℕ) → Later s (after_reserved s upto)
later_reserved s upto = by_test (nat_lt s.reserved upto)
  where
    by_test : (b : Bool) → Later s (cond b (record s { reserved = upto }) s)
    by_test true = record { kind = refl; own = refl; encryption = refl; authentication = refl; policy = refl; known = λ title e. e }
    by_test false = later_same s

later_learn : (s : SecurityState) (known : Option (List ℕ)) (title : List ℕ) → s.peer ≡ known → Later s (after_learn s known title)
later_learn s (Some known) title is = later_same s
later_learn s None title is = by_test (bytes_eq title s.own)
  where
    by_test : (b : Bool) → Later s (cond b s (record s { peer = Some title }))
    by_test true = later_same s
    by_test false = record {
      kind = refl;
      own = refl;
      encryption = refl;
      authentication = refl;
      policy = refl;
      known = λ other e. absurd (let clash = sym is ∙ e in cc);
    }

later_step : (s : SecurityState) (call : SecurityCall) (t : SecurityState) → IsNoStop call → IsStep s call t → Later s t
later_step s (Protects form apdu result) t none step = subst (Later s) (sym step.1) (later_protect s (message_for s form apdu))
later_step s (Unprotects message result) t none step = subst (Later s) (sym step.1) (later_unprotect s (acceptance s message))
later_step s (ReservesOf upto) t none step = subst (Later s) (sym step.1) (later_reserved s upto)
later_step s (Learns title) t none step = subst (Later s) (sym step) (later_learn s s.peer title refl)
later_step s (Answers challenge result) t none step = subst (Later s) (sym step.1) (later_protect s (answer_for s challenge))
later_step s (Stops stored) t none step = absurd none

later_steps : (s : SecurityState) (calls : List SecurityCall) (t : SecurityState) → All IsNoStop calls → AreSteps s calls t → Later s t
later_steps s [] t none steps = subst (Later s) (sym steps) (later_same s)
later_steps s (call ∷ calls) t none steps =
    later_then s steps.0 t (later_step s call steps.0 (All-head IsNoStop call calls none) steps.1)
    (later_steps steps.0 calls t (All-tail IsNoStop call calls none) steps.2)

-- ---- accepted messages

-- a message protected under a later state is protected under this one
moved : (base s : SecurityState) (title : List ℕ) (counter : ℕ) (x : Exchange) → Later base s → IsProtected s title counter x
    → IsProtected base title counter x
moved base s title counter x same p = record {
  head = p.head;
  body = p.body;
  read = p.read;
  control = p.control ∙ ap control_of same.policy;
  counted = p.counted;
  named = p.named;
  service = ap (λ (k : KeyKind). is_of k p.head.tag x.apdu) (sym same.kind) ∙ p.service;
  exact =
      p.exact
      ∙ ap (λ (q : Policy). body_of q (record { encryption = s.encryption; authentication = s.authentication; title = title; counter = counter }) x.apdu)
      same.policy
      ∙ ap (λ (q : List ℕ). body_of base.policy (record { encryption = q; authentication = s.authentication; title = title; counter = counter }) x.apdu)
      same.encryption
      ∙ ap (λ (q : List ℕ). body_of base.policy (record { encryption = base.encryption; authentication = q; title = title; counter = counter }) x.apdu)
      same.authentication;
}

-- the counter in a protected message
counter_is : (s : SecurityState) (title : List ℕ) (counter : ℕ) (x : Exchange) → IsProtected s title counter x → counter_in x ≡ counter
counter_is s title counter x p = ap counter_of p.read ∙ p.counted

-- an accepted message is from the peer that is known at the end
from_peer : AcceptedExactly → (base s : SecurityState) (peer : Option (List ℕ)) (message : List ℕ) (a : AcceptedApdu) → Later base s
    → ((title : List ℕ) → s.peer ≡ Some title → peer ≡ Some title) → acceptance s message ≡ Ok a → IsFrom (Opens base) peer (exchange message a.apdu)
from_peer law base s peer message a same stays took =
    let is : IsAcceptable s message a = (law s message a).0 took in
    let here : IsProtected base is.title a.counter (exchange message a.apdu) = moved base s is.title a.counter (exchange message a.apdu) same is.is in
    let counter : counter_in (exchange message a.apdu) ≡ a.counter = counter_is base is.title a.counter (exchange message a.apdu) here in
    subst (λ (o : Option (List ℕ)). IsFrom (Opens base) o (exchange message a.apdu)) (sym (stays is.title is.peer))
    (subst (λ (n : ℕ). IsProtected base is.title n (exchange message a.apdu)) (sym counter) here)

came_by : AcceptedExactly → (base s : SecurityState) (peer : Option (List ℕ)) (message : List ℕ) (rest : List Exchange) → Later base s
    → ((title : List ℕ) → s.peer ≡ Some title → peer ≡ Some title) → (r : Result AcceptedApdu UnprotectFault) → acceptance s message ≡ r
    → All (IsFrom (Opens base) peer) rest → All (IsFrom (Opens base) peer) (incoming_with message (apdu_in r) rest)
came_by law base s peer message rest same stays (Ok a) is are =
    All-cons (IsFrom (Opens base) peer) (exchange message a.apdu) rest (from_peer law base s peer message a same stays is) are
came_by law base s peer message rest same stays (Err why) is are = are

all_came : AcceptedExactly → (base s : SecurityState) (calls : List SecurityCall) (t : SecurityState) → Later base s → All IsNoStop calls
    → AreSteps s calls t → All (IsFrom (Opens base) t.peer) (incoming calls)
all_came law base s [] t same none steps = All-nil (IsFrom (Opens base) t.peer)
all_came law base s (call ∷ calls) t same none steps =
    by_call call (All-head IsNoStop call calls none) steps.1
    (all_came law base steps.0 calls t (later_then base s steps.0 same (later_step s call steps.0 (All-head IsNoStop call calls none) steps.1))
    (All-tail IsNoStop call calls none) steps.2)
  where
    whole : Later s t
    whole = later_steps s (call ∷ calls) t none steps

    by_call : (first : SecurityCall) → IsNoStop first → IsStep s first steps.0 → All (IsFrom (Opens base) t.peer) (incoming calls)
        → All (IsFrom (Opens base) t.peer) (incoming (first ∷ calls))
    by_call (Protects form apdu result) free step are = are
    by_call (Unprotects message result) free step are =
        subst (λ (r : Result (List ℕ) UnprotectFault). All (IsFrom (Opens base) t.peer) (incoming_with message r (incoming calls))) step.0
        (came_by law base s t.peer message (incoming calls) same whole.known (acceptance s message) refl are)
    by_call (ReservesOf upto) free step are = are
    by_call (Learns title) free step are = are
    by_call (Answers challenge result) free step are = are
    by_call (Stops stored) free step are = absurd free

no_stop_counter : (s : SecurityState) (call : SecurityCall) → IsNoStop call → RestoresCounter s call
no_stop_counter s (Protects form apdu result) h = tt
no_stop_counter s (Unprotects message result) h = tt
no_stop_counter s (ReservesOf upto) h = tt
no_stop_counter s (Learns peer) h = tt
no_stop_counter s (Answers challenge result) h = tt
no_stop_counter s (Stops stored) h = absurd h

pub restoring : (s t : SecurityState) (calls : List SecurityCall) → All IsNoStop calls → AreSteps s calls t → AreRestoring s calls t
restoring s t [] none steps = steps
restoring s t (call ∷ calls) none steps =
    (steps.0, steps.1, no_stop_counter s call (All-head IsNoStop call calls none), restoring steps.0 t calls (All-tail IsNoStop call calls none) steps.2)

-- ---- the meter's title

abbrev Own : Type 0
Own = List (List ℕ)

among_first : (x : List ℕ) (xs : Own) → Contains (x ∷ xs) x
among_first x xs = Contains-append_left (x ∷ []) xs x (Contains-push [] x)

among_more : (x : List ℕ) (xs : Own) (y : List ℕ) → Contains xs y → Contains (x ∷ xs) y
among_more x xs y h = Contains-append_right (x ∷ []) xs y h

learned_then : (client : List ℕ) (known : Option (List ℕ)) (first : List ℕ) (own came later : Own) (mid peer : Option (List ℕ))
    → Learned client known (first ∷ []) came mid → Learned client mid own later peer → Learned client known (first ∷ own) (came ++ later) peer
learned_then client known first own came later mid peer (AsBefore e) (AsBefore f) = AsBefore (f ∙ e)
learned_then client known first own came later mid peer (AsBefore e) (ByResponse title challenge apdu none is among here names) =
    ByResponse title challenge apdu (sym e ∙ none) is (among_more first own challenge among) (Contains-append_right came later apdu here) names
learned_then client known first own came later mid peer (ByResponse title challenge apdu none is among here names) (AsBefore f) =
    ByResponse title challenge apdu none (f ∙ is) (Contains-append_left (first ∷ []) own challenge among) (Contains-append_left came later apdu here) names
learned_then client known first own came later mid peer (ByResponse title challenge apdu none is among here names)
    (ByResponse other answered response nobody was within there says) = absurd (let clash = sym is ∙ nobody in cc)

arrived_append : (xs ys : List CarrierCall) → arrived (xs ++ ys) ≡ arrived xs ++ arrived ys
arrived_append xs ys = filter_map-append (λ (call : CarrierCall). handed_at call.event call.apdu) xs ys

later_shares : {C : Type 0} (m : Meaning C) (calls : List Call) (shares : List Share) (old new : Guarded C) → AreShares m old calls shares new
    → Later old.guard.security new.guard.security
later_shares {C} m [] [] old new h = subst (λ (v : Guarded C). Later old.guard.security v.guard.security) (sym h) (later_same old.guard.security)
later_shares m [] (share ∷ shares) old new h = absurd h
later_shares m (call ∷ calls) [] old new h = absurd h
later_shares m (call ∷ calls) (share ∷ shares) old new h =
    later_then old.guard.security h.0.guard.security new.guard.security
    (later_steps old.guard.security share.made h.0.guard.security h.1.unstopped h.1.security) (later_shares m calls shares h.0 new h.2)

learned_shares : {C : Type 0} (m : Meaning C) (calls : List Call) (shares : List Share) (old new : Guarded C) (client own : List ℕ)
    → old.guard.security.own ≡ client → old.guard.challenge ≡ own → AreShares m old calls shares new
    → Learned client old.guard.security.peer (challenges own calls) (arrived (carried_in shares)) new.guard.security.peer
learned_shares {C} m [] [] old new client own named is h = AsBefore (ap (λ (v : Guarded C). v.guard.security.peer) h)
learned_shares m [] (share ∷ shares) old new client own named is h = absurd h
learned_shares m (call ∷ calls) [] old new client own named is h = absurd h
learned_shares m (call ∷ calls) (share ∷ shares) old new client own named is h =
    let mid = h.0 in
    let same : Later old.guard.security mid.guard.security =
    later_steps old.guard.security share.made mid.guard.security h.1.unstopped h.1.security in
    let here : Learned client old.guard.security.peer (own ∷ []) (arrived share.carried) mid.guard.security.peer =
    subst (λ (x : List ℕ). Learned x old.guard.security.peer (own ∷ []) (arrived share.carried) mid.guard.security.peer) named
    (subst (λ (x : List ℕ). Learned old.guard.security.own old.guard.security.peer (x ∷ []) (arrived share.carried) mid.guard.security.peer) is
    h.1.title) in
    subst (λ (l : Own). Learned client old.guard.security.peer (challenges own (call ∷ calls)) l new.guard.security.peer)
    (sym (arrived_append share.carried (carried_in shares)))
    (learned_then client old.guard.security.peer own (challenges (challenge_after call own) calls) (arrived share.carried) (arrived (carried_in shares))
    mid.guard.security.peer new.guard.security.peer here
    (learned_shares m calls shares mid new client (challenge_after call own) (same.own ∙ named) (h.1.challenge ∙ ap (challenge_after call) is) h.2))

-- ---- what is handed up

-- the one message of a call
alone_came : (shows : Shows) (peer : Option (List ℕ)) (made : List SecurityCall) (apdu : List ℕ) (o : IsOpened made apdu)
    → All (IsFrom shows peer) (incoming made) → IsFrom shows peer (exchange o.message apdu)
alone_came shows peer made apdu o are = All-head (IsFrom shows peer) (exchange o.message apdu) []
    (subst (λ (l : List Exchange). All (IsFrom shows peer) l) o.alone are)

-- the answer of the peer that is known at the end
same_answer : (s t : SecurityState) (known peer : Option (List ℕ)) (challenge answer : List ℕ) → Later s t
    → ((title : List ℕ) → known ≡ Some title → peer ≡ Some title) → IsAnswerOf t known challenge answer → IsAnswerOf s peer challenge answer
same_answer s t None peer challenge answer h stays k = absurd k
same_answer s t (Some title) peer challenge answer h stays k =
    subst (λ (o : Option (List ℕ)). IsAnswerOf s o challenge answer) (sym (stays title refl))
    (subst (λ (key : List ℕ). IsAnswer key s.authentication title challenge answer) h.encryption
    (subst (λ (key : List ℕ). IsAnswer t.encryption key title challenge answer) h.authentication k))

trusted_at : (shows : Shows) (s : SecurityState) (own : Own) (peer : Option (List ℕ)) (stage : Stage) (g : GuardValue) (made : List SecurityCall) (apdu : List ℕ)
    (h : GuardValue) → Contains own g.challenge → Later s h.security → ((title : List ℕ) → h.security.peer ≡ Some title → peer ≡ Some title)
    → All (IsFrom shows peer) (incoming made) → HandsUp stage g made apdu h → IsFounded shows s own peer apdu
trusted_at shows s own peer Closed g made apdu h among same stays are k = absurd k
trusted_at shows s own peer Opening g made apdu h among same stays are k = AsRefusal k.0
trusted_at shows s own peer (Proving granted) g made apdu h among same stays are k =
    AfterProof k.opened.message k.reply k.answer g.challenge granted (alone_came shows peer made k.reply k.opened are) k.proof among
    (same_answer s h.security h.security.peer peer g.challenge k.answer same stays k.right) k.response
trusted_at shows s own peer Open g made apdu h among same stays are k =
    elim k [ inl o ↦ CameProtected o.message (alone_came shows peer made apdu o are) | inr r ↦ AsRelease r.0 ]
trusted_at shows s own peer (Failed why) g made apdu h among same stays are k = absurd k

trusted_call : (P : List ℕ → Type 0) (o : Option (List ℕ)) (rest : List (List ℕ)) → IfSome o P → All P rest → All P (cons_option o rest)
trusted_call P None rest h k = k
trusted_call P (Some apdu) rest h k = All-cons P apdu rest h k

if_some : (P Q : List ℕ → Type 0) (o : Option (List ℕ)) → ((apdu : List ℕ) → P apdu → Q apdu) → IfSome o P → IfSome o Q
if_some P Q None f h = tt
if_some P Q (Some apdu) f h = f apdu h

trusted_more : (shows : Shows) (s : SecurityState) (first : List ℕ) (own : Own) (peer : Option (List ℕ)) (apdu : List ℕ) → IsFounded shows s own peer apdu
    → IsFounded shows s (first ∷ own) peer apdu
trusted_more shows s first own peer apdu (CameProtected message is) = CameProtected message is
trusted_more shows s first own peer apdu (AfterProof message reply answer challenge granted is proof among right whole) =
    AfterProof message reply answer challenge granted is proof (among_more first own challenge among) right whole
trusted_more shows s first own peer apdu (AsRefusal is) = AsRefusal is
trusted_more shows s first own peer apdu (AsRelease is) = AsRelease is

first_among : (own : List ℕ) (calls : List Call) → Contains (challenges own calls) own
first_among own [] = among_first own []
first_among own (call ∷ calls) = among_first own (challenges (challenge_after call own) calls)

trusted_shares : {C : Type 0} (m : Meaning C) (shows : Shows) (s : SecurityState) (own : List ℕ) (calls : List Call) (shares : List Share)
    (old new : Guarded C) → old.guard.challenge ≡ own → Later s old.guard.security → AreShares m old calls shares new
    → All (IsFrom shows new.guard.security.peer) (incoming (made_in shares)) → All (IsFrom shows new.guard.security.peer) (incoming (session_in shares))
    → All (IsFounded shows s (challenges own calls) new.guard.security.peer) (handed_up calls)
trusted_shares m shows s own [] shares old new is same h are session = All-nil (IsFounded shows s (challenges own []) new.guard.security.peer)
trusted_shares m shows s own (call ∷ calls) [] old new is same h are session = absurd h
trusted_shares m shows s own (call ∷ calls) (share ∷ shares) old new is same h are session =
    let mid = h.0 in
    let peer : Option (List ℕ) = new.guard.security.peer in
    let later : List ℕ = challenge_after call own in
    let both = all_split (IsFrom shows peer) (incoming share.made) (incoming (made_in shares))
    (subst (λ (l : List Exchange). All (IsFrom shows peer) l) (incoming_append share.made (made_in shares)) are) in
    let dedicated = all_split (IsFrom shows peer) (incoming share.session) (incoming (session_in shares))
    (subst (λ (l : List Exchange). All (IsFrom shows peer) l) (incoming_append share.session (session_in shares)) session) in
    let here : All (IsFrom shows peer) (incoming (calls_of share)) =
    subst (λ (l : List Exchange). All (IsFrom shows peer) l) (sym (incoming_append share.made share.session))
    (All-append (IsFrom shows peer) (incoming share.made) (incoming share.session) both.0 dedicated.0) in
    let next : Later s mid.guard.security = later_then s old.guard.security mid.guard.security same
    (later_steps old.guard.security share.made mid.guard.security h.1.unstopped h.1.security) in
    let among : Contains (challenges own (call ∷ calls)) old.guard.challenge =
    subst (λ (x : List ℕ). Contains (challenges own (call ∷ calls)) x) (sym is) (first_among own (call ∷ calls)) in
    let renewed_is : mid.guard.challenge ≡ later = h.1.challenge ∙ ap (challenge_after call) is in
    let stays : (title : List ℕ) → mid.guard.security.peer ≡ Some title → peer ≡ Some title = (later_shares m calls shares mid new h.2).known in
    trusted_call (IsFounded shows s (challenges own (call ∷ calls)) peer) (handed_by call) (handed_up calls)
    (if_some (λ apdu. HandsUp old.guard.stage old.guard (calls_of share) apdu mid.guard) (IsFounded shows s (challenges own (call ∷ calls)) peer)
    (handed_by call)
    (λ apdu k. trusted_at shows s (challenges own (call ∷ calls)) peer old.guard.stage old.guard (calls_of share) apdu mid.guard among next stays here k)
    h.1.up)
    (All-weaker (IsFounded shows s (challenges later calls) peer) (IsFounded shows s (own ∷ challenges later calls) peer)
    (trusted_more shows s own (challenges later calls) peer) (handed_up calls)
    (trusted_shares m shows s later calls shares mid new renewed_is next h.2 both.1 dedicated.1))

-- messages that open under a layer show this
layer_came : AcceptedExactly → (shows : Shows) (g : GuardValue) (calls : List SecurityCall) (d e : Option SecurityState) (peer : Option (List ℕ))
    → g.dedicated ≡ d → ((s : SecurityState) → IsLayerOf g s → (title : List ℕ) (x : Exchange) → Opens s title x → shows title x)
    → All IsNoStop calls → IsLayer d calls e → IsTitled e peer → All (IsFrom shows peer) (incoming calls)
layer_came law shows g calls None None peer is shown still h titled =
    subst (λ (l : List SecurityCall). All (IsFrom shows peer) (incoming l)) (sym h) (All-nil (IsFrom shows peer))
layer_came law shows g calls None (Some e) peer is shown still h titled = absurd h
layer_came law shows g calls (Some d) None peer is shown still h titled = absurd h
layer_came law shows g calls (Some d) (Some e) peer is shown still h titled =
    All-weaker (IsFrom (Opens d) e.peer) (IsFrom shows peer) (from e.peer titled) (incoming calls) (all_came law d d calls e (later_same d) still h)
  where
    from : (known : Option (List ℕ)) → ((title : List ℕ) → known ≡ Some title → peer ≡ Some title) → (x : Exchange) → IsFrom (Opens d) known x
        → IsFrom shows peer x
    from None titled x h = absurd h
    from (Some title) titled x h =
        subst (λ (o : Option (List ℕ)). IsFrom shows o x) (sym (titled title refl)) (shown d (inr is) title x h)

founded : (shows : Shows) → AcceptedExactly → {C : Type 0} (m : Meaning C) (old new : Guarded C) (calls : List Call)
    → ((s : SecurityState) → IsLayerOf old.guard s → (title : List ℕ) (x : Exchange) → Opens s title x → shows title x)
    → IsTitled old.guard.dedicated old.guard.security.peer → renewals calls ≡ 0 → Runs m old calls new → AreFounded m shows old calls new
founded shows law m old new calls as_shown titled none runs =
    let beside = runs_lead m old new calls runs in
    let s : SecurityState = old.guard.security in
    let made : List SecurityCall = made_in beside.shares in
    record {
      beside = beside;
      title = learned_shares m calls beside.shares old new s.own old.guard.challenge refl refl beside.each;
      founded = trusted_shares m shows s old.guard.challenge calls beside.shares old new refl (later_same s) beside.each
          (All-weaker (IsFrom (Opens s) new.guard.security.peer) (IsFrom shows new.guard.security.peer) (shown new.guard.security.peer) (incoming made)
          (all_came law s s made new.guard.security (later_same s) beside.unstopped beside.security))
          (layer_came law shows old.guard (session_in beside.shares) old.guard.dedicated new.guard.dedicated new.guard.security.peer refl as_shown
          beside.session (beside.layer none) (beside.titled titled));
    }
  where
    shown : (peer : Option (List ℕ)) (x : Exchange) → IsFrom (Opens old.guard.security) peer x → IsFrom shows peer x
    shown None x h = absurd h
    shown (Some title) x h = as_shown old.guard.security (inl refl) title x h

pub opened : AcceptedExactly → {C : Type 0} (m : Meaning C) → Opened m
opened law m old new calls titled none runs =
    founded (Layers Opens old.guard) law m old new calls (λ s among title x h. (s, among, h)) titled none runs

-- what opens under a policy with tags has its tag
tagged : (s : SecurityState) → has_tag s.policy ≡ true → (title : List ℕ) (x : Exchange) → Opens s title x → IsTagged s title x
tagged s has title x h = by_policy s.policy refl
  where
    u : Use
    u = peer_use s title (counter_in x)

    body : (policy : Policy) → s.policy ≡ policy → h.body ≡ body_of policy u x.apdu
    body policy is = h.exact ∙ ap (λ (p : Policy). body_of p u x.apdu) is

    by_policy : (policy : Policy) → s.policy ≡ policy → IsTagged s title x
    by_policy Authenticated is = record {
      opens = h;
      text = x.apdu;
      tag = signature_of u x.apdu;
      ends = body Authenticated is;
      right = subst (λ (p : Policy). IsTagOf p u x.apdu (signature_of u x.apdu)) (sym is) refl;
    }
    by_policy Encrypted is = absurd (let clash : false ≡ true = sym (ap has_tag is) ∙ has in cc)
    by_policy AuthenticatedEncrypted is = record {
      opens = h;
      text = text_of u x.apdu;
      tag = seal_of u (text_of u x.apdu);
      ends = body AuthenticatedEncrypted is;
      right = subst (λ (p : Policy). IsTagOf p u x.apdu (seal_of u (text_of u x.apdu))) (sym is) refl;
    }

pub authentic : AcceptedExactly → {C : Type 0} (m : Meaning C) → Authentic m
authentic law m old new calls has titled none runs =
    founded (Layers IsTagged old.guard) law m old new calls (λ s among title x h. (s, among, tagged s (has s among) title x h)) titled none runs
