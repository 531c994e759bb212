-- Calls and stops one after another.
use Rattle.std.proofs.Common.{arith, refl, ap, ◌∙◌, sym, subst, ◌≡◌, ◌+◌, ◌^◌, ◌≤◌, ◌<◌, nat_lt, add-one, ℕ, zero, suc, Bool, true, false, List, [], ◌∷◌, length, map, get_or, Option, Some, None, Result, Ok, Err, if◌then◌else◌}
use Rattle.std.specs.Prelude.{All}
use Rattle.std.specs.List.Sorted.{IsStrictlyIncreasing}
use Rattle.std.specs.Str.{bytes_eq}
use Rattle.dlms_cipher.specs.Dlms.{answer_of}
use Rattle.std.proofs.lemmas.Nat.{from_be_bytes-to_be_bytes_4}
use Rattle.std.proofs.lemmas.Bool.Decides.{nat_tests}
use Rattle.std.proofs.lemmas.List.Elements.{All-cons, All-nil}
use Rattle.dlms_security.specs.declared.kind.KeyKind.{KeyKind}
use Rattle.dlms_security.specs.declared.form.Form.{Form}
use Rattle.dlms_security.specs.Form.{is_of}
use Rattle.dlms_security.specs.declared.policy.Policy.{Policy}
use Rattle.dlms_security.specs.declared.fault.ProtectFault.{ProtectFault}
use Rattle.dlms_security.specs.declared.stored.StoredState.{StoredState}
use Rattle.dlms_security.specs.declared.fault.UnprotectFault.{UnprotectFault}
use Rattle.dlms_security.specs.Body.{control_of, body_of}
use Rattle.dlms_security.specs.Security.{SecurityState, AcceptedApdu, after_stop, answer_for, message_for, after_protect, is_above, acceptance, apdu_in, after_unprotect, after_learn}
use Rattle.dlms_security.specs.Run.{IsState, Event, Protects, Unprotects, Reserves, Learns, Answers, Stops, IsStep, AreSteps, IsRestored, RestoresCounter, AreRestoring, RestoresTitle, used_counters, used_with, message_counter, answer_counter, Exchange, outgoing, outgoing_with, incoming, incoming_with, counter_of, counter_in, IsProtected, NeverTwice, NeverInTheClear, Fresh, Authentic}
use Rattle.dlms_security.proofs.RoundLemmas.{goes_out, answer_out}
use Rattle.dlms_security.proofs.AcceptedLemmas.{accepted_is}

-- ---- numbers that rise

-- the first is not below this, and each is above the one before it
abbrev Rises : ℕ → List ℕ → Type 0
Rises low [] = Unit {0}
Rises low (c ∷ cs) = (low ≤ c) × Rises (c + 1) cs

lowered : (low higher : ℕ) (cs : List ℕ) → low ≤ higher → Rises higher cs → Rises low cs
lowered low higher [] l h = tt
lowered low higher (c ∷ cs) l h = (let below : higher ≤ c = h.0 in omega arith, h.1)

rises_at : (low : ℕ) (cs : List ℕ) → Rises low cs → (k : ℕ) → suc k < length cs → get_or cs k 0 < get_or cs (suc k) 0
rises_at low [] h k l = absurd (omega arith)
rises_at low (c ∷ []) h k l = absurd (omega arith)
rises_at low (c ∷ d ∷ cs) h zero l = let above : c + 1 ≤ d = h.1.0 in omega arith
rises_at low (c ∷ d ∷ cs) h (suc k) l = rises_at (c + 1) (d ∷ cs) h.1 k (omega arith)

increasing : (low : ℕ) (cs : List ℕ) → Rises low cs → IsStrictlyIncreasing cs
increasing low cs h k l = subst (λ (n : ℕ). get_or cs k 0 < get_or cs n 0) (sym (add-one k)) (rises_at low cs h k (omega arith))

-- ---- parts of the state that do not change

-- the kind of key, own title, keys and policy never change
record SameKeys (s t : SecurityState) : Type 0 where
  kind : t.kind ≡ s.kind
  own : t.own ≡ s.own
  encryption : t.encryption ≡ s.encryption
  authentication : t.authentication ≡ s.authentication
  policy : t.policy ≡ s.policy

joined_keys : (s t u : SecurityState) → SameKeys s t → SameKeys t u → SameKeys s u
joined_keys s t u a b = record {
  kind = b.kind ∙ a.kind;
  own = b.own ∙ a.own;
  encryption = b.encryption ∙ a.encryption;
  authentication = b.authentication ∙ a.authentication;
  policy = b.policy ∙ a.policy;
}

-- one event keeps these facts
record Keeps (s t : SecurityState) : Type 0 where
  keys : SameKeys s t
  state : IsState s → IsState t
  low : IsState s → s.next ≤ t.next

keeps_all : (s : SecurityState) → Keeps s s
keeps_all s = record { keys = record { kind = refl; own = refl; encryption = refl; authentication = refl; policy = refl }; state = λ i. i; low = λ i. omega arith }

keeps_protect : (s : SecurityState) (form : Form) (apdu : List ℕ) (r : Result (List ℕ) ProtectFault) → message_for s form apdu ≡ r → Keeps s (after_protect s r)
keeps_protect s form apdu (Ok message) e = record {
  keys = record { kind = refl; own = refl; encryption = refl; authentication = refl; policy = refl };
  state = λ i. (let below : s.next < s.reserved = (goes_out s form apdu message i e).reserved in record { title = i.title; below = omega arith; fits = i.fits });
  low = λ i. omega arith;
}
keeps_protect s form apdu (Err f) e = keeps_all s

keeps_answer : (s : SecurityState) (challenge : List ℕ) (r : Result (List ℕ) ProtectFault) → answer_for s challenge ≡ r → Keeps s (after_protect s r)
keeps_answer s challenge (Ok answer) e = record {
  keys = record { kind = refl; own = refl; encryption = refl; authentication = refl; policy = refl };
  state = λ i. (let below : s.next < s.reserved = (answer_out s challenge answer e).1 in record { title = i.title; below = omega arith; fits = i.fits });
  low = λ i. omega arith;
}
keeps_answer s challenge (Err f) e = keeps_all s

keeps_unprotect : (s : SecurityState) (r : Result AcceptedApdu UnprotectFault) → Keeps s (after_unprotect s r)
keeps_unprotect s (Ok a) = record {
  keys = record { kind = refl; own = refl; encryption = refl; authentication = refl; policy = refl };
  state = λ i. record { title = i.title; below = i.below; fits = i.fits };
  low = λ i. omega arith;
}
keeps_unprotect s (Err f) = keeps_all s

keeps_reserve : (s : SecurityState) (upto : ℕ) → upto < 2 ^ 32 → (b : Bool) → nat_lt s.reserved upto ≡ b → Keeps s (if b then record s { reserved = upto } else s)
keeps_reserve s upto fits true t = record {
  keys = record { kind = refl; own = refl; encryption = refl; authentication = refl; policy = refl };
  state = λ i. (let below : s.next ≤ s.reserved = i.below in let above : s.reserved < upto = grind (arith, nat_tests) in record { title = i.title; below = omega arith; fits = fits });
  low = λ i. omega arith;
}
keeps_reserve s upto fits false t = keeps_all s

keeps_title : (s : SecurityState) (title : List ℕ) (b : Bool) → Keeps s (if b then s else record s { peer = Some title })
keeps_title s title true = keeps_all s
keeps_title s title false = record {
  keys = record { kind = refl; own = refl; encryption = refl; authentication = refl; policy = refl };
  state = λ i. record { title = i.title; below = i.below; fits = i.fits };
  low = λ i. omega arith;
}

keeps_learn : (s : SecurityState) (known : Option (List ℕ)) (title : List ℕ) → Keeps s (after_learn s known title)
keeps_learn s None title = keeps_title s title (bytes_eq title s.own)
keeps_learn s (Some known) title = keeps_all s

keeps_stop : (s : SecurityState) (stored : StoredState) → s.reserved ≤ stored.reserved → stored.reserved < 2 ^ 32 → Keeps s (after_stop s stored)
keeps_stop s stored l fits = record {
  keys = record { kind = refl; own = refl; encryption = refl; authentication = refl; policy = refl };
  state = λ i. record { title = i.title; below = omega arith; fits = fits };
  low = λ i. (let below : s.next ≤ s.reserved = i.below in omega arith);
}

keeps : (s t : SecurityState) (e : Event) → IsStep s e t → Keeps s t
keeps s t (Protects form apdu result) step = subst (λ (x : SecurityState). Keeps s x) (sym step.1) (keeps_protect s form apdu (message_for s form apdu) refl)
keeps s t (Unprotects message result) step = subst (λ (x : SecurityState). Keeps s x) (sym step.1) (keeps_unprotect s (acceptance s message))
keeps s t (Reserves upto) step = subst (λ (x : SecurityState). Keeps s x) (sym step.1) (keeps_reserve s upto step.0 (nat_lt s.reserved upto) refl)
keeps s t (Learns title) step = subst (λ (x : SecurityState). Keeps s x) (sym step) (keeps_learn s s.peer title)
keeps s t (Answers challenge result) step = subst (λ (x : SecurityState). Keeps s x) (sym step.1) (keeps_answer s challenge (answer_for s challenge) refl)
keeps s t (Stops stored) step = subst (λ (x : SecurityState). Keeps s x) (sym step.2) (keeps_stop s stored step.0 step.1)

-- a message protected under one state is protected under every state with the same keys
moved : (base s : SecurityState) (title : List ℕ) (counter : ℕ) (x : Exchange) → SameKeys base s → IsProtected s title counter x → IsProtected base title counter x
moved base s title counter x same p = record {
  head = p.head;
  body = p.body;
  read = p.read;
  control = p.control ∙ ap control_of same.policy;
  counted = p.counted;
  named = p.named;
  service = ap (λ (k : KeyKind). is_of k p.head.tag x.apdu) (sym same.kind) ∙ p.service;
  exact =
      p.exact
      ∙ ap (λ (q : Policy). body_of q (record { encryption = s.encryption; authentication = s.authentication; title = title; counter = counter }) x.apdu) same.policy
      ∙ ap (λ (q : List ℕ). body_of base.policy (record { encryption = q; authentication = s.authentication; title = title; counter = counter }) x.apdu) same.encryption
      ∙ ap (λ (q : List ℕ). body_of base.policy (record { encryption = base.encryption; authentication = q; title = title; counter = counter }) x.apdu) same.authentication;
}

-- the counter in a protected message
counter_is : (s : SecurityState) (title : List ℕ) (counter : ℕ) (x : Exchange) → IsProtected s title counter x → counter_in x ≡ counter
counter_is s title counter x p = ap counter_of p.read ∙ p.counted

-- ---- messages and answers that go out

answer_counter_is : (encryption authentication title : List ℕ) (counter : ℕ) (challenge : List ℕ) → counter < 2 ^ 32
    → answer_counter (answer_of encryption authentication title counter challenge) ≡ counter
answer_counter_is encryption authentication title counter challenge fits = from_be_bytes-to_be_bytes_4 counter fits

-- the counters rise, and each message is the protected form of its APDU under the same keys
record GoOut (base s : SecurityState) (out : List Exchange) (counters : List ℕ) : Type 0 where
  rise : Rises s.next counters
  are : All (λ x. IsProtected base base.own (counter_in x) x) out

out_later : (base s t : SecurityState) (out : List Exchange) (counters : List ℕ) → s.next ≤ t.next → GoOut base t out counters → GoOut base s out counters
out_later base s t out counters l g = record { rise = lowered s.next t.next counters l g.rise; are = g.are }

-- a counter goes out, and the next one is above it
one_more : (s t : SecurityState) (n : ℕ) (counters : List ℕ) → n ≡ s.next → t.next ≡ s.next + 1 → Rises t.next counters → Rises s.next (n ∷ counters)
one_more s t n counters here next rise =
    let later : n + 1 ≤ t.next = omega arith in
    (omega arith, lowered (n + 1) t.next counters later rise)

out_more : (base s t : SecurityState) (form : Form) (apdu : List ℕ) (rest : List Exchange) (counters : List ℕ) → (result : Result (List ℕ) ProtectFault) → SameKeys base s → IsState s
    → message_for s form apdu ≡ result → t ≡ after_protect s result → GoOut base t rest counters → GoOut base s (outgoing_with apdu result rest) (used_with message_counter result counters)
out_more base s t form apdu rest counters (Ok message) same state e is g =
    let out = goes_out s form apdu message state e in
    let x : Exchange = record { message = message; apdu = apdu } in
    let counter : counter_in x ≡ s.next = counter_is s s.own s.next x out.is in
    let next : t.next ≡ s.next + 1 = ap (λ (y : SecurityState). y.next) is in
    let here : IsProtected base base.own (counter_in x) x =
    subst (λ (o : List ℕ). IsProtected base o (counter_in x) x) same.own
    (subst (λ (n : ℕ). IsProtected base s.own n x) (sym counter) (moved base s s.own s.next x same out.is)) in
    record {
      rise = one_more s t (counter_in x) counters counter next g.rise;
      are = All-cons (λ y. IsProtected base base.own (counter_in y) y) x rest here g.are;
    }
out_more base s t form apdu rest counters (Err f) same state e is g = subst (λ (y : SecurityState). GoOut base y rest counters) is g

out_answer : (base s t : SecurityState) (challenge : List ℕ) (rest : List Exchange) (counters : List ℕ) → (result : Result (List ℕ) ProtectFault) → IsState s
    → answer_for s challenge ≡ result → t ≡ after_protect s result → GoOut base t rest counters → GoOut base s rest (used_with answer_counter result counters)
out_answer base s t challenge rest counters (Ok answer) state e is g =
    let out = answer_out s challenge answer e in
    let below : s.next < s.reserved = out.1 in
    let fits : s.next < 2 ^ 32 = omega (arith, state.fits) in
    let counter : answer_counter answer ≡ s.next = sym (ap answer_counter out.0) ∙ answer_counter_is s.encryption s.authentication s.own s.next challenge fits in
    let next : t.next ≡ s.next + 1 = ap (λ (y : SecurityState). y.next) is in
    record { rise = one_more s t (answer_counter answer) counters counter next g.rise; are = g.are }
out_answer base s t challenge rest counters (Err f) state e is g = subst (λ (y : SecurityState). GoOut base y rest counters) is g

go_out : (base s t : SecurityState) (events : List Event) → SameKeys base s → IsState s → AreSteps s events t → GoOut base s (outgoing events) (used_counters events)
go_out base s t [] same state steps = record { rise = tt; are = All-nil (λ y. IsProtected base base.own (counter_in y) y) }
go_out base s t (e ∷ es) same state (next, step, more) = by_event e step (go_out base next t es (joined_keys base s next same (keeps s next e step).keys) ((keeps s next e step).state state) more)
  where
    by_event : (d : Event) → IsStep s d next → GoOut base next (outgoing es) (used_counters es) → GoOut base s (outgoing (d ∷ es)) (used_counters (d ∷ es))
    by_event (Protects form apdu result) d g =
        out_more base s next form apdu (outgoing es) (used_counters es) result same state d.0 (d.1 ∙ ap (after_protect s) d.0) g
    by_event (Unprotects message result) d g = out_later base s next (outgoing es) (used_counters es) ((keeps s next (Unprotects message result) d).low state) g
    by_event (Reserves upto) d g = out_later base s next (outgoing es) (used_counters es) ((keeps s next (Reserves upto) d).low state) g
    by_event (Learns title) d g = out_later base s next (outgoing es) (used_counters es) ((keeps s next (Learns title) d).low state) g
    by_event (Answers challenge result) d g = out_answer base s next challenge (outgoing es) (used_counters es) result state d.0 (d.1 ∙ ap (after_protect s) d.0) g
    by_event (Stops stored) d g = out_later base s next (outgoing es) (used_counters es) ((keeps s next (Stops stored) d).low state) g

pub never_twice : NeverTwice
never_twice s t events state steps = increasing s.next (used_counters events) (go_out s s t events (keeps_all s).keys state steps).rise

pub never_in_the_clear : NeverInTheClear
never_in_the_clear s t events state steps = (go_out s s t events (keeps_all s).keys state steps).are

-- ---- messages that are accepted

abbrev low_of : Option ℕ → ℕ
low_of None = 0
low_of (Some last) = last + 1

low_enough : (last : Option ℕ) (counter : ℕ) → is_above last counter ≡ true → low_of last ≤ counter
low_enough None counter e = omega arith
low_enough (Some last) counter e = grind (arith, nat_tests)

record ComeIn (base s : SecurityState) (title : List ℕ) (events : List Event) (found : List Exchange) : Type 0 where
  are : All (RestoresTitle title) events → s.peer ≡ Some title → All (λ x. IsProtected base title (counter_in x) x) found

all_first : (P : Event → Type 0) (e : Event) (es : List Event) → All P (e ∷ es) → P e
all_first P e es all = all 0 e (omega arith)

all_rest : (P : Event → Type 0) (e : Event) (es : List Event) → All P (e ∷ es) → All P es
all_rest P e es all = λ k d l. all (suc k) d (omega arith)

-- an event that is not a stop and accepts nothing
record Stays (s t : SecurityState) : Type 0 where
  accepted : t.accepted ≡ s.accepted
  peer : (title : List ℕ) → s.peer ≡ Some title → t.peer ≡ Some title

in_later : (base s t : SecurityState) (title : List ℕ) (e : Event) (es : List Event) (found : List Exchange) → Stays s t → ComeIn base t title es found → ComeIn base s title (e ∷ es) found
in_later base s t title e es found st g = record {
  are = λ all p. g.are (all_rest (RestoresTitle title) e es all) (st.peer title p);
}

stays_all : (s : SecurityState) → Stays s s
stays_all s = record { accepted = refl; peer = λ title p. p }

stays_protect : (s : SecurityState) (r : Result (List ℕ) ProtectFault) → Stays s (after_protect s r)
stays_protect s (Ok message) = record { accepted = refl; peer = λ title p. p }
stays_protect s (Err f) = stays_all s

stays_reserve : (s : SecurityState) (upto : ℕ) (b : Bool) → Stays s (if b then record s { reserved = upto } else s)
stays_reserve s upto true = record { accepted = refl; peer = λ title p. p }
stays_reserve s upto false = stays_all s

stays_title : (s : SecurityState) (title : List ℕ) (b : Bool) → s.peer ≡ None → Stays s (if b then s else record s { peer = Some title })
stays_title s title true e = stays_all s
stays_title s title false e = record { accepted = refl; peer = λ other p. absurd (let no : None ≡ Some other = sym e ∙ p in cc) }

stays_learn : (s : SecurityState) (known : Option (List ℕ)) (title : List ℕ) → s.peer ≡ known → Stays s (after_learn s known title)
stays_learn s None title e = stays_title s title (bytes_eq title s.own) e
stays_learn s (Some known) title e = stays_all s

in_rise : (s t : SecurityState) (message : List ℕ) (rest : List Exchange) → (r : Result AcceptedApdu UnprotectFault) → acceptance s message ≡ r → t ≡ after_unprotect s r
    → Rises (low_of t.accepted) (map counter_in rest) → Rises (low_of s.accepted) (map counter_in (incoming_with message (apdu_in r) rest))
in_rise s t message rest (Ok a) took_it is g =
    let took = accepted_is s message a took_it in
    let x : Exchange = record { message = message; apdu = a.apdu } in
    let counter : counter_in x ≡ a.counter = counter_is s took.title a.counter x took.is in
    let accepted : t.accepted ≡ Some a.counter = ap (λ (y : SecurityState). y.accepted) is in
    let above : low_of s.accepted ≤ a.counter = low_enough s.accepted a.counter took.above in
    let later : counter_in x + 1 ≤ a.counter + 1 = omega arith in
    let rises : Rises (a.counter + 1) (map counter_in rest) = subst (λ (o : Option ℕ). Rises (low_of o) (map counter_in rest)) accepted g in
    (omega arith, lowered (counter_in x + 1) (a.counter + 1) (map counter_in rest) later rises)
in_rise s t message rest (Err f) took_it is g = subst (λ (y : SecurityState). Rises (low_of y.accepted) (map counter_in rest)) is g

rise_later : (s t : SecurityState) (found : List Exchange) → Stays s t → Rises (low_of t.accepted) (map counter_in found) → Rises (low_of s.accepted) (map counter_in found)
rise_later s t found st g = subst (λ (o : Option ℕ). Rises (low_of o) (map counter_in found)) st.accepted g

low_restored : (last stored : Option ℕ) → IsRestored last stored → low_of last ≤ low_of stored
low_restored None stored l = omega arith
low_restored (Some last) None l = absurd l
low_restored (Some last) (Some stored) l = omega arith

rise_stop : (s t : SecurityState) (stored : StoredState) (found : List Exchange) → IsRestored s.accepted stored.accepted → t ≡ after_stop s stored
    → Rises (low_of t.accepted) (map counter_in found) → Rises (low_of s.accepted) (map counter_in found)
rise_stop s t stored found l is g =
    let accepted : t.accepted ≡ stored.accepted = ap (λ (y : SecurityState). y.accepted) is in
    lowered (low_of s.accepted) (low_of stored.accepted) (map counter_in found) (low_restored s.accepted stored.accepted l)
    (subst (λ (o : Option ℕ). Rises (low_of o) (map counter_in found)) accepted g)

rise_in : (s t : SecurityState) (events : List Event) → AreRestoring s events t → Rises (low_of s.accepted) (map counter_in (incoming events))
rise_in s t [] steps = tt
rise_in s t (e ∷ es) (next, step, restored, more) = by_event e step restored (rise_in next t es more)
  where
    by_event : (d : Event) → IsStep s d next → RestoresCounter s d → Rises (low_of next.accepted) (map counter_in (incoming es)) → Rises (low_of s.accepted) (map counter_in (incoming (d ∷ es)))
    by_event (Protects form apdu result) d r g = rise_later s next (incoming es) (subst (λ (y : SecurityState). Stays s y) (sym d.1) (stays_protect s (message_for s form apdu))) g
    by_event (Unprotects message result) d r g =
        subst (λ (o : Result (List ℕ) UnprotectFault). Rises (low_of s.accepted) (map counter_in (incoming_with message o (incoming es)))) d.0
        (in_rise s next message (incoming es) (acceptance s message) refl d.1 g)
    by_event (Reserves upto) d r g = rise_later s next (incoming es) (subst (λ (y : SecurityState). Stays s y) (sym d.1) (stays_reserve s upto (nat_lt s.reserved upto))) g
    by_event (Learns other) d r g = rise_later s next (incoming es) (subst (λ (y : SecurityState). Stays s y) (sym d) (stays_learn s s.peer other refl)) g
    by_event (Answers challenge result) d r g = rise_later s next (incoming es) (subst (λ (y : SecurityState). Stays s y) (sym d.1) (stays_protect s (answer_for s challenge))) g
    by_event (Stops stored) d r g = rise_stop s next stored (incoming es) r d.2 g

in_more : (base s t : SecurityState) (title message : List ℕ) (e : Event) (es : List Event) (rest : List Exchange) → (r : Result AcceptedApdu UnprotectFault) → SameKeys base s
    → acceptance s message ≡ r → t ≡ after_unprotect s r → ComeIn base t title es rest → ComeIn base s title (e ∷ es) (incoming_with message (apdu_in r) rest)
in_more base s t title message e es rest (Ok a) same took_it is g =
    let took = accepted_is s message a took_it in
    let x : Exchange = record { message = message; apdu = a.apdu } in
    let counter : counter_in x ≡ a.counter = counter_is s took.title a.counter x took.is in
    let peer : t.peer ≡ s.peer = ap (λ (y : SecurityState). y.peer) is in
    record {
      are = λ all p.
          (let same_title : took.title ≡ title = (let both : Some took.title ≡ Some title = sym took.peer ∙ p in cc) in
          let here : IsProtected base title (counter_in x) x =
          subst (λ (o : List ℕ). IsProtected base o (counter_in x) x) same_title
          (subst (λ (n : ℕ). IsProtected base took.title n x) (sym counter) (moved base s took.title a.counter x same took.is)) in
          All-cons (λ y. IsProtected base title (counter_in y) y) x rest here (g.are (all_rest (RestoresTitle title) e es all) (peer ∙ p)));
    }
in_more base s t title message e es rest (Err f) same took_it is g =
    in_later base s t title e es rest (subst (λ (y : SecurityState). Stays s y) (sym is) (stays_all s)) g

in_stop : (base s t : SecurityState) (title : List ℕ) (stored : StoredState) (es : List Event) (found : List Exchange) → t ≡ after_stop s stored
    → ComeIn base t title es found → ComeIn base s title (Stops stored ∷ es) found
in_stop base s t title stored es found is g =
    let peer : t.peer ≡ stored.peer = ap (λ (y : SecurityState). y.peer) is in
    record { are = λ all p. g.are (all_rest (RestoresTitle title) (Stops stored) es all) (peer ∙ all_first (RestoresTitle title) (Stops stored) es all) }

come_in : (base s t : SecurityState) (title : List ℕ) (events : List Event) → SameKeys base s → AreSteps s events t → ComeIn base s title events (incoming events)
come_in base s t title [] same steps = record { are = λ all p. All-nil (λ y. IsProtected base title (counter_in y) y) }
come_in base s t title (e ∷ es) same (next, step, more) =
    by_event e step (come_in base next t title es (joined_keys base s next same (keeps s next e step).keys) more)
  where
    by_event : (d : Event) → IsStep s d next → ComeIn base next title es (incoming es) → ComeIn base s title (d ∷ es) (incoming (d ∷ es))
    by_event (Protects form apdu result) d g =
        in_later base s next title (Protects form apdu result) es (incoming es) (subst (λ (y : SecurityState). Stays s y) (sym d.1) (stays_protect s (message_for s form apdu))) g
    by_event (Unprotects message result) d g =
        subst (λ (r : Result (List ℕ) UnprotectFault). ComeIn base s title (Unprotects message result ∷ es) (incoming_with message r (incoming es))) d.0
        (in_more base s next title message (Unprotects message result) es (incoming es) (acceptance s message) same refl d.1 g)
    by_event (Reserves upto) d g =
        in_later base s next title (Reserves upto) es (incoming es) (subst (λ (y : SecurityState). Stays s y) (sym d.1) (stays_reserve s upto (nat_lt s.reserved upto))) g
    by_event (Learns other) d g =
        in_later base s next title (Learns other) es (incoming es) (subst (λ (y : SecurityState). Stays s y) (sym d) (stays_learn s s.peer other refl)) g
    by_event (Answers challenge result) d g =
        in_later base s next title (Answers challenge result) es (incoming es) (subst (λ (y : SecurityState). Stays s y) (sym d.1) (stays_protect s (answer_for s challenge))) g
    by_event (Stops stored) d g = in_stop base s next title stored es (incoming es) d.2 g

pub fresh : Fresh
fresh s t events steps = increasing (low_of s.accepted) (map counter_in (incoming events)) (rise_in s t events steps)

pub authentic : Authentic
authentic s t title events peer all steps = (come_in s s t title events (keeps_all s).keys steps).are all peer
