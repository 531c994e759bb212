-- The turns of a guard: their calls of the security layer are a run of it; what goes out was protected, and what is handed up was
-- accepted, or carries no data.
use Rattle.std.proofs.Common.{◌≡◌, ◌∙◌, refl, sym, ap, subst, arith, append-nil, ℕ, ◌+◌, ◌≤◌, Bool, true, false, cond, List, [], ◌∷◌, ◌++◌, length, Option, Some}
use Rattle.std.proofs.Common.{None}
use Rattle.std.specs.Prelude.{All}
use Rattle.std.proofs.lemmas.List.Elements.{All-nil}
use Rattle.std.proofs.Common.{Result, Ok, Err, inl, inr}
use Rattle.dlms_acse.specs.Reading.{aarq_at}
use Rattle.dlms_acse.specs.Writing.{release_response}
use Rattle.dlms_security.specs.declared.form.Form.TheVariants.{Service}
use Rattle.dlms_security.specs.Run.{Event as SecurityCall, Exchange, outgoing, incoming}
use Rattle.dlms_security.specs.Security.{SecurityState, IsAnswerOf}
use Rattle.dlms_secured.specs.Guard.{GuardValue, Turn, Taken, Hands, Sends, fails, turn, initiate_in, gives_initiate, gives_closed, gives_open}
use Rattle.dlms_secured.specs.Guard.{gives_in, gives, hands, instead, at_most, answers_by, takes_response, takes_opening, takes_release, takes_message}
use Rattle.dlms_secured.specs.Guard.{idle, sends, opened_by}
use Rattle.dlms_secured.specs.Guard.{takes_open, takes_reply, TakesIn, stage_after}
use Rattle.dlms_secured.specs.declared.reply.Reply.{Reply}
use Rattle.dlms_secured.specs.Made.{Made, Both, under, through, taught, taught_by, sends_answer, asks, leaves, protects, accepts, releases, unprotects}
use Rattle.dlms_secured.specs.Made.{Confirms, IsProof}
use Rattle.dlms_secured.specs.Messages.{plain_aare, begins, reply_to_hls}
use Rattle.dlms_secured.specs.Response.{is_refusal, proof_in}
use Rattle.dlms_secured.specs.Run.{Call, exchange, TheGiven, TheAnswer, TheRequest, TheRelease, GoesOut, given_to, HandsUp}
use Rattle.dlms_secured.specs.Run.{IsNoStop, IsLayer, AreQuiet, IsQuiet, IsTitled, Learned, AsBefore, ByResponse, requests, unused, awaited, answered_in}
use Rattle.dlms_secured.specs.declared.fault.SecuredFault.{SecuredFault}
use Rattle.dlms_secured.specs.declared.fault.SecuredFault.TheVariants as fault
use Rattle.dlms_secured.specs.declared.messages.TheConstants.{MOST_CARRIED}
use Rattle.dlms_secured.specs.declared.stage.Granted.{Granted}
use Rattle.dlms_secured.specs.declared.stage.Stage.{Stage}
use Rattle.dlms_secured.specs.declared.stage.Stage.TheVariants.{Closed, Opening, Proving, Open, Failed}
use Rattle.dlms_secured.proofs.LayerLemmas.{idle_layer, same_titled, Layered, under_layered, through_layered, through_one, through_test}
use Rattle.dlms_secured.proofs.LayerLemmas.{taught_layer, taught_still, taught_titled}
use Rattle.dlms_secured.proofs.MadeLemmas.{Led, led_none, led_append, outgoing_append, quiet_accepts, sound_asks, sound_leaves, sound_protects, sound_unprotects, sound_accepts}
use Rattle.dlms_secured.proofs.MadeLemmas.{sound_releases, asks_out, leaves_out, protects_out, protects_other, unprotects_in}
use Rattle.dlms_secured.proofs.TitleLemmas.{asks_peer, leaves_peer, protects_peer, unprotects_peer, releases_peer, accepts_title, accepts_known}

-- ---- an APDU is given

-- no message or one
abbrev pub sent : Result (List ℕ) SecuredFault → List (List ℕ)
sent (Ok message) = message ∷ []
sent (Err why) = []

pub least : (n : ℕ) → 0 ≤ n
least n = omega arith

pub same_sum : (n : ℕ) → 0 + n ≤ n
same_sum n = omega arith

pub one_request : (message : List ℕ) → begins 0x60 message ≡ true → requests (message ∷ []) ≡ 1
one_request message e = ap (λ (b : Bool). length (cond {A = List (List ℕ)} b (message ∷ []) [])) e

pub no_request : (message : List ℕ) → begins 0x60 message ≡ false → requests (message ∷ []) ≡ 0
no_request message e = ap (λ (b : Bool). length (cond {A = List (List ℕ)} b (message ∷ []) [])) e

pub none_quiet : (stage : Stage) → IsQuiet stage []
none_quiet Closed = (refl, refl)
none_quiet Opening = (refl, refl)
none_quiet (Proving granted) = (refl, refl)
none_quiet Open = tt
none_quiet (Failed why) = (refl, refl)

-- the calls of the layer of the dedicated key in this stage are a run of it, and it knows no other title
pub record Session (stage : Stage) (g : GuardValue) (calls : List SecurityCall) (h : GuardValue) : Type 0 where
  pub layer : IsLayer g.dedicated calls h.dedicated
  pub still : All IsNoStop calls
  pub quiet : IsQuiet stage calls
  pub titled : IsTitled g.dedicated g.security.peer → IsTitled h.dedicated h.security.peer

pub idle_session : (stage : Stage) (g h : GuardValue) → h.dedicated ≡ g.dedicated → h.security.peer ≡ g.security.peer → Session stage g [] h
idle_session stage g h e peer = record {
  layer = subst (λ (d : Option SecurityState). IsLayer g.dedicated [] d) (sym e) (idle_layer g.dedicated);
  still = All-nil IsNoStop;
  quiet = none_quiet stage;
  titled = λ is. subst (λ (d : Option SecurityState). IsTitled d h.security.peer) (sym e) (same_titled g.dedicated g.security.peer h.security.peer peer is);
}

layered_session : {A : Type 0} (stage : Stage) (g h : GuardValue) (m : Both A) → h.dedicated ≡ m.dedicated → h.security.peer ≡ m.security.peer
    → Layered g.security g.dedicated m → IsQuiet stage m.session → Session stage g m.session h
layered_session stage g h m e peer k quiet = record {
  layer = subst (λ (d : Option SecurityState). IsLayer g.dedicated m.session d) (sym e) k.layer;
  still = k.still;
  quiet = quiet;
  titled = λ is. subst (λ (d : Option SecurityState). IsTitled d h.security.peer) (sym e)
      (same_titled m.dedicated g.security.peer h.security.peer (peer ∙ k.peer) (k.titled g.security.peer is));
}

-- The turn's calls are a run, and its message was protected; an association request uses the challenge.
pub record Giving (call : Call) (stage : Stage) (g : GuardValue) (t : Turn (List ℕ)) : Type 0 where
  pub steps : Led g.security t.calls t.guard.security
  pub session : Session stage g t.session t.guard
  pub same : t.guard.challenge ≡ g.challenge
  pub title : t.guard.security.peer ≡ g.security.peer
  pub out : (message : List ℕ) → t.result ≡ Ok message → GoesOut g call (t.calls ++ t.session) message
  pub asked : requests (sent t.result) + unused t.guard ≤ unused g
  pub waits : awaited t.guard.stage ≤ awaited g.stage + requests (sent t.result)

fails_giving : (call : Call) (stage : Stage) (g : GuardValue) (why : SecuredFault) → Giving call stage g (fails g why)
fails_giving call stage g why = record {
  steps = led_none g.security;
  session = idle_session stage g (fails {A = List ℕ} g why).guard refl refl;
  same = refl;
  title = refl;
  out = λ message e. absurd (cc);
  asked = same_sum (unused g);
  waits = least (awaited g.stage + requests []);
}

-- a message that is no association request
none_asked : (n : ℕ) (r : Result (List ℕ) SecuredFault) → ((message : List ℕ) → r ≡ Ok message → begins 0x60 message ≡ false) → requests (sent r) + n ≤ n
none_asked n (Ok message) other =
    let none : requests (message ∷ []) ≡ 0 = no_request message (other message refl) in
    subst (λ (k : ℕ). k + n ≤ n) (sym none) (same_sum n)
none_asked n (Err why) other = same_sum n

open_waits : (n : ℕ) (r : Result (List ℕ) SecuredFault) → awaited (stage_after Open r) ≤ n + requests (sent r)
open_waits n (Ok message) = least (n + requests (message ∷ []))
open_waits n (Err why) = least (n + requests [])

initiate_giving : (call : Call) (g : GuardValue) (apdu : List ℕ) → given_to call ≡ Some apdu → g.unused ≡ true → (initiate : Option (List ℕ))
    → initiate_in g.key g.form (aarq_at apdu) ≡ initiate → Giving call Closed g (gives_initiate g initiate)
initiate_giving call g apdu of free None is = fails_giving call Closed g fault.Request
initiate_giving call g apdu of free (Some initiate) is =
    let m : Made (List ℕ) = asks g.security Service g.challenge initiate in
    record {
      steps = sound_asks g.security Service g.challenge initiate;
      session = idle_session Closed g (gives_initiate g (Some initiate)).guard refl (asks_peer g.security Service g.challenge initiate);
      same = refl;
      title = asks_peer g.security Service g.challenge initiate;
      out = λ message e.
          let out = asks_out g.security Service g.challenge initiate message e in
          record { exchange = exchange out.0 initiate; alone = ap outgoing (append-nil m.calls) ∙ out.1; covers = TheRequest apdu out.2 of is };
      asked = asked m.result refl;
      waits = waits m.result refl;
    }
  where
    request : (message : List ℕ) → (asks g.security Service g.challenge initiate).result ≡ Ok message → requests (message ∷ []) ≡ 1
    request message e =
        let out = asks_out g.security Service g.challenge initiate message e in
        one_request message (ap (begins 0x60) out.2)

    asked : (r : Result (List ℕ) SecuredFault) → (asks g.security Service g.challenge initiate).result ≡ r → requests (sent r) + 0 ≤ unused g
    asked (Ok message) e =
        let one : requests (message ∷ []) ≡ 1 = request message e in
        let left : unused g ≡ 1 = ap (λ (b : Bool). cond {A = ℕ} b 1 0) free in
        subst (λ (k : ℕ). k + 0 ≤ unused g) (sym one) (subst (λ (k : ℕ). 1 + 0 ≤ k) (sym left) (omega arith))
    asked (Err why) e = least (unused g)

    waits : (r : Result (List ℕ) SecuredFault) → (asks g.security Service g.challenge initiate).result ≡ r
        → awaited (stage_after Opening r) ≤ awaited g.stage + requests (sent r)
    waits (Ok message) e = subst (λ (k : ℕ). 1 ≤ awaited g.stage + k) (sym (request message e)) (above (awaited g.stage))
      where
        above : (n : ℕ) → 1 ≤ n + 1
        above n = omega arith
    waits (Err why) e = least (awaited g.stage + requests [])

closed_giving : (call : Call) (g : GuardValue) (apdu : List ℕ) → given_to call ≡ Some apdu → Giving call Closed g (gives_closed g apdu)
unfolding gives_closed
closed_giving call g apdu of = by_test g.unused refl
  where
    by_test : (b : Bool) → g.unused ≡ b → Giving call Closed g (cond b (gives_initiate g (initiate_in g.key g.form (aarq_at apdu))) (fails g fault.Challenge))
    by_test true free = initiate_giving call g apdu of free (initiate_in g.key g.form (aarq_at apdu)) refl
    by_test false free = fails_giving call Closed g fault.Challenge

open_giving : (call : Call) (g : GuardValue) (apdu : List ℕ) → given_to call ≡ Some apdu → Giving call Open g (gives_open g apdu)
unfolding gives_open
open_giving call g apdu of = by_test (begins 0x62 apdu)
  where
    make : SecurityState → Made (List ℕ)
    make t = protects t g.form MOST_CARRIED apdu

    layered : Layered g.security g.dedicated (through g.security g.dedicated make)
    layered = through_layered g.security g.dedicated make (λ t. sound_protects t g.form MOST_CARRIED apdu) (λ t. protects_peer t g.form MOST_CARRIED apdu)

    by_test : (b : Bool) → Giving call Open g (cond b (turn g Open (under g.dedicated (leaves g.security Service g.initiate)))
        (turn g Open (through g.security g.dedicated make)))
    by_test true =
        let m : Made (List ℕ) = leaves g.security Service g.initiate in
        record {
          steps = sound_leaves g.security Service g.initiate;
          session = idle_session Open g (turn g Open (under g.dedicated m)).guard refl (leaves_peer g.security Service g.initiate);
          same = refl;
          title = leaves_peer g.security Service g.initiate;
          out = λ message e.
              let out = leaves_out g.security Service g.initiate message e in
              record { exchange = exchange out.0 g.initiate; alone = ap outgoing (append-nil m.calls) ∙ out.1; covers = TheRelease out.2 };
          asked = none_asked (unused g) m.result (λ message e. ap (begins 0x60) (leaves_out g.security Service g.initiate message e).2);
          waits = open_waits (awaited g.stage) m.result;
        }
    by_test false =
        let m : Both (List ℕ) = through g.security g.dedicated make in
        record {
          steps = layered.steps;
          session = layered_session Open g (turn g Open m).guard m refl refl layered tt;
          same = refl;
          title = layered.peer;
          out = λ message e. record {
            exchange = exchange message apdu;
            alone = through_one g.security g.dedicated make (Ok message) (λ (calls : List SecurityCall). outgoing calls ≡ exchange message apdu ∷ [])
                (λ t is. protects_out t g.form MOST_CARRIED apdu message is) e;
            covers = TheGiven refl of;
          };
          asked = none_asked (unused g) m.result (λ message e. through_test g.security g.dedicated make (Ok message) (begins 0x60 message ≡ false)
              (λ t is. protects_other t g.form MOST_CARRIED apdu message is) e);
          waits = open_waits (awaited g.stage) m.result;
        }

in_giving : (call : Call) (stage : Stage) (g : GuardValue) (apdu : List ℕ) → given_to call ≡ Some apdu → Giving call stage g (gives_in stage g apdu)
in_giving call Closed g apdu of = closed_giving call g apdu of
in_giving call Opening g apdu of = fails_giving call Opening g fault.Order
in_giving call (Proving granted) g apdu of = fails_giving call (Proving granted) g fault.Order
in_giving call Open g apdu of = open_giving call g apdu of
in_giving call (Failed why) g apdu of = fails_giving call (Failed why) g why

pub gives_giving : (call : Call) (g : GuardValue) (apdu : List ℕ) → given_to call ≡ Some apdu → Giving call g.stage g (gives g apdu)
gives_giving call g apdu of = in_giving call g.stage g apdu of

-- ---- an APDU arrives

-- what is handed up, or goes out, ends or keeps the wait for the meter's answer
abbrev pub Waits : Stage → Result Taken SecuredFault → Stage → Type 0
Waits stage (Ok Hands) next = (apdu : List ℕ) → answered_in stage (Some apdu) + awaited next ≤ awaited stage
Waits stage (Ok (Sends message)) next = (begins 0x60 message ≡ false) × (awaited next ≤ awaited stage)
Waits stage (Err why) next = awaited next ≤ awaited stage

-- some calls are a run, and what is handed up or goes out is of them
pub record Taking (stage : Stage) (g : GuardValue) (apdu : List ℕ) (taken : Result Taken SecuredFault) (h : GuardValue) : Type 0 where
  pub made : List SecurityCall
  pub calls : List SecurityCall
  pub steps : Led g.security made h.security
  pub session : Session stage g calls h
  pub same : h.challenge ≡ g.challenge
  pub used : h.unused ≡ g.unused
  pub title : Learned g.security.own g.security.peer (g.challenge ∷ []) (apdu ∷ []) h.security.peer
  pub up : taken ≡ Ok Hands → HandsUp stage g (made ++ calls) h.handed h
  pub down : (call : Call) (message : List ℕ) → taken ≡ Ok (Sends message) → GoesOut g call (made ++ calls) message
  pub waits : Waits stage taken h.stage

-- a turn
record TurnTaking (stage : Stage) (g : GuardValue) (apdu : List ℕ) (t : Turn Taken) : Type 0 where
  steps : Led g.security t.calls t.guard.security
  session : Session stage g t.session t.guard
  same : t.guard.challenge ≡ g.challenge
  used : t.guard.unused ≡ g.unused
  title : Learned g.security.own g.security.peer (g.challenge ∷ []) (apdu ∷ []) t.guard.security.peer
  up : t.result ≡ Ok Hands → HandsUp stage g (t.calls ++ t.session) t.guard.handed t.guard
  down : (call : Call) (message : List ℕ) → t.result ≡ Ok (Sends message) → GoesOut g call (t.calls ++ t.session) message
  waits : Waits stage t.result t.guard.stage

of_turn : (stage : Stage) (g : GuardValue) (apdu : List ℕ) (t : Turn Taken) (taken : Result Taken SecuredFault) (h : GuardValue) → taken ≡ t.result
    → h ≡ t.guard → TurnTaking stage g apdu t → Taking stage g apdu taken h
of_turn stage g apdu t taken h e is k = record {
  made = t.calls;
  calls = t.session;
  steps = subst (λ (v : GuardValue). Led g.security t.calls v.security) (sym is) k.steps;
  session = subst (λ (v : GuardValue). Session stage g t.session v) (sym is) k.session;
  same = ap (λ (v : GuardValue). v.challenge) is ∙ k.same;
  used = ap (λ (v : GuardValue). v.unused) is ∙ k.used;
  title = subst (λ (v : GuardValue). Learned g.security.own g.security.peer (g.challenge ∷ []) (apdu ∷ []) v.security.peer) (sym is) k.title;
  up = λ hands. subst (λ (v : GuardValue). HandsUp stage g (t.calls ++ t.session) v.handed v) (sym is) (k.up (sym e ∙ hands));
  down = λ call message sends. k.down call message (sym e ∙ sends);
  waits = subst (λ (v : GuardValue). Waits stage taken v.stage) (sym is) (subst (λ (r : Result Taken SecuredFault). Waits stage r t.guard.stage) (sym e) k.waits);
}

fails_taking : (stage : Stage) (g : GuardValue) (apdu : List ℕ) (why : SecuredFault) → TurnTaking stage g apdu (fails g why)
fails_taking stage g apdu why = record {
  steps = led_none g.security;
  session = idle_session stage g (fails {A = Taken} g why).guard refl refl;
  same = refl;
  used = refl;
  title = AsBefore refl;
  up = λ e. absurd (cc);
  down = λ call message e. absurd (cc);
  waits = least (awaited stage);
}

-- an APDU is handed up after these calls
hands_taking : {A : Type 0} (stage next : Stage) (g : GuardValue) (came : List ℕ) (m : Both A) (r : Result (List ℕ) SecuredFault)
    → Layered g.security g.dedicated m → IsQuiet stage m.session → ((apdu : List ℕ) → answered_in stage (Some apdu) + awaited next ≤ awaited stage)
    → ((apdu : List ℕ) → r ≡ Ok apdu
    → HandsUp stage g (m.calls ++ m.session) apdu (record g { security = m.security; dedicated = m.dedicated; stage = next; handed = apdu }))
    → TurnTaking stage g came (hands g m next r)
hands_taking stage next g came m (Ok apdu) k quiet waits up = record {
  steps = k.steps;
  session = layered_session stage g (hands g m next (Ok apdu)).guard m refl refl k quiet;
  same = refl;
  used = refl;
  title = AsBefore k.peer;
  up = λ e. up apdu refl;
  down = λ call message e. absurd (let clash = e in cc);
  waits = waits;
}
hands_taking stage next g came m (Err why) k quiet waits up = record {
  steps = k.steps;
  session = layered_session stage g (hands g m next (Err why)).guard m refl refl k quiet;
  same = refl;
  used = refl;
  title = AsBefore k.peer;
  up = λ e. absurd (cc);
  down = λ call message e. absurd (cc);
  waits = least (awaited stage);
}

at_most_same : (most : ℕ) (apdu other : List ℕ) → at_most most apdu ≡ Ok other → other ≡ apdu
at_most_same most apdu other e = by_test _ e
  where
    by_test : (b : Bool) → cond {A = Result (List ℕ) SecuredFault} b (Err fault.Size) (Ok apdu) ≡ Ok other → other ≡ apdu
    by_test true e = absurd cc
    by_test false e = cc

-- the answer goes out after the calls that accepted the response
answer_taking : (g : GuardValue) (apdu : List ℕ) (reply : Reply) → (accepts g.security g.challenge apdu).result ≡ Ok reply
    → TurnTaking Opening g apdu (answers_by g (accepts g.security g.challenge apdu).security (accepts g.security g.challenge apdu).calls (Ok reply))
answer_taking g apdu reply is = record {
  steps = led_append m.calls b.calls g.security m.security b.security (sound_accepts g.security g.challenge apdu)
      (sound_protects m.security g.form MOST_CARRIED (reply_to_hls reply.answer));
  session = record {
    layer = taught_layer reply.title g.dedicated;
    still = taught_still reply.title g.dedicated;
    quiet = quiet_taught g.dedicated;
    titled = λ before. same_titled (taught reply.title g.dedicated) m.security.peer b.security.peer peer
        (taught_titled reply.title g.dedicated m.security.peer (still_titled g.dedicated before (accepts_title g.security g.challenge apdu))
        (accepts_known g.security g.challenge apdu reply is));
  };
  same = refl;
  used = refl;
  title = subst (λ (o : Option (List ℕ)). Learned g.security.own g.security.peer (g.challenge ∷ []) (apdu ∷ []) o) (sym peer)
      (accepts_title g.security g.challenge apdu);
  up = λ e. absurd (no_hands b.result e);
  down = λ call message e. record {
    exchange = exchange message (reply_to_hls reply.answer);
    alone = alone message (sent_by b.result message e);
    covers = TheAnswer reply.answer refl refl;
  };
  waits = waits b.result refl;
}
  where
    m : Made Reply
    m = accepts g.security g.challenge apdu

    b : Made (List ℕ)
    b = sends_answer m.security g.form reply.answer

    peer : b.security.peer ≡ m.security.peer
    peer = protects_peer m.security g.form MOST_CARRIED (reply_to_hls reply.answer)

    -- a title that was known stays
    still_titled : (d : Option SecurityState) → IsTitled d g.security.peer
        → Learned g.security.own g.security.peer (g.challenge ∷ []) (apdu ∷ []) m.security.peer → IsTitled d m.security.peer
    still_titled d before (AsBefore e) = same_titled d g.security.peer m.security.peer e before
    still_titled None before (ByResponse title challenge response none e among here names) = tt
    still_titled (Some d) before (ByResponse title challenge response none e among here names) =
        λ other same. absurd (let clash = sym none ∙ before other same in cc)

    no_hands : (r : Result (List ℕ) SecuredFault) → sends r ≡ Ok Hands → ⊥
    no_hands (Ok message) e = let clash = e in cc
    no_hands (Err why) e = cc

    sent_by : (r : Result (List ℕ) SecuredFault) (message : List ℕ) → sends r ≡ Ok (Sends message) → r ≡ Ok message
    sent_by (Ok other) message e = let same : other ≡ message = let sent = e in cc in ap (λ (l : List ℕ). Ok l) same
    sent_by (Err why) message e = absurd cc

    quiet_taught : (d : Option SecurityState) → AreQuiet (taught_by reply.title d)
    quiet_taught None = (refl, refl)
    quiet_taught (Some d) = (refl, refl)

    alone : (message : List ℕ) → b.result ≡ Ok message
        → outgoing ((m.calls ++ b.calls) ++ taught_by reply.title g.dedicated) ≡ exchange message (reply_to_hls reply.answer) ∷ []
    alone message e =
        outgoing_append (m.calls ++ b.calls) (taught_by reply.title g.dedicated)
        ∙ ap (λ (l : List Exchange). outgoing (m.calls ++ b.calls) ++ l) (quiet_taught g.dedicated).0
        ∙ append-nil (outgoing (m.calls ++ b.calls))
        ∙ outgoing_append m.calls b.calls
        ∙ ap (λ (l : List Exchange). l ++ outgoing b.calls) (quiet_accepts g.security g.challenge apdu)
        ∙ protects_out m.security g.form MOST_CARRIED (reply_to_hls reply.answer) message e

    waits : (r : Result (List ℕ) SecuredFault) → b.result ≡ r → Waits Opening (sends r) (stage_after (Proving reply.granted) r)
    waits (Ok message) e = (protects_other m.security g.form MOST_CARRIED (reply_to_hls reply.answer) message e, omega arith)
    waits (Err why) e = least 1

response_taking : (g : GuardValue) (apdu : List ℕ) → TurnTaking Opening g apdu (takes_response g apdu)
unfolding takes_response
response_taking g apdu = by_result (accepts g.security g.challenge apdu).result refl
  where
    by_result : (r : Result Reply SecuredFault) → (accepts g.security g.challenge apdu).result ≡ r
        → TurnTaking Opening g apdu (answers_by g (accepts g.security g.challenge apdu).security (accepts g.security g.challenge apdu).calls r)
    by_result (Ok reply) is = answer_taking g apdu reply is
    by_result (Err why) is = record {
      steps = sound_accepts g.security g.challenge apdu;
      session = record {
        layer = idle_layer g.dedicated;
        still = All-nil IsNoStop;
        quiet = (refl, refl);
        titled = λ before. still_titled g.dedicated before (accepts_title g.security g.challenge apdu);
      };
      same = refl;
      used = refl;
      title = accepts_title g.security g.challenge apdu;
      up = λ e. absurd (cc);
      down = λ call message e. absurd (cc);
      waits = least 1;
    }
      where
        still_titled : (d : Option SecurityState) → IsTitled d g.security.peer
            → Learned g.security.own g.security.peer (g.challenge ∷ []) (apdu ∷ []) (accepts g.security g.challenge apdu).security.peer
            → IsTitled d (accepts g.security g.challenge apdu).security.peer
        still_titled d before (AsBefore e) = same_titled d g.security.peer (accepts g.security g.challenge apdu).security.peer e before
        still_titled None before (ByResponse title challenge response none e among here names) = tt
        still_titled (Some d) before (ByResponse title challenge response none e among here names) =
            λ other same. absurd (let clash = sym none ∙ before other same in cc)

opening_taking : (g : GuardValue) (apdu : List ℕ) → TurnTaking Opening g apdu (takes_opening g apdu)
unfolding takes_opening
opening_taking g apdu = by_test (is_refusal apdu) refl
  where
    idles : Layered g.security g.dedicated (idle g)
    idles = record {
      steps = led_none g.security;
      layer = idle_layer g.dedicated;
      still = All-nil IsNoStop;
      peer = refl;
      titled = λ known h. h;
    }

    by_test : (b : Bool) → is_refusal apdu ≡ b → TurnTaking Opening g apdu
        (cond b (hands g (idle g) Closed (at_most MOST_CARRIED apdu)) (takes_response g apdu))
    by_test true is = hands_taking Opening Closed g apdu (idle g) (at_most MOST_CARRIED apdu) idles (refl, refl) (λ other. omega arith)
        (λ other e. (ap is_refusal (at_most_same MOST_CARRIED apdu other e) ∙ is, refl))
    by_test false is = response_taking g apdu

instead_same : {A : Type 0} (y other : List ℕ) (r : Result A SecuredFault) → instead y r ≡ Ok other → (x : A) × (r ≡ Ok x) × (other ≡ y)
instead_same y other (Ok x) e = (x, refl, cc)
instead_same y other (Err why) e = absurd cc

release_taking : (g : GuardValue) (apdu : List ℕ) → TurnTaking Open g apdu (takes_release g apdu)
unfolding takes_release
release_taking g apdu =
    let m : Made (Unit {0}) = releases g.security apdu in
    hands_taking Open Closed g apdu (under g.dedicated m) (instead release_response m.result)
    (under_layered g.security g.dedicated m (sound_releases g.security apdu) (releases_peer g.security apdu)) tt (λ other. omega arith)
    (λ other e. inr ((instead_same release_response other m.result e).2, refl))

opened_layered : (g : GuardValue) (apdu : List ℕ) → Layered g.security g.dedicated (opened_by g apdu)
opened_layered g apdu = through_layered g.security g.dedicated (λ (t : SecurityState). unprotects t apdu) (λ t. sound_unprotects t apdu)
    (λ t. unprotects_peer t apdu)

-- the one message that was accepted
opened_alone : (g : GuardValue) (apdu opened : List ℕ) → (opened_by g apdu).result ≡ Ok opened
    → incoming ((opened_by g apdu).calls ++ (opened_by g apdu).session) ≡ exchange apdu opened ∷ []
opened_alone g apdu opened e = through_one g.security g.dedicated (λ (t : SecurityState). unprotects t apdu) (Ok opened)
    (λ (calls : List SecurityCall). incoming calls ≡ exchange apdu opened ∷ []) (λ t is. unprotects_in t apdu opened is) e

message_taking : (g : GuardValue) (apdu : List ℕ) → TurnTaking Open g apdu (takes_message g apdu)
unfolding takes_message
message_taking g apdu = hands_taking Open Open g apdu (opened_by g apdu) (opened_by g apdu).result (opened_layered g apdu) tt (λ other. omega arith)
    (λ other e. inl (record { message = apdu; alone = opened_alone g apdu other e }))

open_taking : (g : GuardValue) (apdu : List ℕ) → TurnTaking Open g apdu (takes_open g apdu)
unfolding takes_open
open_taking g apdu = by_test (begins 0x63 apdu)
  where
    by_test : (b : Bool) → TurnTaking Open g apdu (cond b (takes_release g apdu) (takes_message g apdu))
    by_test true = release_taking g apdu
    by_test false = message_taking g apdu

-- the meter's proof
is_right : (s : SecurityState) (own : List ℕ) (answer : Option (List ℕ)) → IsProof s own answer → (octets : List ℕ) × (answer ≡ Some octets)
    × IsAnswerOf s s.peer own octets
is_right s own None h = absurd h
is_right s own (Some octets) h = (octets, refl, h)

confirmed : (s : SecurityState) (own : List ℕ) (r : Result (List ℕ) SecuredFault) (proved : Result (Unit {0}) SecuredFault) (done : Unit {0})
    → Confirms s own r proved → proved ≡ Ok done
    → (reply answer : List ℕ) × (r ≡ Ok reply) × (proof_in reply ≡ Some answer) × IsAnswerOf s s.peer own answer
confirmed s own (Ok reply) (Ok u) done h e = let right = is_right s own (proof_in reply) h in (reply, right.0, refl, right.1, right.2)
confirmed s own (Ok reply) (Err why) done h e = absurd cc
confirmed s own (Err why) proved done h e = let clash = h in absurd cc

reply_taking : (g : GuardValue) (granted : Granted) (apdu : List ℕ) (proved : Result (Unit {0}) SecuredFault)
    → Confirms (unprotects g.security apdu).security g.challenge (unprotects g.security apdu).result proved
    → TurnTaking (Proving granted) g apdu (takes_reply g granted apdu proved)
reply_taking g granted apdu proved h =
    let m : Made (List ℕ) = unprotects g.security apdu in
    hands_taking (Proving granted) Open g apdu (under g.dedicated m) (instead (plain_aare granted) proved)
    (under_layered g.security g.dedicated m (sound_unprotects g.security apdu) (unprotects_peer g.security apdu)) (refl, refl) (λ other. omega arith)
    (λ other e.
    let done = instead_same (plain_aare granted) other proved e in
    let right = confirmed m.security g.challenge m.result proved done.0 h done.1 in
    record {
      reply = right.0;
      opened = record { message = apdu; alone = ap incoming (append-nil m.calls) ∙ unprotects_in g.security apdu right.0 right.2 };
      answer = right.1;
      proof = right.3;
      right = right.4;
      response = done.2;
      stage = refl;
    })

in_taking : (stage : Stage) (g : GuardValue) (apdu : List ℕ) (taken : Result Taken SecuredFault) (h : GuardValue) → TakesIn stage g apdu taken h
    → Taking stage g apdu taken h
in_taking Closed g apdu taken h k = of_turn Closed g apdu (fails g fault.Order) taken h k.0 k.1 (fails_taking Closed g apdu fault.Order)
in_taking Opening g apdu taken h k = of_turn Opening g apdu (takes_opening g apdu) taken h k.0 k.1 (opening_taking g apdu)
in_taking (Proving granted) g apdu taken h k = of_turn (Proving granted) g apdu (takes_reply g granted apdu k.proved) taken h k.outcome k.after
    (reply_taking g granted apdu k.proved k.confirms)
in_taking Open g apdu taken h k = of_turn Open g apdu (takes_open g apdu) taken h k.0 k.1 (open_taking g apdu)
in_taking (Failed why) g apdu taken h k = of_turn (Failed why) g apdu (fails g why) taken h k.0 k.1 (fails_taking (Failed why) g apdu why)

pub takes_taking : (g : GuardValue) (apdu : List ℕ) (taken : Result Taken SecuredFault) (h : GuardValue) → TakesIn g.stage g apdu taken h
    → Taking g.stage g apdu taken h
takes_taking g apdu taken h k = in_taking g.stage g apdu taken h k
